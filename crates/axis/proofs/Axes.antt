-- The numbers of an axis, read back from their bits; its ends and a value on it are values of one kind; the sign of its span.
-- Assumes nothing.
use mathlib.Core.Path.{◌≡◌}
use mathlib.Core.Bool.{true}
use native.Mathlib.Omega.{arith}
use lib.IntN.{ℤ}
use mir.Syntax.{w64}
use mir.Val.{SFits, to_z, of_z}
use mir.Facts.{to_z-of_z}
use borrow.Author.Tests.{not-true}
use Rattle.laws.specs.Numbers.{within, neg_part}
use Rattle.laws.proofs.Signed.{same}
use Rattle.laws.proofs.Tests.{both_true}
use Rattle.values.specs.declared.Value.{Value}
use Rattle.values.specs.Values.{is_value, earlier, Both}
use Rattle.values.proofs.Numbers.{within_true}
use Rattle.values.proofs.Differences.{no_earlier_apart}
use Rattle.values.proofs.Values.{value_is_kind}
use Rattle.axis.specs.declared.Axis.{Axis}
use Rattle.axis.specs.Axes.{axis_of, span_of}
use Rattle.axis.specs.Questions.{known, ends, in_order, value_on, equals}

pub axis_read : {k sh st eh et x : ℤ} → SFits w64 k → SFits w64 sh → SFits w64 st → SFits w64 eh → SFits w64 et → SFits w64 x →
    axis_of (to_z w64 (of_z w64 k)) (to_z w64 (of_z w64 sh)) (to_z w64 (of_z w64 st)) (to_z w64 (of_z w64 eh))
    (to_z w64 (of_z w64 et))
    (to_z w64 (of_z w64 x))
    ≡ axis_of k sh st eh et x
axis_read k sh st eh et x =
    λ i. axis_of (to_z-of_z k i) (to_z-of_z sh i) (to_z-of_z st i) (to_z-of_z eh i) (to_z-of_z et i) (to_z-of_z x i)

module _ (a : Axis) (e : ends a ≡ true) where
  -- question 3
  pub both_ends : Both a.kind a.start a.end
  unfolding ends
  both_ends = let (x, y) = both_true (is_value a.kind a.start) (is_value a.kind a.end) e in
      record { first = x; second = y }

  -- so the kind is one of the eight, which question 1 asks
  pub ends_known : known a ≡ true
  ends_known = value_is_kind a.kind a.start both_ends.first

  -- and question 8
  pub with_value : (v : Value) → value_on a v ≡ true → Both a.kind a.start v
  unfolding value_on
  with_value v f = record { first = both_ends.first; second = f }

  -- and question 4: the span is not below 0
  pub span_from_0 : in_order a ≡ true → neg_part (span_of a) ≡ 0
  unfolding in_order span_of
  span_from_0 o = no_earlier_apart a.kind a.start a.end both_ends (not-true (earlier a.end a.start) o)

-- a value equal to another, number by number
pub equal : (v w : Value) → equals v w ≡ true → v ≡ w
equal v w e =
    let (x, y) = both_true (within w.head v.head w.head) (within w.tail v.tail w.tail) e in
    let h = within_true w.head v.head w.head x in
    let t = within_true w.tail v.tail w.tail y in
    let p : v.head ≡ w.head = same v.head w.head (omega arith) in
    let q : v.tail ≡ w.tail = same v.tail w.tail (omega arith) in
    λ i. record { head = p i; tail = q i }
