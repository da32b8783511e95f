-- The text of a duration, by how far its head and its tail are from zero. Assumes nothing.
use mathlib.Core.Path.{◌≡◌, refl}
use mathlib.Core.Bool.{Bool, true, false, cond}
use mathlib.Core.List.{[], ◌∷◌, ◌++◌}
use Prim.Native.Nat.{ℕ, ◌+◌, ◌*◌, ◌/◌, ◌%◌, ◌<◌}
use native.Mathlib.Omega.{arith}
use lib.IntN.{ℤ, pos, nat_abs}
use lib.Signed.{lt_z}
use Rattle.laws.specs.Numbers.{pos_part, neg_part}
use Rattle.laws.specs.Units.{per_second}
use Rattle.laws.proofs.Signed.{is_lt, is_ge, lt_true, lt_false, abs}
use Rattle.values.specs.declared.Kind.TheVariants.{Span}
use Rattle.values.specs.declared.Value.{Value}
use Rattle.values.specs.Values.{is_value}
use Rattle.values.specs.Differences.{nanoseconds}
use Rattle.values.proofs.Numbers.{not_below, not_above}
use Rattle.values.proofs.Values.{duration_value}
use Rattle.values.proofs.Joining.{joint}
use Rattle.text_read.specs.Bytes.{minus_byte}
use Rattle.text_write.specs.Texts.{decimal_text, fraction_text, span_text}

-- s seconds and q nanoseconds from 0
by_seconds : (shown : Bool) (t : ℤ) (s q : ℕ) (below : Bool) → lt_z t (pos 0) ≡ below → nat_abs t ≡ s * per_second + q →
    q < per_second → cond below (minus_byte ∷ []) [] ++ decimal_text s ++ fraction_text shown q ≡ span_text shown t
by_seconds shown t s q below b e l =
    let x : nat_abs t / per_second ≡ s = omega arith in
    let y : nat_abs t % per_second ≡ q = omega arith in
    rw (b, x, y)

module _ (shown : Bool) (v : Value) (value : is_value Span v ≡ true) where
  abbrev t : ℤ
  t = nanoseconds Span v

  pub tail_most : pos_part v.tail < per_second
  tail_most = omega (arith, duration_value Span v value refl)

  pub tail_up : nat_abs v.tail ≡ pos_part v.tail
  tail_up = let r = duration_value Span v value refl in omega (arith, abs v.tail)

  pub from_zero : (s q : ℕ) → lt_z v.head (pos 0) ≡ false → s ≡ nat_abs v.head → q ≡ pos_part v.tail →
      decimal_text s ++ fraction_text shown q ≡ span_text shown t
  unfolding nanoseconds
  from_zero s q h e f =
      let r = duration_value Span v value refl in
      let j = joint v.head v.tail per_second in
      let x = not_below v.head (omega (arith, lt_false v.head (pos 0) h)) in
      let y = not_below t (omega arith) in
      by_seconds shown t s q false (is_ge t (pos 0) (omega arith)) (omega (arith, abs t, abs v.head)) (omega arith)

  -- the tail counts upward: it takes from how far the head is from zero
  pub below_zero : (s q : ℕ) → lt_z v.head (pos 0) ≡ true →
      s * per_second + q + pos_part v.tail ≡ nat_abs v.head * per_second → q < per_second →
      (minus_byte ∷ []) ++ decimal_text s ++ fraction_text shown q ≡ span_text shown t
  unfolding nanoseconds
  below_zero s q h e l =
      let r = duration_value Span v value refl in
      let j = joint v.head v.tail per_second in
      let z : pos_part v.head < neg_part v.head = omega (arith, lt_true v.head (pos 0) h) in
      let x = not_above v.head (omega arith) in
      let y = not_above t (omega arith) in
      by_seconds shown t s q true (is_lt t (pos 0) (omega arith)) (omega (arith, abs t, abs v.head)) l
