-- Question 10 of pixels and of their sums. Assumes nothing.
use mathlib.Core.Path.{◌≡◌, refl}
use mathlib.Core.List.{[], ◌∷◌}
use mathlib.Core.Bool.{Bool, true, false, ◌&&◌}
use Prim.Native.Nat.{◌+◌, ◌^◌, ◌≤◌}
use native.Mathlib.Omega.{arith}
use lib.IntN.{ℤ, ◌+ℤ◌}
use mir.Syntax.{w64}
use mir.Val.{SFits}
use Rattle.std.specs.Prelude.{⊤, Option, Some, None, Result, Ok, Err}
use Rattle.asking.specs.Asking.{ask, asked}
use Rattle.asking.specs.declared.Refusal.{Refusal}
use Rattle.asking.specs.declared.Refusal.TheVariants as refusal
use Rattle.laws.specs.Numbers.{pos_part, neg_part}
use Rattle.laws.proofs.Signed.{add, fits, quot_up, quot_dn, up_fits, dn_fits}
use Rattle.laws.proofs.Tests.{and_false}
use Rattle.values.specs.declared.Value.{Value}
use Rattle.axis.specs.declared.Axis.{Axis}
use Rattle.axis.specs.declared.Limits.{Limits}
use Rattle.axis.specs.Questions.{fits_i32, in_calendar, checked_if}
use Rattle.axis.proofs.Questions.{i32_range}
use Rattle.mapping.specs.declared.Hairline.{Hairline}
use Rattle.mapping.specs.Mapping.{hairline}
use Rattle.segmented.specs.Segments.{segments, half, margin_of, inner, Worked, worked}
use Rattle.segmented.specs.Segments.{alone, between, beside, centred, pixel_checked}

-- two numbers that fit i32, and one with a half: the sum fits
pub sum_fits : (x y : ℤ) → fits_i32 x ≡ true → fits_i32 y ≡ true → SFits w64 (x +ℤ y)
sum_fits x y p q =
    let (a, b) = i32_range x p in
    let (c, d) = i32_range y q in
    fits (x +ℤ y) (pos_part x + pos_part y) (neg_part x + neg_part y) (omega (arith, add x y)) (omega arith) (omega arith)

half_range : (z : ℤ) → SFits w64 z → (neg_part (half z) ≤ 2 ^ 62) × (pos_part (half z) ≤ 2 ^ 62)
half_range z f = (omega (arith, dn_fits z f, quot_dn z 2), omega (arith, up_fits z f, quot_up z 2))

pub half_sum_fits : (x z : ℤ) → fits_i32 x ≡ true → SFits w64 z → SFits w64 (x +ℤ half z)
half_sum_fits x z p f =
    let (a, b) = i32_range x p in
    let (c, d) = half_range z f in
    fits (x +ℤ half z) (pos_part x + pos_part (half z)) (neg_part x + neg_part (half z)) (omega (arith, add x (half z)))
    (omega arith) (omega arith)

-- ---- one question, as the code asks it
pub asked_yes : (q : Refusal) (b : Bool) (u v : ⊤) → Ok v ≡ asked (ask q b ∷ []) (Ok u) → b ≡ true
asked_yes q true u v e = refl
asked_yes q false u v e = absurd (let z : ⊥ = cc in z)

pub asked_no : (q p : Refusal) (b : Bool) (u : ⊤) → Err p ≡ asked (ask q b ∷ []) (Ok u) → (b ≡ false) × (p ≡ q)
asked_no q p true u e = absurd (let z : ⊥ = cc in z)
asked_no q p false u e = let z : p ≡ q = cc in (refl, z)

module _ (left right : Hairline) where
  abbrev sum : ℤ
  sum = left.pixel +ℤ right.pixel

  pub between_sum : fits_i32 sum ≡ false → Err refusal.Range ≡ pixel_checked (between left right)
  between_sum e = rw (e, and_false (fits_i32 right.pixel), and_false (fits_i32 left.pixel)) refl

  pub between_is : fits_i32 left.pixel ≡ true → fits_i32 right.pixel ≡ true → fits_i32 sum ≡ true →
      Ok (between left right).hairline ≡ pixel_checked (between left right)
  between_is e f g = rw (e, f, g) refl

module _ (left : Hairline) (margin : ℤ) where
  pub beside_is : fits_i32 left.pixel ≡ true →
      pixel_checked (alone (beside left margin).hairline) ≡ pixel_checked (beside left margin)
  beside_is e = rw e refl

-- ---- the centre, by what the code learns of the next value
module _ (a : Axis) (l : Limits) (left : Hairline) where
  abbrev pub onward : Result (Option Value) Refusal → Result Hairline Refusal
  onward (Err q) = Err q
  onward (Ok None) = pixel_checked (beside left (margin_of (segments a) l))
  onward (Ok (Some w)) = pixel_checked (between left (hairline a (inner (segments a) l) w))

  pub onward_is : (n : Option Value) → onward (checked_if n) ≡ pixel_checked (centred a l left n)
  unfolding checked_if
  onward_is None = refl
  onward_is (Some w) = dated (in_calendar w)
    where
      c : Worked
      c = between left (hairline a (inner (segments a) l) w)

      dated : (b : Bool) →
          onward (asked (ask refusal.Range b ∷ []) (Ok (Some w))) ≡ pixel_checked (worked c.hairline (b && c.fits))
      dated true = refl
      dated false = refl
