-- Differences of pixels that passed question 7: they fit, they are at most 65,534, and different limits leave a width.
-- Assumes nothing.
use mathlib.Core.Path.{◌≡◌, refl}
use mathlib.Core.Bool.{true}
use Prim.Native.Nat.{zero, suc, ◌+◌, ◌≤◌, ◌<◌}
use native.Mathlib.Omega.{arith}
use lib.IntN.{ℤ, pos, negsuc, nat_abs, ◌-ℤ◌}
use mir.Syntax.{w64}
use mir.Val.{SFits}
use Rattle.laws.specs.Numbers.{pos_part, neg_part}
use Rattle.laws.proofs.Signed.{sub, fits, same}
use Rattle.laws.proofs.Tests.{both_true}
use Rattle.axis.specs.declared.Limits.{Limits}
use Rattle.axis.specs.Questions.{is_pixel, pixels, differ}
use Rattle.axis.proofs.Questions.{pixel_range, differ_apart}

pub limits_are : (l : Limits) → pixels l ≡ true → (is_pixel l.low ≡ true) × (is_pixel l.high ≡ true)
unfolding pixels
limits_are l e = both_true (is_pixel l.low) (is_pixel l.high) e

few : (z : ℤ) → pos_part z ≤ 65534 + neg_part z → neg_part z ≤ 65534 + pos_part z → nat_abs z ≤ 65534
few (pos k) a b = omega arith
few (negsuc k) a b = omega arith

module _ (x y : ℤ) (p : is_pixel x ≡ true) (q : is_pixel y ≡ true) where
  pub between_fits : SFits w64 (x -ℤ y)
  between_fits =
      let (a, b) = pixel_range x p in
      let (c, d) = pixel_range y q in
      fits (x -ℤ y) (pos_part x + neg_part y) (neg_part x + pos_part y) (omega (arith, sub x y)) (omega arith) (omega arith)

  pub between_few : nat_abs (x -ℤ y) ≤ 65534
  between_few =
      let (a, b) = pixel_range x p in
      let (c, d) = pixel_range y q in
      few (x -ℤ y) (omega (arith, sub x y)) (omega (arith, sub x y))

some : (z : ℤ) → (pos_part z ≡ neg_part z → ⊥) → 0 < nat_abs z
some (pos zero) h = absurd (h refl)
some (pos (suc n)) h = omega arith
some (negsuc n) h = omega arith

pub width_some : (l : Limits) → differ l ≡ true → 0 < nat_abs (l.high -ℤ l.low)
width_some l e =
    some (l.high -ℤ l.low) (λ z. differ_apart l e (same l.low l.high (omega (arith, sub l.high l.low))))
