-- A quotient a / b of whole numbers, rounded, stands to every c / d with d 1 or 2 as a / b does: below, equal or above.
-- For that a * d is below 2 ^ prec: then a / b and c / d differ by more than one rounding moves. Assumes nothing.
use mathlib.Core.Path.{◌≡◌, sym, ap, ◌∙◌, subst}
use mathlib.Core.Logic.{inl, inr}
use mathlib.Core.Bool.{Bool, false}
use Prim.Native.Nat.{ℕ, suc, ◌+◌, ◌-◌, ◌*◌, ◌^◌, ◌≤◌, ◌<◌}
use native.Mathlib.Nat.{le_trans, le_of_eq, lt_of_le_of_lt, lt_of_lt_of_le, mul_assoc, mul-le-mul_right}
use native.Mathlib.Nat.{mul-le-mul_left, mul-lt-mul_of_pos_right, lt_of_mul-lt-mul_right, mul-one, one-mul}
use native.Mathlib.Nat.{eq-zero-or-pos}
use native.Mathlib.Omega.{arith}
use lib.Dec.{lit≤}
use lib.Pow.{pow-add, pow_pos, pow_mono, shl_lt}
use lib.Ieee.{Float, Format, binary32, binary64, prec, emax, low, round}
use lib.Ieee.Exact.{HasValue, round_exact}
use lib.Ieee.Scale.{grid, round_same}
use Rattle.floats.proofs.Values.{round_val, one_size}
use Rattle.floats.proofs.Error.{Near, Large, round_near, round_under}

-- ---- order kept, of whole numbers alone: g / L is a / b within one part in P, and a * d is below P
module _ (P a b c d g L : ℕ) (Lp : 0 < L) (N : Near P (g * b) (a * L)) (small : a * d < P) where
  less_units : a * d * L < P * L
  less_units = mul-lt-mul_of_pos_right small Lp

  stays_below : a * d < c * b → g * d < c * L
  stays_below h = lt_of_mul-lt-mul_right (P * b) (go less_units (mul-le-mul_right d N.0) (mul-le-mul_left (P * L) h))
    where
      go : a * d * L < P * L → P * (g * b) * d ≤ (P * (a * L) + a * L) * d → P * L * suc (a * d) ≤ P * L * (c * b) →
          g * d * (P * b) < c * L * (P * b)
      go x y z = omega arith

  stays_above : c * b < a * d → c * L < g * d
  stays_above h = lt_of_mul-lt-mul_right (P * b) (go less_units (mul-le-mul_right d N.1) (mul-le-mul_left (P * L) h))
    where
      go : a * d * L < P * L → P * (a * L) * d ≤ (P * (g * b) + a * L) * d → P * L * suc (c * b) ≤ P * L * (a * d) →
          c * L * (P * b) < g * d * (P * b)
      go x y z = omega arith

-- ---- a quotient of whole numbers is not too near to 0, and is finite
large : (a b : ℕ) → b ≤ 2 ^ 100 → Large a b
large a b h =
    elim (eq-zero-or-pos a) [
      | inl z ↦ inr z
      | inr p ↦ inl (le_trans h (le_trans (le_of_eq (sym (one-mul (2 ^ 100)))) (mul-le-mul_right (2 ^ 100) p)))
    ]

module _ (f : Format) (a b : ℕ) (B : 0 < b) (b-small : b ≤ 2 ^ 100) where
  near : Near (2 ^ prec f) (grid f a b * b) (a * 2 ^ low f)
  near = round_near f a b B (large a b b-small)

  pub quotient_val : (s : Bool) → a < 2 ^ prec f → HasValue (round f s a b) s (grid f a b) (2 ^ low f)
  quotient_val s h =
      round_val f s a b
      (round_under f a b a B (le_trans (le_of_eq (sym (mul-one a))) (mul-le-mul_left a B))
      (lt_of_lt_of_le (shl_lt (prec f) (1 + low f) h) (pow_mono (fit f))) near)
    where
      fit : (f : Format) → prec f + (1 + low f) ≤ low f + suc (emax f)
      fit binary32 = lit≤ tt
      fit binary64 = lit≤ tt

-- ---- where a / b is c / d itself, d 1 or 2, it is a value of the format; d is 2 ^ t
exact : (f : Format) (c t : ℕ) → t ≤ 1 → c < 2 ^ prec f → HasValue (round f false c (2 ^ t)) false c (2 ^ t)
exact f c t T1 h =
    round_exact f false c (2 ^ t) c (low f - t) (pow_pos t) h
    (lt_of_lt_of_le (shl_lt (prec f) (low f - t) h) (pow_mono (fit f t)))
    (ap (λ (x : ℕ). c * x) (ap (λ (x : ℕ). 2 ^ x) (sym (back f t T1)) ∙ pow-add 2 (low f - t) t)
    ∙ sym (mul_assoc c (2 ^ (low f - t)) (2 ^ t)))
  where
    fit : (f : Format) (t : ℕ) → prec f + (low f - t) ≤ low f + suc (emax f)
    fit binary32 t = omega arith
    fit binary64 t = omega arith

    back : (f : Format) (t : ℕ) → t ≤ 1 → low f - t + t ≡ low f
    back binary32 t h = omega arith
    back binary64 t h = omega arith

-- ---- the three cases
module _ (f : Format) (a b c t : ℕ) (B : 0 < b) (b-small : b ≤ 2 ^ 100) (T1 : t ≤ 1) (small : a * 2 ^ t < 2 ^ prec f) where
  pub below : a * 2 ^ t < c * b → grid f a b * 2 ^ t < c * 2 ^ low f
  below = stays_below (2 ^ prec f) a b c (2 ^ t) (grid f a b) (2 ^ low f) (pow_pos (low f)) (near f a b B b-small) small

  pub above : c * b < a * 2 ^ t → c * 2 ^ low f < grid f a b * 2 ^ t
  above = stays_above (2 ^ prec f) a b c (2 ^ t) (grid f a b) (2 ^ low f) (pow_pos (low f)) (near f a b B b-small) small

  a_small : a < 2 ^ prec f
  a_small = lt_of_le_of_lt (le_trans (le_of_eq (sym (mul-one a))) (mul-le-mul_left a (pow_pos t))) small

  pub equal : a * 2 ^ t ≡ c * b → grid f a b * 2 ^ t ≡ c * 2 ^ low f
  equal e =
      one_size (round f false a b) false (grid f a b) (2 ^ low f) c (2 ^ t) (quotient_val f a b B b-small false a_small)
      (subst (λ (x : Float). HasValue x false c (2 ^ t)) (sym (round_same f false a b c (2 ^ t) B (pow_pos t) e))
      (exact f c t T1 (lt_of_le_of_lt (le_trans (le_trans (le_of_eq (sym (mul-one c))) (mul-le-mul_left c B))
      (le_of_eq (sym e))) small)))
