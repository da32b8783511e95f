-- A float that is near w × o ÷ t in whole multiples c, as days are of nanoseconds, is within five eighths of w × o ÷ t itself,
-- where t has 106,751 of them or more and w is at most 65,534. Assumes nothing.
use Prim.Native.Nat.{ℕ, suc, ◌+◌, ◌*◌, ◌/◌, ◌^◌, ◌≤◌, ◌<◌}
use native.Mathlib.Nat.{mul-le-mul, mul-le-mul_left, mul-le-mul_right, le_of_mul-le-mul_right, div-mul-le_self}
use native.Mathlib.Omega.{arith}
use Rattle.laws.proofs.Quotients.{below_next}
use Rattle.floats.proofs.Error.{Near}
use Rattle.floats.proofs.NearCuts.{Within}

coarser : (x y : ℕ) → Near (2 ^ 50) x y → Near (2 ^ 30) x y
coarser x y h = omega arith

module _ (w o t c H U : ℕ) (C : 0 < c) (O : o ≤ t) (W : w ≤ 65534) (long : 106751 ≤ t / c) where
  abbrev d : ℕ
  d = o / c

  abbrev D : ℕ
  D = t / c

  some : 0 < D
  some = omega arith

  -- the products by days and by the span: w × t apart at most, and that is 8 of 13 products of span and days
  days_most : w * d * t ≤ w * o * D + w * t
  days_most = go (mul-le-mul_left (w * d) (below_next t c C)) (mul-le-mul_left (w * suc D) (div-mul-le_self o c))
      (mul-le-mul_left w O)
    where
      go : w * d * suc t ≤ w * d * (suc D * c) → w * suc D * (d * c) ≤ w * suc D * o → w * o ≤ w * t →
          w * d * t ≤ w * o * D + w * t
      go a b l = omega arith

  days_least : w * o * D ≤ w * d * t + w * t
  days_least = go (mul-le-mul_left (w * D) (below_next o c C)) (mul-le-mul_left (w * suc d) (div-mul-le_self t c))
    where
      go : w * D * suc o ≤ w * D * (suc d * c) → w * suc d * (D * c) ≤ w * suc d * t → w * o * D ≤ w * d * t + w * t
      go a b = omega arith

  part : 13 * w * (t * U) ≤ 8 * D * (t * U)
  part = mul-le-mul_right (t * U) (omega arith)

  few : w * o * (D * U) ≤ 65534 * t * (D * U)
  few = mul-le-mul_right (D * U) (mul-le-mul W O)

  pub days_within : Near (2 ^ 50) (H * D) (w * d * U) → Within (w * o) t H U
  days_within near =
      let n = coarser (H * D) (w * d * U) near in
      let most = mul-le-mul_right U days_most in
      record {
        above = le_of_mul-le-mul_right (high (mul-le-mul_right t n.0) most part few) some;
        below = le_of_mul-le-mul_right (low (mul-le-mul_right t n.1) (mul-le-mul_right U days_least) most part few) some;
      }
    where
      high : 2 ^ 30 * (H * D) * t ≤ (2 ^ 30 * (w * d * U) + w * d * U) * t → w * d * t * U ≤ (w * o * D + w * t) * U →
          13 * w * (t * U) ≤ 8 * D * (t * U) → w * o * (D * U) ≤ 65534 * t * (D * U) →
          8 * (H * t) * D ≤ (8 * (w * o * U) + 5 * (t * U)) * D
      high n a p f = omega arith

      low : 2 ^ 30 * (w * d * U) * t ≤ (2 ^ 30 * (H * D) + w * d * U) * t → w * o * D * U ≤ (w * d * t + w * t) * U →
          w * d * t * U ≤ (w * o * D + w * t) * U → 13 * w * (t * U) ≤ 8 * D * (t * U) →
          w * o * (D * U) ≤ 65534 * t * (D * U) → 8 * (w * o * U) * D ≤ (8 * (H * t) + 5 * (t * U)) * D
      low n a b p f = omega arith
