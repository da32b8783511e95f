-- w × o ÷ t in floats beside the same of whole numbers: of sizes alone. Two conversions, the product and the quotient each move a
-- value by one part in 2 ^ 53 at most, so all four by one part in 2 ^ 50. Assumes nothing.
use Prim.Native.Nat.{ℕ, suc, ◌+◌, ◌-◌, ◌*◌, ◌/◌, ◌^◌, ◌≤◌, ◌<◌}
use native.Mathlib.Nat.{le_of_suc-le-suc, mul-le-mul_right, mul-le-mul_left, mul-pos, le_of_mul-le-mul_right}
use native.Mathlib.Nat.{div-mul-le_self}
use native.Mathlib.Omega.{arith}
use lib.Dec.{lit<, lit≤}
use Rattle.laws.proofs.Quotients.{below_next}
use Rattle.floats.proofs.Error.{Near}

-- ---- one step after the other, by their factors
then : (a b c d x y z : ℕ) → a * x ≤ b * y → c * y ≤ d * z → c * a * x ≤ b * d * z
then a b c d x y z p q = go (mul-le-mul_left c p) (mul-le-mul_left b q)
  where
    go : c * (a * x) ≤ c * (b * y) → b * (c * y) ≤ b * (d * z) → c * a * x ≤ b * d * z
    go u v = omega arith

under : (w a b x y : ℕ) → a * x ≤ b * y → a * (w * x) ≤ b * (w * y)
under w a b x y p = go (mul-le-mul_left w p)
  where
    go : w * (a * x) ≤ w * (b * y) → a * (w * x) ≤ b * (w * y)
    go u = omega arith

-- J, K, M are K - 1, K, K + 1 for steps that move by one part in K
module _ (J K M w o t L A B G H : ℕ) (Lp : 0 < L) where
  divided_above : K * (H * B) ≤ M * (G * L) → J * (t * L) ≤ K * B → J * (H * t) ≤ M * G
  divided_above h b = le_of_mul-le-mul_right (go (mul-le-mul_left H b) h) Lp
    where
      go : H * (J * (t * L)) ≤ H * (K * B) → K * (H * B) ≤ M * (G * L) → J * (H * t) * L ≤ M * G * L
      go x y = omega arith

  divided_below : J * (G * L) ≤ K * (H * B) → K * B ≤ M * (t * L) → J * G ≤ M * (H * t)
  divided_below h b = le_of_mul-le-mul_right (go (mul-le-mul_left H b) h) Lp
    where
      go : H * (K * B) ≤ H * (M * (t * L)) → J * (G * L) ≤ K * (H * B) → J * G * L ≤ M * (H * t) * L
      go x y = omega arith

  steps_above : K * (H * B) ≤ M * (G * L) → K * G ≤ M * (w * A) → K * A ≤ M * (o * L) → J * (t * L) ≤ K * B →
      K * (K * J) * (H * t) ≤ M * M * M * (w * (o * L))
  steps_above h g a b = then (K * J) (M * M) K M (H * t) (w * A) (w * (o * L))
      (then J M K M (H * t) G (w * A) (divided_above h b) g) (under w K M A (o * L) a)

  steps_below : J * (G * L) ≤ K * (H * B) → J * (w * A) ≤ K * G → J * (o * L) ≤ K * A → K * B ≤ M * (t * L) →
      J * (J * J) * (w * (o * L)) ≤ K * K * M * (H * t)
  steps_below h g a b = then (J * J) (K * K) J M (w * (o * L)) G (H * t)
      (then J K J K (w * (o * L)) (w * A) G (under w J K (o * L) A a) g) (divided_below h b)

-- factors N and M that are within one part in c of each other
parts_above : (N M c x y : ℕ) → 0 < N → N * x ≤ M * y → c * M ≤ c * N + N → c * x ≤ c * y + y
parts_above N M c x y P f m = le_of_mul-le-mul_right (go (mul-le-mul_left c f) (mul-le-mul_right y m)) P
  where
    go : c * (N * x) ≤ c * (M * y) → c * M * y ≤ (c * N + N) * y → c * x * N ≤ (c * y + y) * N
    go a b = omega arith

parts_below : (N M c x y : ℕ) → 0 < M → N * y ≤ M * x → c * M ≤ c * N + M → c * y ≤ c * x + y
parts_below N M c x y P f m = le_of_mul-le-mul_right (go (mul-le-mul_left c f) (mul-le-mul_right y m)) P
  where
    go : c * (N * y) ≤ c * (M * x) → c * M * y ≤ (c * N + M) * y → c * y * M ≤ (c * x + y) * M
    go a b = omega arith

-- ---- THE LAW: A, B, G, H are o, t, the product and the quotient as they round, in units of 1 / L
pub record Rounded (w o t L A B G H : ℕ) : Type 0 where
  pub offset : Near (2 ^ 53) A (o * L)
  pub span : Near (2 ^ 53) B (t * L)
  pub product : Near (2 ^ 53) G (w * A)
  pub quotient : Near (2 ^ 53) (H * B) (G * L)

abbrev J : ℕ
J = 2 ^ 53 - 1

abbrev K : ℕ
K = 2 ^ 53

abbrev M : ℕ
M = 2 ^ 53 + 1

near_above : (g n : ℕ) → Near K g n → K * g ≤ M * n
near_above g n h = omega arith

near_below : (g n : ℕ) → Near K g n → J * n ≤ K * g
near_below g n h = omega arith

-- H / L is w × o / t, moved by one part in 2 ^ 50 at most
pub four_near : (w o t L A B G H : ℕ) → 0 < L → Rounded w o t L A B G H → Near (2 ^ 50) (H * t) (w * (o * L))
four_near w o t L A B G H Lp r = (
  parts_above (K * (K * J)) (M * M * M) (2 ^ 50) (H * t) (w * (o * L)) (lit< tt)
      (steps_above J K M w o t L A B G H Lp (near_above (H * B) (G * L) r.quotient) (near_above G (w * A) r.product)
      (near_above A (o * L) r.offset) (near_below B (t * L) r.span)) (lit≤ tt),
  parts_below (J * (J * J)) (K * K * M) (2 ^ 50) (H * t) (w * (o * L)) (lit< tt)
      (steps_below J K M w o t L A B G H Lp (near_below (H * B) (G * L) r.quotient) (near_below G (w * A) r.product)
      (near_below A (o * L) r.offset) (near_above B (t * L) r.span)) (lit≤ tt),
)

-- ---- its cut
-- a quotient n / D, in units c, of fewer than 2 ^ 50 has a cut between whole numbers, both included
module _ (n D c L H : ℕ) (C : 0 < c) (Lp : 0 < L) (few : n < 2 ^ 50) (near : Near (2 ^ 50) (H * (D * c)) (n * c * L)) where
  pub no_more : H / L * D ≤ n
  no_more = le_of_suc-le-suc (last (H / L * D)
      (le_of_mul-le-mul_right (units (H / L) (mul-le-mul_left (2 ^ 50 * D * c) (div-mul-le_self H L)) near.0) (mul-pos C Lp)))
    where
      units : (F : ℕ) → 2 ^ 50 * D * c * (F * L) ≤ 2 ^ 50 * D * c * H →
          2 ^ 50 * (H * (D * c)) ≤ 2 ^ 50 * (n * c * L) + n * c * L → 2 ^ 50 * (F * D) * (c * L) ≤ (2 ^ 50 * n + n) * (c * L)
      units F a b = omega arith

      last : (x : ℕ) → 2 ^ 50 * x ≤ 2 ^ 50 * n + n → x < suc n
      last x h = omega arith

  pub no_less : n ≤ suc (H / L) * D
  no_less = le_of_suc-le-suc (last (suc (H / L) * D)
      (le_of_mul-le-mul_right (units (suc (H / L)) (mul-le-mul_left (2 ^ 50 * D * c) above) near.1) (mul-pos C Lp)))
    where
      above : H ≤ suc (H / L) * L
      above = omega (arith, below_next H L Lp)

      units : (F : ℕ) → 2 ^ 50 * D * c * H ≤ 2 ^ 50 * D * c * (F * L) →
          2 ^ 50 * (n * c * L) ≤ 2 ^ 50 * (H * (D * c)) + n * c * L → 2 ^ 50 * n * (c * L) ≤ (2 ^ 50 * (F * D) + n) * (c * L)
      units F a b = omega arith

      last : (x : ℕ) → 2 ^ 50 * n ≤ 2 ^ 50 * x + n → n < suc x
      last x h = omega arith
