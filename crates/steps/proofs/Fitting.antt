-- How many steps a room has. Assumes nothing.
use mathlib.Core.Path.{◌≡◌, refl}
use Prim.Native.Nat.{ℕ, zero, suc, ◌+◌, ◌*◌, ◌/◌, ◌%◌, ◌≤◌, ◌<◌, min}
use native.Mathlib.Nat.{le-div_iff_mul-le, div-lt_iff_lt-mul, not-suc-le-zero, zero-div, zero-mod, zero-mul}
use native.Mathlib.Nat.{div-add-mod', mod-lt}
use Rattle.laws.proofs.Quotients.{quotient_is}
use native.Mathlib.Omega.{arith}
use Rattle.steps.specs.Progression.{fitting}

-- i steps are in the room if i is below the count
pub inside : (room k i : ℕ) → 0 < k → i < fitting room k → i * k < room
inside zero k i p h = absurd (not-suc-le-zero h)
inside (suc r) k i p h = let a : i ≤ r / k = omega arith in omega (arith, (le-div_iff_mul-le p).0 a)

-- as many steps as fit reach the end of the room
pub all_fit : (room k : ℕ) → 0 < k → room ≤ fitting room k * k
all_fit zero k p = omega arith
all_fit (suc r) k p = let h : r / k < r / k + 1 = omega arith in omega (arith, (div-lt_iff_lt-mul p).0 h)

-- a room of n + 1 steps has no more
pub few_steps : (room k n : ℕ) → 0 < k → room ≤ (n + 1) * k → fitting room k ≤ n + 1
few_steps zero k n p h = omega arith
few_steps (suc r) k n p h = let a : r < (n + 1) * k = omega arith in omega (arith, (div-lt_iff_lt-mul p).1 a)

-- as the code works it out
pub rounded_up : (room k : ℕ) → 0 < k → room / k + min 1 (room % k) ≡ fitting room k
rounded_up zero k p = rw (zero-div, zero-mod) refl
rounded_up (suc r) k p = go (suc r / k) (suc r % k) (div-add-mod' (suc r) k) (mod-lt (suc r) p)
  where
    go : (q m : ℕ) → q * k + m ≡ suc r → m < k → q + min 1 m ≡ r / k + 1
    go zero zero e l = absurd (let z : ⊥ = omega (arith, zero-mul k) in z)
    go (suc q) zero e l = let last : r / k ≡ q = quotient_is r k q p (omega arith) (omega arith) in omega arith
    go q (suc m) e l = let last : r / k ≡ q = quotient_is r k q p (omega arith) (omega arith) in omega arith
