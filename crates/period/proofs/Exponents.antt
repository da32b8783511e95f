-- The exponent: the first power that goes into the span, and how far the span is from the next power. Assumes nothing.
use mathlib.Core.Path.{◌≡◌, refl}
use mathlib.Core.Bool.{Bool, true, false, cond}
use mathlib.Core.List.{List, [], ◌∷◌}
use mathlib.Core.Logic.{◌⊎◌, inl, inr}
use Prim.Native.Nat.{ℕ, zero, suc, ◌*◌, ◌/◌, ◌^◌, ◌≤◌, ◌<◌, zero-le, suc-le-suc}
use native.Mathlib.Nat.{le_refl, le_of_suc-le-suc, lt_of_lt_of_le, lt_of_not-le, not-le_of_lt, mul-le-mul_right}
use native.Mathlib.Nat.{pow-le-pow_right, le-div_iff_mul-le, div-lt_iff_lt-mul}
use native.Mathlib.Omega.{arith}
use lib.Dec.{leb, lit<}
use borrow.Author.Tests.{le-leb, lt-leb, leb-true, leb-false}
use Rattle.std.specs.Prelude.{Some, None, unwrap_or}
use Rattle.std.specs.List.{find}
use Rattle.period.specs.Periods.{exponent_up_to, exponent_of}

-- the powers up to 10 ^ k, the largest first
abbrev pub powers_to : ℕ → List ℕ
powers_to zero = 1 ∷ []
powers_to (suc k) = 10 ^ suc k ∷ powers_to k

module _ (span n : ℕ) where
  pub from_top : exponent_up_to 18 span n ≡ exponent_of span n
  unfolding exponent_of
  from_top = refl

  pub at_none : exponent_up_to 0 span n ≡ 0
  unfolding exponent_up_to
  at_none = refl

  at_test : (k : ℕ) → exponent_up_to (suc k) span n ≡ cond (leb (10 ^ suc k * n) span) (suc k) (exponent_up_to k span n)
  unfolding exponent_up_to
  at_test k = refl

  -- the first of the powers that goes into the span n times
  pub first_power : 0 < n → (k : ℕ) → unwrap_or (find (λ (x : ℕ). leb x (span / n)) (powers_to k)) 1
      ≡ 10 ^ exponent_up_to k span n
  first_power N zero = rw at_none (by_test (leb 1 (span / n)))
    where
      by_test : (b : Bool) → unwrap_or {T = ℕ} (cond b (Some 1) None) 1 ≡ 1
      by_test true = refl
      by_test false = refl
  first_power N (suc k) = rw (at_test k) (by_test (leb (10 ^ suc k) (span / n)) refl (first_power N k))
    where
      by_test : (b : Bool) → leb (10 ^ suc k) (span / n) ≡ b →
          unwrap_or (find (λ (x : ℕ). leb x (span / n)) (powers_to k)) 1 ≡ 10 ^ exponent_up_to k span n →
          unwrap_or (cond b (Some (10 ^ suc k)) (find (λ (x : ℕ). leb x (span / n)) (powers_to k))) 1
          ≡ 10 ^ cond (leb (10 ^ suc k * n) span) (suc k) (exponent_up_to k span n)
      by_test true t e =
          rw (le-leb (10 ^ suc k * n) span ((le-div_iff_mul-le N).0 (leb-true (10 ^ suc k) (span / n) t))) refl
      by_test false t e =
          rw (lt-leb (10 ^ suc k * n) span ((div-lt_iff_lt-mul N).0 (leb-false (10 ^ suc k) (span / n) t))) e

-- ---- the exponent is the largest one, or the next power is too large
abbrev Largest : ℕ → ℕ → ℕ → ℕ → Type 0
Largest span n k e = (e ≤ k) × ((e ≡ k) ⊎ (span < 10 ^ suc e * n))

pub largest : (span n k : ℕ) → Largest span n k (exponent_up_to k span n)
largest span n zero = rw (at_none span n) (zero-le, inl refl)
largest span n (suc k) = rw (at_test span n k) (go (leb (10 ^ suc k * n) span) refl (largest span n k))
  where
    go : (b : Bool) → leb (10 ^ suc k * n) span ≡ b → Largest span n k (exponent_up_to k span n) →
        Largest span n (suc k) (cond b (suc k) (exponent_up_to k span n))
    go true t h = (le_refl (suc k), inl refl)
    go false t h = (omega (arith, h.0), inr (elim h.1 [ inl q ↦ rw q (leb-false (10 ^ suc k * n) span t) | inr l ↦ l ]))

-- and the power goes into the span n times, but for 1, which need not
abbrev In : ℕ → ℕ → ℕ → Type 0
In span n e = (e ≡ 0) ⊎ (10 ^ e * n ≤ span)

pub power_in : (span n k : ℕ) → In span n (exponent_up_to k span n)
power_in span n zero = inl (at_none span n)
power_in span n (suc k) = rw (at_test span n k) (go (leb (10 ^ suc k * n) span) refl (power_in span n k))
  where
    go : (b : Bool) → leb (10 ^ suc k * n) span ≡ b → In span n (exponent_up_to k span n) →
        In span n (cond b (suc k) (exponent_up_to k span n))
    go true t h = inr (leb-true (10 ^ suc k * n) span t)
    go false t h = h

-- where the power is below 10 ^ (m + 1), its exponent is m at most, and the next power is too large
pub below : (span n m : ℕ) → m < 18 → 10 ^ exponent_of span n < 10 ^ suc m → (exponent_of span n ≤ m)
    × (span < 10 ^ suc (exponent_of span n) * n)
below span n m h p =
    let low : exponent_of span n ≤ m =
    le_of_suc-le-suc (lt_of_not-le (λ (g : suc m ≤ exponent_of span n). not-le_of_lt p (pow-le-pow_right (lit< tt) g))) in
    let most = rw (from_top span n) at (largest span n 18) in
    (low, elim most.1 [ inl q ↦ absurd (let z : ⊥ = omega arith in z) | inr l ↦ l ])

pub span_below : (span n m : ℕ) → m < 18 → 10 ^ exponent_of span n < 10 ^ suc m → span < 10 ^ suc m * n
span_below span n m h p =
    let (low, next) = below span n m h p in
    lt_of_lt_of_le next (mul-le-mul_right n (pow-le-pow_right (lit< tt) (suc-le-suc low)))
