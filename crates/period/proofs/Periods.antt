-- What a period promises: there is one unless days are listed, it is above 0, a half-open span has at most n + 1 ticks, and it
-- fits.
-- Assumes nothing.
use mathlib.Core.Path.{◌≡◌, refl}
use mathlib.Core.Bool.{Bool, true, false, cond}
use mathlib.Core.Logic.{inl, inr}
use Prim.Native.Nat.{ℕ, zero, suc, ◌+◌, ◌*◌, ◌/◌, ◌^◌, ◌≤◌, ◌<◌, suc-le-suc}
use native.Mathlib.Nat.{mul-le-mul_right, pow-le-pow_right, lt_of_lt_of_le, div-lt_iff_lt-mul, zero-lt-suc}
use native.Mathlib.Decide.{dec_le}
use native.Mathlib.Omega.{arith}
use lib.Dec.{leb, leb→le, lit<}
use borrow.Author.Tests.{leb-true, le-leb, lt-leb}
use Rattle.std.specs.Prelude.{Option, Some, None, is_some}
use Rattle.laws.specs.Units.{per_day}
use Rattle.laws.proofs.Tests.{both_true, and_false}
use Rattle.period.specs.Ladders.{Ladder, unit_at, count_at, rung_of, Climbable, first_wide}
use Rattle.period.specs.Periods.{exponent_of, ladder_of, no_period, period_of, tested_of, power_of}
use Rattle.period.proofs.Exponents.{from_top, largest, power_in}
use Rattle.period.proofs.Ladders.{chosen_ends}

-- ---- whether there is a period
module _ (p : ℕ) (s : Bool) where
  pub below_day : p < per_day → no_period p s ≡ false
  below_day h = rw (lt-leb per_day p h) refl

  pub any_step : s ≡ false → no_period p s ≡ false
  any_step e = rw e (and_false (leb per_day p))

  pub days_listed : per_day ≤ p → s ≡ true → no_period p s ≡ true
  days_listed h e = rw (le-leb per_day p h, e) refl

-- ---- what the code finds is the period and the count of tests
abbrev pub Answers : ℕ → ℕ → Bool → Option ℕ → ℕ → Type 0
Answers span n s x y = (x ≡ period_of span n s) × (y ≡ tested_of span n s)

module _ (span n : ℕ) (s : Bool) (p : ℕ) (is : p ≡ power_of span n) where
  pub answers_none : no_period p s ≡ true → Answers span n s None 0
  unfolding period_of tested_of
  answers_none e = let t = rw is at e in (rw t refl, rw t refl)

  pub answers : no_period p s ≡ false → (l : Ladder) → ladder_of p ≡ l → Answers span n s (Some (first_wide span n l))
      (rung_of span n l + 1)
  unfolding period_of tested_of
  answers e l q = let t = rw is at e in let k = rw is at q in (rw (t, k) refl, rw (t, k) refl)

-- ---- the span is less than n + 1 steps
in_steps : {span n : ℕ} {l : Ladder} → Climbable span n l → span < suc n * first_wide span n l
in_steps {span} {n} {l} c =
    let u = unit_at l (rung_of span n l) in
    let k = count_at l (rung_of span n l) in
    go k u c.above (leb→le (span / u) (n * k) c.ends)
  where
    go : (k u : ℕ) → 0 < k * u → span / u ≤ n * k → span < suc n * (k * u)
    go zero u p h = absurd (let z : ⊥ = omega arith in z)
    go (suc k) zero p h = absurd (let z : ⊥ = omega arith in z)
    go (suc k) (suc u) p h = lt_of_lt_of_le ((div-lt_iff_lt-mul (zero-lt-suc u)).0 (suc-le-suc h)) (omega arith)

-- ---- the laws
-- what is found is above 0 and fits 63 bits, and the span has less than n + 1 of it
pub record Spaced (span n k : ℕ) : Type 0 where
  pub above : 0 < k
  pub fits : k < 2 ^ 63
  pub room : span < suc n * k

module _ (span n : ℕ) (s : Bool) where
  none_or : (P : Option ℕ → Type 0) → (no_period (power_of span n) s ≡ true → P None) →
      P (Some (first_wide span n (ladder_of (power_of span n)))) → P (period_of span n s)
  unfolding period_of
  none_or P none some = go (no_period (power_of span n) s) refl
    where
      go : (b : Bool) → no_period (power_of span n) s ≡ b →
          P (cond b None (Some (first_wide span n (ladder_of (power_of span n)))))
      go true e = none e
      go false e = some

  -- none only where a step of a day or more is wanted and none is allowed
  pub some_period : no_period (power_of span n) s ≡ false → is_some (period_of span n s) ≡ true
  some_period e = none_or (λ (x : Option ℕ). is_some x ≡ true) (λ t. absurd (let z : ⊥ = cc in z)) refl

  module _ (fits : span < 2 ^ 63) (N : 0 < n) (hint : n ≤ 4096) where
    found : Climbable span n (ladder_of (power_of span n))
    found = chosen_ends span n hint (power_of span n) refl N fits

    pub spaced : (k : ℕ) → period_of span n s ≡ Some k → Spaced span n k
    spaced = none_or (λ (x : Option ℕ). (k : ℕ) → x ≡ Some k → Spaced span n k)
        (λ _ k e. absurd (let z : ⊥ = cc in z))
        (λ k e. let z : first_wide span n (ladder_of (power_of span n)) ≡ k = cc in
        record { above = rw z at found.above; fits = rw z at found.fits; room = rw z at (in_steps found) })

-- where only steps below a day are asked for, there is none just from 10^14 ns, the first power of ten above a day, for each n on
module _ (span n : ℕ) (fits : span < 2 ^ 63) (N : 0 < n) (hint : n ≤ 4096) where
  abbrev e : ℕ
  e = exponent_of span n

  below : e ≤ 13 → 10 ^ e < per_day
  below h = let z : 10 ^ e ≤ 10 ^ 13 = pow-le-pow_right (lit< tt) h in omega arith

  pub from_none : period_of span n true ≡ None → 10 ^ 14 * n ≤ span
  from_none h =
      let q = leb-true per_day (10 ^ e) (both_true (leb per_day (10 ^ e)) true (none (no_period (10 ^ e) true) refl)).0 in
      elim (dec_le 14 e) [
        | yes l ↦
            let m : 10 ^ 14 * n ≤ 10 ^ e * n = mul-le-mul_right n (pow-le-pow_right (lit< tt) l) in
            elim (rw (from_top span n) at (power_in span n 18)) [
              | inl z ↦ absurd (let w : ⊥ = omega arith in w)
              | inr g ↦ omega arith
            ]
        | no l ↦ absurd (let w : ⊥ = omega (arith, below (omega arith)) in w)
      ]
    where
      none : (b : Bool) → no_period (power_of span n) true ≡ b → no_period (power_of span n) true ≡ true
      none true e = e
      none false e = absurd (let t = rw h at (some_period span n true e) in let z : ⊥ = cc in z)

  -- the next power would be no larger
  far : 10 ^ 14 * n ≤ span → 14 ≤ e
  far h =
      let (most, next) = rw (from_top span n) at (largest span n 18) in
      elim (dec_le 14 e) [
        | yes l ↦ l
        | no l ↦
            let less : suc e ≤ 14 = omega arith in
            let m : 10 ^ suc e * n ≤ 10 ^ 14 * n = mul-le-mul_right n (pow-le-pow_right (lit< tt) less) in
            absurd (elim next [ inl z ↦ (let w : ⊥ = omega arith in w) | inr g ↦ (let w : ⊥ = omega arith in w) ])
      ]

  pub none_from : 10 ^ 14 * n ≤ span → None ≡ period_of span n true
  none_from h =
      let day : 10 ^ 14 ≤ 10 ^ e = pow-le-pow_right (lit< tt) (far h) in
      (answers_none span n true (10 ^ e) refl (days_listed (10 ^ e) true (omega arith) refl)).0
