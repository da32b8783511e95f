-- The loop's exponent is document 01's, and the loop over units finds the period. Assumes nothing.
use mathlib.Core.Path.{◌≡◌, refl}
use mathlib.Core.Bool.{Bool, false, cond, not}
use mathlib.Core.Logic.{◌⊎◌, inl, inr}
use Prim.Native.Nat.{ℕ, zero, suc, ◌+◌, ◌*◌, ◌/◌, ◌^◌, ◌≤◌, ◌<◌}
use native.Mathlib.Nat.{pow-le-pow_right, mul-le-mul_right, le_antisymm, lt_of_lt_of_le, not-le_of_lt}
use native.Mathlib.Numerals.{add-one}
use native.Mathlib.Decide.{dec_le}
use native.Mathlib.Omega.{arith}
use lib.Dec.{leb, ltb, eqb, lit<}
use lib.ListN.{length, get_or}
use borrow.Author.Tests.{leb-true, leb-false, ltb-true, ltb-false, eqb-true, eqb-false, not-true, not-false}
use Rattle.std.specs.Prelude.{Option, Some}
use Rattle.laws.specs.Units.{per_second, per_hour, per_day}
use Rattle.period.specs.Ladders.{Ladder, decimal_ladder, Climbable, first_wide}
use Rattle.period.specs.Periods.{exponent_of, power_of, ten_days, second_ladder, hour_ladder, day_ladder, ladder_of, no_period}
use Rattle.period.specs.Periods.{period_of}
use Rattle.period.proofs.Exponents.{from_top, largest, power_in}
use Rattle.period.proofs.Climbing.{Climbed, climb_start, climb_step, climb_on, climb_next}
use Rattle.period.proofs.Ladders.{is_decimal, is_seconds, is_hours, is_days, is_longest, chosen_ends}
use Rattle.period.proofs.Periods.{below_day, any_step, days_listed, answers, answers_none}
use Rattle.plans.proofs.Cases.{both_ways, choose}
use Rattle.keypoints.specs.Periods.{exponent_from, determine_actual_ns_per_point, days_from, period_from}
use Rattle.keypoints.specs.Periods.{compute_period_per_point}

-- ---- the exponent
-- document 01: 'the largest k with 10^k × N ≤ span, or 0'
pub record Exponent (span n k : ℕ) : Type 0 where
  pub fits : (k ≡ 0) ⊎ (10 ^ k * n ≤ span)
  pub largest : (j : ℕ) → 10 ^ j * n ≤ span → j ≤ k

module _ (span n : ℕ) where
  not_past : (j k : ℕ) → 10 ^ j * n ≤ span → span < 10 ^ suc k * n → j ≤ k
  not_past j k a b =
      elim (dec_le j k) [
        | yes l ↦ l
        | no l ↦
            let g : suc k ≤ j = omega arith in
            absurd (not-le_of_lt (lt_of_lt_of_le b (mul-le-mul_right n (pow-le-pow_right (lit< tt) g))) a)
      ]

  not_above : (j k : ℕ) → Exponent span n j → Exponent span n k → j ≤ k
  not_above j k a b = elim a.fits [ inl e ↦ omega arith | inr l ↦ b.largest j l ]

  module _ (small : span < 2 ^ 63) (N : 1 ≤ n) where
    too_far : (k : ℕ) → 19 ≤ k → span < 10 ^ k * n
    too_far k h =
        let a : 10 ^ 19 * n ≤ 10 ^ k * n = mul-le-mul_right n (pow-le-pow_right (lit< tt) h) in
        omega arith

    -- the table's
    exponent_of_law : Exponent span n (exponent_of span n)
    exponent_of_law =
        let (low, most) = rw (from_top span n) at (largest span n 18) in
        let next : span < 10 ^ suc (exponent_of span n) * n =
        elim most [ inl e ↦ too_far (suc (exponent_of span n)) (omega arith) | inr l ↦ l ] in
        record {
          fits = rw (from_top span n) at (power_in span n 18);
          largest = λ j l. not_past j (exponent_of span n) l next;
        }

    -- the loop's, where it has come to k
    come : (turns k : ℕ) → 19 ≤ turns + k → (k ≡ 0) ⊎ (10 ^ k * n ≤ span) → Exponent span n (exponent_from turns span n k)
    unfolding exponent_from
    come zero k t f =
        absurd (elim f [ inl e ↦ (let z : ⊥ = omega arith in z) | inr l ↦ not-le_of_lt (too_far k (omega arith)) l ])
    come (suc turns) k t f =
        choose (Exponent span n) (leb (10 ^ suc k * n) span)
        (λ e. come turns (suc k) (omega arith) (inr (leb-true (10 ^ suc k * n) span e)))
        (λ e. record { fits = f; largest = λ j l. not_past j k l (leb-false (10 ^ suc k * n) span e) })

    pub exponent_is : (turns : ℕ) → 19 ≤ turns → Exponent span n (exponent_from turns span n 0)
    exponent_is turns t = come turns 0 (omega arith) (inl refl)

    exponent_same : (turns : ℕ) → 19 ≤ turns → exponent_from turns span n 0 ≡ exponent_of span n
    exponent_same turns t =
        let x = exponent_from turns span n 0 in
        let y = exponent_of span n in
        le_antisymm (not_above x y (exponent_is turns t) exponent_of_law) (not_above y x exponent_of_law (exponent_is turns t))

-- ---- the units
module _ {span n : ℕ} {l : Ladder} (c : Climbable span n l) where
  found : (turns unit whole before idx i : ℕ) → 16 < turns + i → idx < length l.counts →
      Climbed span n l unit whole before idx i →
      determine_actual_ns_per_point turns span unit l.counts l.base n idx ≡ first_wide span n l
  unfolding determine_actual_ns_per_point
  found zero unit whole before idx i t y w = absurd (let z : ⊥ = omega (arith, w.come.within) in z)
  found (suc turns) unit whole before idx i t y w =
      let limit = n * get_or l.counts idx 0 in
      let size = length l.counts in
      choose (λ (x : ℕ). x ≡ first_wide span n l) (ltb limit (span / unit))
      (λ e. let h : limit < whole = rw w.parts (ltb-true limit (span / unit) e) in
      let next = climb_on c w y h in
      both_ways
      (λ (d : Bool).
      determine_actual_ns_per_point turns span (cond d (unit * l.base) unit) l.counts l.base n (cond d 0 (idx + 1))
      ≡ first_wide span n l)
      (eqb (idx + 1) size)
      (λ d. let end : suc idx ≡ size = rw (← add-one idx) (eqb-true (idx + 1) size d) in
      found turns (unit * l.base) (span / (unit * l.base)) (suc i) 0 (suc i) (omega arith) c.some
      (climb_next c (rw end at next)))
      (λ d. let x : suc idx < size = omega (arith, eqb-false (idx + 1) size d) in
      rw (← add-one idx) at (found turns unit whole before (suc idx) (suc i) (omega arith) x next)))
      (λ e. climb_step c w y (rw w.parts (ltb-false limit (span / unit) e)))

  determine_is : (turns : ℕ) → 16 < turns →
      determine_actual_ns_per_point turns span l.unit l.counts l.base n 0 ≡ first_wide span n l
  determine_is turns t = found turns l.unit (span / l.unit) 0 0 0 (omega arith) c.some (climb_start c)

-- ---- the choice
module _ (turns span n : ℕ) (s : Bool) (small : span < 2 ^ 63) (N : 1 ≤ n) (most : n ≤ 4096) (t : 19 ≤ turns) where
  module _ (p : ℕ) (is : p ≡ power_of span n) where
    by : (l : Ladder) → ladder_of p ≡ l → no_period p s ≡ false →
        Some (determine_actual_ns_per_point turns span l.unit l.counts l.base n 0) ≡ period_of span n s
    by l e f =
        let c : Climbable span n l = rw e at (chosen_ends span n most p is N small) in
        rw (determine_is c turns (omega arith)) (answers span n s p is f l e).0

    days_chosen : per_day ≤ p → s ≡ false → Some (days_from turns p span n) ≡ period_of span n s
    unfolding days_from
    days_chosen h e =
        choose (λ (x : ℕ). Some x ≡ period_of span n s) (ltb p ten_days)
        (λ a. by day_ladder (is_days p h (ltb-true p ten_days a)) (any_step p s e))
        (λ a. by (decimal_ladder ten_days) (is_longest p (ltb-false p ten_days a)) (any_step p s e))

    chosen : period_from turns p span n s ≡ period_of span n s
    unfolding period_from
    chosen =
        let found : Option ℕ → Type 0 = λ x. x ≡ period_of span n s in
        choose found (ltb p per_second)
        (λ a. let l = ltb-true p per_second a in by (decimal_ladder p) (is_decimal p l) (below_day p s (omega arith)))
        (λ a. let h = ltb-false p per_second a in
        choose found (ltb p per_hour)
        (λ b. let l = ltb-true p per_hour b in by second_ladder (is_seconds p h l) (below_day p s (omega arith)))
        (λ b. let h = ltb-false p per_hour b in
        choose found (ltb p per_day)
        (λ c. let l = ltb-true p per_day c in by hour_ladder (is_hours p h l) (below_day p s l))
        (λ c. let h = ltb-false p per_day c in
        choose found (not s)
        (λ d. days_chosen h (not-true s d))
        (λ d. (answers_none span n s p is (days_listed p s h (not-false s d))).0))))

  -- ---- the law, for any number of turns from 19 on
  pub period_same : compute_period_per_point turns span n s ≡ period_of span n s
  unfolding compute_period_per_point
  period_same = rw (exponent_same span n small N turns t) (chosen (power_of span n) refl)
