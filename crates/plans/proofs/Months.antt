-- The months of an axis: their ranges, the step of their lists by the code's tests, and that the step keeps the hint.
-- Assumes nothing.
use mathlib.Core.Path.{◌≡◌, refl}
use mathlib.Core.Logic.{inl, inr}
use Prim.Native.Nat.{ℕ, ◌+◌, ◌-◌, ◌*◌, ◌/◌, ◌≤◌, ◌<◌}
use native.Mathlib.Nat.{eq-or-lt_of_le}
use native.Mathlib.Decide.{dec_le}
use native.Mathlib.Omega.{arith}
use lib.Dec.{leb}
use borrow.Author.Tests.{leb-true}
use Rattle.calendar.specs.Gregorian.{day_number}
use Rattle.calendar.specs.Questions.{last_day}
use Rattle.calendar.proofs.Formulas.{years_closed}
use Rattle.calendar.proofs.Dates.{months_none}
use Rattle.axis.specs.declared.Axis.{Axis}
use Rattle.counting.specs.Counting.{Dated, from_day, to_day}
use Rattle.counting.proofs.Counting.{from_range, to_range}
use Rattle.period.specs.Ladders.{first_fit}
use Rattle.period.proofs.Fits.{fit_above, fit_most, fit_room}
use Rattle.steps.specs.Months.{first_day, month_of, whole_month, InMonth, FromMonth}
use Rattle.steps.specs.Progression.{fitting}
use Rattle.steps.proofs.Months.{first_days, in_month, from_month_law}
use Rattle.steps.proofs.Fitting.{few_steps}
use Rattle.steps.proofs.Demand.{Kept}
use Rattle.plans.specs.Months.{from_month, to_month, year_step, month_step, months_by, month_plan, year_plan}
use Rattle.plans.proofs.Cases.{choose}

-- ---- the months of the years 1 to 9999, and the one after them
after_last : first_day 119988 ≡ last_day + 1
unfolding first_day day_number
after_last = omega (arith, years_closed 24 399 (omega arith), months_none 10000)

-- a month that begins by the day after the last is one of them
month_most : (m : ℕ) → first_day m ≤ last_day + 1 → m ≤ 119988
month_most m h = elim (dec_le m 119988) [ yes l ↦ l | no l ↦ absurd (clash (first_days 119988 m (omega arith))) ]
  where
    clash : first_day 119988 < first_day m → ⊥
    clash g = omega (arith, after_last)

module _ (a : Axis) (d : Dated a) where
  pub last_month : InMonth (to_month a) (to_day a)
  unfolding to_month
  last_month = let (p, q) = to_range a d in in_month (to_day a) p (omega arith)

  pub first_month : FromMonth (from_month a) (from_day a)
  unfolding from_month
  first_month = let (p, q) = from_range a d in from_month_law (from_day a) p (omega arith)

  pub last_most : to_month a < 119988
  last_most =
      let (p, q) = to_range a d in
      elim (eq-or-lt_of_le (month_most (to_month a) (omega (arith, last_month.begun)))) [
        | inl e ↦ absurd (clash (rw e at last_month.begun))
        | inr l ↦ l
      ]
    where
      clash : first_day 119988 ≤ to_day a → ⊥
      clash g = omega (arith, after_last, (to_range a d).1)

  pub first_most : from_month a ≤ 119988
  first_most =
      elim (dec_le (from_month a) 119988) [
        | yes l ↦ l
        | no l ↦ absurd (clash (first_month.first 119988 (omega arith)))
      ]
    where
      clash : first_day 119988 < from_day a → ⊥
      clash g = omega (arith, after_last, (from_range a d).1)

-- ---- a step k of months keeps the hint for t months and one more
abbrev pub Wide : ℕ → ℕ → ℕ → Type 0
Wide t n k = (0 < k) × (t + 1 ≤ (n + 1) * k) × (k ≤ 120000000)

module _ (t n : ℕ) where
  pub year_wide : t < 120000 → Wide t n (year_step t n)
  unfolding year_step
  year_wide h =
      let f = first_fit (t / 12 + 1) n in
      let p : 0 < f = fit_above (t / 12 + 1) n in
      let q : t / 12 + 1 < (n + 1) * f = fit_room (t / 12 + 1) n (omega arith) in
      (omega arith, omega arith, omega (arith, fit_most (t / 12 + 1) n))

  pub month_wide : t < 120000 → Wide t n (month_step t n)
  unfolding month_step
  month_wide h =
      choose (Wide t n) (leb t n) (λ e. (omega arith, omega (arith, leb-true t n e), omega arith))
      (λ _. choose (Wide t n) (leb t (n * 3)) (λ e. (omega arith, omega (arith, leb-true t (n * 3) e), omega arith))
      (λ _. choose (Wide t n) (leb t (n * 6)) (λ e. (omega arith, omega (arith, leb-true t (n * 6) e), omega arith))
      (λ _. year_wide h)))

pub months_kept : (m e n k : ℕ) → Wide (e - m) n k → Kept k (fitting (e + 1 - m) k) n (e + 1 - m)
months_kept m e n k w =
    let room : e + 1 - m ≤ (n + 1) * k = omega (arith, w.0, w.1) in
    record { stride = w.0; all = refl; few = few_steps (e + 1 - m) k n w.0 room }

-- ---- what the plans of months and of years know: few months, and steps above 0
pub few_months : (a : Axis) → Dated a → to_month a - from_month a < 120000
few_months a d = omega (arith, last_most a d)

pub month_above : (t n : ℕ) → t < 120000 → 0 < month_step t n
month_above t n h = (month_wide t n h).0

pub year_above : (t n : ℕ) → t < 120000 → 0 < year_step t n
year_above t n h = (year_wide t n h).0

-- and the months that they list
pub month_plan_is : (a : Axis) (n : ℕ) →
    months_by (from_month a) (to_month a) (month_step (to_month a - from_month a) n) ≡ month_plan a n
unfolding month_plan
month_plan_is a n = refl

pub year_plan_is : (a : Axis) (n : ℕ) →
    months_by (from_month a) (to_month a) (year_step (to_month a - from_month a) n) ≡ year_plan a n
unfolding year_plan
year_plan_is a n = refl

-- ---- what the months of an axis know
pub from_month_is : (a : Axis) → whole_month (from_day a) ≡ from_month a
unfolding from_month
from_month_is a = refl

pub to_month_is : (a : Axis) → month_of (to_day a) ≡ to_month a
unfolding to_month
to_month_is a = refl

pub ruleset months_of_axis = (from_range, to_range, from_month_is, to_month_is)
