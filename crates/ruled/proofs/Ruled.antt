-- The ruled list of an axis is the list of its plan, and the plan is one that can be listed. Assumes nothing.
use mathlib.Core.Path.{◌≡◌, refl, sym, ap, ◌∙◌}
use mathlib.Core.Bool.{Bool, true}
use Prim.Native.Nat.{ℕ, ◌+◌, ◌-◌, ◌*◌, ◌/◌, ◌≤◌, ◌<◌}
use native.Mathlib.Nat.{div-one, mul-le-mul_left}
use native.Mathlib.Omega.{arith}
use lib.IntN.{pos}
use Rattle.axis.specs.declared.Axis.{Axis}
use Rattle.counting.specs.Counting.{Dated, from_day, to_day}
use Rattle.counting.proofs.Counting.{from_range, to_range}
use Rattle.steps.specs.Months.{first_day, whole_month}
use Rattle.steps.specs.Progression.{fitting, tick_of, values_of, ticks, Sound}
use Rattle.steps.proofs.Fitting.{few_steps}
use Rattle.steps.proofs.Demand.{Kept, kept_months, kept_even}
use Rattle.plans.specs.Days.{whole_heads}
use Rattle.plans.specs.Months.{from_month, to_month, months_by}
use Rattle.plans.proofs.Months.{last_month, first_most, last_most}
use Rattle.plans.proofs.Promise.{heads_tick}
use Rattle.keypoints.specs.Every.{days_on}
use Rattle.keypoints.specs.Weeks.{every}
use Rattle.keypoints.proofs.Loops.{values_same}
use Rattle.keypoints.proofs.Dates.{on}
use Rattle.keypoints.proofs.Every.{apart_fit, Moves, span_are}
use Rattle.keypoints.proofs.Weeks.{every_are}
use Rattle.rules.specs.declared.Unit.{Unit}
use Rattle.rules.specs.declared.Unit.TheVariants as unit
use Rattle.ruled.specs.Ruled.{is_first, is_new_year, is_of, ruled_ticks}
use Rattle.ruled.specs.Plans.{january, ruled_plan}
use Rattle.ruled.proofs.Units.{each_day, each_month, each_january, month_after}

module _ (a : Axis) (d : Dated a) where
  -- the days of a span that pass a test, of which it is known how the next moves
  days_on_law : (test : ℕ → Bool) (f next : ℕ → ℕ) → ((n : ℕ) → 1 ≤ n → n < 3652060 → Moves test f next n) →
      days_on test a ≡ values_of (λ i. on (f (next (from_day a) + i))) (next (to_day a + 1) - next (from_day a))
  unfolding days_on
  days_on_law test f next moves =
      let (p, q) = from_range a d in
      let (r, t) = to_range a d in
      span_are test f next 3652060 moves (from_day a) (to_day a) p q (omega arith)

  -- the first month after the last day is the one after its month
  after_last : whole_month (to_day a + 1) ≡ to_month a + 1
  after_last =
      let l = last_month a d in
      let (p, q) = to_range a d in
      month_after (to_month a) (to_day a) p (omega arith) l.begun l.going

  -- of these, every step-th
  module _ (step : ℕ) (h : 1 ≤ step) where
    by_days_law : every step (days_on (λ _. true) a) ≡ ticks (ruled_plan unit.Day step a)
    unfolding ruled_plan
    by_days_law =
        let s = ruled_plan unit.Day step a in
        let c = to_day a + 1 - from_day a in
        let z : to_day a + 1 - from_day a - 0 ≡ c = omega arith in
        rw (days_on_law (λ _. true) (λ i. i) (λ i. i) (λ n p q. each_day n), every_are step h (λ i. on (from_day a + i)) c, z)
        (values_same (λ i. on (from_day a + i * step)) (tick_of s) (fitting c step)
        (λ i l. ap on (omega arith) ∙ sym (heads_tick (pos (from_day a)) (0 + i * step))))

    by_months : every step (days_on is_first a) ≡ ticks (ruled_plan unit.Month step a)
    unfolding ruled_plan from_month
    by_months =
        let m = whole_month (from_day a) in
        rw (days_on_law is_first first_day whole_month each_month, after_last)
        (every_are step h (λ i. on (first_day (m + i))) (to_month a + 1 - m))

    by_januaries : every step (days_on is_new_year a) ≡ ticks (ruled_plan unit.Year step a)
    unfolding ruled_plan from_month
    by_januaries =
        let m = whole_month (from_day a) in
        let j = (m + 11) / 12 in
        let e = to_month a in
        let first : january m ≡ 12 * j = omega arith in
        let c : (e + 1 + 11) / 12 - j ≡ (e + 12 - 12 * j) / 12 = omega arith in
        rw (
          days_on_law is_new_year (λ i. first_day (12 * i)) (λ n. (whole_month n + 11) / 12) each_january,
          after_last,
          c,
          every_are step h (λ i. on (first_day (12 * (j + i)))) ((e + 12 - 12 * j) / 12),
          apart_fit (12 * j) e 12 step (omega arith),
          first,
        )
        (values_same (λ i. on (first_day (12 * (j + i * step)))) (λ i. on (first_day (12 * j + i * (12 * step))))
        (fitting (e + 1 - 12 * j) (12 * step)) (λ i l. ap (λ (x : ℕ). on (first_day x)) (omega arith)))

-- THE LAW, of every unit
pub ruled_same : (unit : Unit) (step : ℕ) (a : Axis) → Dated a → 1 ≤ step →
    ruled_ticks unit step a ≡ ticks (ruled_plan unit step a)
unfolding ruled_ticks is_of
ruled_same unit.Day step a d h = by_days_law a d step h
ruled_same unit.Month step a d h = by_months a d step h
ruled_same unit.Year step a d h = by_januaries a d step h

-- ---- the ranges in which a plan is listed
all_kept : (k room : ℕ) → 1 ≤ k → Kept k (fitting room k) room room
all_kept k room h = record {
  stride = h;
  all = refl;
  few = few_steps room k room h (omega (arith, mul-le-mul_left (room + 1) h));
}

module _ (a : Axis) (d : Dated a) where
  days_sound : (step : ℕ) → 1 ≤ step → step ≤ 1000 → Sound (ruled_plan unit.Day step a)
  unfolding ruled_plan
  days_sound step h l =
      let (p, q) = from_range a d in
      let (r, t) = to_range a d in
      let room = to_day a + 1 - from_day a - 0 in
      kept_even (whole_heads (pos (from_day a))) (ruled_plan unit.Day step a) room room (all_kept step room h)
      (omega arith) (omega arith) (omega arith)
      (rw (div-one step) (omega arith)) (rw (div-one (0 + room)) (omega arith))

  months_sound : (m k : ℕ) → m ≤ 119988 → 1 ≤ k → k ≤ 12000 → Sound (months_by m (to_month a) k)
  months_sound m k f p q =
      let room = to_month a + 1 - m in
      let top : m + room < 120000 = omega (arith, last_most a d) in
      kept_months (months_by m (to_month a) k) room room (all_kept k room p) top

pub ruled_sound : (unit : Unit) (step : ℕ) (a : Axis) → Dated a → 1 ≤ step → step ≤ 1000 → Sound (ruled_plan unit step a)
unfolding ruled_plan
ruled_sound unit.Day step a d h l = days_sound a d step h l
ruled_sound unit.Month step a d h l = months_sound a d (from_month a) step (first_most a d) h (omega arith)
ruled_sound unit.Year step a d h l =
    let f = first_most a d in
    months_sound a d (january (from_month a)) (12 * step) (omega arith) (omega arith) (omega arith)

-- what a plan of days knows of an axis, and one of months
pub ruleset days_of_axis = (from_range, to_range)

pub ruleset months_of_axis = (first_most, last_most)
