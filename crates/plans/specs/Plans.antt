-- The list of each kind, as a progression. Definitions only.
use Rattle.std.specs.Prelude.{◌≡◌, true, false, cond, ℕ, ◌≤◌, Option, Some, None}
use Rattle.values.specs.declared.Kind.{Kind}
use Rattle.values.specs.declared.Kind.TheVariants as kind
use Rattle.values.specs.Values.{over_dates, is_duration}
use Rattle.axis.specs.declared.Axis.{Axis}
use Rattle.axis.specs.Questions.{ends, in_order, near_or_long}
use Rattle.steps.specs.declared.Steps.{Steps}
use Rattle.plans.specs.Days.{day_plan}
use Rattle.plans.specs.Weeks.{week_plan}
use Rattle.plans.specs.Months.{month_plan, year_plan}
use Rattle.plans.specs.Times.{period_in, time_plan, span_days_plan}

-- an axis and a hint n that the questions accept
pub record Accepted (a : Axis) (n : ℕ) : Type 0 where
  pub real : ends a ≡ true
  pub order : in_order a ≡ true
  pub near : near_or_long a ≡ true
  pub most : n ≤ 4096
  pub some : over_dates a.kind ≡ false → 1 ≤ n

-- ---- at most n + 1 ticks
-- kinds 4 and 7, where there is a period and where days are listed
abbrev pub plan_by : Axis → ℕ → Option ℕ → Steps
plan_by a n (Some k) = time_plan a k
plan_by a n None = cond (is_duration a.kind) (span_days_plan a n) (day_plan a n)

-- by the period that there is
unfoldable pub period_plan : Axis → ℕ → Steps
period_plan a n = plan_by a n (period_in a n)

-- by the kind; what is none is as kind 4, and question 1 lets none of it pass
abbrev pub plan_of_kind : Kind → Axis → ℕ → Steps
plan_of_kind kind.Date a n = day_plan a n
plan_of_kind kind.Month a n = month_plan a n
plan_of_kind kind.Year a n = year_plan a n
plan_of_kind kind.Stamp a n = period_plan a n
plan_of_kind kind.StampMonth a n = month_plan a n
plan_of_kind kind.StampYear a n = year_plan a n
plan_of_kind kind.Span a n = period_plan a n
plan_of_kind kind.Week a n = week_plan a n
plan_of_kind kind.Unknown a n = period_plan a n

-- of an axis
unfoldable pub plan_of : Axis → ℕ → Steps
plan_of a n = plan_of_kind a.kind a n
