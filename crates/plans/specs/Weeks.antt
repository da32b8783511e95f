-- The list of the Mondays of a week axis: every Monday, or every few weeks from the first. Definitions only.
use Rattle.std.specs.Prelude.{ℕ, ◌+◌, ◌-◌, ◌*◌, ◌/◌, pos}
use Rattle.weeks.specs.Weeks.{first_monday}
use Rattle.axis.specs.declared.Axis.{Axis}
use Rattle.counting.specs.Counting.{from_day, to_day}
use Rattle.steps.specs.declared.Steps.{Steps}
use Rattle.plans.specs.Days.{whole_heads, evenly}

-- the least step with which c Mondays are at most n + 1 ticks, in weeks
unfoldable pub week_step : ℕ → ℕ → ℕ
week_step c n = (c - 1) / (n + 1) + 1

-- from the Monday f to the day e; none where f is later
abbrev pub weeks_by : ℕ → ℕ → ℕ → Steps
weeks_by f e n =
    evenly (record { heads = whole_heads (pos f); first = 0; end = e + 1 - f; step = 7 * week_step ((e + 7 - f) / 7) n })

-- the list of a week axis
unfoldable pub week_plan : Axis → ℕ → Steps
week_plan a n = weeks_by (first_monday (from_day a)) (to_day a) n
