-- The months that begin on an axis, counted from 0001-01, and their lists: every month, quarter, half-year, or every few
-- years, each with the first month's number. The last month may be the one before the first. Definitions only.
use Rattle.std.specs.Prelude.{cond, ℕ, ◌+◌, ◌-◌, ◌*◌, ◌/◌, leb}
use Rattle.period.specs.Ladders.{first_fit}
use Rattle.axis.specs.declared.Axis.{Axis}
use Rattle.counting.specs.Counting.{from_day, to_day}
use Rattle.steps.specs.declared.Numbering.TheVariants as numbering
use Rattle.steps.specs.declared.Steps.{Steps}
use Rattle.steps.specs.Months.{month_of, whole_month}
use Rattle.steps.specs.Progression.{fitting}

-- the first whole month
unfoldable pub from_month : Axis → ℕ
from_month a = whole_month (from_day a)

-- the month of the last day
unfoldable pub to_month : Axis → ℕ
to_month a = month_of (to_day a)

-- t months from the first to the last, in years of which the last may be short: 1, 2, 5, 10, .. years
unfoldable pub year_step : ℕ → ℕ → ℕ
year_step t n = 12 * first_fit (t / 12 + 1) n

-- every month, quarter or half-year, else years
unfoldable pub month_step : ℕ → ℕ → ℕ
month_step t n = cond (leb t n) 1 (cond (leb t (n * 3)) 3 (cond (leb t (n * 6)) 6 (year_step t n)))

-- from the month m to the month e, which is included, k apart
abbrev pub months_by : ℕ → ℕ → ℕ → Steps
months_by m e k = record { numbering = numbering.Months; first = m; step = k; count = fitting (e + 1 - m) k }

-- the list of a monthly axis
unfoldable pub month_plan : Axis → ℕ → Steps
month_plan a n = months_by (from_month a) (to_month a) (month_step (to_month a - from_month a) n)

-- the list of a yearly axis
unfoldable pub year_plan : Axis → ℕ → Steps
year_plan a n = months_by (from_month a) (to_month a) (year_step (to_month a - from_month a) n)
