-- The list of the days of an axis over dates or date-times: every day, every week or every few weeks, the last day
-- included. Definitions only.
use Rattle.std.specs.Prelude.{cond, ◌&&◌, ℕ, ◌+◌, ◌-◌, ◌*◌, ◌/◌, min, eqb, ltb, leb, ℤ, pos}
use Rattle.floats.specs.Rounding.{ceil_of}
use Rattle.axis.specs.declared.Axis.{Axis}
use Rattle.counting.specs.Counting.{from_day, to_day}
use Rattle.steps.specs.declared.Heads.{Heads}
use Rattle.steps.specs.declared.Numbering.TheVariants as numbering
use Rattle.steps.specs.declared.Steps.{Steps}
use Rattle.steps.specs.Progression.{fitting}
use Rattle.plans.specs.declared.Even.{Even}

-- each number is a head, from base on
abbrev pub whole_heads : ℤ → Heads
whole_heads base = record { base = base; per = 1 }

-- all the ticks before the end
abbrev pub evenly : Even → Steps
evenly e =
    record {
      numbering = numbering.Even e.heads;
      first = e.first;
      step = e.step;
      count = fitting (e.end - e.first) e.step;
    }

-- d days to the last: every day, if they are at most n; else every week; else, within a week, the first day alone; else
-- every few weeks, of which w + 1 are as good as more
unfoldable pub date_step : ℕ → ℕ → ℕ
date_step d n =
    cond (ltb 0 d && leb d n) 1
    (cond (ltb 0 (d / 7) && leb (d / 7) n) 7
    (cond (eqb (d / 7) 0) 7
    (7 * min (ceil_of (d / 7) n) (d / 7 + 1))))

-- the days from a first day on, of which the last is d later
abbrev pub days_by : ℕ → ℕ → ℕ → Steps
days_by from d n = evenly (record { heads = whole_heads (pos from); first = 0; end = d + 1; step = date_step d n })

-- the list of an axis by days
unfoldable pub day_plan : Axis → ℕ → Steps
day_plan a n = days_by (from_day a) (to_day a - from_day a) n
