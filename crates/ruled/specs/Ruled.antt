-- The ticks of a date axis by a row of house rules, in document 02's words: 'every step-th day from start, or every step-th
-- first of a month or of a January from the first in the span'. Definitions only.
use Rattle.std.specs.Prelude.{ℕ, Bool, true, ◌&&◌, List, eqb}
use Rattle.calendar.specs.Gregorian.{date_of}
use Rattle.values.specs.declared.Value.{Value}
use Rattle.axis.specs.declared.Axis.{Axis}
use Rattle.keypoints.specs.Every.{days_on}
use Rattle.keypoints.specs.Weeks.{every}
use Rattle.rules.specs.declared.Unit.{Unit}
use Rattle.rules.specs.declared.Unit.TheVariants as unit

-- the first of a month
abbrev pub is_first : ℕ → Bool
is_first day = eqb (date_of day).day 1

-- the first of a January
abbrev pub is_new_year : ℕ → Bool
is_new_year day = is_first day && eqb (date_of day).month 1

-- a day of the unit: every day, the first of a month, or the first of a January
unfoldable pub is_of : Unit → ℕ → Bool
is_of unit.Day day = true
is_of unit.Month day = is_first day
is_of unit.Year day = is_new_year day

-- the ticks: the days of the unit in the span, both ends included, and of these every step-th from the first
unfoldable pub ruled_ticks : Unit → ℕ → Axis → List Value
ruled_ticks unit step a = every step (days_on (is_of unit) a)
