-- How an axis counts: days on kind 1, months on 2 and 5, years on 3 and 6, Mondays on 8. Its first and its last day,
-- where a value stands, and how many indices it has. Definitions only.
-- A difference of counts is 0 where the Rust takes the larger of it and 0.
use Rattle.std.specs.Prelude.{◌≡◌, Bool, true, false, cond, ℕ, ◌+◌, ◌-◌, ◌*◌, ℤ, pos, ◌+ℤ◌, ◌-ℤ◌, ◌*ℤ◌}
use Rattle.std.specs.Int.Signed.{le_z}
use Rattle.laws.specs.Numbers.{minus, pos_part, as_u64}
use Rattle.calendar.specs.declared.Date.{Date}
use Rattle.calendar.specs.declared.DateTime.{DateTime}
use Rattle.calendar.specs.Gregorian.{date_of}
use Rattle.calendar.specs.DateTimes.{date_floor, date_ceil}
use Rattle.weeks.specs.Weeks.{mondays_to}
use Rattle.values.specs.declared.Kind.{Kind}
use Rattle.values.specs.declared.Kind.TheVariants as kind
use Rattle.values.specs.declared.Value.{Value}
use Rattle.values.specs.Values.{is_duration}
use Rattle.axis.specs.declared.Axis.{Axis}
use Rattle.axis.specs.Questions.{ends}

-- an axis over dates or date-times, of which question 3 is answered
pub record Dated (a : Axis) : Type 0 where
  pub real : ends a ≡ true
  pub dates : is_duration a.kind ≡ false

-- months are counted
abbrev pub counts_months : Kind → Bool
counts_months kind.Month = true
counts_months kind.StampMonth = true
counts_months k = false

unfoldable pub monthly : Axis → Bool
monthly a = counts_months a.kind

-- years are counted
abbrev pub counts_years : Kind → Bool
counts_years kind.Year = true
counts_years kind.StampYear = true
counts_years k = false

unfoldable pub yearly : Axis → Bool
yearly a = counts_years a.kind

-- weeks are counted, by their Mondays
abbrev pub counts_weeks : Kind → Bool
counts_weeks kind.Week = true
counts_weeks k = false

unfoldable pub weekly : Axis → Bool
weekly a = counts_weeks a.kind

-- a date is the midnight of its day
abbrev pub date_time : Value → DateTime
date_time v = record { day = pos_part v.head; nano = pos_part v.tail }

-- date_ceil of the start, which may be 10000-01-01
unfoldable pub from_day : Axis → ℕ
from_day a = date_ceil (date_time a.start)

-- date_floor of the end
unfoldable pub to_day : Axis → ℕ
to_day a = date_floor (date_time a.end)

-- the date from which months and years are counted
unfoldable pub first_date : Axis → Date
first_date a = date_of (from_day a)

-- the date of a value's date_floor
unfoldable pub date_on : Value → Date
date_on v = date_of (date_floor (date_time v))

-- where the count begins
unfoldable pub origin : Axis → ℕ
origin a =
    cond (monthly a) (first_date a).month
    (cond (yearly a) (first_date a).year
    (cond (weekly a) (mondays_to (pos_part a.start.head))
    (pos_part a.start.head)))

-- where a value stands. Months count from the first date's year on, and an earlier year counts as that year. A week is
-- counted by the Monday on or before a date
unfoldable pub position : Axis → Value → ℕ
position a v =
    cond (monthly a) (12 * ((date_on v).year - (first_date a).year) + (date_on v).month)
    (cond (yearly a) (date_on v).year
    (cond (weekly a) (mondays_to (pos_part v.head))
    (pos_part v.head)))

-- ---- size(), as the Rust has it; where the first date lies behind the end, it may be 0
-- x.max(y)
abbrev pub larger : ℤ → ℤ → ℤ
larger x y = cond (le_z x y) y x

-- RangedDate, Yearly by years, and weeks by Mondays: ((end - start).max(-1) + 1) as usize
abbrev pub size_from : ℕ → ℕ → ℕ
size_from from to = as_u64 (larger (pos to -ℤ pos from) (minus 1) +ℤ pos 1)

-- Monthly: ((end_year - start_year).max(0) * 12 + (1 - start_month as i32) + (end_month as i32 - 1) + 1).max(0) as usize
abbrev pub month_size : Date → Date → ℕ
month_size s e =
    let years = larger (pos e.year -ℤ pos s.year) (pos 0) in
    as_u64 (larger (years *ℤ pos 12 +ℤ (pos 1 -ℤ pos s.month) +ℤ (pos e.month -ℤ pos 1) +ℤ pos 1) (pos 0))

-- by days, months, years or weeks
unfoldable pub size_of : Axis → ℕ
size_of a =
    cond (monthly a) (month_size (first_date a) (date_on a.end))
    (cond (yearly a) (size_from (first_date a).year (date_on a.end).year)
    (cond (weekly a) (size_from (mondays_to (pos_part a.start.head)) (mondays_to (pos_part a.end.head)))
    (size_from (pos_part a.start.head) (pos_part a.end.head))))
