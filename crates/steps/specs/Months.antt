-- Months in a row, counted from 0001-01, which is 0: the first day of each, the month of a day, and the first month that
-- begins no earlier than a day. Definitions only.
use Rattle.std.specs.Prelude.{ℕ, ◌+◌, ◌-◌, ◌*◌, ◌/◌, ◌%◌, ◌≤◌, ◌<◌, cond, ltb}
use Rattle.calendar.specs.Gregorian.{day_number, date_of}

-- a day number
unfoldable pub first_day : ℕ → ℕ
first_day m = day_number (m / 12 + 1) (m % 12 + 1) 1

-- the month m of the year y
abbrev pub month_number : ℕ → ℕ → ℕ
month_number y m = 12 * (y - 1) + (m - 1)

-- the month of a day
unfoldable pub month_of : ℕ → ℕ
month_of day = month_number (date_of day).year (date_of day).month

-- the month of the day where that is its first, else the next month
unfoldable pub whole_month : ℕ → ℕ
unfolding month_of
whole_month day = month_of day + cond (ltb 1 (date_of day).day) 1 0

-- the month m has the day
pub record InMonth (m day : ℕ) : Type 0 where
  pub begun : first_day m ≤ day
  pub going : day < first_day (m + 1)
  pub known : m < 120000

-- the month m is the first that begins no earlier than the day
pub record FromMonth (m day : ℕ) : Type 0 where
  pub ahead : day ≤ first_day m
  pub first : (k : ℕ) → k < m → first_day k < day
