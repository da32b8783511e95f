-- The week dates of ISO 8601. A week goes from Monday to Sunday and belongs to the year that has its Thursday; week 1 has
-- the year's first Thursday. Days are the calendar's day numbers, from 1 on. Definitions only.
use Rattle.std.specs.Prelude.{ℕ, zero, suc, ◌+◌, ◌-◌, ◌*◌, ◌%◌, ◌≤◌, cond, eqb}
use Rattle.calendar.specs.Gregorian.{years, date_of}
use Rattle.weeks.specs.declared.WeekDate.{WeekDate}

-- 1 is Monday and 7 Sunday; day 1, 0001-01-01, is a Monday
unfoldable pub weekday : ℕ → ℕ
weekday n = (n - 1) % 7 + 1

-- the Monday on or before a day
unfoldable pub monday : ℕ → ℕ
unfolding weekday
monday n = n + 1 - weekday n

-- the Thursday of a day's week
unfoldable pub thursday : ℕ → ℕ
unfolding monday
thursday n = monday n + 3

-- how many of the k days after the day a have the weekday d
unfoldable pub counted : ℕ → ℕ → ℕ → ℕ
unfolding weekday
counted d a zero = 0
counted d a (suc k) = counted d a k + cond (eqb (weekday (a + suc k)) d) 1 0

-- the first day from n on with the weekday d, looked for on k days and the one after them
unfoldable pub day_from : ℕ → ℕ → ℕ → ℕ
unfolding weekday
day_from d zero n = n
day_from d (suc k) n = cond (eqb (weekday n) d) n (day_from d k (n + 1))

-- ---- the week date of a day
-- the year of its week
unfoldable pub week_year : ℕ → ℕ
unfolding thursday
week_year n = (date_of (thursday n)).year

-- the Thursdays of the year y up to the day n
unfoldable pub thursdays : ℕ → ℕ → ℕ
unfolding counted
thursdays y n = counted 4 (years (y - 1)) (n - years (y - 1))

-- the number of its week
unfoldable pub week_number : ℕ → ℕ
unfolding week_year thursdays
week_number n = thursdays (week_year n) (thursday n)

-- a year, a week and a weekday as one
abbrev pub week_date : ℕ → ℕ → ℕ → WeekDate
week_date y w d = record { year = y; week = w; weekday = d }

-- all three
unfoldable pub week_date_of : ℕ → WeekDate
unfolding week_year week_number weekday
week_date_of n = week_date (week_year n) (week_number n) (weekday n)

-- ---- the day of a week date
-- the weeks that a year has: all its Thursdays
unfoldable pub weeks_of : ℕ → ℕ
unfolding thursdays
weeks_of y = thursdays y (years y)

-- the first Thursday of the year y
unfoldable pub first_thursday : ℕ → ℕ
unfolding day_from
first_thursday y = day_from 4 6 (years (y - 1) + 1)

-- week 1 has the first Thursday, and a week's Monday is 3 days before its Thursday
unfoldable pub week_day : ℕ → ℕ → ℕ → ℕ
unfolding first_thursday
week_day y w d = first_thursday y + 7 * (w - 1) - 3 + (d - 1)

-- the year y has a week w, and a week a weekday d
pub record InWeeks (y w d : ℕ) : Type 0 where
  pub year : 1 ≤ y
  pub week : 1 ≤ w
  pub last : w ≤ weeks_of y
  pub day : 1 ≤ d
  pub within : d ≤ 7

-- ---- Mondays
-- how many there are up to a day
unfoldable pub mondays_to : ℕ → ℕ
unfolding counted
mondays_to n = counted 1 0 n

-- the first from a day on
unfoldable pub first_monday : ℕ → ℕ
unfolding day_from
first_monday n = day_from 1 6 n
