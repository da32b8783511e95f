-- The proleptic Gregorian calendar of ISO 8601, for the years from 1 on: leap years, the months' lengths, a date's day
-- number, which is 1 at 0001-01-01, the day that follows a date, and the date of a day number. Definitions only.
use Rattle.std.specs.Prelude.{ℕ, zero, suc, ◌+◌, ◌-◌, ◌%◌, ◌≤◌, Bool, not, ◌&&◌, ◌||◌, cond, List, [], ◌∷◌, get_or, eqb, ltb}
use Rattle.calendar.specs.declared.Date.{Date}

-- 4 divides a leap year, and 100 does not, unless 400 does
unfoldable pub leap : ℕ → Bool
leap y = eqb (y % 4) 0 && (not (eqb (y % 100) 0) || eqb (y % 400) 0)

-- 1 in a leap year and 0 in any other
unfoldable pub leap_day : ℕ → ℕ
unfolding leap
leap_day y = cond (leap y) 1 0

-- the months' lengths in a year that is no leap year
abbrev pub lengths : List ℕ
lengths = 31 ∷ 28 ∷ 31 ∷ 30 ∷ 31 ∷ 30 ∷ 31 ∷ 31 ∷ 30 ∷ 31 ∷ 30 ∷ 31 ∷ []

-- months count from 1, and 2 is February
unfoldable pub month_length : ℕ → ℕ → ℕ
unfolding leap_day
month_length y m = get_or lengths (m - 1) 0 + cond (eqb m 2) (leap_day y) 0

-- the first k months of the year y, in days
unfoldable pub months : ℕ → ℕ → ℕ
unfolding month_length
months y zero = 0
months y (suc k) = months y k + month_length y (suc k)

-- all twelve months
unfoldable pub year_length : ℕ → ℕ
unfolding months
year_length y = months y 12

-- the years 1 to k, in days
unfoldable pub years : ℕ → ℕ
unfolding year_length
years zero = 0
years (suc k) = years k + year_length (suc k)

-- the days of the years before, of the months before, and the day of the month
unfoldable pub day_number : ℕ → ℕ → ℕ → ℕ
unfolding years months
day_number y m d = years (y - 1) + months y (m - 1) + d

-- the year y has a month m, and that month a day d
pub record Real (y m d : ℕ) : Type 0 where
  pub year : 1 ≤ y
  pub month : 1 ≤ m
  pub last : m ≤ 12
  pub day : 1 ≤ d
  pub within : d ≤ month_length y m

-- a year, a month and a day as one
abbrev pub date : ℕ → ℕ → ℕ → Date
date y m d = record { year = y; month = m; day = d }

-- after the last day of a month comes the first of the next month, and after the last of December the first of January
unfoldable pub next_day : Date → Date
unfolding month_length
next_day t =
    cond (ltb t.day (month_length t.year t.month)) (date t.year t.month (t.day + 1))
    (cond (ltb t.month 12) (date t.year (t.month + 1) 1)
    (date (t.year + 1) 1 1))

-- k days after 0001-01-01
unfoldable pub days_later : ℕ → Date
unfolding next_day
days_later zero = date 1 1 1
days_later (suc k) = next_day (days_later k)

-- the date whose day number is n, for n from 1 on
unfoldable pub date_of : ℕ → Date
unfolding days_later
date_of n = days_later (n - 1)
