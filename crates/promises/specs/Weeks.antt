-- Week dates: what is claimed of the two calls, and a second table of settled examples, said of the numbers that C gets. And
-- what one may not expect of a week axis. Definitions only.
use Rattle.std.specs.Prelude.{◌≡◌, Bool, true, cond, ◌&&◌, ◌||◌, List, [], ◌∷◌, ◌++◌, ℕ, ◌≤◌, eqb, leb, ℤ, pos, ◌+ℤ◌, ◌-ℤ◌}
use Rattle.std.specs.Prelude.{Some, Ok}
use Rattle.laws.specs.Numbers.{pos_part}
use Rattle.calendar.specs.Gregorian.{leap, day_number}
use Rattle.calendar.specs.Questions.{is_day, number_of}
use Rattle.weeks.specs.declared.Ywd.{Ywd}
use Rattle.weeks.specs.Weeks.{weekday}
use Rattle.weeks.specs.Questions.{week_day_number, week_date_at}
use Rattle.values.specs.declared.Value.{Value}
use Rattle.axis.specs.declared.Axis.{Axis}
use Rattle.counting.specs.Counting.{weekly}
use Rattle.discrete.specs.Answers.{index_answer, from_index_answer}
use Rattle.ordered.specs.declared.OrderedNumber.{OrderedNumber}
use Rattle.ordered.specs.declared.OrderedWeekDate.{OrderedWeekDate}
use Rattle.ordered.specs.Replies.{number_reply, week_reply}
use Rattle.promises.specs.Examples.{count_numbers, ymd, Example}

-- a year, a week and a weekday
abbrev pub ywd : ℤ → ℤ → ℤ → Ywd
ywd y w d = record { year = y; week = w; weekday = d }

-- what `ordered_week_day_number` answers
abbrev pub day_of_week_date : ℤ → ℤ → ℤ → OrderedNumber
day_of_week_date y w d = number_reply (week_day_number (ywd y w d))

-- what `ordered_week_date_of` answers
abbrev pub week_date_of_day : ℤ → OrderedWeekDate
week_date_of_day n = week_reply (week_date_at n)

-- no refusal, and the day n
abbrev pub a_day : ℤ → OrderedNumber
a_day n = record { status = pos 0; value = n }

-- no refusal, and a year, a week and a weekday
abbrev pub a_week_date : ℤ → ℤ → ℤ → OrderedWeekDate
a_week_date y w d = record { status = pos 0; year = y; week = w; weekday = d }

-- ---- both ways
-- the week date that is answered for a day has that day
abbrev pub DayAndBack : Type 0
DayAndBack = (n y w d : ℤ) → week_date_of_day n ≡ a_week_date y w d → day_of_week_date y w d ≡ a_day n

-- and the day that is answered for a week date has that week date
abbrev pub WeekAndBack : Type 0
WeekAndBack = (n y w d : ℤ) → day_of_week_date y w d ≡ a_day n → week_date_of_day n ≡ a_week_date y w d

-- each day has a week date, and exactly one: any that answers the day is that one
pub record OneWeekDate (n : ℤ) : Type 0 where
  pub year : ℤ
  pub week : ℤ
  pub weekday : ℤ
  pub has : week_date_of_day n ≡ a_week_date year week weekday
  pub only : (y w d : ℤ) → day_of_week_date y w d ≡ a_day n → (y ≡ year) × (w ≡ week) × (d ≡ weekday)

-- every day number
abbrev pub EachDay : Type 0
EachDay = (n : ℤ) → is_day n ≡ true → OneWeekDate n

-- the Monday of a day's week is so many days before it
abbrev pub MondayOfWeek : Type 0
MondayOfWeek =
    (n y w d : ℤ) → week_date_of_day n ≡ a_week_date y w d → day_of_week_date y w (pos 1) ≡ a_day (n +ℤ pos 1 -ℤ d)

-- the year begins on a Thursday, or is a leap year and begins on a Wednesday
abbrev pub is_long : ℕ → Bool
is_long y = let begins = weekday (day_number y 1 1) in eqb begins 4 || (leap y && eqb begins 3)

-- just then its weeks are 1 to 53, and else 1 to 52: the Mondays of these are answered, and those of all others refused
abbrev pub WeeksOfYear : Type 0
WeeksOfYear = (y w : ℕ) → 1 ≤ y → y ≤ 9999 →
    (day_of_week_date (pos y) (pos w) (pos 1)).status ≡ pos (cond (leb 1 w && leb w (cond (is_long y) 53 52)) 0 13)

-- ---- what one may not expect of a week axis: each is false, by one input
-- 'the value of a date's index is that date', as on kind 1
abbrev pub IndexInverts : Type 0
IndexInverts =
    (a : Axis) (v w : Value) (i : ℕ) → weekly a ≡ true
    → index_answer a v ≡ Ok (Some i) → from_index_answer a (pos i) ≡ Ok w → w ≡ v

-- 'every index gives a Monday'
abbrev pub AlwaysMondays : Type 0
AlwaysMondays =
    (a : Axis) (w : Value) (i : ℕ) → weekly a ≡ true
    → from_index_answer a (pos i) ≡ Ok w → weekday (pos_part w.head) ≡ 1

-- ---- settled examples
abbrev pub week_numbers : OrderedWeekDate → List ℤ
week_numbers r = r.status ∷ (r.year ∷ (r.week ∷ (r.weekday ∷ [])))

-- the date y-m-d, its day n, and its week date, both ways
abbrev pub is_week : ℕ → ℕ → ℕ → ℕ → ℕ → ℕ → ℕ → Example
is_week y m d n wy w wd =
    record {
      answer = count_numbers (number_reply (number_of (ymd y m d)))
          ++ week_numbers (week_date_of_day (pos n))
          ++ count_numbers (day_of_week_date (pos wy) (pos w) (pos wd));
      settled = pos 0 ∷ (pos n ∷ (pos 0 ∷ (pos wy ∷ (pos w ∷ (pos wd ∷ (pos 0 ∷ (pos n ∷ [])))))));
    }

-- a week date that gets the number q
abbrev pub is_refused : ℕ → ℕ → ℕ → ℕ → Example
is_refused y w d q = record { answer = count_numbers (day_of_week_date (pos y) (pos w) (pos d)); settled = pos q ∷ (pos 0 ∷ []) }

-- 1977-01-01 is 1976-W53-6, and so on; 9999-W52-6 is behind the calendar, and 2021 and 9999 have no week 53
abbrev pub week_table : List Example
week_table =
    is_week 1977 1 1 721720 1976 53 6
    ∷ (is_week 2008 12 29 733405 2009 1 1
    ∷ (is_week 2010 1 3 733775 2009 53 7
    ∷ (is_week 2020 12 31 737790 2020 53 4
    ∷ (is_week 9999 12 31 3652059 9999 52 5
    ∷ (is_refused 9999 52 6 10
    ∷ (is_refused 2021 53 1 13
    ∷ (is_refused 9999 53 1 13
    ∷ [])))))))
