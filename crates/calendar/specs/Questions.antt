-- The calendar's operations on raw numbers: what is asked of them, and the answers. Definitions only.
use Rattle.std.specs.Prelude.{Bool, ◌&&◌, List, [], ◌∷◌, ℕ, ℤ, pos, Result, Ok}
use Rattle.std.specs.Int.Signed.{le_z}
use Rattle.laws.specs.Numbers.{within, pos_part}
use Rattle.asking.specs.Asking.{Question, ask, asked}
use Rattle.asking.specs.declared.Refusal.{Refusal}
use Rattle.asking.specs.declared.Refusal.TheVariants as refusal
use Rattle.calendar.specs.Gregorian.{month_length, day_number, date_of}
use Rattle.calendar.specs.declared.Ymd.{Ymd}
use Rattle.calendar.specs.declared.Date.{Date}

-- a real date of the years 1 to 9999
unfoldable pub is_date : ℤ → ℤ → ℤ → Bool
unfolding month_length
is_date y m d = within (pos 1) y (pos 9999)
    && (within (pos 1) m (pos 12) && within (pos 1) d (pos (month_length (pos_part y) (pos_part m))))

-- the same, but for the month's length
unfoldable pub in_ranges : Ymd → Bool
in_ranges t = (within (pos 1) t.year (pos 9999) && within (pos 1) t.month (pos 12)) && le_z (pos 1) t.day

-- 9999-12-31
abbrev pub last_day : ℕ
last_day = 3652059

-- a day of these years
abbrev pub is_day : ℤ → Bool
is_day n = within (pos 1) n (pos last_day)

-- what is asked of three numbers
abbrev pub date_questions : ℤ → ℤ → ℤ → List Question
date_questions y m d = ask refusal.Value (is_date y m d) ∷ []

-- what is asked of a day number
abbrev pub day_questions : ℤ → List Question
day_questions n = ask refusal.Value (is_day n) ∷ []

-- the day number of a year, month and day
unfoldable pub number_of : Ymd → Result ℕ Refusal
unfolding is_date day_number
number_of t = asked (date_questions t.year t.month t.day) (Ok (day_number (pos_part t.year) (pos_part t.month) (pos_part t.day)))

-- the date of a day number
unfoldable pub date_at : ℤ → Result Date Refusal
unfolding date_of
date_at n = asked (day_questions n) (Ok (date_of (pos_part n)))
