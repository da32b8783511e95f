-- Week dates of raw numbers: what is asked of them, and the answers. Definitions only.
use Rattle.std.specs.Prelude.{Bool, ◌&&◌, List, [], ◌∷◌, ℕ, ℤ, pos, leb, Result, Ok}
use Rattle.std.specs.Int.Signed.{le_z}
use Rattle.laws.specs.Numbers.{within, pos_part}
use Rattle.asking.specs.Asking.{Question, ask, asked}
use Rattle.asking.specs.declared.Refusal.{Refusal}
use Rattle.asking.specs.declared.Refusal.TheVariants as refusal
use Rattle.calendar.specs.Questions.{last_day, day_questions}
use Rattle.weeks.specs.Weeks.{weeks_of, week_day, week_date_of}
use Rattle.weeks.specs.declared.Ywd.{Ywd}
use Rattle.weeks.specs.declared.WeekDate.{WeekDate}

-- is the year 1 to 9999, the week one that it has, the weekday 1 to 7?
unfoldable pub is_week_date : Ywd → Bool
unfolding weeks_of
is_week_date t = within (pos 1) t.year (pos 9999)
    && (within (pos 1) t.week (pos (weeks_of (pos_part t.year))) && within (pos 1) t.weekday (pos 7))

-- the same, but for the weeks that the year has
unfoldable pub in_ranges : Ywd → Bool
in_ranges t = (within (pos 1) t.year (pos 9999) && le_z (pos 1) t.week) && within (pos 1) t.weekday (pos 7)

-- its day
abbrev pub day_of : Ywd → ℕ
day_of t = week_day (pos_part t.year) (pos_part t.week) (pos_part t.weekday)

-- is the day no later than 9999-12-31?
abbrev pub not_behind : ℕ → Bool
not_behind n = leb n last_day

-- what is asked of three numbers
abbrev pub week_questions : Ywd → List Question
week_questions t = ask refusal.WeekDate (is_week_date t) ∷ (ask refusal.Range (not_behind (day_of t)) ∷ [])

-- the day number of a year, week and weekday
unfoldable pub week_day_number : Ywd → Result ℕ Refusal
unfolding is_week_date week_day
week_day_number t = asked (week_questions t) (Ok (day_of t))

-- the week date of a day number
unfoldable pub week_date_at : ℤ → Result WeekDate Refusal
unfolding week_date_of
week_date_at n = asked (day_questions n) (Ok (week_date_of (pos_part n)))
