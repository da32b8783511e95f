-- The questions in the code's order, what a yes says, and the answers: the two operations undo each other, and the ranges
-- of what they answer. Assumes nothing.
use mathlib.Core.Path.{◌≡◌, refl, sym, ◌∙◌, ap, subst}
use mathlib.Core.Bool.{Bool, true, false, ◌&&◌, true≢false}
use Prim.Native.Nat.{ℕ, ◌≤◌}
use native.Mathlib.Omega.{arith}
use lib.IntN.{ℤ, pos}
use borrow.Author.Tests.{leb-true, le-leb}
use lib.Signed.{lt_z, le_z}
use Rattle.std.specs.Prelude.{Ok}
use Rattle.laws.specs.Numbers.{within, pos_part}
use Rattle.laws.proofs.Tests.{both_true}
use Rattle.asking.proofs.Asked.{told, answered_ok}
use Rattle.calendar.specs.Questions.{is_day, day_questions}
use Rattle.calendar.proofs.Dates.{years_most}
use Rattle.calendar.proofs.Questions.{least, most, day_range, day_in}
use Rattle.weeks.specs.declared.Ywd.{Ywd}
use Rattle.weeks.specs.declared.WeekDate.{WeekDate}
use Rattle.weeks.specs.Weeks.{week_year, weeks_of, week_date, week_date_of, InWeeks, week_day}
use Rattle.weeks.specs.Questions.{is_week_date, in_ranges, day_of, week_questions, week_day_number, week_date_at}
use Rattle.weeks.proofs.Weeks.{in_weeks, week_year_most, day_back, n_first, week_back, weeks_range, monday_most}

-- ---- three numbers in their ranges
pub out_of_ranges : (t : Ywd) → in_ranges t ≡ false → is_week_date t ≡ false
unfolding is_week_date in_ranges
out_of_ranges t e = go (within (pos 1) t.year (pos 9999)) (le_z (pos 1) t.week) _ (within (pos 1) t.weekday (pos 7)) e
  where
    go : (a b r c : Bool) → (a && b) && c ≡ false → a && ((b && r) && c) ≡ false
    go false b r c e = refl
    go true false r c e = refl
    go true true true c e = e
    go true true false c e = refl

pub record Ranges (t : Ywd) : Type 0 where
  pub year_count : lt_z t.year (pos 0) ≡ false
  pub week_count : lt_z t.week (pos 0) ≡ false
  pub weekday_count : lt_z t.weekday (pos 0) ≡ false
  pub year_is : pos (pos_part t.year) ≡ t.year
  pub week_is : pos (pos_part t.week) ≡ t.week
  pub weekday_is : pos (pos_part t.weekday) ≡ t.weekday
  pub year_first : 1 ≤ pos_part t.year
  pub year_last : pos_part t.year ≤ 9999
  pub week_first : 1 ≤ pos_part t.week
  pub weekday_first : 1 ≤ pos_part t.weekday
  -- only the year's weeks are left to ask
  pub asks : is_week_date t ≡ le_z t.week (pos (weeks_of (pos_part t.year)))

pub ranges : (t : Ywd) → in_ranges t ≡ true → Ranges t
unfolding in_ranges is_week_date
ranges t e =
    let (yw, d) = both_true _ _ e in
    let (y, w) = both_true _ _ yw in
    let (y1, y2) = both_true _ _ y in
    let (d1, d2) = both_true _ _ d in
    record {
      year_count = (least t.year y1).0;
      week_count = (least t.week w).0;
      weekday_count = (least t.weekday d1).0;
      year_is = (least t.year y1).1.0;
      week_is = (least t.week w).1.0;
      weekday_is = (least t.weekday d1).1.0;
      year_first = (least t.year y1).1.1;
      year_last = most t.year 9999 y1 y2;
      week_first = (least t.week w).1.1;
      weekday_first = (least t.weekday d1).1.1;
      asks = left _ _ (le_z t.week (pos (weeks_of (pos_part t.year)))) _ y w d;
    }
  where
    left : (a b r c : Bool) → a ≡ true → b ≡ true → c ≡ true → a && ((b && r) && c) ≡ r
    left true true true true p q s = refl
    left true true false true p q s = refl
    left false b r c p q s = cc
    left true false r c p q s = cc
    left true true r false p q s = cc

-- a yes: the year has the week
pub is_in_weeks : (t : Ywd) → is_week_date t ≡ true →
    InWeeks (pos_part t.year) (pos_part t.week) (pos_part t.weekday) × (pos_part t.year ≤ 9999)
unfolding is_week_date
is_in_weeks t e =
    let (y, wd) = both_true _ _ e in
    let (w, d) = both_true _ _ wd in
    let (y1, y2) = both_true _ _ y in
    let (w1, w2) = both_true _ _ w in
    let (d1, d2) = both_true _ _ d in (
      record {
        year = (least t.year y1).1.1;
        week = (least t.week w1).1.1;
        last = most t.week (weeks_of (pos_part t.year)) w1 w2;
        day = (least t.weekday d1).1.1;
        within = most t.weekday 7 d1 d2;
      },
      most t.year 9999 y1 y2,
    )

-- and the other way
abbrev pub raw : WeekDate → Ywd
raw t = record { year = pos t.year; week = pos t.week; weekday = pos t.weekday }

pub is_week_date_law : (t : WeekDate) → InWeeks t.year t.week t.weekday → t.year ≤ 9999 → is_week_date (raw t) ≡ true
unfolding is_week_date
is_week_date_law t k h = rw (
  le-leb 1 t.year k.year,
  le-leb t.year 9999 h,
  le-leb 1 t.week k.week,
  le-leb t.week (weeks_of t.year) k.last,
  le-leb 1 t.weekday k.day,
  le-leb t.weekday 7 k.within,
)

-- ---- the answers
pub number_is : (t : Ywd) (n : ℕ) → week_day_number t ≡ Ok n →
    (is_week_date t ≡ true) × ((day_of t ≤ 3652059) × (day_of t ≡ n))
unfolding week_day_number
number_is t n e =
    let row = week_questions t in
    let (p, a) = answered_ok row (Ok (day_of t)) n e in
    let same : day_of t ≡ n = cc in
    (told 13 row p, (leb-true _ _ (told 10 row p), same))

pub number_range : (t : Ywd) (n : ℕ) → week_day_number t ≡ Ok n → n ≤ 3652059
number_range t n e = let (p, (q, r)) = number_is t n e in omega arith

-- every day has a week date
pub week_at_law : (n : ℤ) → is_day n ≡ true → week_date_at n ≡ Ok (week_date_of (pos_part n))
unfolding week_date_at
week_at_law n d = simp d

week_is : (n : ℤ) (t : WeekDate) → week_date_at n ≡ Ok t → (is_day n ≡ true) × (week_date_of (pos_part n) ≡ t)
unfolding week_date_at
week_is n t e =
    let row = day_questions n in
    let (p, a) = answered_ok row (Ok (week_date_of (pos_part n))) t e in
    let same : week_date_of (pos_part n) ≡ t = cc in
    (told 8 row p, same)

pub record InRange (t : WeekDate) : Type 0 where
  pub year : t.year ≤ 9999
  pub week : t.week ≤ 53
  pub weekday : t.weekday ≤ 7

in_range_law : (n : ℕ) → 1 ≤ n → n ≤ 3652059 → InRange (week_date_of n)
unfolding week_date_of
in_range_law n h l =
    let k = in_weeks n h in
    record { year = week_year_most n h l; week = omega (arith, k.last, weeks_range (week_year n) k.year); weekday = k.within }

pub week_range : (n : ℤ) (t : WeekDate) → week_date_at n ≡ Ok t → InRange t
week_range n t e =
    let (d, s) = week_is n t e in
    let (h, l) = day_range n d in
    subst (λ (x : WeekDate). InRange x) s (in_range_law (pos_part n) h l)

pub number_of_law : (n : ℕ) → 1 ≤ n → n ≤ 3652059 → week_day_number (raw (week_date_of n)) ≡ Ok n
unfolding week_day_number week_date_of
number_of_law n h l =
    let p = is_week_date_law (week_date_of n) (in_weeks n h) (week_year_most n h l) in
    simp (p, day_back n h, le-leb n 3652059 l)

-- a week date's day is in that week: where a week date has a day, this has a week date, and it is that week date
pub week_and_back : (t : Ywd) (n : ℕ) → week_day_number t ≡ Ok n →
    week_date_at (pos n) ≡ Ok (week_date (pos_part t.year) (pos_part t.week) (pos_part t.weekday))
week_and_back t n e =
    let (p, (q, r)) = number_is t n e in
    let (k, h) = is_in_weeks t p in
    let one = n_first _ _ _ k in
    week_at_law (pos n) (day_in n (omega arith) (omega arith)) ∙ ap Ok (ap week_date_of (sym r) ∙ week_back _ _ _ k)

-- the Monday of every week of the years 1 to 9999 is a day of the calendar
pub monday_answered : (y w : ℕ) → InWeeks y w 1 → y ≤ 9999 → week_day_number (raw (week_date y w 1)) ≡ Ok
    (week_day y w 1)
unfolding week_day_number
monday_answered y w k h =
    simp (
      is_week_date_law (week_date y w 1) k h,
      le-leb (week_day y w 1) 3652059
          (omega (arith, monday_most y w k, years_most y h)),
    )

-- three numbers with a yes are counts
pub same_numbers : (t : Ywd) → is_week_date t ≡ true →
    raw (week_date (pos_part t.year) (pos_part t.week) (pos_part t.weekday)) ≡ t
same_numbers t e = go (in_ranges t) refl
  where
    go : (b : Bool) → in_ranges t ≡ b → raw (week_date (pos_part t.year) (pos_part t.week) (pos_part t.weekday)) ≡ t
    go true g = let k = ranges t g in λ i. record { year = k.year_is i; week = k.week_is i; weekday = k.weekday_is i }
    go false g = absurd (true≢false (sym e ∙ out_of_ranges t g))
