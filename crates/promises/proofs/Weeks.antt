-- Week dates, proved of what the calls answer: both ways, one for each day, the Monday of a week, and the weeks of a year; what
-- one may not expect of a week axis; and the second table of settled examples. Assumes nothing.
use mathlib.Core.Path.{◌≡◌, refl, sym, ap, ◌∙◌}
use mathlib.Core.Bool.{Bool, true, false, cond, ◌&&◌}
use mathlib.Core.List.{◌++◌}
use Prim.Native.Nat.{ℕ, ◌+◌, ◌-◌, ◌≤◌}
use native.Mathlib.Omega.{arith}
use lib.IntN.{ℤ, pos, ◌+ℤ◌, ◌-ℤ◌}
use lib.Dec.{leb}
use borrow.Author.Tests.{leb-true, le-leb}
use Rattle.std.specs.Prelude.{Result, Ok, Err}
use Rattle.laws.specs.Numbers.{pos_part, neg_part}
use Rattle.laws.proofs.Signed.{add, sub, same}
use Rattle.laws.proofs.Tests.{both_true}
use Rattle.asking.specs.declared.Refusal.{Refusal}
use Rattle.asking.specs.declared.Refusal.TheVariants as refusal
use Rattle.asking.specs.Asking.{number}
use Rattle.calendar.specs.Gregorian.{leap, leap_day, month_length, months, year_length, years, day_number}
use Rattle.calendar.specs.Questions.{is_day, is_date, in_ranges, number_of}
use Rattle.calendar.proofs.Formulas.{years_closed}
use Rattle.calendar.proofs.Questions.{day_range, day_same}
use Rattle.weeks.specs.declared.WeekDate.{WeekDate}
use Rattle.weeks.specs.declared.Ywd.{Ywd}
use Rattle.weeks.specs.Weeks as weeks
use Rattle.weeks.specs.Weeks.{weeks_of, week_date, week_date_of, week_day, InWeeks}
use Rattle.weeks.specs.Questions.{is_week_date, week_day_number, week_date_at}
use Rattle.weeks.proofs.Weeks.{weekday_most, week_day_is, weeks_is, weeks_rule, weeks_range, week_year_most, in_weeks}
use Rattle.weeks.proofs.Weeks.{day_back, day_after_monday}
use Rattle.weeks.proofs.Questions as weekdates
use Rattle.weeks.proofs.Questions.{is_week_date_law, raw, week_at_law, number_of_law, number_is, same_numbers, monday_answered}
use Rattle.values.specs.declared.Kind.TheVariants as kind
use Rattle.values.specs.declared.Value.{Value}
use Rattle.values.specs.Values.{is_value, earlier, midnight}
use Rattle.axis.specs.declared.Axis.{Axis}
use Rattle.axis.specs.Axes.{closed}
use Rattle.axis.specs.Questions as asks
use Rattle.counting.specs.Counting as count
use Rattle.discrete.specs.Indices as index
use Rattle.discrete.specs.Answers as discrete
use Rattle.ordered.specs.declared.OrderedNumber.{OrderedNumber}
use Rattle.ordered.specs.declared.OrderedWeekDate.{OrderedWeekDate}
use Rattle.ordered.specs.Replies.{number_reply, week_reply}
use Rattle.promises.specs.Weeks.{ywd, day_of_week_date, week_date_of_day, a_day, a_week_date, DayAndBack, WeekAndBack, EachDay}
use Rattle.promises.specs.Weeks.{MondayOfWeek, WeeksOfYear, IndexInverts, AlwaysMondays, week_numbers, is_week}
use Rattle.promises.specs.Weeks.{is_refused, week_table}
use Rattle.promises.specs.Examples.{Holds, AllHold, count_numbers, ymd, axis_from}
use Rattle.promises.proofs.Rows.{no_refusal}

-- ---- what an answer says
-- of a day that has a week date: it is one of the calendar, and the numbers are those of its week date
record Dated (n y w d : ℤ) : Type 0 where
  is_day_law : is_day n ≡ true
  numbers : raw (week_date_of (pos_part n)) ≡ ywd y w d

dated : (n y w d : ℤ) → week_date_of_day n ≡ a_week_date y w d → Dated n y w d
unfolding week_date_at
dated n y w d = go (is_day n) (week_date_of (pos_part n)) refl refl
  where
    go : (b : Bool) (t : WeekDate) → is_day n ≡ b → week_date_of (pos_part n) ≡ t →
        week_reply (cond b (Ok t) (Err refusal.Value)) ≡ a_week_date y w d → Dated n y w d
    go true t p q e = record {
      is_day_law = p;
      numbers = ap raw q ∙ ap (λ (r : OrderedWeekDate). ywd r.year r.week r.weekday) e;
    }
    go false t p q e = let z = ap (λ (r : OrderedWeekDate). pos_part r.status) e in absurd (let x : ⊥ = omega arith in x)

-- of a week date that has a day
record Numbered (n y w d : ℤ) : Type 0 where
  count : ℕ
  is : pos count ≡ n
  answered : week_day_number (ywd y w d) ≡ Ok count

numbered : (n y w d : ℤ) → day_of_week_date y w d ≡ a_day n → Numbered n y w d
numbered n y w d = go (week_day_number (ywd y w d)) refl
  where
    go : (r : Result ℕ Refusal) → week_day_number (ywd y w d) ≡ r → number_reply r ≡ a_day n → Numbered n y w d
    go (Ok k) is e = record { count = k; is = ap (λ (r : OrderedNumber). r.value) e; answered = is }
    go (Err q) is e = absurd (no_refusal q (ap (λ (r : OrderedNumber). r.status) e))

-- ---- both ways
pub day_and_back : DayAndBack
day_and_back n y w d e =
    let k = dated n y w d e in
    let (h, l) = day_range n k.is_day_law in
    ap (λ (t : Ywd). number_reply (week_day_number t)) (sym k.numbers)
    ∙ ap number_reply (number_of_law (pos_part n) h l)
    ∙ ap a_day (day_same n k.is_day_law)

pub week_and_back : WeekAndBack
week_and_back n y w d e =
    let k = numbered n y w d e in
    let s = same_numbers (ywd y w d) (number_is (ywd y w d) k.count k.answered).0 in
    ap week_date_of_day (sym k.is)
    ∙ ap week_reply (weekdates.week_and_back (ywd y w d) k.count k.answered)
    ∙ ap (λ (t : Ywd). a_week_date t.year t.week t.weekday) s

-- ---- one for each day
pub each_day : EachDay
each_day n h =
    let t = week_date_of (pos_part n) in
    let e : week_date_of_day n ≡ a_week_date (pos t.year) (pos t.week) (pos t.weekday) = ap week_reply (week_at_law n h) in
    record {
      year = pos t.year;
      week = pos t.week;
      weekday = pos t.weekday;
      has = e;
      only = λ y w d f.
          let s = sym (week_and_back n y w d f) ∙ e in (
            ap (λ (r : OrderedWeekDate). r.year) s,
            ap (λ (r : OrderedWeekDate). r.week) s,
            ap (λ (r : OrderedWeekDate). r.weekday) s,
          );
    }

-- ---- Mondays
monday_of : (k : ℕ) → 1 ≤ k → k ≤ 3652059 → let t = week_date_of k in
    week_day_number (raw (week_date t.year t.week 1)) ≡ Ok (k + 1 - t.weekday)
unfolding week_date_of
monday_of k h l =
    let i = in_weeks k h in
    let t = week_date_of k in
    let m : InWeeks t.year t.week 1 =
    record { year = i.year; week = i.week; last = i.last; day = omega arith; within = omega arith } in
    let e : week_day t.year t.week 1 ≡ k + 1 - t.weekday =
    omega (arith, day_back k h, day_after_monday t.year t.week t.weekday i.week i.day) in
    monday_answered t.year t.week m (week_year_most k h l) ∙ ap Ok e

pub monday_of_week : MondayOfWeek
unfolding week_date_of
monday_of_week n y w d e =
    let k = dated n y w d e in
    let (h, l) = day_range n k.is_day_law in
    let t = week_date_of (pos_part n) in
    let f : pos (pos_part n + 1 - t.weekday) ≡ n +ℤ pos 1 -ℤ pos t.weekday =
    same (pos (pos_part n + 1 - t.weekday)) (n +ℤ pos 1 -ℤ pos t.weekday)
    (omega (
      arith,
      add n (pos 1),
      sub (n +ℤ pos 1) (pos t.weekday),
      ap neg_part (day_same n k.is_day_law),
      weekday_most (pos_part n) h,
    )) in
    ap (λ (s : Ywd). day_of_week_date s.year s.week (pos 1)) (sym k.numbers)
    ∙ ap number_reply (monday_of (pos_part n) h l)
    ∙ ap a_day f
    ∙ ap (λ (s : Ywd). a_day (n +ℤ pos 1 -ℤ s.weekday)) k.numbers

-- ---- the weeks of a year
has_week : (y w : ℕ) → 1 ≤ y → y ≤ 9999 → 1 ≤ w → w ≤ weeks_of y → (day_of_week_date (pos y) (pos w) (pos 1)).status ≡ pos 0
has_week y w h l f e =
    let k : InWeeks y w 1 = record { year = h; week = f; last = e; day = omega arith; within = omega arith } in
    ap (λ (a : Result ℕ Refusal). (number_reply a).status) (monday_answered y w k l)

no_week : (y w : ℕ) → 1 ≤ y → y ≤ 9999 → leb 1 w && leb w (weeks_of y) ≡ false →
    (day_of_week_date (pos y) (pos w) (pos 1)).status ≡ pos 13
unfolding week_day_number is_week_date
no_week y w h l e = rw (le-leb 1 y h, le-leb y 9999 l, e)

pub weeks_of_year : WeeksOfYear
weeks_of_year y w h l = rw (← weeks_rule y h) (go (leb 1 w && leb w (weeks_of y)) refl)
  where
    go : (b : Bool) → leb 1 w && leb w (weeks_of y) ≡ b → (day_of_week_date (pos y) (pos w) (pos 1)).status ≡ pos (cond b 0 13)
    go true e = let (f, g) = both_true (leb 1 w) (leb w (weeks_of y)) e in
        has_week y w h l (leb-true 1 w f) (leb-true w (weeks_of y) g)
    go false e = no_week y w h l e

-- ---- what is false of a week axis
one_day_law : ℕ → Axis
one_day_law d = axis_from kind.Week (midnight (pos d)) (midnight (pos d))

-- on day 1 alone the index of day 2 is 0, and index 0 is day 1
pub no_index_inverse : IndexInverts → ⊥
unfolding closed weeks.weekday weeks.counted weeks.mondays_to is_value earlier asks.has_period asks.has_index asks.ends
    asks.in_order asks.excludable asks.value_on asks.checked count.monthly count.yearly count.weekly count.origin
    count.position index.is_indexed index.index_of index.week_at index.value_at discrete.index_in discrete.index_answer
    discrete.from_index_answer one_day_law
no_index_inverse f =
    let e = f (one_day_law 1) (midnight (pos 2)) (midnight (pos 1)) 0 refl refl refl in
    let z = ap (λ (v : Value). pos_part v.head) e in
    omega arith

-- on day 2 alone index 0 is day 2, a Tuesday
pub start_no_monday : AlwaysMondays → ⊥
unfolding closed weeks.weekday is_value earlier asks.has_period asks.has_index asks.ends asks.in_order asks.excludable
    asks.checked count.monthly count.yearly count.weekly index.week_at index.value_at discrete.from_index_answer one_day_law
start_no_monday f = let z = f (one_day_law 2) (midnight (pos 2)) 0 refl refl in omega arith

-- ---- the table
-- a week date whose day is computed, and its way back by the law
row : (y m d n wy w wd : ℕ) → number_of (ymd y m d) ≡ Ok n →
    week_day_number (ywd (pos wy) (pos w) (pos wd)) ≡ Ok n → Holds (is_week y m d n wy w wd)
row y m d n wy w wd e f =
    let g = weekdates.week_and_back (ywd (pos wy) (pos w) (pos wd)) n f in
    λ i. count_numbers (number_reply (e i)) ++ week_numbers (week_reply (g i)) ++ count_numbers (number_reply (f i))

refused : (y w d : ℕ) (q : Refusal) → week_day_number (ywd (pos y) (pos w) (pos d)) ≡ Err q → Holds (is_refused y w d (number q))
refused y w d q e = λ i. count_numbers (number_reply (e i))

-- ---- at the end of the calendar, by laws: counting 9,998 years is too long
years_9998 : years 9998 ≡ 3651694
years_9998 = omega (arith, years_closed 24 398 (omega arith))

eleven_months : months 9999 11 ≡ 334
unfolding leap leap_day month_length months
eleven_months = refl

december_31 : day_number 9999 12 31 ≡ 3652059
unfolding day_number
december_31 = omega (arith, years_9998, eleven_months)

last_date : number_of (ymd 9999 12 31) ≡ Ok 3652059
unfolding leap leap_day month_length is_date number_of
last_date = ap Ok december_31

-- a day of week 52, which every year has
in_last : (d : ℕ) → 1 ≤ d → d ≤ 7 → is_week_date (raw (week_date 9999 52 d)) ≡ true
in_last d h l =
    let k : InWeeks 9999 52 d =
    record {
      year = omega arith;
      week = omega arith;
      last = omega (arith, weeks_range 9999 (omega arith));
      day = h;
      within = l;
    } in
    is_week_date_law (week_date 9999 52 d) k (omega arith)

last_day : (d : ℕ) → 1 ≤ d → week_day 9999 52 d ≡ 3652054 + d
last_day d h = omega (arith, week_day_is 9999 52 d (omega arith) h, years_9998)

last_friday : week_day_number (raw (week_date 9999 52 5)) ≡ Ok 3652059
unfolding week_day_number
last_friday = simp (in_last 5 (omega arith) (omega arith), last_day 5 (omega arith))

last_saturday : week_day_number (raw (week_date 9999 52 6)) ≡ Err refusal.Range
unfolding week_day_number
last_saturday = simp (in_last 6 (omega arith) (omega arith), last_day 6 (omega arith))

weeks_9999 : weeks_of 9999 ≡ 52
unfolding leap_day
weeks_9999 = omega (arith, weeks_is 9999 (omega arith), years_9998)

no_53 : week_day_number (ywd (pos 9999) (pos 53) (pos 1)) ≡ Err refusal.WeekDate
unfolding week_day_number is_week_date
no_53 = rw weeks_9999

-- THE THEOREM, of all rows
pub weeks_settled : AllHold week_table
unfolding leap leap_day month_length months year_length years day_number is_date in_ranges number_of weeks.weekday
    weeks.counted weeks.thursdays weeks.weeks_of weeks.day_from weeks.first_thursday weeks.week_day is_week_date
    week_day_number
weeks_settled = (
  row 1977 1 1 721720 1976 53 6 refl refl,
  (
    row 2008 12 29 733405 2009 1 1 refl refl,
    (
      row 2010 1 3 733775 2009 53 7 refl refl,
      (
        row 2020 12 31 737790 2020 53 4 refl refl,
        (
          row 9999 12 31 3652059 9999 52 5 last_date last_friday,
          (
            refused 9999 52 6 refusal.Range last_saturday,
            (
              refl,
              (
                refused 9999 53 1 refusal.WeekDate no_53,
                tt,
              ),
            ),
          ),
        ),
      ),
    ),
  ),
)
