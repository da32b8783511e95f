-- Week dates and days, one to one: each day has one week date, and each week date one day; the Monday of a day; and the
-- weeks of a year, 53 or 52, by the weekday on which it begins. Assumes nothing.
use mathlib.Core.Path.{◌≡◌, refl, ap}
use mathlib.Core.Bool.{Bool, true, false, cond, ◌&&◌, ◌||◌}
use Prim.Native.Nat.{ℕ, zero, suc, ◌+◌, ◌-◌, ◌*◌, ◌/◌, ◌%◌, ◌≤◌, ◌<◌}
use native.Mathlib.Nat.{add-zero}
use native.Mathlib.Omega.{arith}
use lib.Dec.{eqb}
use borrow.Author.Tests.{eqb-true, eqb-false}
use Rattle.calendar.specs.Gregorian.{leap, leap_day, years, day_number, date_of, Real}
use Rattle.calendar.proofs.Formulas.{years_to, year_length_is, leap_day_le}
use Rattle.calendar.proofs.Dates.{year_has, year_is_that, months_none, date_number, number_most, year_most, a_first}
use Rattle.weeks.specs.Weeks.{weekday, monday, thursday, counted, thursdays, week_year, week_number, week_date, week_date_of}
use Rattle.weeks.specs.Weeks.{weeks_of, day_from, first_thursday, InWeeks, week_day}

-- ---- weekdays
pub weekday_range : (n : ℕ) → (1 ≤ weekday n) × (weekday n ≤ 7)
unfolding weekday
weekday_range n = omega arith

-- 0001-01-01 is a Monday, after a Sunday comes a Monday, and after any other day the next weekday
pub weekday_first : weekday 1 ≡ 1
unfolding weekday
weekday_first = refl

pub weekday_next : (n : ℕ) → 1 ≤ n → weekday (n + 1) ≡ cond (eqb (weekday n) 7) 1 (weekday n + 1)
unfolding weekday
weekday_next n h = go (eqb (weekday n) 7) (eqb-true (weekday n) 7) (eqb-false (weekday n) 7)
  where
    go : (b : Bool) → (b ≡ true → weekday n ≡ 7) → (b ≡ false → weekday n ≡ 7 → ⊥) → weekday (n + 1) ≡ cond b 1 (weekday n + 1)
    go true p q = omega (arith, p refl)
    go false p q = omega (arith, q refl)

-- the Monday of a day is a Monday, the day itself or one of the six before
pub monday_on_or_before : (n : ℕ) → 1 ≤ n → (weekday (monday n) ≡ 1) × (monday n ≤ n) × (n < monday n + 7)
unfolding monday
monday_on_or_before n h = omega arith

pub thursday_is : (n : ℕ) → 1 ≤ n → thursday n ≡ 7 * ((n - 1) / 7) + 4
unfolding thursday
thursday_is n h = omega arith

pub weekday_is : (n : ℕ) → 1 ≤ n → weekday n ≡ n - 7 * ((n - 1) / 7)
unfolding weekday
weekday_is n h = omega arith

pub weekday_most : (n : ℕ) → 1 ≤ n → weekday n ≤ n
unfolding weekday
weekday_most n h = omega arith

-- ---- how many days have a weekday
counted_more : (d x : ℕ) (b : Bool) → 1 ≤ d → d ≤ 7 → (b ≡ true → weekday (suc x) ≡ d) → (b ≡ false → weekday (suc x) ≡ d → ⊥)
    → (x + 7 - d) / 7 + cond b 1 0 ≡ (suc x + 7 - d) / 7
unfolding weekday
counted_more d x true l h p q = omega (arith, p refl)
counted_more d x false l h p q = omega (arith, q refl)

pub counted_is : (d a k : ℕ) → 1 ≤ d → d ≤ 7 → counted d a k + (a + 7 - d) / 7 ≡ (a + k + 7 - d) / 7
unfolding counted
counted_is d a zero l h = rw add-zero (omega arith)
counted_is d a (suc k) l h =
    let more : a + suc k ≡ suc (a + k) = omega arith in
    rw more
    (omega (
      arith,
      counted_is d a k l h,
      counted_more d (a + k) (eqb (weekday (suc (a + k))) d) l h (eqb-true _ _) (eqb-false _ _),
    ))

-- the Thursdays of a year up to a day
pub thursdays_is : (y n : ℕ) → years (y - 1) ≤ n → thursdays y n + (years (y - 1) + 3) / 7 ≡ (n + 3) / 7
unfolding thursdays
thursdays_is y n h =
    let to : years (y - 1) + (n - years (y - 1)) ≡ n = omega arith in
    let a : years (y - 1) + 7 - 4 ≡ years (y - 1) + 3 = omega arith in
    let b : n + 7 - 4 ≡ n + 3 = omega arith in
    rw (to, a, b) at (counted_is 4 (years (y - 1)) (n - years (y - 1)) (omega arith) (omega arith))

-- ---- the weeks of a year
years_length : (y : ℕ) → 1 ≤ y → years y ≡ years (y - 1) + 365 + leap_day y
years_length y h = omega (arith, years_to y h, year_length_is y)

pub weeks_is : (y : ℕ) → 1 ≤ y → weeks_of y + (years (y - 1) + 3) / 7 ≡ (years (y - 1) + 3 + 365 + leap_day y) / 7
unfolding weeks_of
weeks_is y h =
    let to : years y + 3 ≡ years (y - 1) + 3 + 365 + leap_day y = omega (arith, years_length y h) in
    rw to at (thursdays_is y (years y) (omega (arith, years_length y h)))

-- 1 January is the day after the years before
pub january : (y : ℕ) → day_number y 1 1 ≡ years (y - 1) + 1
unfolding day_number
january y = omega (arith, months_none y)

pub january_real : (y : ℕ) → 1 ≤ y → Real y 1 1
january_real y h = a_first y 1 h (omega arith) (omega arith)

pub january_most : (y : ℕ) → 1 ≤ y → y ≤ 9999 → years (y - 1) + 1 ≤ 3652059
january_most y h l = omega (arith, january y, number_most y 1 1 (january_real y h) l)

-- a year has 53 weeks just when it begins on a Thursday, or is a leap year and begins on a Wednesday
pub weeks_rule : (y : ℕ) → 1 ≤ y → let begins = weekday (day_number y 1 1) in
    weeks_of y ≡ cond (eqb begins 4 || (leap y && eqb begins 3)) 53 52
unfolding leap_day weekday
weeks_rule y h =
    let begins = weekday (day_number y 1 1) in
    let on : begins ≡ years (y - 1) % 7 + 1 = rw (january y) (omega arith) in
    go (years (y - 1)) (weeks_of y) begins (eqb begins 4) (leap y) (eqb begins 3) on (weeks_is y h)
    (eqb-true begins 4) (eqb-false begins 4) (eqb-true begins 3) (eqb-false begins 3)
  where
    go : (x w d : ℕ) (a b c : Bool) → d ≡ x % 7 + 1 → w + (x + 3) / 7 ≡ (x + 3 + 365 + cond b 1 0) / 7
        → (a ≡ true → d ≡ 4) → (a ≡ false → d ≡ 4 → ⊥) → (c ≡ true → d ≡ 3) → (c ≡ false → d ≡ 3 → ⊥)
        → w ≡ cond (a || (b && c)) 53 52
    go x w d true true c e f p q r s = omega (arith, p refl)
    go x w d true false c e f p q r s = omega (arith, p refl)
    go x w d false false c e f p q r s = omega (arith, q refl)
    go x w d false true true e f p q r s = omega (arith, r refl)
    go x w d false true false e f p q r s = omega (arith, q refl, s refl)

pub weeks_range : (y : ℕ) → 1 ≤ y → (52 ≤ weeks_of y) × (weeks_of y ≤ 53)
weeks_range y h = omega (arith, weeks_is y h, leap_day_le y)

-- ---- the first Thursday, and the day of a week date
here : (d n : ℕ) → 1 ≤ n → weekday n ≡ d → n ≡ 7 * ((n + 6 - d) / 7) + d
unfolding weekday
here d n h e = omega arith

later : (d n : ℕ) → 1 ≤ n → 1 ≤ d → d ≤ 7 → (weekday n ≡ d → ⊥) →
    ((n + 1 + 6 - d) / 7 ≡ (n + 6 - d) / 7) × (n < 7 * ((n + 6 - d) / 7) + d)
unfolding weekday
later d n h l u e = omega arith

day_from_law : (d k n : ℕ) → 1 ≤ n → 1 ≤ d → d ≤ 7 → 7 * ((n + 6 - d) / 7) + d ≤ n + k → day_from d k n ≡ 7 * ((n + 6 - d) / 7) +
    d
unfolding day_from
day_from_law d zero n h l u m = omega arith
day_from_law d (suc k) n h l u m =
    go (eqb (weekday n) d) (eqb-true _ _) (eqb-false _ _) (day_from_law d k (n + 1) (omega arith) l u)
  where
    go : (b : Bool) → (b ≡ true → weekday n ≡ d) → (b ≡ false → weekday n ≡ d → ⊥)
        → (7 * ((n + 1 + 6 - d) / 7) + d ≤ n + 1 + k → day_from d k (n + 1) ≡ 7 * ((n + 1 + 6 - d) / 7) + d)
        → cond b n (day_from d k (n + 1)) ≡ 7 * ((n + 6 - d) / 7) + d
    go true p q next = here d n h (p refl)
    go false p q next = let (same, more) = later d n h l u (q refl) in rw same at (next (omega arith))

-- one of any seven days in a row has the weekday d
pub day_from_is : (d n : ℕ) → 1 ≤ n → 1 ≤ d → d ≤ 7 → day_from d 6 n ≡ 7 * ((n + 6 - d) / 7) + d
day_from_is d n h l u = day_from_law d 6 n h l u (omega arith)

pub first_thursday_law : (y : ℕ) → first_thursday y ≡ 7 * ((years (y - 1) + 3) / 7) + 4
unfolding first_thursday
first_thursday_law y =
    let sum : years (y - 1) + 1 + 6 - 4 ≡ years (y - 1) + 3 = omega arith in
    rw sum at (day_from_is 4 (years (y - 1) + 1) (omega arith) (omega arith) (omega arith))

pub week_day_is : (y w d : ℕ) → 1 ≤ w → 1 ≤ d → week_day y w d + 7 ≡ 7 * ((years (y - 1) + 3) / 7 + w) + d
unfolding week_day
week_day_is y w d h l = omega (arith, first_thursday_law y)

-- the Monday of a week is no later than its year's last day
pub monday_most : (y w : ℕ) → InWeeks y w 1 → week_day y w 1 ≤ years y
monday_most y w k =
    omega (arith, week_day_is y w 1 k.week (omega arith), k.last, weeks_is y k.year, years_length y k.year)

-- the other days of a week come after its Monday
pub day_after_monday : (y w d : ℕ) → 1 ≤ w → 1 ≤ d → week_day y w d + 1 ≡ week_day y w 1 + d
day_after_monday y w d h l = omega (arith, week_day_is y w d h l, week_day_is y w 1 h (omega arith))

-- ---- the week date of a day
pub week_year_is : (n : ℕ) → 1 ≤ n → week_year n ≡ (date_of (7 * ((n - 1) / 7) + 4)).year
unfolding week_year
week_year_is n h = ap (λ (x : ℕ). (date_of x).year) (thursday_is n h)

pub week_year_has : (n : ℕ) → 1 ≤ n → let t = 7 * ((n - 1) / 7) + 4 in
    (1 ≤ week_year n) × ((years (week_year n - 1) < t) × (t ≤ years (week_year n)))
week_year_has n h = rw (week_year_is n h) (year_has (7 * ((n - 1) / 7) + 4) (omega arith))

pub week_number_is : (n : ℕ) → 1 ≤ n → week_number n + (years (week_year n - 1) + 3) / 7 ≡ (n - 1) / 7 + 1
unfolding week_number
week_number_is n h =
    let (f, (l, u)) = week_year_has n h in
    let whole : (7 * ((n - 1) / 7) + 4 + 3) / 7 ≡ (n - 1) / 7 + 1 = omega arith in
    rw (thursday_is n h, ← whole) (thursdays_is (week_year n) (7 * ((n - 1) / 7) + 4) (omega arith))

-- by how many days of the year come before the Thursday
pub week_by_days : (n d : ℕ) → 1 ≤ n → years (week_year n - 1) + d + 1 ≡ 7 * ((n - 1) / 7) + 4 → d / 7 + 1 ≡ week_number n
week_by_days n d h e = omega (arith, week_number_is n h)

-- it is one: its year has such a week
pub in_weeks : (n : ℕ) → 1 ≤ n → InWeeks (week_year n) (week_number n) (weekday n)
in_weeks n h =
    let (f, (l, u)) = week_year_has n h in
    let w = week_number_is n h in
    let all = weeks_is (week_year n) f in
    let (a, b) = weekday_range n in
    record { year = f; week = omega arith; last = omega (arith, years_length (week_year n) f); day = a; within = b }

pub week_year_most : (n : ℕ) → 1 ≤ n → n ≤ 3652059 → week_year n ≤ 9999
unfolding week_year
week_year_most n h l =
    let (r, e) = date_number (thursday n) (omega (arith, thursday_is n h)) in
    year_most _ _ _ r (omega (arith, e, thursday_is n h))

-- ---- both ways
-- the day of a day's week date is that day
pub day_back : (n : ℕ) → 1 ≤ n → week_day (week_year n) (week_number n) (weekday n) ≡ n
day_back n h =
    let k = in_weeks n h in
    omega (arith, week_day_is (week_year n) (week_number n) (weekday n) k.week k.day, week_number_is n h, weekday_is n h)

-- the week date of a week date's day is that week date
module _ (y w d : ℕ) (k : InWeeks y w d) where
  abbrev n : ℕ
  n = week_day y w d

  abbrev q : ℕ
  q = (years (y - 1) + 3) / 7

  n_is : n + 7 ≡ 7 * (q + w) + d
  n_is = week_day_is y w d k.week k.day

  pub n_first : 1 ≤ n
  n_first = omega (arith, n_is, k.week, k.day)

  week_is : (n - 1) / 7 + 1 ≡ q + w
  week_is = omega (arith, n_is, k.week, k.day, k.within)

  year_back : week_year n ≡ y
  unfolding week_year
  year_back =
      let e = thursday_is n n_first in
      year_is_that (thursday n) y (omega arith)
      (omega (arith, week_is, k.week))
      (omega (arith, week_is, k.last, weeks_is y k.year, years_length y k.year))

  number_back : week_number n ≡ w
  number_back = omega (arith, rw year_back at (week_number_is n n_first), week_is)

  weekday_back : weekday n ≡ d
  weekday_back = omega (arith, weekday_is n n_first, n_is, week_is)

  pub week_back : week_date_of (week_day y w d) ≡ week_date y w d
  unfolding week_date_of
  week_back = λ i. record { year = year_back i; week = number_back i; weekday = weekday_back i }
