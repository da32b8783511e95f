-- Months in a row: each begins after the one before, and has the days up to the next. Assumes nothing.
use mathlib.Core.Path.{◌≡◌, refl}
use mathlib.Core.Logic.{inl, inr}
use mathlib.Core.Bool.{Bool, true, false, cond}
use Prim.Native.Nat.{ℕ, zero, suc, ◌+◌, ◌-◌, ◌*◌, ◌/◌, ◌%◌, ◌≤◌, ◌<◌}
use native.Mathlib.Nat.{eq-or-lt_of_le, not-suc-le-zero, add-sub_cancel}
use native.Mathlib.Numerals.{add-one}
use native.Mathlib.Decide.{dec_le}
use native.Mathlib.Omega.{arith}
use lib.Dec.{ltb}
use borrow.Author.Tests.{ltb-true, ltb-false}
use Rattle.calendar.specs.Gregorian.{month_length, months, year_length, years, day_number, Real, date_of}
use Rattle.calendar.proofs.Formulas.{month_length_range, years_next, years_closed}
use Rattle.calendar.proofs.Dates.{months_to, months_none, date_number}
use Rattle.steps.specs.Months.{first_day, month_number, month_of, whole_month, InMonth, FromMonth}

-- ---- the next month begins after all the days of this one
in_year : (y m : ℕ) → 1 ≤ m → day_number y (m + 1) 1 ≡ day_number y m 1 + month_length y m
unfolding day_number
in_year y m h = rw (add-sub_cancel m 1) (omega (arith, months_to y m h))

next_year : (p : ℕ) → day_number (p + 1 + 1) 1 1 ≡ day_number (p + 1) 12 1 + month_length (p + 1) 12
unfolding day_number year_length months
next_year p = rw (add-sub_cancel (p + 1) 1, add-sub_cancel p 1, add-one p) (omega (arith, years_next p))

month_next : (m : ℕ) → first_day (m + 1) ≡ first_day m + month_length (m / 12 + 1) (m % 12 + 1)
unfolding first_day
month_next m =
    elim (dec_le (m % 12) 10) [
      | yes l ↦
          let q : (m + 1) / 12 ≡ m / 12 = omega arith in
          let r : (m + 1) % 12 ≡ m % 12 + 1 = omega arith in
          rw (q, r) (in_year (m / 12 + 1) (m % 12 + 1) (omega arith))
      | no l ↦
          let q : (m + 1) / 12 ≡ m / 12 + 1 = omega arith in
          let r : (m + 1) % 12 ≡ 0 = omega arith in
          let t : m % 12 ≡ 11 = omega arith in
          rw (q, r, t) (next_year (m / 12))
    ]

next_later : (m : ℕ) → first_day m < first_day (m + 1)
next_later m = let h : m % 12 + 1 ≤ 12 = omega arith in
    omega (arith, month_next m, month_length_range (m / 12 + 1) (m % 12 + 1) h)

pub first_days : (x y : ℕ) → x < y → first_day x < first_day y
first_days x zero h = absurd (not-suc-le-zero h)
first_days x (suc y) h =
    elim (eq-or-lt_of_le h) [
      | inl e ↦ let f : x ≡ y = omega arith in rw (f, ← add-one y) (next_later y)
      | inr q ↦ let f : x < y = omega arith in rw (← add-one y) (omega (arith, first_days x y f, next_later y))
    ]

-- ---- the months of the years 1 to 10000 begin on known days
past : first_day 120000 ≡ 3652426
unfolding first_day day_number
past = omega (arith, years_closed 25 0 (omega arith), months_none 10001)

pub first_most : (m : ℕ) → m < 120000 → first_day m ≤ 3652425
first_most m h = omega (arith, first_days m 120000 h, past)

-- ---- the month of a day
year_many : (k a b : ℕ) → k ≡ 400 * a + b → b < 400 → 10000 ≤ k → 3652425 ≤ years k
year_many k a b e l h =
    let cycles : 25 ≤ a = omega arith in
    let by100 : b / 100 ≤ b = omega arith in
    rw e (omega (arith, years_closed a b l))

year_most : (y m d : ℕ) → Real y m d → day_number y m d ≤ 3652425 → y ≤ 10000
unfolding day_number
year_most y m d r h =
    elim (dec_le y 10000) [
      | yes l ↦ l
      | no l ↦ absurd (clash (year_many (y - 1) ((y - 1) / 400) ((y - 1) % 400) (omega arith) (omega arith) (omega arith)))
    ]
  where
    clash : 3652425 ≤ years (y - 1) → ⊥
    clash g = omega (arith, r.day)

module _ (y m d : ℕ) (r : Real y m d) where
  year_of : month_number y m / 12 + 1 ≡ y
  year_of = omega (arith, r.year, r.month, r.last)

  month_in : month_number y m % 12 + 1 ≡ m
  month_in = omega (arith, r.year, r.month, r.last)

  begins : first_day (month_number y m) ≡ day_number y m 1
  unfolding first_day
  begins = rw (year_of, month_in)

  day_on : day_number y m d ≡ first_day (month_number y m) + (d - 1)
  unfolding day_number
  day_on = rw begins (omega (arith, r.day))

  date_month : y ≤ 10000 → InMonth (month_number y m) (day_number y m d)
  date_month h = record {
    begun = omega (arith, day_on);
    going = rw (month_next (month_number y m), year_of, month_in) (omega (arith, day_on, r.day, r.within));
    known = omega (arith, r.year, r.month, r.last);
  }

module _ (day : ℕ) (from : 1 ≤ day) (to : day ≤ 3652425) where
  pub date_ranges : let t = date_of day in ((1 ≤ t.year) × (t.year ≤ 10000)) × ((1 ≤ t.month) × (t.month ≤ 12))
  date_ranges =
      let (r, e) = date_number day from in
      let t = date_of day in
      ((r.year, year_most t.year t.month t.day r (omega arith)), (r.month, r.last))

  pub in_month : InMonth (month_of day) day
  unfolding month_of
  in_month =
      let (r, e) = date_number day from in
      let t = date_of day in
      rw e at (date_month t.year t.month t.day r date_ranges.0.1)

  day_of_month : day ≡ first_day (month_of day) + ((date_of day).day - 1)
  unfolding month_of
  day_of_month =
      let (r, e) = date_number day from in
      let t = date_of day in
      rw e at (day_on t.year t.month t.day r)

  whole : (b : Bool) → (b ≡ true → 1 < (date_of day).day) → (b ≡ false → (date_of day).day ≤ 1) →
      FromMonth (month_of day + cond b 1 0) day
  whole true p q = record {
    ahead = omega (arith, in_month.going);
    first = λ k l. elim (eq-or-lt_of_le l) [
      | inl e ↦ let f : k ≡ month_of day = omega arith in rw f (omega (arith, day_of_month, p refl))
      | inr g ↦ let f : k < month_of day = omega arith in omega (arith, first_days k (month_of day) f, in_month.begun)
    ];
  }
  whole false p q =
      let e : month_of day + 0 ≡ month_of day = omega arith in
      rw e (record {
        ahead = omega (arith, day_of_month, q refl);
        first = λ k l. omega (arith, first_days k (month_of day) l, in_month.begun);
      })

  pub from_month_law : FromMonth (whole_month day) day
  unfolding whole_month
  from_month_law = whole (ltb 1 (date_of day).day) (ltb-true _ _) (ltb-false _ _)
