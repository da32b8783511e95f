-- The dates of day numbers in order: a later day has no earlier year, and the next day is at most in the next year.
-- And the first of a month as a day number. Assumes nothing.
use mathlib.Core.Path.{◌≡◌, refl, sym, ap}
use mathlib.Core.Bool.{Bool, true, false, cond}
use Prim.Native.Nat.{ℕ, zero, suc, ◌+◌, ◌-◌, ◌≤◌, ◌<◌}
use native.Mathlib.Decide.{dec_le}
use native.Mathlib.Omega.{arith}
use lib.Dec.{ltb}
use Rattle.calendar.specs.declared.Date.{Date}
use Rattle.calendar.specs.Gregorian.{month_length, day_number, Real, date, next_day, date_of}
use Rattle.calendar.proofs.Dates.{date_number, the_date, date_follows, number_most, year_most, a_first}

-- ---- the year of the next day
pub record Onward (y z : ℕ) : Type 0 where
  pub from : y ≤ z
  pub to : z ≤ y + 1

onward : (b e : Bool) (y m d : ℕ) → Onward y (cond b (date y m (d + 1)) (cond e (date y (m + 1) 1) (date (y + 1) 1 1))).year
onward true e y m d = record { from = omega arith; to = omega arith }
onward false true y m d = record { from = omega arith; to = omega arith }
onward false false y m d = record { from = omega arith; to = omega arith }

next_year : (t : Date) → Onward t.year (next_day t).year
unfolding next_day
next_year t = onward (ltb t.day (month_length t.year t.month)) (ltb t.month 12) t.year t.month t.day

pub year_onward : (n : ℕ) → 1 ≤ n → Onward (date_of n).year (date_of (n + 1)).year
year_onward n h = rw (date_follows n h) (next_year (date_of n))

pub years_grow : (n k : ℕ) → 1 ≤ n → (date_of n).year ≤ (date_of (n + k)).year
years_grow n zero h = let e : n + zero ≡ n = omega arith in rw e (omega arith)
years_grow n (suc k) h =
    let e : n + suc k ≡ n + k + 1 = omega arith in
    rw e (omega (arith, years_grow n k h, (year_onward (n + k) (omega arith)).from))

-- ---- the date of a day number, and its ranges
pub record Ranges (t : Date) (n : ℕ) : Type 0 where
  pub real : Real t.year t.month t.day
  pub number : day_number t.year t.month t.day ≡ n
  pub year_least : 1 ≤ t.year
  pub month_least : 1 ≤ t.month
  pub month_most : t.month ≤ 12

pub ranges : (n : ℕ) → 1 ≤ n → Ranges (date_of n) n
ranges n h =
    let (r, e) = date_number n h in
    record { real = r; number = e; year_least = r.year; month_least = r.month; month_most = r.last }

pub year_9999 : (n : ℕ) → 1 ≤ n → n ≤ 3652059 → (date_of n).year ≤ 9999
year_9999 n h l = let (r, e) = date_number n h in year_most (date_of n).year (date_of n).month (date_of n).day r (omega arith)

-- ---- the first of a month
module _ (y m : ℕ) (a : 1 ≤ y) (b : 1 ≤ m) (c : m ≤ 12) where
  pub first_least : 1 ≤ day_number y m 1
  unfolding day_number
  first_least = omega arith

  pub first_date_is : date_of (day_number y m 1) ≡ date y m 1
  first_date_is = sym (the_date (day_number y m 1) (date y m 1) first_least (a_first y m a b c) refl)

  pub first_most : y ≤ 9999 → day_number y m 1 ≤ 3652059
  first_most h = number_most y m 1 (a_first y m a b c) h

  pub first_beyond : 9999 < y → 3652059 < day_number y m 1
  first_beyond h =
      elim (dec_le (day_number y m 1) 3652059) [
        | yes l ↦ absurd (clash (year_most y m 1 (a_first y m a b c) l))
        | no l ↦ let g : 3652059 < day_number y m 1 = omega arith in g
      ]
    where
      clash : y ≤ 9999 → ⊥
      clash k = omega arith

-- a year that has begun by a day is no later than the day's year
pub begun : (y n : ℕ) → 1 ≤ y → day_number y 1 1 ≤ n → y ≤ (date_of n).year
begun y n a h =
    let l = first_least y 1 a (omega arith) (omega arith) in
    let e : y ≡ (date_of (day_number y 1 1)).year =
    sym (ap (λ (t : Date). t.year) (first_date_is y 1 a (omega arith) (omega arith))) in
    let s : day_number y 1 1 + (n - day_number y 1 1) ≡ n = omega arith in
    let g = rw s at (years_grow (day_number y 1 1) (n - day_number y 1 1) l) in
    omega (arith, e, g)
