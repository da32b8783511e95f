-- Dates and day numbers, one to one: two real dates with one day number are one date, the next day's number is one
-- more, and the date of a day number is a real date with that number. Assumes nothing.
use mathlib.Core.Path.{◌≡◌, refl, sym, ap, ◌∙◌, subst}
use mathlib.Core.Logic.{inl, inr}
use mathlib.Core.Bool.{Bool, true, false, cond}
use Prim.Native.Nat.{ℕ, zero, suc, ◌+◌, ◌-◌, ◌≤◌, ◌<◌}
use native.Mathlib.Nat.{eq-or-lt_of_le, le_of_suc-le-suc, le_of_eq, le_trans, not-suc-le-zero}
use native.Mathlib.Numerals.{sub-one}
use native.Mathlib.Decide.{dec_le}
use native.Mathlib.Omega.{arith}
use lib.Dec.{ltb}
use borrow.Author.Tests.{ltb-true, ltb-false}
use Rattle.calendar.specs.declared.Date.{Date}
use Rattle.calendar.specs.Gregorian.{month_length, months, year_length, years, day_number, Real, date, next_day}
use Rattle.calendar.specs.Gregorian.{days_later, date_of}
use Rattle.calendar.proofs.Formulas.{month_length_range, years_next, years_to, years_closed}

-- ---- a growing function takes each number in one step
module _ (f : ℕ → ℕ) (up : (k : ℕ) → f k ≤ f (suc k)) where
  mono : (j k : ℕ) → j ≤ k → f j ≤ f k
  mono j zero h = elim (eq-or-lt_of_le h) [ inl p ↦ le_of_eq (ap f p) | inr q ↦ absurd (not-suc-le-zero q) ]
  mono j (suc k) h = elim (eq-or-lt_of_le h) [
    | inl p ↦ le_of_eq (ap f p)
    | inr q ↦ le_trans (mono j k (le_of_suc-le-suc q))
        (up k)
  ]

  not_later : (x j k : ℕ) → x ≤ f j → f (k - 1) < x → k ≤ j
  not_later x j k a b =
      elim (dec_le k j) [ yes l ↦ l | no l ↦ absurd (clash (mono j (k - 1) (omega arith))) ]
    where
      clash : f j ≤ f (k - 1) → ⊥
      clash h = omega arith

  same_step : (x j k : ℕ) → f (j - 1) < x → x ≤ f j → f (k - 1) < x → x ≤ f k → j ≡ k
  same_step x j k a b c d = omega (arith, not_later x j k b c, not_later x k j d a)

years_up : (k : ℕ) → years k ≤ years (suc k)
years_up k = omega (arith, years_next k)

months_up : (y k : ℕ) → months y k ≤ months y (suc k)
unfolding months
months_up y k = omega arith

pub months_to : (y m : ℕ) → 1 ≤ m → months y m ≡ months y (m - 1) + month_length y m
unfolding months
months_to y zero h = absurd (not-suc-le-zero h)
months_to y (suc k) h = rw sub-one

pub months_none : (y : ℕ) → months y 0 ≡ 0
unfolding months
months_none y = refl

year_is : (y : ℕ) → year_length y ≡ months y 12
unfolding year_length
year_is y = refl

module _ (y m d : ℕ) (r : Real y m d) where
  in_month : (months y (m - 1) < months y (m - 1) + d) × (months y (m - 1) + d ≤ months y m)
  in_month = (omega (arith, r.day), omega (arith, months_to y m r.month, r.within))

  in_year : (years (y - 1) < day_number y m d) × (day_number y m d ≤ years y)
  unfolding day_number year_length
  in_year = (
    omega (arith, r.day),
    omega (
      arith,
      in_month.1,
      mono (months y) (months_up y) m 12 r.last,
      years_to y r.year,
    ),
  )

one_in_year : (y m d m' d' : ℕ) → Real y m d → Real y m' d' → day_number y m d ≡ day_number y m' d' → (m ≡ m') × (d ≡ d')
unfolding day_number
one_in_year y m d m' d' r r' e =
    let same : months y (m - 1) + d ≡ months y (m' - 1) + d' = omega arith in
    let i = in_month y m d r in
    let i' = in_month y m' d' r' in
    let p = same_step (months y) (months_up y) (months y (m - 1) + d) m m' i.0 i.1 (rw same i'.0) (rw same i'.1) in
    (p, omega (arith, ap (λ (x : ℕ). months y (x - 1)) p))

-- two real dates with one day number are one date
pub one_date : (y m d y' m' d' : ℕ) → Real y m d → Real y' m' d' → day_number y m d ≡ day_number y' m' d' →
    (y ≡ y') × ((m ≡ m') × (d ≡ d'))
one_date y m d y' m' d' r r' e =
    let i = in_year y m d r in
    let i' = in_year y' m' d' r' in
    let p = same_step years years_up (day_number y m d) y y' i.0 i.1 (rw e i'.0) (rw e i'.1) in
    (p, one_in_year y m d m' d' r (subst (λ (x : ℕ). Real x m' d') (sym p) r') (e ∙ ap (λ (x : ℕ). day_number x m' d') (sym p)))

-- ---- 9999-12-31 is day 3652059
last_day : years 9999 ≡ 3652059
last_day = omega (arith, years_closed 24 399 (omega arith))

pub years_most : (y : ℕ) → y ≤ 9999 → years y ≤ 3652059
years_most y h = omega (arith, mono years years_up y 9999 h, last_day)

pub number_most : (y m d : ℕ) → Real y m d → y ≤ 9999 → day_number y m d ≤ 3652059
number_most y m d r h = omega (arith, in_year y m d r, years_most y h)

pub year_most : (y m d : ℕ) → Real y m d → day_number y m d ≤ 3652059 → y ≤ 9999
year_most y m d r h =
    elim (dec_le y 9999) [ yes l ↦ l | no l ↦ absurd (past (mono years years_up 9999 (y - 1) (omega arith))) ]
  where
    past : years 9999 ≤ years (y - 1) → ⊥
    past g = omega (arith, in_year y m d r, last_day)

-- ---- the day after
-- each month has a first
pub a_first : (y m : ℕ) → 1 ≤ y → 1 ≤ m → m ≤ 12 → Real y m 1
a_first y m a b c =
    record { year = a; month = b; last = c; day = omega arith; within = omega (arith, month_length_range y m c) }

following : (y m d : ℕ) → Real y m d → (b e : Bool) → (b ≡ true → d < month_length y m) → (b ≡ false → month_length y m ≤ d)
    → (e ≡ true → m < 12) → (e ≡ false → 12 ≤ m)
    → let t = cond b (date y m (d + 1)) (cond e (date y (m + 1) 1) (date (y + 1) 1 1)) in
    Real t.year t.month t.day × (day_number t.year t.month t.day ≡ day_number y m d + 1)
unfolding day_number
following y m d r true e p q u v =
    (record { year = r.year; month = r.month; last = r.last; day = omega arith; within = omega (arith, p refl) }, omega arith)
following y m d r false true p q u v =
    let before : m + 1 - 1 ≡ m = omega arith in (
      a_first y (m + 1) r.year (omega arith) (omega (arith, u refl)),
      rw before (omega (arith, months_to y m r.month, q refl, r.within)),
    )
following y m d r false false p q u v =
    let before : y + 1 - 1 ≡ y = omega arith in
    let last : m ≡ 12 = omega (arith, v refl, r.last) in
    let whole : months y 12 ≡ months y (m - 1) + month_length y m =
    subst (λ (x : ℕ). months y x ≡ months y (m - 1) + month_length y m) last (months_to y m r.month) in (
      a_first (y + 1) 1 (omega arith) (omega arith) (omega arith),
      rw before (omega (arith, years_to y r.year, year_is y, whole, months_none (y + 1), q refl, r.within)),
    )

-- the next day of a real date is a real date, and its number is one more
pub next_day_law : (t : Date) → Real t.year t.month t.day
    → Real (next_day t).year (next_day t).month (next_day t).day
    × (day_number (next_day t).year (next_day t).month (next_day t).day ≡ day_number t.year t.month t.day + 1)
unfolding next_day
next_day_law t r =
    following t.year t.month t.day r (ltb t.day (month_length t.year t.month)) (ltb t.month 12)
    (ltb-true _ _) (ltb-false _ _) (ltb-true _ _) (ltb-false _ _)

-- ---- the date of a day number
first : Real 1 1 1 × (day_number 1 1 1 ≡ 1)
unfolding day_number
first = (a_first 1 1 (omega arith) (omega arith) (omega arith), refl)

later_is : (k : ℕ) → let t = days_later k in Real t.year t.month t.day × (day_number t.year t.month t.day ≡ k + 1)
unfolding days_later
later_is zero = first
later_is (suc k) =
    let (r, e) = later_is k in
    let (r', e') = next_day_law (days_later k) r in
    (r', omega (arith, e, e'))

-- the date of a day number is a real date with that number
pub date_number : (n : ℕ) → 1 ≤ n → let t = date_of n in
    Real t.year t.month t.day × (day_number t.year t.month t.day ≡ n)
unfolding date_of
date_number n h = ((later_is (n - 1)).0, omega (arith, (later_is (n - 1)).1))

-- and it is the only one
pub the_date : (n : ℕ) (t : Date) → 1 ≤ n → Real t.year t.month t.day → day_number t.year t.month t.day ≡ n →
    t ≡ date_of n
the_date n t h r e =
    let (r', e') = date_number n h in
    let s = date_of n in
    let (p, (q, u)) = one_date t.year t.month t.day s.year s.month s.day r r' (e ∙ sym e') in
    λ i. record { year = p i; month = q i; day = u i }

-- the date of the next number follows by the calendar's rule
pub date_follows : (n : ℕ) → 1 ≤ n → date_of (n + 1) ≡ next_day (date_of n)
unfolding date_of days_later
date_follows zero h = absurd (not-suc-le-zero h)
date_follows (suc k) h =
    let after : suc k + 1 - 1 ≡ suc k = omega arith in
    let before : suc k - 1 ≡ k = omega arith in
    ap days_later after ∙ ap (λ (x : ℕ). next_day (days_later x)) (sym before)

-- the year of a day number is the one that has it among its days, and no other
pub year_has : (n : ℕ) → 1 ≤ n → let y = (date_of n).year in (1 ≤ y) × ((years (y - 1) < n) × (n ≤ years y))
year_has n h =
    let (r, e) = date_number n h in
    let t = date_of n in
    let (low, high) = in_year t.year t.month t.day r in
    (r.year, (omega (arith, e, low), omega (arith, e, high)))

pub year_is_that : (n y : ℕ) → 1 ≤ n → years (y - 1) < n → n ≤ years y → (date_of n).year ≡ y
year_is_that n y h low high =
    let (f, (l, u)) = year_has n h in
    same_step years years_up n (date_of n).year y l u low high
