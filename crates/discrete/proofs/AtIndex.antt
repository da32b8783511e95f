-- The value of an index: it stands at that index, on every kind that counts, and is a value of the kind where question 10
-- lets it pass; and below the size it does, but for one axis of kind 5. Assumes nothing.
use mathlib.Core.Path.{◌≡◌, refl, sym, ap, ◌∙◌}
use mathlib.Core.Logic.{◌⊎◌, inl, inr}
use mathlib.Core.Bool.{Bool, true, false, true≢false}
use Prim.Native.Nat.{ℕ, zero, suc, ◌+◌, ◌-◌, ◌*◌, ◌/◌, ◌%◌, ◌≤◌, ◌<◌}
use native.Mathlib.Decide.{dec_le}
use native.Mathlib.Omega.{arith}
use lib.IntN.{pos}
use Rattle.laws.specs.Numbers.{pos_part}
use Rattle.calendar.specs.declared.Date.{Date}
use Rattle.calendar.specs.Gregorian.{day_number, date, date_of}
use Rattle.weeks.specs.Weeks.{monday, mondays_to}
use Rattle.weeks.proofs.Mondays.{mondays_to_law, monday_is}
use Rattle.values.specs.declared.Value.{Value}
use Rattle.values.specs.Values.{over_dates, is_value, midnight}
use Rattle.calendar.specs.Questions.{is_day}
use Rattle.values.proofs.Values.{of_dates, of_date_times, by_form}
use Rattle.axis.specs.declared.Axis.{Axis}
use Rattle.axis.specs.Questions.{value_on}
use Rattle.axis.proofs.Axes.{both_ends}
use Rattle.counting.specs.Counting.{Dated, monthly, yearly, weekly, from_day, first_date, date_on, origin, position, size_of}
use Rattle.discrete.specs.Indices.{month_at, year_at, week_at, value_at}
use Rattle.discrete.specs.Walking.{Inside}
use Rattle.counting.proofs.Dates.{years_grow, year_9999, first_least, first_date_is, first_most, begun}
use Rattle.counting.proofs.Sizes.{size_is}
use Rattle.counting.proofs.Counting.{from_start, from_next, date_from, starts, end_on, on_near, on_day, from_range}
use Rattle.counting.proofs.Counting.{first_near, is_day_law}
use Rattle.discrete.proofs.Indices.{value_months, value_years, value_weeks, value_days}
use Rattle.counting.proofs.Counting.{origin_months, origin_years, origin_weeks, origin_days, position_months}
use Rattle.counting.proofs.Counting.{position_years, position_weeks, position_days}
use Rattle.discrete.proofs.Indices.{month_first, month_later, year_start, year_later, week_first, week_later}
use Rattle.calendar.proofs.Questions.{day_in}

on_midnight : (d : ℕ) → date_on (midnight (pos d)) ≡ date_of d
unfolding date_on
on_midnight d = refl

on_first : (y m : ℕ) → 1 ≤ y → 1 ≤ m → m ≤ 12 → date_on (midnight (pos (day_number y m 1))) ≡ date y m 1
on_first y m a b c = on_midnight (day_number y m 1) ∙ first_date_is y m a b c

module _ (a : Axis) (c : Dated a) where
  on_first_day : date_on (midnight (pos (from_day a))) ≡ first_date a
  unfolding first_date
  on_first_day = on_midnight (from_day a)

  month_index : (i : ℕ) → monthly a ≡ true → position a (month_at a i) ≡ origin a + i
  month_index zero m =
      let t = first_date a in
      ap (position a) (month_first a zero refl)
      ∙ position_months a (midnight (pos (from_day a))) m
      ∙ ap (λ (d : Date). 12 * (d.year - t.year) + d.month) on_first_day
      ∙ (let e : 12 * (t.year - t.year) + t.month ≡ t.month + 0 = omega arith in e)
      ∙ ap (λ (k : ℕ). k + 0) (sym (origin_months a m))
  month_index (suc n) m =
      let t = first_date a in
      let k = suc n + (t.month - 1) in
      let r = first_near a c in
      let e = on_first (t.year + k / 12) (k % 12 + 1) (omega arith) (omega arith) (omega arith) in
      ap (position a) (month_later a (suc n) (λ z. omega arith))
      ∙ position_months a (midnight (pos (day_number (t.year + k / 12) (k % 12 + 1) 1))) m
      ∙ ap (λ (d : Date). 12 * (d.year - t.year) + d.month) e
      ∙ (let f : 12 * (t.year + k / 12 - t.year) + (k % 12 + 1) ≡ t.month + suc n = omega arith in f)
      ∙ ap (λ (x : ℕ). x + suc n) (sym (origin_months a m))

  -- the start is the value of a year only where that is the year of the first day
  start_year : (i : ℕ) → day_number ((first_date a).year + i) 1 1 ≤ pos_part a.start.head → (date_on a.start).year
      ≡ (first_date a).year + i
  unfolding date_on first_date
  start_year i h =
      let r = first_near a c in
      let f = from_start a in
      let g = from_next a in
      let n = pos_part a.start.head in
      let late = begun ((first_date a).year + i) n (omega arith) h in
      let s : n + (from_day a - n) ≡ from_day a = omega arith in
      let early = rw s at (years_grow n (from_day a - n) (starts a c).head_least) in
      omega (arith, late, early)

  year_index : (i : ℕ) → monthly a ≡ false → yearly a ≡ true → position a (year_at a i) ≡ origin a + i
  year_index i m y = elim (dec_le (day_number ((first_date a).year + i) 1 1) (pos_part a.start.head)) [
    | yes h ↦
        ap (position a) (year_start a i h)
        ∙ position_years a a.start m y
        ∙ start_year i h
        ∙ ap (λ (k : ℕ). k + i) (sym (origin_years a m y))
    | no h ↦ (
        let r = first_near a c in
        let e = on_first ((first_date a).year + i) 1 (omega arith) (omega arith) (omega arith) in
        ap (position a) (year_later a i (omega arith))
        ∙ position_years a (midnight (pos (day_number ((first_date a).year + i) 1 1))) m y
        ∙ ap (λ (d : Date). d.year) e
        ∙ ap (λ (k : ℕ). k + i) (sym (origin_years a m y)))
  ]

  week_index : (i : ℕ) → monthly a ≡ false → yearly a ≡ false → weekly a ≡ true → position a (week_at a i) ≡ origin a + i
  week_index zero m y w =
      ap (position a) (week_first a zero refl)
      ∙ position_weeks a a.start m y w
      ∙ (let e : mondays_to (pos_part a.start.head) ≡ origin a + 0 = omega (arith, origin_weeks a m y w) in e)
  week_index (suc n) m y w =
      let s = pos_part a.start.head in
      let t = monday s + 7 * suc n in
      let h = (starts a c).head_least in
      ap (position a) (week_later a (suc n) (λ z. omega arith))
      ∙ position_weeks a (midnight (pos t)) m y w
      ∙ (let e : mondays_to t ≡ origin a + suc n =
      omega (arith, origin_weeks a m y w, mondays_to_law s, mondays_to_law t, monday_is s h) in e)

  day_index : (i : ℕ) → monthly a ≡ false → yearly a ≡ false → weekly a ≡ false →
      position a (midnight (pos (pos_part a.start.head + i))) ≡ origin a + i
  day_index i m y w = position_days a (midnight (pos (pos_part a.start.head + i))) m y w ∙ ap (λ (k : ℕ). k + i)
      (sym (origin_days a m y w))

  -- THE LAW: a value stands at its index
  pub at_index : (i : ℕ) → position a (value_at a i) ≡ origin a + i
  at_index i = go (monthly a) (yearly a) (weekly a) refl refl refl
    where
      go : (m y w : Bool) → monthly a ≡ m → yearly a ≡ y → weekly a ≡ w → position a (value_at a i) ≡ origin a + i
      go true y w e f g = ap (position a) (value_months a i e) ∙ month_index i e
      go false true w e f g = ap (position a) (value_years a i e f) ∙ year_index i e f
      go false false true e f g = ap (position a) (value_weeks a i e f g) ∙ week_index i e f g
      go false false false e f g = ap (position a) (value_days a i e f g) ∙ day_index i e f g

  -- ---- it is a value of the kind
  start_is : is_value a.kind a.start ≡ true
  start_is = (both_ends a c.real).first

  no_time : (v : Value) → v.tail ≡ pos 0 → is_day v.head ≡ true → is_value a.kind v ≡ true
  no_time v t d =
      by_form a.kind a.start start_is (λ e _. of_dates a.kind v e ∙ simp (d, t))
      (λ e _. of_date_times a.kind v e ∙ simp (d, t)) (λ e _. absurd (true≢false (sym e ∙ c.dates)))

  form : (i : ℕ) → (value_at a i ≡ a.start) ⊎ ((value_at a i).tail ≡ pos 0)
  form i = go (monthly a) (yearly a) (weekly a) refl refl refl
    where
      months : (i : ℕ) → (month_at a i).tail ≡ pos 0
      months zero = ap (λ (v : Value). v.tail) (month_first a zero refl)
      months (suc n) = ap (λ (v : Value). v.tail) (month_later a (suc n) (λ z. omega arith))

      years : (year_at a i ≡ a.start) ⊎ ((year_at a i).tail ≡ pos 0)
      years = elim (dec_le (day_number ((first_date a).year + i) 1 1) (pos_part a.start.head)) [
        | yes h ↦ inl (year_start a i h)
        | no h ↦ inr (ap (λ (v : Value). v.tail) (year_later a i (omega arith)))
      ]

      weeks : (i : ℕ) → (week_at a i ≡ a.start) ⊎ ((week_at a i).tail ≡ pos 0)
      weeks zero = inl (week_first a zero refl)
      weeks (suc n) = inr (ap (λ (v : Value). v.tail) (week_later a (suc n) (λ z. omega arith)))

      go : (m y w : Bool) → monthly a ≡ m → yearly a ≡ y → weekly a ≡ w →
          (value_at a i ≡ a.start) ⊎ ((value_at a i).tail ≡ pos 0)
      go true y w e f g = rw (value_months a i e) (inr (months i))
      go false true w e f g = rw (value_years a i e f) years
      go false false true e f g = rw (value_weeks a i e f g) (weeks i)
      go false false false e f g = inr (ap (λ (v : Value). v.tail) (value_days a i e f g))

  pub of_kind : (i : ℕ) → is_day (value_at a i).head ≡ true → value_on a (value_at a i) ≡ true
  unfolding value_on
  of_kind i d = elim (form i) [
    | inl e ↦ rw e (both_ends a c.real).first
    | inr t ↦ no_time (value_at a i) t d
  ]

  -- ---- below the size
  -- kinds 1 to 3 and 8
  pub dates_inside : over_dates a.kind ≡ true → from_day a ≤ 3652059
  dates_inside e = omega (arith, date_from a c.real e, (starts a c).head_most)

  first_year : from_day a ≤ 3652059 → (first_date a).year ≤ 9999
  unfolding first_date
  first_year l = year_9999 (from_day a) (from_range a c).0 l

  month_below : (i : ℕ) → monthly a ≡ true → from_day a ≤ 3652059 → i < size_of a → is_day (month_at a i).head ≡ true
  month_below zero m l h = rw (month_first a zero refl) (day_in (from_day a) (from_range a c).0 l)
  month_below (suc n) m l h =
      let t = first_date a in
      let k = suc n + (t.month - 1) in
      let r = first_near a c in
      let e = on_near a c a.end (end_on a c) in
      let y = first_year l in
      let size : suc n < 12 * ((date_on a.end).year - t.year) + (date_on a.end).month + 1 - t.month =
      rw (size_is a, position_months a a.end m, origin_months a m) at h in
      let most : t.year + k / 12 ≤ 9999 = omega arith in
      rw (month_later a (suc n) (λ z. omega arith))
      (day_in (day_number (t.year + k / 12) (k % 12 + 1) 1) (first_least (t.year + k / 12) (k % 12 + 1) (omega arith)
      (omega arith) (omega arith)) (first_most (t.year + k / 12) (k % 12 + 1) (omega arith) (omega arith) (omega arith)
      most))

  year_below : (i : ℕ) → monthly a ≡ false → yearly a ≡ true → i < size_of a → is_day (year_at a i).head ≡ true
  year_below i m y h = elim (dec_le (day_number ((first_date a).year + i) 1 1) (pos_part a.start.head)) [
    | yes l ↦ rw (year_start a i l) (is_day_law a.start (starts a c))
    | no l ↦ (
        let r = first_near a c in
        let e = on_near a c a.end (end_on a c) in
        let size : i < (date_on a.end).year + 1 - (first_date a).year =
        rw (size_is a, position_years a a.end m y, origin_years a m y) at h in
        rw (year_later a i (omega arith))
        (day_in (day_number ((first_date a).year + i) 1 1) (first_least ((first_date a).year + i) 1 (omega arith) (omega arith)
        (omega arith)) (first_most ((first_date a).year + i) 1 (omega arith) (omega arith) (omega arith) (omega arith))))
  ]

  week_below : (i : ℕ) → monthly a ≡ false → yearly a ≡ false → weekly a ≡ true → i < size_of a → is_day (week_at a i).head ≡ true
  week_below zero m y w h = rw (week_first a zero refl) (is_day_law a.start (starts a c))
  week_below (suc n) m y w l =
      let s = pos_part a.start.head in
      let e = on_day a c a.end (end_on a c) in
      let size : suc n < mondays_to (pos_part a.end.head) + 1 - mondays_to s =
      rw (size_is a, position_weeks a a.end m y w, origin_weeks a m y w) at l in
      let h = (starts a c).head_least in
      let is = monday_is s h in
      let from = mondays_to_law s in
      let to = mondays_to_law (pos_part a.end.head) in
      rw (week_later a (suc n) (λ z. omega arith)) (day_in (monday s + 7 * suc n) (omega arith) (omega arith))

  day_below : (i : ℕ) → monthly a ≡ false → yearly a ≡ false → weekly a ≡ false → i < size_of a →
      is_day (pos (pos_part a.start.head + i)) ≡ true
  day_below i m y w h =
      let s = starts a c in
      let e = on_day a c a.end (end_on a c) in
      let size : i < pos_part a.end.head + 1 - pos_part a.start.head =
      rw (size_is a, position_days a a.end m y w, origin_days a m y w) at h in
      day_in (pos_part a.start.head + i) (omega arith) (omega arith)

  pub below_size : Inside a → (i : ℕ) → i < size_of a → is_day (value_at a i).head ≡ true
  below_size l i h = go (monthly a) (yearly a) (weekly a) refl refl refl
    where
      go : (m y w : Bool) → monthly a ≡ m → yearly a ≡ y → weekly a ≡ w → is_day (value_at a i).head ≡ true
      go true y w e f g = rw (value_months a i e) (month_below i e (l e) h)
      go false true w e f g = rw (value_years a i e f) (year_below i e f h)
      go false false true e f g = rw (value_weeks a i e f g) (week_below i e f g h)
      go false false false e f g = rw (value_days a i e f g) (day_below i e f g h)
