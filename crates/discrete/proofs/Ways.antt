-- An axis counts in one way, so that its kind alone tells where it begins, where a value stands and which value an index has.
-- Assumes nothing.
use mathlib.Core.Path.{◌≡◌, refl, sym, ◌∙◌, ap}
use mathlib.Core.Logic.{◌⊎◌, inl, inr}
use mathlib.Core.Bool.{true, false, true≢false}
use Prim.Native.Nat.{ℕ, ◌+◌, ◌-◌, ◌*◌, ◌/◌, ◌%◌, ◌≤◌}
use native.Mathlib.Omega.{arith}
use lib.IntN.{pos}
use Rattle.laws.specs.Numbers.{pos_part}
use Rattle.calendar.specs.Gregorian.{day_number}
use Rattle.weeks.specs.Weeks.{monday, mondays_to}
use Rattle.weeks.proofs.Mondays.{mondays_to_law, monday_is}
use Rattle.values.specs.declared.Kind.{Kind}
use Rattle.values.specs.declared.Kind.TheVariants as kind
use Rattle.values.specs.declared.Value.{Value}
use Rattle.values.specs.Values.{midnight}
use Rattle.axis.specs.declared.Axis.{Axis}
use Rattle.counting.specs.Counting.{Dated, counts_years, monthly, yearly, weekly, first_date, date_on, origin, position}
use Rattle.counting.proofs.Counting.{starts, first_near, in_years, in_weeks, in_days}
use Rattle.counting.proofs.Counting.{origin_months, origin_years, origin_weeks, origin_days}
use Rattle.counting.proofs.Counting.{position_years, position_weeks, position_days}
use Rattle.discrete.specs.Indices.{counts_days, daily, january, year_at, week_at, value_at}
use Rattle.discrete.proofs.Indices.{value_months, value_years, value_weeks, value_days, month_later, week_later}

year_kinds : (k : Kind) → counts_years k ≡ true → (k ≡ kind.Year) ⊎ (k ≡ kind.StampYear)
year_kinds kind.Date e = absurd (true≢false (sym e))
year_kinds kind.Month e = absurd (true≢false (sym e))
year_kinds kind.Year e = inl refl
year_kinds kind.Stamp e = absurd (true≢false (sym e))
year_kinds kind.StampMonth e = absurd (true≢false (sym e))
year_kinds kind.StampYear e = inr refl
year_kinds kind.Span e = absurd (true≢false (sym e))
year_kinds kind.Week e = absurd (true≢false (sym e))
year_kinds kind.Unknown e = absurd (true≢false (sym e))

day_kinds : (k : Kind) → counts_days k ≡ true → (k ≡ kind.Date) ⊎ ((k ≡ kind.Stamp) ⊎ ((k ≡ kind.Span) ⊎ (k ≡ kind.Unknown)))
day_kinds kind.Date e = inl refl
day_kinds kind.Month e = absurd (true≢false (sym e))
day_kinds kind.Year e = absurd (true≢false (sym e))
day_kinds kind.Stamp e = inr (inl refl)
day_kinds kind.StampMonth e = absurd (true≢false (sym e))
day_kinds kind.StampYear e = absurd (true≢false (sym e))
day_kinds kind.Span e = inr (inr (inl refl))
day_kinds kind.Week e = absurd (true≢false (sym e))
day_kinds kind.Unknown e = inr (inr (inr refl))

module _ (a : Axis) where
  by_years : yearly a ≡ true → (monthly a ≡ false) × (yearly a ≡ true)
  unfolding yearly
  by_years y = in_years a (year_kinds a.kind y)

  by_days : daily a ≡ true → (monthly a ≡ false) × (yearly a ≡ false) × (weekly a ≡ false)
  unfolding daily
  by_days d = in_days a (day_kinds a.kind d)

  -- the arm of days
  pub in_daily : (a.kind ≡ kind.Date) ⊎ ((a.kind ≡ kind.Stamp) ⊎ ((a.kind ≡ kind.Span) ⊎ (a.kind ≡ kind.Unknown))) →
      daily a ≡ true
  unfolding daily
  in_daily (inl e) = rw e
  in_daily (inr (inl e)) = rw e
  in_daily (inr (inr (inl e))) = rw e
  in_daily (inr (inr (inr e))) = rw e

module _ (a : Axis) (y : yearly a ≡ true) where
  pub years_origin : origin a ≡ (first_date a).year
  years_origin = let (m, y) = by_years a y in origin_years a m y

  pub years_position : (v : Value) → position a v ≡ (date_on v).year
  years_position v = let (m, y) = by_years a y in position_years a v m y

  pub years_value : (i : ℕ) → value_at a i ≡ year_at a i
  years_value i = let (m, y) = by_years a y in value_years a i m y

  -- the January 1 after a value is the value of the next index
  pub years_next : (v : Value) → origin a ≤ position a v →
      january a (position a v + 1) ≡ value_at a (position a v - origin a + 1)
  years_next v begun = let n = position a v - origin a + 1 in
      let place : position a v + 1 ≡ (first_date a).year + n = omega (arith, begun, years_origin) in
      ap (january a) place ∙ sym (years_value n)

module _ (a : Axis) (k : a.kind ≡ kind.Week) where
  pub weeks_origin : origin a ≡ mondays_to (pos_part a.start.head)
  weeks_origin = let (m, y, w) = in_weeks a k in origin_weeks a m y w

  pub weeks_position : (v : Value) → position a v ≡ mondays_to (pos_part v.head)
  weeks_position v = let (m, y, w) = in_weeks a k in position_weeks a v m y w

  pub weeks_value : (i : ℕ) → value_at a i ≡ week_at a i
  weeks_value i = let (m, y, w) = in_weeks a k in value_weeks a i m y w

-- the Monday after a value
pub weeks_next : (a : Axis) → Dated a → a.kind ≡ kind.Week → (v : Value) → origin a ≤ position a v →
    midnight (pos (7 * position a v + 1)) ≡ value_at a (position a v - origin a + 1)
weeks_next a d k v begun = let n = position a v - origin a + 1 in
    let h = pos_part a.start.head in
    let least = (starts a d).head_least in
    let place : 7 * position a v + 1 ≡ monday h + 7 * n =
    omega (arith, begun, weeks_origin a k, mondays_to_law h, least, monday_is h least) in
    ap (λ (m : ℕ). midnight (pos m)) place ∙ sym (weeks_value a k n ∙ week_later a n (λ z. let w : ⊥ = omega (arith, z) in w))

-- the first of the month after a value
pub months_next : (a : Axis) → Dated a → monthly a ≡ true → (v : Value) → origin a ≤ position a v →
    midnight (pos (day_number ((first_date a).year + position a v / 12) (position a v % 12 + 1) 1))
    ≡ value_at a (position a v - origin a + 1)
months_next a d m v begun = let n = position a v - origin a + 1 in
    let place : position a v ≡ n + ((first_date a).month - 1) =
    omega (arith, begun, origin_months a m, (first_near a d).month_least) in
    ap (λ (k : ℕ). midnight (pos (day_number ((first_date a).year + k / 12) (k % 12 + 1) 1))) place
    ∙ sym (value_months a n m ∙ month_later a n (λ z. let w : ⊥ = omega (arith, z) in w))

module _ (a : Axis) (d : daily a ≡ true) where
  pub days_origin : origin a ≡ pos_part a.start.head
  days_origin = let (m, y, w) = by_days a d in origin_days a m y w

  pub days_position : (v : Value) → position a v ≡ pos_part v.head
  days_position v = let (m, y, w) = by_days a d in position_days a v m y w

  pub days_value : (i : ℕ) → value_at a i ≡ midnight (pos (pos_part a.start.head + i))
  days_value i = let (m, y, w) = by_days a d in value_days a i m y w

  -- the day after a value
  pub days_next : (v : Value) → origin a ≤ position a v →
      midnight (pos (position a v + 1)) ≡ value_at a (position a v - origin a + 1)
  days_next v begun = let n = position a v - origin a + 1 in
      let place : position a v + 1 ≡ pos_part a.start.head + n = omega (arith, begun, days_origin) in
      ap (λ (k : ℕ). midnight (pos k)) place ∙ sym (days_value n)
