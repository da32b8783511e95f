-- What an axis over dates or date-times tells of its ends and of a value on it, in numbers that `omega` reads.
-- Assumes nothing.
use mathlib.Core.Path.{◌≡◌, refl, sym, ap}
use mathlib.Core.Logic.{◌⊎◌, inl, inr}
use mathlib.Core.Bool.{Bool, true, false, cond, true≢false}
use Prim.Native.Nat.{ℕ, ◌+◌, ◌-◌, ◌*◌, ◌/◌, ◌≤◌, ◌<◌}
use native.Mathlib.Decide.{dec_le}
use native.Mathlib.Omega.{arith}
use lib.Dec.{ltb}
use borrow.Author.Tests.{ltb-false, not-true}
use lib.IntN.{ℤ, pos}
use lib.Signed.{lt_z}
use Rattle.laws.specs.Numbers.{pos_part, neg_part}
use Rattle.asking.specs.Asking.{passes}
use Rattle.asking.proofs.Asked.{told}
use Rattle.laws.proofs.Signed.{is_ge}
use Rattle.laws.proofs.Tests.{either_false, bit}
use Rattle.calendar.specs.declared.Date.{Date}
use Rattle.calendar.specs.Gregorian.{date_of}
use Rattle.calendar.specs.Questions.{is_day}
use Rattle.values.specs.declared.Kind.{Kind}
use Rattle.values.specs.declared.Kind.TheVariants as kind
use Rattle.values.specs.declared.Value.{Value}
use Rattle.weeks.specs.Weeks.{mondays_to}
use Rattle.weeks.proofs.Mondays.{mondays_to_law}
use Rattle.values.specs.Values.{over_dates, is_stamp, is_duration}
use Rattle.values.proofs.Numbers.{is_le}
use Rattle.values.proofs.Values.{DayValue, date_value, day_value}
use Rattle.axis.specs.declared.Axis.{Axis}
use Rattle.axis.specs.Axes.{closed}
use Rattle.axis.specs.Questions.{has_period, has_index, has_unmap, ends, value_on, plain_questions}
use Rattle.axis.proofs.Axes.{both_ends}
use Rattle.axis.proofs.ClosedAxes.{same_kind, plain_passed}
use Rattle.counting.specs.Counting.{Dated, monthly, yearly, weekly, from_day, to_day, first_date, date_on, origin, position}
use Rattle.counting.specs.Counting.{counts_months, counts_years, counts_weeks, size_of}
use Rattle.counting.proofs.Sizes.{size_is}
use Rattle.counting.proofs.Dates.{ranges, year_9999, year_onward}

-- ---- kinds
months : (k : Kind) → counts_months k ≡ true → is_duration k ≡ false
months kind.Date e = absurd (true≢false (sym e))
months kind.Month e = refl
months kind.Year e = absurd (true≢false (sym e))
months kind.Stamp e = absurd (true≢false (sym e))
months kind.StampMonth e = refl
months kind.StampYear e = absurd (true≢false (sym e))
months kind.Span e = absurd (true≢false (sym e))
months kind.Week e = absurd (true≢false (sym e))
months kind.Unknown e = absurd (true≢false (sym e))

years : (k : Kind) → counts_years k ≡ true → is_duration k ≡ false
years kind.Date e = absurd (true≢false (sym e))
years kind.Month e = absurd (true≢false (sym e))
years kind.Year e = refl
years kind.Stamp e = absurd (true≢false (sym e))
years kind.StampMonth e = absurd (true≢false (sym e))
years kind.StampYear e = refl
years kind.Span e = absurd (true≢false (sym e))
years kind.Week e = absurd (true≢false (sym e))
years kind.Unknown e = absurd (true≢false (sym e))

weeks : (k : Kind) → counts_weeks k ≡ true → over_dates k ≡ true
weeks kind.Date e = absurd (true≢false (sym e))
weeks kind.Month e = absurd (true≢false (sym e))
weeks kind.Year e = absurd (true≢false (sym e))
weeks kind.Stamp e = absurd (true≢false (sym e))
weeks kind.StampMonth e = absurd (true≢false (sym e))
weeks kind.StampYear e = absurd (true≢false (sym e))
weeks kind.Span e = absurd (true≢false (sym e))
weeks kind.Week e = refl
weeks kind.Unknown e = absurd (true≢false (sym e))

pub monthly_dated : (a : Axis) → monthly a ≡ true → is_duration a.kind ≡ false
unfolding monthly
monthly_dated a e = months a.kind e

pub yearly_dated : (a : Axis) → yearly a ≡ true → is_duration a.kind ≡ false
unfolding yearly
yearly_dated a e = years a.kind e

pub weekly_dates : (a : Axis) → weekly a ≡ true → over_dates a.kind ≡ true
unfolding weekly
weekly_dates a e = weeks a.kind e

-- the arms of a match on the kind
module _ (a : Axis) where
  pub in_months : (a.kind ≡ kind.Month) ⊎ (a.kind ≡ kind.StampMonth) → monthly a ≡ true
  unfolding monthly
  in_months (inl e) = rw e
  in_months (inr e) = rw e

  pub in_years : (a.kind ≡ kind.Year) ⊎ (a.kind ≡ kind.StampYear) → (monthly a ≡ false) × (yearly a ≡ true)
  unfolding monthly yearly
  in_years (inl e) = (rw e, rw e)
  in_years (inr e) = (rw e, rw e)

  pub in_weeks : a.kind ≡ kind.Week → (monthly a ≡ false) × (yearly a ≡ false) × (weekly a ≡ true)
  unfolding monthly yearly weekly
  in_weeks e = (rw e, rw e, rw e)

  pub in_days : (a.kind ≡ kind.Date) ⊎ ((a.kind ≡ kind.Stamp) ⊎ ((a.kind ≡ kind.Span) ⊎ (a.kind ≡ kind.Unknown))) →
      (monthly a ≡ false) × (yearly a ≡ false) × (weekly a ≡ false)
  unfolding monthly yearly weekly
  in_days (inl e) = (rw e, rw e, rw e)
  in_days (inr (inl e)) = (rw e, rw e, rw e)
  in_days (inr (inr (inl e))) = (rw e, rw e, rw e)
  in_days (inr (inr (inr e))) = (rw e, rw e, rw e)

pub unmap_dated : (a : Axis) → has_unmap a ≡ true → is_duration a.kind ≡ false
unfolding has_unmap
unmap_dated a e = not-true _ e

pub index_dated : (a : Axis) → has_index a ≡ true → is_duration a.kind ≡ false
unfolding has_index has_period
index_dated a e = (either_false (is_stamp a.kind) (is_duration a.kind) (not-true _ e)).1

-- questions 2 and 3 of indices
pub dated : (a : Axis) → has_index a ≡ true → ends a ≡ true → Dated a
dated a h r = record { real = r; dates = index_dated a h }

-- the axis by which an axis counts, and values on it
pub closed_dated : (a : Axis) (has : Bool) → is_duration a.kind ≡ false → passes (plain_questions has a) ≡ true → Dated (closed a)
closed_dated a has e z = record {
  real = told 3 (plain_questions has (closed a)) (plain_passed a has z);
  dates = rw (same_kind a) e;
}

pub value_on_law : (a : Axis) (v : Value) → value_on (closed a) v ≡ value_on a v
unfolding value_on
value_on_law a v = rw (same_kind a)

-- ---- values
pub is_day_law : (v : Value) → DayValue v → is_day v.head ≡ true
is_day_law v d =
    let x = is_le (pos 1) v.head (omega (arith, d.head_dn, d.head_least)) in
    let y = is_le v.head (pos 3652059) (omega (arith, d.head_dn, d.head_most)) in
    rw (x, y)

pub no_less : (z : ℤ) → neg_part z ≡ 0 → lt_z z (pos 0) ≡ false
no_less z h = is_ge z (pos 0) (omega arith)

-- ---- dates
-- a date's ranges
pub record Near (t : Date) (years : ℕ) : Type 0 where
  pub year_least : 1 ≤ t.year
  pub year_most : t.year ≤ years
  pub month_least : 1 ≤ t.month
  pub month_most : t.month ≤ 12

near_year : (n y : ℕ) → 1 ≤ n → (date_of n).year ≤ y → Near (date_of n) y
near_year n y h l =
    let r = ranges n h in
    record { year_least = r.year_least; year_most = l; month_least = r.month_least; month_most = r.month_most }

-- of 10000-01-01 too
near_next : (n : ℕ) → 1 ≤ n → n ≤ 3652060 → Near (date_of n) 10000
near_next n h l = near_year n 10000 h most
  where
    most : (date_of n).year ≤ 10000
    most = elim (dec_le n 3652059) [
      | yes k ↦ let g = year_9999 n h k in let f : (date_of n).year ≤ 10000 = omega arith in f
      | no k ↦ (let e : n ≡ 3652059 + 1 = omega arith in
          let g : (date_of (3652059 + 1)).year ≤ 10000 =
          omega (arith, (year_onward 3652059 (omega arith)).to, year_9999 3652059 (omega arith) (omega arith)) in
          let f : (date_of n).year ≤ 10000 = rw e g in f)
    ]

-- ---- the first day
module _ (a : Axis) where
  -- it is the start's only within its first second
  pub from_start : (pos_part a.start.head ≤ from_day a)
      × (from_day a ≡ pos_part a.start.head → pos_part a.start.tail < 1000000000)
  unfolding from_day
  from_start = go (ltb 0 (pos_part a.start.tail / 1000000000)) (ltb-false 0 (pos_part a.start.tail / 1000000000))
    where
      go : (b : Bool) → (b ≡ false → pos_part a.start.tail / 1000000000 ≤ 0) →
          (pos_part a.start.head ≤ pos_part a.start.head + cond b 1 0)
          × (pos_part a.start.head + cond b 1 0 ≡ pos_part a.start.head → pos_part a.start.tail < 1000000000)
      go true f = (omega arith, λ e. omega arith)
      go false f = (omega arith, λ e. omega (arith, f refl))

  -- and no later than the day after
  pub from_next : from_day a ≤ pos_part a.start.head + 1
  unfolding from_day
  from_next = let b = bit (ltb 0 (pos_part a.start.tail / 1000000000)) in omega arith

  pub from_date : pos_part a.start.tail ≡ 0 → from_day a ≡ pos_part a.start.head
  unfolding from_day
  from_date e = rw e (omega arith)

  -- on an axis over dates it is the start's
  pub date_from : ends a ≡ true → over_dates a.kind ≡ true → from_day a ≡ pos_part a.start.head
  date_from r d = from_date (ap pos_part (date_value a.kind a.start (both_ends a r).first d).no_tail)

  pub to_is : to_day a ≡ pos_part a.end.head
  unfolding to_day
  to_is = refl

-- ---- the definitions, by what the axis counts
module _ (a : Axis) where
  pub origin_months : monthly a ≡ true → origin a ≡ (first_date a).month
  unfolding origin
  origin_months m = rw m

  pub origin_years : monthly a ≡ false → yearly a ≡ true → origin a ≡ (first_date a).year
  unfolding origin
  origin_years m y = rw (m, y)

  pub origin_weeks : monthly a ≡ false → yearly a ≡ false → weekly a ≡ true → origin a ≡ mondays_to (pos_part a.start.head)
  unfolding origin
  origin_weeks m y w = rw (m, y, w)

  pub origin_days : monthly a ≡ false → yearly a ≡ false → weekly a ≡ false → origin a ≡ pos_part a.start.head
  unfolding origin
  origin_days m y w = rw (m, y, w)

  pub position_months : (v : Value) → monthly a ≡ true →
      position a v ≡ 12 * ((date_on v).year - (first_date a).year) + (date_on v).month
  unfolding position
  position_months v m = rw m

  pub position_years : (v : Value) → monthly a ≡ false → yearly a ≡ true → position a v ≡ (date_on v).year
  unfolding position
  position_years v m y = rw (m, y)

  pub position_weeks : (v : Value) → monthly a ≡ false → yearly a ≡ false → weekly a ≡ true →
      position a v ≡ mondays_to (pos_part v.head)
  unfolding position
  position_weeks v m y w = rw (m, y, w)

  pub position_days : (v : Value) → monthly a ≡ false → yearly a ≡ false → weekly a ≡ false → position a v ≡ pos_part v.head
  unfolding position
  position_days v m y w = rw (m, y, w)

-- ---- an axis of which question 3 is answered
module _ (a : Axis) (d : Dated a) where
  pub on_day : (v : Value) → value_on a v ≡ true → DayValue v
  unfolding value_on
  on_day v e = day_value a.kind v e d.dates

  pub starts : DayValue a.start
  starts = day_value a.kind a.start (both_ends a d.real).first d.dates

  pub end_value : DayValue a.end
  end_value = day_value a.kind a.end (both_ends a d.real).second d.dates

  pub on_is_day : (v : Value) → value_on a v ≡ true → is_day v.head ≡ true
  on_is_day v e = is_day_law v (on_day v e)

  pub start_is_day : is_day a.start.head ≡ true
  start_is_day = is_day_law a.start starts

  pub end_is_day : is_day a.end.head ≡ true
  end_is_day = is_day_law a.end end_value

  pub end_on : value_on a a.end ≡ true
  unfolding value_on
  end_on = (both_ends a d.real).second

  pub from_range : (1 ≤ from_day a) × (from_day a ≤ 3652060)
  from_range = let v = starts in let f = from_start a in (omega (arith, f.0), omega (arith, from_next a))

  pub to_range : (1 ≤ to_day a) × (to_day a ≤ 3652059)
  unfolding to_day
  to_range = let v = end_value in (v.head_least, v.head_most)

  pub first_near : Near (first_date a) 10000
  unfolding first_date
  first_near = near_next (from_day a) from_range.0 from_range.1

  pub on_near : (v : Value) → value_on a v ≡ true → Near (date_on v) 9999
  unfolding date_on
  on_near v e =
      let r = on_day v e in
      near_year (pos_part v.head) 9999 r.head_least (year_9999 (pos_part v.head) r.head_least r.head_most)

  -- ---- where the count begins, and where a value stands
  pub origin_least : 1 ≤ origin a
  unfolding origin
  origin_least = go (monthly a) (yearly a) (weekly a)
    where
      go : (m y w : Bool) → 1 ≤ cond m (first_date a).month
          (cond y (first_date a).year (cond w (mondays_to (pos_part a.start.head)) (pos_part a.start.head)))
      go true y w = first_near.month_least
      go false true w = first_near.year_least
      go false false true = omega (arith, mondays_to_law (pos_part a.start.head), starts.head_least)
      go false false false = starts.head_least

  pub position_most : (v : Value) → value_on a v ≡ true → position a v ≤ 3652059
  unfolding position
  position_most v e = go (monthly a) (yearly a) (weekly a)
    where
      go : (m y w : Bool) → cond m (12 * ((date_on v).year - (first_date a).year) + (date_on v).month)
          (cond y (date_on v).year (cond w (mondays_to (pos_part v.head)) (pos_part v.head))) ≤ 3652059
      go true y w = let n = on_near v e in omega arith
      go false true w = let n = on_near v e in omega arith
      go false false true = omega (arith, mondays_to_law (pos_part v.head), (on_day v e).head_most)
      go false false false = (on_day v e).head_most

  pub size_most : size_of a ≤ 3652059
  size_most = omega (arith, size_is a, position_most a.end end_on, origin_least)
