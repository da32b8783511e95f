-- What a value of a kind is, in numbers that `omega` reads. Assumes nothing.
use mathlib.Core.Path.{◌≡◌, refl, sym, ◌∙◌}
use mathlib.Core.Logic.{◌⊎◌, inl, inr}
use mathlib.Core.Bool.{true, false, ◌&&◌, true≢false}
use Prim.Native.Nat.{ℕ, ◌≤◌}
use native.Mathlib.Omega.{arith}
use lib.IntN.{pos}
use mir.Syntax.{w64}
use mir.Val.{SFits}
use Rattle.laws.specs.Numbers.{minus, within, pos_part, neg_part}
use Rattle.laws.proofs.Signed.{same}
use Rattle.laws.proofs.Tests.{both_true}
use Rattle.values.specs.declared.Kind.{Kind}
use Rattle.values.specs.declared.Kind.TheVariants as kind
use Rattle.values.specs.declared.Value.{Value}
use Rattle.values.specs.Values.{is_kind, over_dates, over_date_times, is_stamp, is_duration}
use Rattle.values.specs.Values.{a_date, a_date_time, a_duration, is_value}
use Rattle.calendar.specs.Questions.{is_day}
use Rattle.values.proofs.Numbers.{within_true, not_below, bounded, either_true, or_false}

-- ---- a kind has one row of the definition
-- what it is to be over dates
pub dates_range : (k : Kind) → over_dates k ≡ true →
    (k ≡ kind.Date) ⊎ ((k ≡ kind.Month) ⊎ ((k ≡ kind.Year) ⊎ (k ≡ kind.Week)))
dates_range kind.Date e = inl refl
dates_range kind.Month e = inr (inl refl)
dates_range kind.Year e = inr (inr (inl refl))
dates_range kind.Stamp e = absurd (true≢false (sym e))
dates_range kind.StampMonth e = absurd (true≢false (sym e))
dates_range kind.StampYear e = absurd (true≢false (sym e))
dates_range kind.Span e = absurd (true≢false (sym e))
dates_range kind.Unknown e = absurd (true≢false (sym e))
dates_range kind.Week e = inr (inr (inr refl))

pub dates_no_times : (k : Kind) → over_dates k ≡ true → over_date_times k ≡ false
dates_no_times kind.Date e = refl
dates_no_times kind.Month e = refl
dates_no_times kind.Year e = refl
dates_no_times kind.Stamp e = absurd (true≢false (sym e))
dates_no_times kind.StampMonth e = absurd (true≢false (sym e))
dates_no_times kind.StampYear e = absurd (true≢false (sym e))
dates_no_times kind.Span e = absurd (true≢false (sym e))
dates_no_times kind.Unknown e = absurd (true≢false (sym e))
dates_no_times kind.Week e = refl

pub dates_no_duration : (k : Kind) → over_dates k ≡ true → is_duration k ≡ false
dates_no_duration kind.Date e = refl
dates_no_duration kind.Month e = refl
dates_no_duration kind.Year e = refl
dates_no_duration kind.Stamp e = absurd (true≢false (sym e))
dates_no_duration kind.StampMonth e = absurd (true≢false (sym e))
dates_no_duration kind.StampYear e = absurd (true≢false (sym e))
dates_no_duration kind.Span e = absurd (true≢false (sym e))
dates_no_duration kind.Unknown e = absurd (true≢false (sym e))
dates_no_duration kind.Week e = refl

pub times_no_dates : (k : Kind) → over_date_times k ≡ true → over_dates k ≡ false
times_no_dates kind.Date e = absurd (true≢false (sym e))
times_no_dates kind.Month e = absurd (true≢false (sym e))
times_no_dates kind.Year e = absurd (true≢false (sym e))
times_no_dates kind.Stamp e = refl
times_no_dates kind.StampMonth e = refl
times_no_dates kind.StampYear e = refl
times_no_dates kind.Span e = absurd (true≢false (sym e))
times_no_dates kind.Unknown e = absurd (true≢false (sym e))
times_no_dates kind.Week e = absurd (true≢false (sym e))

pub times_no_duration : (k : Kind) → over_date_times k ≡ true → is_duration k ≡ false
times_no_duration kind.Date e = absurd (true≢false (sym e))
times_no_duration kind.Month e = absurd (true≢false (sym e))
times_no_duration kind.Year e = absurd (true≢false (sym e))
times_no_duration kind.Stamp e = refl
times_no_duration kind.StampMonth e = refl
times_no_duration kind.StampYear e = refl
times_no_duration kind.Span e = absurd (true≢false (sym e))
times_no_duration kind.Unknown e = absurd (true≢false (sym e))
times_no_duration kind.Week e = absurd (true≢false (sym e))

pub duration_no_dates : (k : Kind) → is_duration k ≡ true → over_dates k ≡ false
duration_no_dates kind.Date e = absurd (true≢false (sym e))
duration_no_dates kind.Month e = absurd (true≢false (sym e))
duration_no_dates kind.Year e = absurd (true≢false (sym e))
duration_no_dates kind.Stamp e = absurd (true≢false (sym e))
duration_no_dates kind.StampMonth e = absurd (true≢false (sym e))
duration_no_dates kind.StampYear e = absurd (true≢false (sym e))
duration_no_dates kind.Span e = refl
duration_no_dates kind.Unknown e = absurd (true≢false (sym e))
duration_no_dates kind.Week e = absurd (true≢false (sym e))

pub duration_no_times : (k : Kind) → is_duration k ≡ true → over_date_times k ≡ false
duration_no_times kind.Date e = absurd (true≢false (sym e))
duration_no_times kind.Month e = absurd (true≢false (sym e))
duration_no_times kind.Year e = absurd (true≢false (sym e))
duration_no_times kind.Stamp e = absurd (true≢false (sym e))
duration_no_times kind.StampMonth e = absurd (true≢false (sym e))
duration_no_times kind.StampYear e = absurd (true≢false (sym e))
duration_no_times kind.Span e = refl
duration_no_times kind.Unknown e = absurd (true≢false (sym e))
duration_no_times kind.Week e = absurd (true≢false (sym e))

pub dates_no_stamp : (k : Kind) → over_dates k ≡ true → is_stamp k ≡ false
dates_no_stamp kind.Date e = refl
dates_no_stamp kind.Month e = refl
dates_no_stamp kind.Year e = refl
dates_no_stamp kind.Stamp e = absurd (true≢false (sym e))
dates_no_stamp kind.StampMonth e = absurd (true≢false (sym e))
dates_no_stamp kind.StampYear e = absurd (true≢false (sym e))
dates_no_stamp kind.Span e = absurd (true≢false (sym e))
dates_no_stamp kind.Unknown e = absurd (true≢false (sym e))
dates_no_stamp kind.Week e = refl

pub is_span : (k : Kind) → is_duration k ≡ true → k ≡ kind.Span
is_span kind.Date e = absurd (true≢false (sym e))
is_span kind.Month e = absurd (true≢false (sym e))
is_span kind.Year e = absurd (true≢false (sym e))
is_span kind.Stamp e = absurd (true≢false (sym e))
is_span kind.StampMonth e = absurd (true≢false (sym e))
is_span kind.StampYear e = absurd (true≢false (sym e))
is_span kind.Span e = refl
is_span kind.Unknown e = absurd (true≢false (sym e))
is_span kind.Week e = absurd (true≢false (sym e))

pub duration_is_kind : (k : Kind) → is_duration k ≡ true → is_kind k ≡ true
duration_is_kind k e = rw (is_span k e)

-- what is left of the kinds is over date-times
pub times_left : (k : Kind) → is_kind k ≡ true → is_duration k ≡ false → over_dates k ≡ false → over_date_times k ≡ true
times_left kind.Date _ n d = absurd (true≢false d)
times_left kind.Month _ n d = absurd (true≢false d)
times_left kind.Year _ n d = absurd (true≢false d)
times_left kind.Stamp _ n d = refl
times_left kind.StampMonth _ n d = refl
times_left kind.StampYear _ n d = refl
times_left kind.Span _ n d = absurd (true≢false n)
times_left kind.Unknown k n d = absurd (true≢false (sym k))
times_left kind.Week _ n d = absurd (true≢false d)

-- ---- what the arms of a match say
pub in_dates : (k : Kind) → (k ≡ kind.Date) ⊎ ((k ≡ kind.Month) ⊎ ((k ≡ kind.Year) ⊎ (k ≡ kind.Week))) → over_dates k ≡ true
in_dates k (inl e) = rw e
in_dates k (inr (inl e)) = rw e
in_dates k (inr (inr (inl e))) = rw e
in_dates k (inr (inr (inr e))) = rw e

pub in_times : (k : Kind) → (k ≡ kind.Stamp) ⊎ ((k ≡ kind.StampMonth) ⊎ (k ≡ kind.StampYear)) → over_date_times k ≡ true
in_times k (inl e) = rw e
in_times k (inr (inl e)) = rw e
in_times k (inr (inr e)) = rw e

module _ (kind : Kind) (v : Value) where
  pub of_dates : over_dates kind ≡ true → is_value kind v ≡ a_date v
  unfolding is_value
  of_dates e = rw (e, dates_no_times kind e, dates_no_duration kind e, or_false)

  pub of_date_times : over_date_times kind ≡ true → is_value kind v ≡ a_date_time v
  unfolding is_value
  of_date_times e = rw (times_no_dates kind e, e, times_no_duration kind e, or_false)

  pub of_durations : is_duration kind ≡ true → is_value kind v ≡ a_duration v
  unfolding is_value
  of_durations e = rw (duration_no_dates kind e, duration_no_times kind e, e)

-- what is of no kind has no values
pub none_of_none : (k : Kind) (v : Value) → k ≡ kind.Unknown → is_value k v ≡ false
unfolding is_value
none_of_none k v e = rw e

pub value_is_kind : (k : Kind) (v : Value) → is_value k v ≡ true → is_kind k ≡ true
value_is_kind kind.Unknown v e = absurd (true≢false (sym e ∙ none_of_none kind.Unknown v refl))
value_is_kind kind.Date v e = refl
value_is_kind kind.Month v e = refl
value_is_kind kind.Year v e = refl
value_is_kind kind.Stamp v e = refl
value_is_kind kind.StampMonth v e = refl
value_is_kind kind.StampYear v e = refl
value_is_kind kind.Span v e = refl
value_is_kind kind.Week v e = refl

-- the arm of dates, where what is of no kind goes with them
pub in_dates_or_none : (k : Kind) (v : Value) → is_value k v ≡ true →
    (k ≡ kind.Date) ⊎ ((k ≡ kind.Month) ⊎ ((k ≡ kind.Year) ⊎ ((k ≡ kind.Week) ⊎ (k ≡ kind.Unknown)))) → over_dates k ≡ true
in_dates_or_none k v f (inl e) = rw e
in_dates_or_none k v f (inr (inl e)) = rw e
in_dates_or_none k v f (inr (inr (inl e))) = rw e
in_dates_or_none k v f (inr (inr (inr (inl e)))) = rw e
in_dates_or_none k v f (inr (inr (inr (inr e)))) = absurd (true≢false (sym f ∙ none_of_none k v e))

-- a value of a kind is a date, a date-time or a duration
pub by_form : {A : Type 0} (kind : Kind) (v : Value) → is_value kind v ≡ true → (over_dates kind ≡ true → a_date v ≡ true → A) →
    (over_date_times kind ≡ true → a_date_time v ≡ true → A) → (is_duration kind ≡ true → a_duration v ≡ true → A) → A
unfolding is_value
by_form kind v value f g h =
    elim (either_true (over_dates kind && a_date v) _ value) [
      | inl x ↦ (let (p, q) = both_true (over_dates kind) (a_date v) x in f p q)
      | inr y ↦ elim (either_true (over_date_times kind && a_date_time v) _ y) [
        | inl x ↦ (let (p, q) = both_true (over_date_times kind) (a_date_time v) x in g p q)
        | inr x ↦ (let (p, q) = both_true (is_duration kind) (a_duration v) x in h p q)
      ]
    ]

-- ---- its ranges
-- those of the machine's numbers
pub record InRange (v : Value) : Type 0 where
  pub head : SFits w64 v.head
  pub tail : SFits w64 v.tail

pub record DateValue (v : Value) : Type 0 where
  pub head_dn : neg_part v.head ≡ 0
  pub head_least : 1 ≤ pos_part v.head
  pub head_most : pos_part v.head ≤ 3652059
  pub no_tail : v.tail ≡ pos 0

pub record DayValue (v : Value) : Type 0 where
  pub head_dn : neg_part v.head ≡ 0
  pub head_least : 1 ≤ pos_part v.head
  pub head_most : pos_part v.head ≤ 3652059
  pub tail_dn : neg_part v.tail ≡ 0
  pub tail_most : pos_part v.tail ≤ 86399999999999

pub record DurationValue (v : Value) : Type 0 where
  pub head_least : neg_part v.head ≤ 315576000000
  pub head_most : pos_part v.head ≤ 315576000000
  pub tail_dn : neg_part v.tail ≡ 0
  pub tail_most : pos_part v.tail ≤ 999999999

pub day_range : (v : Value) (m : ℕ) → m ≤ 86399999999999 → is_day v.head && within (pos 0) v.tail (pos m) ≡ true → DayValue v
day_range v m l e =
    let (x, y) = both_true (is_day v.head) (within (pos 0) v.tail (pos m)) e in
    let h = within_true (pos 1) v.head (pos 3652059) x in
    let t = within_true (pos 0) v.tail (pos m) y in
    let zh : neg_part v.head ≡ 0 = not_below v.head (omega arith) in
    let zt : neg_part v.tail ≡ 0 = not_below v.tail (omega arith) in
    record { head_dn = zh; head_least = omega arith; head_most = omega arith; tail_dn = zt; tail_most = omega arith }

module _ (kind : Kind) (v : Value) (value : is_value kind v ≡ true) where
  -- kinds 1 to 3 and 8
  pub date_value : over_dates kind ≡ true → DateValue v
  date_value e =
      let (x, y) = both_true (is_day v.head) (within (pos 0) v.tail (pos 0)) (sym (of_dates kind v e) ∙ value) in
      let h = within_true (pos 1) v.head (pos 3652059) x in
      let t = within_true (pos 0) v.tail (pos 0) y in
      let zh : neg_part v.head ≡ 0 = not_below v.head (omega arith) in
      record { head_dn = zh; head_least = omega arith; head_most = omega arith; no_tail = same v.tail (pos 0) (omega arith) }

  -- all kinds but 7
  pub day_value : is_duration kind ≡ false → DayValue v
  day_value n =
      by_form kind v value (λ _ e. day_range v 0 (omega arith) e) (λ _ e. day_range v 86399999999999 (omega arith) e)
      (λ d _. absurd (true≢false (sym d ∙ n)))

  pub duration_value : is_duration kind ≡ true → DurationValue v
  duration_value n =
      let (x, y) = both_true (within (minus 315576000000) v.head (pos 315576000000))
      (within (pos 0) v.tail (pos 999999999)) (sym (of_durations kind v n) ∙ value) in
      let h = within_true (minus 315576000000) v.head (pos 315576000000) x in
      let t = within_true (pos 0) v.tail (pos 999999999) y in
      let b = bounded v.head 315576000000 315576000000 (omega arith) (omega arith) in
      let zt : neg_part v.tail ≡ 0 = not_below v.tail (omega arith) in
      record { head_least = b.0; head_most = b.1; tail_dn = zt; tail_most = omega arith }
