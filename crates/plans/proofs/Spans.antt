-- The span of an axis over date-times or durations and its period, and whole days of a long duration. Assumes nothing.
use mathlib.Core.Path.{◌≡◌, refl, sym, ◌∙◌, ap}
use mathlib.Core.Bool.{Bool, true, false, cond, not, true≢false}
use Prim.Native.Nat.{ℕ, ◌+◌, ◌*◌, ◌≤◌, ◌<◌}
use native.Mathlib.Decide.{dec_le}
use native.Mathlib.Omega.{arith}
use lib.IntN.{ℤ, pos, ◌+ℤ◌, ◌-ℤ◌, ◌*ℤ◌}
use lib.Signed.{lt_z}
use mir.Syntax.{w64}
use mir.Val.{SFits}
use Rattle.std.specs.Prelude.{Some, None, is_some}
use Rattle.laws.specs.Numbers.{pos_part, neg_part}
use Rattle.laws.specs.Units.{per_second, per_day}
use Rattle.laws.proofs.Signed.{add, sub, mul_up, mul_dn, quot_up, quot_dn, fits, is_ge}
use Rattle.values.specs.declared.Kind.TheVariants.{Span}
use Rattle.values.specs.declared.Value.{Value}
use Rattle.values.specs.Values.{is_duration, is_value}
use Rattle.values.specs.Differences.{nanoseconds, fits_i64, of_days, days_in}
use Rattle.values.proofs.Values.{DurationValue, day_value, duration_value}
use Rattle.values.proofs.Numbers.{bounded, not_below}
use Rattle.values.proofs.Fits.{fits_yes, fits_range}
use Rattle.values.proofs.Joining.{joint}
use Rattle.values.proofs.Differences.{durations_apart}
use Rattle.axis.specs.declared.Axis.{Axis}
use Rattle.axis.specs.Axes.{span_of}
use Rattle.axis.specs.Questions.{ends, equals}
use Rattle.axis.proofs.Axes.{both_ends, span_from_0, equal}
use Rattle.axis.proofs.Questions.{of_seven, near_where_fits, near_range}
use Rattle.laws.proofs.Tests.{bit}
use Rattle.period.specs.Periods.{period_of, power_of}
use Rattle.period.proofs.Periods as period
use Rattle.period.proofs.Periods.{any_step, Spaced, spaced}
use Rattle.counting.proofs.Counting.{no_less}
use Rattle.values.proofs.Fits.{value_is, answer_none, answer_some}
use Rattle.values.proofs.Order.{same_is_equal}
use Rattle.period.proofs.Fits.{fit_above, fit_most}
use Rattle.plans.proofs.Times.{zero_value, from_zero}
use Rattle.plans.specs.Times.{shift, period_in, Timed, first_second, seconds_left, Long}
use Rattle.plans.specs.Plans.{Accepted}
use Rattle.plans.proofs.Cases.{choose, by_test}
use Rattle.plans.proofs.Times.{up_most, shift_most}

-- ---- the start's tail, and the start of a duration
module _ (a : Axis) (r : ends a ≡ true) where
  pub tail_range : (neg_part a.start.tail ≡ 0) × (pos_part a.start.tail ≤ 86399999999999)
  tail_range = by_test (is_duration a.kind)
      (λ e. let v = duration_value a.kind a.start (both_ends a r).first e in (v.tail_dn, omega arith))
      (λ e. let v = day_value a.kind a.start (both_ends a r).first e in (v.tail_dn, v.tail_most))

  module _ (e : is_duration a.kind ≡ true) where
    pub start_seven : is_value Span a.start ≡ true
    start_seven = of_seven a a.start e (both_ends a r).first

    pub end_seven : is_value Span a.end ≡ true
    end_seven = of_seven a a.end e (both_ends a r).second

    pub start_duration : DurationValue a.start
    start_duration = duration_value a.kind a.start (both_ends a r).first e

    pub end_duration : DurationValue a.end
    end_duration = duration_value a.kind a.end (both_ends a r).second e

pub near_start : (a : Axis) (k : ℕ) → Timed a k → is_duration a.kind ≡ true →
    (neg_part (nanoseconds Span a.start) ≤ 4000000000000000000)
    × (pos_part (nanoseconds Span a.start) ≤ 4000000000000000000)
near_start a k t e = near_range a.start (near_where_fits a e t.near t.fits).0

pub shift_small : (a : Axis) (k : ℕ) → 0 < k → shift a k ≤ k
unfolding shift
shift_small a k p =
    choose (λ (s : ℕ). s ≤ k) (is_duration a.kind) (λ _. shift_most k p (nanoseconds Span a.start))
    (λ _. up_most k p (pos_part a.start.tail))

-- ---- the period
module _ (a : Axis) (n : ℕ) where
  pub no_period : fits_i64 (span_of a) ≡ false → None ≡ period_in a n
  unfolding period_in
  no_period e = rw e

  pub some_period : fits_i64 (span_of a) ≡ true → period_of (pos_part (span_of a)) n (not (is_duration a.kind)) ≡ period_in a n
  unfolding period_in
  some_period e = rw e

  -- a period says that the span fits
  pub fitting_span : (k : ℕ) → period_in a n ≡ Some k → fits_i64 (span_of a) ≡ true
  fitting_span k e = by_test (fits_i64 (span_of a)) (λ f. f) (λ f. absurd (let z = no_period f in let w : ⊥ = cc in w))

  module _ (q : Accepted a n) (some : 1 ≤ n) where
    -- less than n + 1 of it are in the span
    pub spaced_out : (k : ℕ) → period_in a n ≡ Some k → Spaced (pos_part (span_of a)) n k
    spaced_out k e =
        let f = fitting_span k e in
        let (x, y) = fits_range (span_of a) f in
        spaced (pos_part (span_of a)) n (not (is_duration a.kind)) (omega arith) some q.most k (some_period f ∙ e)

    pub timed : (k : ℕ) → period_in a n ≡ Some k → Timed a k
    timed k e =
        let s = spaced_out k e in
        record {
          real = q.real;
          order = q.order;
          near = q.near;
          fits = fitting_span k e;
          above = s.above;
          small = s.fits;
        }

    -- a duration whose span fits has a period
    short : fits_i64 (span_of a) ≡ true → is_duration a.kind ≡ true → is_some (period_in a n) ≡ true
    short e d =
        let s : not (is_duration a.kind) ≡ false = rw d in
        rw (some_period e) at (period.some_period (pos_part (span_of a)) n (not (is_duration a.kind))
        (any_step (power_of (pos_part (span_of a)) n) (not (is_duration a.kind)) s))

    pub long : is_duration a.kind ≡ true → period_in a n ≡ None → Long a
    long d h = record {
      real = q.real;
      order = q.order;
      duration = d;
      beyond = by_test (fits_i64 (span_of a)) (λ e. absurd (let t = rw h at (short e d) in let z : ⊥ = cc in z)) (λ e. e);
    }

-- ---- whole days of a duration
-- the first tick is not before it, equal to it only where it has no tail, and less than two days later
pub record First (v : Value) (b : ℤ) : Type 0 where
  pub from : pos_part v.head + neg_part b ≤ pos_part b + neg_part v.head
  pub whole : pos_part b + neg_part v.head ≡ pos_part v.head + neg_part b → pos_part v.tail ≡ 0
  pub soon : pos_part b + neg_part v.head ≤ pos_part v.head + neg_part b + 172800
  pub days_on_law : pos_part (days_in v) * 86400 + neg_part b ≤ pos_part b + neg_part (days_in v) * 86400

module _ (v : Value) (r : DurationValue v) where
  -- less than a day from it
  days_low : pos_part (days_in v) * 86400 + neg_part v.head ≤ pos_part v.head + neg_part (days_in v) * 86400 + 86400
  unfolding days_in nanoseconds
  days_low =
      let n = v.head *ℤ pos per_second +ℤ v.tail in
      omega (arith, quot_up n per_day, quot_dn n per_day, joint v.head v.tail per_second)

  days_high : pos_part v.head + neg_part (days_in v) * 86400 < pos_part (days_in v) * 86400 + neg_part v.head + 86400
  unfolding days_in nanoseconds
  days_high =
      let n = v.head *ℤ pos per_second +ℤ v.tail in
      omega (arith, quot_up n per_day, quot_dn n per_day, joint v.head v.tail per_second)

  days_range : (neg_part (days_in v) ≤ 3652502) × (pos_part (days_in v) ≤ 3652502)
  days_range =
      let l = days_low in
      let h = days_high in
      bounded (days_in v) 3652502 3652502 (omega arith) (omega arith)

  -- as the machine reads them, and a day more
  pub second_fits : SFits w64 (days_in v *ℤ pos 86400)
  second_fits =
      let (x, y) = days_range in
      let d = days_in v in
      fits (d *ℤ pos 86400) (pos_part d * 86400) (neg_part d * 86400) (omega (arith, mul_up d 86400, mul_dn d 86400))
      (omega arith)
      (omega arith)

  pub later_fits : SFits w64 (days_in v *ℤ pos 86400 +ℤ pos 86400)
  later_fits =
      let (x, y) = days_range in
      let d = days_in v in
      fits (d *ℤ pos 86400 +ℤ pos 86400) (pos_part d * 86400 + 86400) (neg_part d * 86400)
      (omega (arith, mul_up d 86400, mul_dn d 86400, add (d *ℤ pos 86400) (pos 86400))) (omega arith) (omega arith)

  first_is : First v (first_second v)
  unfolding first_second
  first_is = go (equals v (of_days (days_in v))) refl
    where
      d : ℤ
      d = days_in v *ℤ pos 86400

      go : (b : Bool) → equals v (of_days (days_in v)) ≡ b → First v (d +ℤ cond b (pos 0) (pos 86400))
      go true e =
          let s = equal v (of_days (days_in v)) e in
          let h = ap (λ (w : Value). w.head) s in
          let t = ap (λ (w : Value). w.tail) s in
          let x = add d (pos 0) in
          let y = mul_up (days_in v) 86400 in
          let z = mul_dn (days_in v) 86400 in
          record {
            from = omega (arith, ap pos_part h, ap neg_part h);
            whole = λ i. ap pos_part t;
            soon = omega (arith, ap pos_part h, ap neg_part h);
            days_on_law = omega (arith, ap pos_part h, ap neg_part h);
          }
      go false e =
          let x = add d (pos 86400) in
          let y = mul_up (days_in v) 86400 in
          let z = mul_dn (days_in v) 86400 in
          record {
            from = omega (arith, days_high);
            whole = λ i. absurd (let w : ⊥ = omega (arith, days_high) in w);
            soon = omega (arith, days_low);
            days_on_law = omega arith;
          }

-- ---- a long span
pub not_fitting : (z : ℤ) → neg_part z ≡ 0 → fits_i64 z ≡ false → 9223372036854775807 < pos_part z
not_fitting z e f =
    elim (dec_le (pos_part z) 9223372036854775807) [
      | yes h ↦ absurd (true≢false (sym (fits_yes z h (omega arith)) ∙ f))
      | no h ↦ omega arith
    ]

module _ (a : Axis) (l : Long a) where
  pub from : DurationValue a.start
  from = start_duration a l.real l.duration

  pub to : DurationValue a.end
  to = end_duration a l.real l.duration

  above : 9223372036854775807 < pos_part (span_of a)
  above = not_fitting (span_of a) (span_from_0 a l.real l.order) l.beyond

  parts : span_of a ≡ (a.end.head -ℤ a.start.head) *ℤ pos per_second +ℤ (a.end.tail -ℤ a.start.tail)
  unfolding span_of
  parts = durations_apart a.kind a.start a.end l.duration

  apart : pos_part a.start.head + neg_part a.end.head + 9000000000 ≤ pos_part a.end.head + neg_part a.start.head
  apart =
      let s = from in
      let e = to in
      let h = a.end.head -ℤ a.start.head in
      let t = a.end.tail -ℤ a.start.tail in
      let z = span_from_0 a l.real l.order in
      omega (
        arith,
        above,
        ap pos_part parts,
        ap neg_part parts,
        joint h t per_second,
        sub a.end.head a.start.head,
        sub a.end.tail a.start.tail,
      )

  abbrev first : ℤ
  first = first_second a.start

  pub begins : First a.start first
  begins = first_is a.start from

  -- to the end
  pub left_dn : neg_part (a.end.head -ℤ first) ≡ 0
  left_dn = let s = begins in not_below (a.end.head -ℤ first) (omega (arith, sub a.end.head first, apart))

  pub left_fits : SFits w64 (a.end.head -ℤ first)
  left_fits =
      let s = begins in
      let v = from in
      let w = to in
      fits (a.end.head -ℤ first) (pos_part a.end.head + neg_part first) (neg_part a.end.head + pos_part first)
      (omega (arith, sub a.end.head first))
      (omega arith) (omega arith)

  pub left_small : pos_part (a.end.head -ℤ first) < 1000000000000
  left_small =
      let s = begins in
      let v = from in
      let w = to in
      omega (arith, sub a.end.head first, apart, left_dn)

  -- in whole days
  abbrev total : ℤ
  total = days_in a.end -ℤ days_in a.start

  ends_apart : pos_part (days_in a.start) + neg_part (days_in a.end) ≤ pos_part (days_in a.end) + neg_part
      (days_in a.start)
  ends_apart =
      omega (arith, apart, days_low a.start from, days_high a.end to)

  pub total_dn : neg_part total ≡ 0
  total_dn = not_below total (omega (arith, sub (days_in a.end) (days_in a.start), ends_apart))

  pub total_range : (pos_part total ≤ 7305004) × SFits w64 total
  total_range =
      let v = days_range a.start from in
      let w = days_range a.end to in
      let x = sub (days_in a.end) (days_in a.start) in
      let z = total_dn in
      (omega arith, fits total (pos_part total) (neg_part total) refl (omega arith) (omega arith))

  -- the seconds left are no more than the days between the ends and one more
  pub left_most : seconds_left a ≤ 86400 * (pos_part total + 1)
  unfolding seconds_left
  left_most =
      let s = begins in
      let b = bit (lt_z (pos 0) a.end.tail) in
      omega (
        arith,
        total_dn,
        left_dn,
        sub (days_in a.end) (days_in a.start),
        sub a.end.head first,
        days_high a.end to,
      )

  -- and the last of them is not after the end
  pub left_last : (seconds_left a ≤ pos_part (a.end.head -ℤ first) + 1) × (pos_part a.end.tail ≡ 0 →
      seconds_left a ≤ pos_part (a.end.head -ℤ first))
  unfolding seconds_left
  left_last =
      let b = bit (lt_z (pos 0) a.end.tail) in
      (omega arith, λ e. rw (is_ge (pos 0) a.end.tail (omega arith)) (omega arith))

pub ruleset times_of_axis = (tail_range, shift_small, span_from_0, no_less, value_is, answer_some)

pub ruleset shift_of_axis = (tail_range, start_seven, near_start, zero_value, from_zero, no_less, value_is, fits_yes)

pub ruleset whole_seconds = (second_fits, later_fits, duration_value, same_is_equal)

pub ruleset left_of_axis = (left_dn, left_fits, left_small, no_less)

pub ruleset days_of_span = (start_seven, end_seven, total_dn, total_range, no_less, fit_above, fit_most)

pub ruleset period_of_axis = (no_period, some_period, span_from_0, no_less, answer_none, answer_some)
