-- Every tick of a plan is a value of the axis's kind, and only kinds 4 and 7 have ticks with a tail. Assumes nothing.
use mathlib.Core.Path.{◌≡◌, refl, sym, ap, ◌∙◌, subst}
use mathlib.Core.Bool.{true, false, ◌&&◌, true≢false}
use Prim.Native.Nat.{ℕ, ◌*◌, ◌≤◌, ◌<◌}
use native.Mathlib.Nat.{mod-lt}
use native.Mathlib.Omega.{arith}
use lib.IntN.{ℤ, pos}
use lib.ListN.{length}
use Rattle.std.specs.Prelude.{Option, Some, None}
use Rattle.laws.specs.Numbers.{minus, within, pos_part, neg_part}
use Rattle.laws.specs.Units.{per_second, per_day}
use Rattle.laws.proofs.Signed.{same}
use Rattle.laws.proofs.Tests.{both_true}
use Rattle.values.specs.declared.Value.{Value}
use Rattle.values.specs.Values.{over_dates, is_duration, is_value}
use Rattle.values.specs.Differences.{unit}
use Rattle.values.proofs.Numbers.{is_le, within_true}
use Rattle.values.proofs.Values.{dates_no_stamp, dates_no_duration, times_no_duration}
use Rattle.values.proofs.Values.{of_dates, of_date_times, of_durations, by_form}
use Rattle.axis.specs.declared.Axis.{Axis}
use Rattle.axis.specs.Questions.{has_period}
use Rattle.axis.proofs.Axes.{both_ends, ends_known}
use Rattle.steps.specs.declared.Numbering.{Numbering}
use Rattle.steps.specs.declared.Numbering.TheVariants as numbering
use Rattle.steps.specs.declared.Steps.{Steps}
use Rattle.steps.specs.Progression.{number_at, tick_by, ticks, SoundBy}
use Rattle.steps.specs.Listing.{numbers}
use Rattle.steps.specs.Promise.{nth, by_head}
use Rattle.steps.proofs.Order.{at_least, per_of}
use Rattle.steps.proofs.Pairs.{nth_ticks}
use Rattle.plans.specs.Days.{day_plan}
use Rattle.plans.specs.Weeks.{week_plan}
use Rattle.plans.specs.Months.{month_plan, year_plan}
use Rattle.plans.specs.Times.{period_in, time_plan, span_days_plan}
use Rattle.plans.specs.Plans.{Accepted, plan_by, period_plan, plan_of}
use Rattle.plans.proofs.Cases.{choose}
use Rattle.plans.proofs.Plans.{by_plan}
use Rattle.plans.proofs.Promise.{counts, plan_good}

-- how many numbers of a plan make a head: at most its nanoseconds, and one on all kinds but 4 and 7
record Counted (a : Axis) (s : Steps) : Type 0 where
  most : per_of s.numbering ≤ unit a.kind
  one : has_period a ≡ false → per_of s.numbering ≡ 1

-- kinds over dates have no period
no_period : (a : Axis) → over_dates a.kind ≡ true → has_period a ≡ false
unfolding has_period
no_period a e = rw (dates_no_stamp a.kind e, dates_no_duration a.kind e)

-- a tail below p
abbrev Small : ℕ → Value → Type 0
Small p t = (neg_part t.tail ≡ 0) × (pos_part t.tail < p)

module _ (a : Axis) (n : ℕ) (q : Accepted a n) where
  -- whole heads, on any kind
  heads : (s : Steps) → per_of s.numbering ≡ 1 → Counted a s
  heads s e = record { most = omega (arith, (counts a q.real).least); one = λ _. e }

  counted : Counted a (plan_of a n)
  unfolding day_plan week_plan month_plan year_plan time_plan span_days_plan period_plan
  counted =
      by_plan (Counted a) a n (ends_known a q.real)
      (λ _. heads _ refl) (λ _. heads _ refl) (λ _. heads _ refl) (λ _. heads _ refl)
      (λ h _. by_period h (period_in a n))
    where
      by_period : has_period a ≡ true → (p : Option ℕ) → Counted a (plan_by a n p)
      by_period h (Some k) = record { most = omega arith; one = λ e. absurd (true≢false (sym h ∙ e)) }
      by_period h None = choose (Counted a) (is_duration a.kind) (λ _. heads _ refl) (λ _. heads _ refl)

  module _ (i : ℕ) (l : 2 * i < length (numbers (ticks (plan_of a n)))) where
    abbrev v : Value
    v = nth (numbers (ticks (plan_of a n))) i

    small : Small (per_of (plan_of a n).numbering) v
    small =
        let s = plan_of a n in
        subst (Small (per_of s.numbering)) (sym (nth_ticks s i l)) (of_case s s.numbering (plan_good a n q).sound)
      where
        of_case : (s : Steps) (m : Numbering) → SoundBy m s → Small (per_of m) (tick_by m (number_at s i))
        of_case s numbering.Months r = (refl, omega arith)
        of_case s (numbering.Even h) r = (refl, mod-lt (number_at s i) r.divides)

    pub no_tail : has_period a ≡ false → v.tail ≡ pos 0
    no_tail e = same v.tail (pos 0) (omega (arith, small, counted.one e))

    -- a kind's values have heads of a range, in which both ends are, and tails of at most m
    row : (low high : ℤ) (m : ℕ) →
        ((w : Value) → is_value a.kind w ≡ within low w.head high && within (pos 0) w.tail (pos m)) →
        pos_part v.tail ≤ m → is_value a.kind v ≡ true
    row low high m is t =
        let f = (plan_good a n q).fine in
        let x = (both_true _ _ (sym (is a.start) ∙ (both_ends a q.real).first)).0 in
        let y = (both_true _ _ (sym (is a.end) ∙ (both_ends a q.real).second)).0 in
        let s = within_true low a.start.head high x in
        let e = within_true low a.end.head high y in
        let from = at_least v.head a.start.head (λ w. f.from i l (by_head w)) in
        let to = at_least a.end.head v.head (λ w. f.to i l (by_head w)) in
        is v ∙ rw (
          is_le low v.head (omega arith),
          is_le v.head high (omega arith),
          is_le (pos 0) v.tail (omega (arith, small)),
          is_le v.tail (pos m) (omega (arith, small)),
        )

    pub is_value_law : is_value a.kind v ≡ true
    is_value_law =
        let k = a.kind in
        by_form k a.start (both_ends a q.real).first
        (λ e _. row (pos 1) (pos 3652059) 0 (λ w. of_dates k w e) (omega (arith, ap pos_part (no_tail (no_period a e)))))
        (λ e _. let d : unit k ≡ per_day = rw (times_no_duration k e) in
        row (pos 1) (pos 3652059) 86399999999999 (λ w. of_date_times k w e) (omega (arith, small, counted.most)))
        (λ e _. let d : unit k ≡ per_second = rw e in
        row (minus 315576000000) (pos 315576000000) 999999999 (λ w. of_durations k w e) (omega (arith, small, counted.most)))
