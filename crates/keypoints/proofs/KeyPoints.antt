-- The Rust's lists of all kinds are the plans', and its period is the plan's. Assumes nothing.
use mathlib.Core.Path.{◌≡◌, refl, sym, ap, ◌∙◌}
use mathlib.Core.Bool.{Bool, true, false, cond, not, true≢false}
use Prim.Native.Nat.{ℕ, ◌+◌, ◌≤◌}
use native.Mathlib.Omega.{arith}
use lib.IntN.{pos, ◌-ℤ◌}
use Rattle.std.specs.Prelude.{Option, Some, None}
use Rattle.laws.specs.Numbers.{pos_part, as_u64}
use Rattle.laws.proofs.Signed.{same, as_u64_law}
use Rattle.values.specs.declared.Kind.{Kind}
use Rattle.values.specs.declared.Kind.TheVariants as kind
use Rattle.values.specs.Values.{is_kind, over_dates, is_duration}
use Rattle.values.specs.Differences.{fits_i64, days_in}
use Rattle.values.proofs.Fits.{fits_range}
use Rattle.values.proofs.Values.{date_value}
use Rattle.axis.specs.declared.Axis.{Axis}
use Rattle.axis.specs.Axes.{span_of}
use Rattle.axis.proofs.Axes.{both_ends, ends_known, span_from_0}
use Rattle.counting.specs.Counting.{Dated, from_day, to_day}
use Rattle.counting.proofs.Counting.{date_from, to_is}
use Rattle.period.specs.Periods.{period_of}
use Rattle.steps.specs.Progression.{ticks}
use Rattle.plans.specs.Days.{day_plan}
use Rattle.plans.specs.Months.{month_plan, year_plan}
use Rattle.plans.specs.Times.{period_in}
use Rattle.plans.specs.Plans.{Accepted, plan_by, period_plan, plan_of_kind, plan_of}
use Rattle.plans.proofs.Spans.{long}
use Rattle.plans.proofs.Promise.{date_order, day_order}
use Rattle.keypoints.specs.Dates.{date_key_points, date_range}
use Rattle.keypoints.specs.Periods.{compute_period_per_point}
use Rattle.keypoints.specs.Times.{period_on, if_some, date_times_by, date_time_key_points, durations_by, duration_key_points}
use Rattle.keypoints.specs.Times.{days_per_tick, whole_days_by}
use Rattle.keypoints.specs.Months.{month_key_points, year_key_points}
use Rattle.keypoints.specs.KeyPoints.{key_points_of_kind, key_points}
use Rattle.keypoints.proofs.Dates.{dates_same}
use Rattle.keypoints.proofs.Months.{months_same, years_same}
use Rattle.keypoints.proofs.Weeks.{weeks_same}
use Rattle.keypoints.proofs.Periods.{period_same}
use Rattle.keypoints.proofs.Times.{date_times_same, durations_same}
use Rattle.keypoints.proofs.Spans.{whole_days_same}

module _ (turns n : ℕ) (a : Axis) (q : Accepted a n) (t : n + 30 ≤ turns) where
  -- the period, for any number of turns from n + 30 on
  pub period_on_law : 1 ≤ n → period_on turns a n (not (is_duration a.kind)) ≡ period_in a n
  unfolding period_on period_in
  period_on_law some = go (fits_i64 (span_of a)) refl
    where
      go : (b : Bool) → fits_i64 (span_of a) ≡ b →
          cond b (compute_period_per_point turns (as_u64 (span_of a)) n (not (is_duration a.kind))) None
          ≡ cond b (period_of (pos_part (span_of a)) n (not (is_duration a.kind))) None
      go true e =
          let r = fits_range (span_of a) e in
          rw (as_u64_law (span_of a) (span_from_0 a q.real q.order))
          (period_same turns (pos_part (span_of a)) n (not (is_duration a.kind)) (omega arith) some q.most (omega arith))
      go false e = refl

  dated : is_duration a.kind ≡ false → Dated a
  dated d = record { real = q.real; dates = d }

  -- ---- the law: on every accepted axis the Rust's list is the plan's, for any number of turns from n + 30 on
  pub key_points_same : key_points turns a n ≡ ticks (plan_of a n)
  unfolding key_points plan_of period_plan date_time_key_points duration_key_points
  key_points_same = go a.kind refl
    where
      months : is_duration a.kind ≡ false → month_key_points turns a n ≡ ticks (month_plan a n)
      months d = months_same a (dated d) n turns q.order (omega arith) q.most

      years : is_duration a.kind ≡ false → year_key_points turns a n ≡ ticks (year_plan a n)
      years d = years_same a (dated d) n turns q.order (omega arith)

      -- the ends of an axis over dates are its days
      dates : over_dates a.kind ≡ true → date_key_points a n ≡ ticks (day_plan a n)
      dates d =
          let v = date_value a.kind a.start (both_ends a q.real).first d in
          let w = date_value a.kind a.end (both_ends a q.real).second d in
          dates_same a a n
          (same a.start.head (pos (from_day a)) (omega (arith, date_from a q.real d)))
          (same a.end.head (pos (to_day a)) (omega (arith, to_is a)))
          (date_order a n q d)

      by_date_time : 1 ≤ n → is_duration a.kind ≡ false → (p : Option ℕ) → period_in a n ≡ p →
          if_some p (date_times_by turns a) (date_key_points (date_range a) n) ≡ ticks (plan_by a n p)
      by_date_time some d (Some k) h = date_times_same a n turns q some k h t d
      by_date_time some d None h = rw d (dates_same a (date_range a) n refl refl (day_order a n q some d h))

      by_duration : 1 ≤ n → is_duration a.kind ≡ true → (p : Option ℕ) → period_in a n ≡ p →
          if_some p (durations_by turns a)
          (whole_days_by turns a (days_per_tick turns (days_in a.end -ℤ days_in a.start) n 1 0)) ≡ ticks (plan_by a n p)
      by_duration some d (Some k) h = durations_same a n turns q some k h t d
      by_duration some d None h = rw d (whole_days_same a n turns (long a n q some d h) t)

      go : (k : Kind) → a.kind ≡ k → key_points_of_kind turns k a n ≡ ticks (plan_of_kind k a n)
      go kind.Date e = dates (rw e)
      go kind.Month e = months (rw e)
      go kind.Year e = years (rw e)
      go kind.Stamp e =
          let some = q.some (rw e) in
          let d : is_duration a.kind ≡ false = rw e in
          let p : period_on turns a n true ≡ period_in a n = rw d at (period_on_law some) in
          rw p (by_date_time some d (period_in a n) refl)
      go kind.StampMonth e = months (rw e)
      go kind.StampYear e = years (rw e)
      go kind.Span e =
          let some = q.some (rw e) in
          let d : is_duration a.kind ≡ true = rw e in
          let p : period_on turns a n false ≡ period_in a n = rw d at (period_on_law some) in
          rw p (by_duration some d (period_in a n) refl)
      go kind.Week e = weeks_same a n (dated (rw e))
      go kind.Unknown e = absurd (true≢false (sym (ends_known a q.real) ∙ ap is_kind e))
