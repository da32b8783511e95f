-- Demand 3 of every plan: at most n + 1 ticks, each later than the one before, none after the end, none before the whole
-- second in which the span starts; and the ranges in which a plan is listed. Assumes nothing.
use mathlib.Core.Path.{◌≡◌, refl, ap, ◌∙◌, subst}
use mathlib.Core.Bool.{true, false, not, ◌&&◌}
use Prim.Native.Nat.{ℕ, ◌+◌, ◌-◌, ◌*◌, ◌/◌, ◌%◌, ◌^◌, ◌≤◌, ◌<◌}
use native.Mathlib.Nat.{div-one, mod-one, zero-mul, div-eq_of_lt, mod-eq_of_lt, mul-add-div_right}
use native.Mathlib.Nat.{mul-add-mod_self_right, div-lt_iff_lt-mul}
use native.Mathlib.Decide.{dec_le}
use native.Mathlib.Omega.{arith}
use lib.IntN.{ℤ, pos, negsuc, ◌+ℤ◌, ◌-ℤ◌, ◌*ℤ◌, +ℤ_idr}
use lib.Signed.{mag, lt_z, le_z}
use borrow.Author.Tests.{not-true}
use Rattle.std.specs.Prelude.{Option, Some, None}
use Rattle.laws.specs.Numbers.{pos_part, neg_part}
use Rattle.laws.specs.Units.{per_second, per_day, seconds_per_day}
use Rattle.laws.proofs.Signed.{add, sub, same, lt_false, pos_up}
use Rattle.laws.proofs.Tests.{either_false}
use Rattle.values.specs.declared.Value.{Value}
use Rattle.values.specs.Values.{over_dates, is_duration, earlier, midnight}
use Rattle.values.specs.Differences.{unit, fits_i64, days_in}
use Rattle.values.proofs.Numbers.{not_below, bounded}
use Rattle.values.proofs.Values.{dates_no_duration, date_value}
use Rattle.values.proofs.Joining.{joint}
use Rattle.values.proofs.Fits.{fits_range}
use Rattle.values.proofs.Differences.{days_apart, durations_apart}
use Rattle.axis.specs.declared.Axis.{Axis}
use Rattle.axis.specs.Axes.{span_of}
use Rattle.axis.specs.Questions.{ends, in_order}
use Rattle.axis.proofs.Axes.{both_ends, ends_known, span_from_0}
use Rattle.counting.specs.Counting.{Dated, from_day, to_day}
use Rattle.counting.proofs.Counting.{starts, end_value, from_range}
use Rattle.counting.proofs.Counting.{to_range, from_start, from_next, date_from, to_is}
use Rattle.weeks.proofs.Mondays.{first_monday_law}
use Rattle.period.specs.Ladders.{first_fit}
use Rattle.period.specs.Periods.{period_of}
use Rattle.period.proofs.Fits.{fit_above, fit_most, fit_room}
use Rattle.period.proofs.Periods as periods
use Rattle.steps.specs.declared.Heads.{Heads}
use Rattle.steps.specs.declared.Steps.{Steps}
use Rattle.steps.specs.Months.{first_day}
use Rattle.steps.specs.Progression.{fitting, even_tick, tick_of_number, ticks, Sound}
use Rattle.steps.specs.Listing.{numbers}
use Rattle.steps.specs.Promise.{Later, by_head, by_tail, whole_second, Fine}
use Rattle.steps.proofs.Fitting.{few_steps}
use Rattle.steps.proofs.Order.{is_smaller, not_earlier, not_before_second}
use Rattle.steps.proofs.Demand.{Kept, steps_fine, none_fine, kept_months, kept_even}
use Rattle.plans.specs.Days.{whole_heads, evenly, date_step, days_by, day_plan}
use Rattle.plans.specs.Weeks.{weeks_by, week_plan}
use Rattle.plans.specs.Months.{from_month, to_month, year_step, month_step, months_by, month_plan, year_plan}
use Rattle.plans.specs.Times.{period_in, shift, time_plan, Timed, first_second, seconds_left}
use Rattle.plans.specs.Times.{span_days_plan, Long}
use Rattle.plans.specs.Plans.{Accepted, plan_by, period_plan, plan_of}
use Rattle.plans.proofs.Cases.{choose, by_test}
use Rattle.plans.proofs.Days.{step_wide, days_kept}
use Rattle.plans.proofs.Weeks.{week_wide, weeks_kept}
use Rattle.plans.proofs.Months.{Wide, last_month, first_month, last_most, first_most, year_wide, month_wide, months_kept}
use Rattle.plans.proofs.Plans.{by_plan}
use Rattle.plans.proofs.Spans.{start_duration, end_duration, shift_small, no_period, some_period, spaced_out, timed, long}
use Rattle.plans.proofs.Spans.{from, to, begins, not_fitting, left_dn, left_small, left_most, left_last}
use Rattle.plans.proofs.Spans.{total_range}

pub record Good (a : Axis) (n : ℕ) (s : Steps) : Type 0 where
  pub sound : Sound s
  pub fine : Fine n a.start a.end (numbers (ticks s))

mag_of : (z : ℤ) (k : ℕ) → pos_part z < k → neg_part z ≤ k → mag z < k
mag_of (pos n) k a b = a
mag_of (negsuc n) k a b = omega arith

-- ---- ticks at midnight
-- not before the whole second of v: the day is not before that of v, and only its own within the first second
day_from_law : (v : Value) (x : ℕ) → neg_part v.head ≡ 0 → pos_part v.head ≤ x →
    (x ≡ pos_part v.head → pos_part v.tail < per_second) →
    Later (midnight (pos x)) (whole_second v) → ⊥
day_from_law v x z h t (by_head p) = omega (arith, is_smaller p)
day_from_law v x z h t (by_tail e q) =
    let s : pos_part v.tail < per_second = t (omega (arith, ap pos_part e)) in
    omega (arith, is_smaller q)

day_to : (v : Value) (x : ℕ) → neg_part v.head ≡ 0 → neg_part v.tail ≡ 0 → x ≤ pos_part v.head →
    Later v (midnight (pos x)) → ⊥
day_to v x y z h (by_head p) = omega (arith, is_smaller p)
day_to v x y z h (by_tail e q) = omega (arith, is_smaller q)

-- the ticks of whole heads
pub heads_tick : (base : ℤ) (x : ℕ) → even_tick (whole_heads base) x ≡ midnight (base +ℤ pos x)
heads_tick base x = rw (div-one x, mod-one x)

-- ---- days
module _ (a : Axis) (n : ℕ) (r : Dated a) where
  days_good : (d : ℕ) → from_day a + d ≡ to_day a → Good a n (days_by (from_day a) d n)
  days_good d e =
      let s = days_by (from_day a) d n in
      let f = from_range a r in
      let t = to_range a r in
      let v = starts a r in
      let w = end_value a r in
      let (p, q) = from_start a in
      let z : d + 1 - 0 ≡ d + 1 = omega arith in
      let k : Kept s.step s.count n (d + 1) = rw z (days_kept d n (omega arith)) in
      let x : from_day a + 0 ≡ from_day a = omega arith in
      record {
        sound = kept_even (whole_heads (pos (from_day a))) s n (d + 1) k (omega arith) (omega arith)
            (mag_of (pos (from_day a)) (2 ^ 60) (omega arith) (omega arith))
            (rw (div-one (date_step d n)) (omega (arith, step_wide d n (omega arith))))
            (rw (div-one (0 + (d + 1))) (omega arith));
        fine = steps_fine s n (d + 1) d a.start a.end (omega arith) k (λ h. omega arith)
            (rw (heads_tick (pos (from_day a)) 0, x) (day_from_law a.start (from_day a) v.head_dn p q))
            (rw (heads_tick (pos (from_day a)) d, e) (day_to a.end (to_day a) w.head_dn w.tail_dn
            (omega (arith, to_is a))));
      }

  day_good : from_day a ≤ to_day a → Good a n (day_plan a n)
  unfolding day_plan
  day_good h = days_good (to_day a - from_day a) (omega arith)

  -- ---- Mondays, from the first, f, to the day e; the first may lie behind it
  weeks_good : (f e : ℕ) → from_day a ≤ f → f ≤ 3652064 → e ≡ to_day a → Good a n (weeks_by f e n)
  weeks_good f e after small to =
      let s = weeks_by f e n in
      let room : ℕ = e + 1 - f in
      let t = to_range a r in
      let v = starts a r in
      let w = end_value a r in
      let (p, q) = from_start a in
      let z : room - 0 ≡ room = omega arith in
      let k : Kept s.step s.count n room = rw z (weeks_kept f e n) in
      let x : f + 0 ≡ f = omega arith in
      record {
        sound = kept_even (whole_heads (pos f)) s n room k (omega arith) (omega arith)
            (mag_of (pos f) (2 ^ 60) (omega arith) (omega arith))
            (rw (div-one s.step) (omega (arith, week_wide f e n)))
            (rw (div-one (0 + room)) (omega arith));
        fine = elim (dec_le f e) [
          | yes l ↦
              let y : f + (e - f) ≡ to_day a = omega arith in
              steps_fine s n room (e - f) a.start a.end (omega arith) k (λ h. omega arith)
              (rw (heads_tick (pos f) 0, x) (day_from_law a.start f v.head_dn (omega arith) (λ i. q (omega arith))))
              (rw (heads_tick (pos f) (e - f), y) (day_to a.end (to_day a) w.head_dn w.tail_dn
              (omega (arith, to_is a))))
          | no l ↦ let none : e + 1 - f ≡ 0 = omega arith in rw none (none_fine n a.start a.end)
        ];
      }

  week_good : Good a n (week_plan a n)
  unfolding week_plan
  week_good =
      let d = from_range a r in
      let m = first_monday_law (from_day a) d.0 in
      weeks_good _ (to_day a) (omega arith) (omega arith) refl

  -- ---- months
  months_good : (k : ℕ) → Wide (to_month a - from_month a) n k → Good a n (months_by (from_month a) (to_month a) k)
  months_good k wide =
      let m = from_month a in
      let e = to_month a in
      let s = months_by m e k in
      let room = e + 1 - m in
      let v = starts a r in
      let w = end_value a r in
      let (p, q) = from_start a in
      let f = first_month a r in
      let l = last_month a r in
      let h = months_kept m e n k wide in
      let top : m + room < 120000 = omega (arith, first_most a r, last_most a r) in
      record {
        sound = kept_months s n room h top;
        fine = steps_fine s n room e a.start a.end (omega arith) h (λ t. omega arith)
            (day_from_law a.start (first_day m) v.head_dn (omega (arith, f.ahead)) (λ i. q (omega (arith, f.ahead))))
            (day_to a.end (first_day e) w.head_dn w.tail_dn (omega (arith, l.begun, to_is a)));
      }

  month_good : Good a n (month_plan a n)
  unfolding month_plan
  month_good = months_good (month_step (to_month a - from_month a) n)
      (month_wide (to_month a - from_month a) n (omega (arith, last_most a r)))

  year_good : Good a n (year_plan a n)
  unfolding year_plan
  year_good = months_good (year_step (to_month a - from_month a) n)
      (year_wide (to_month a - from_month a) n (omega (arith, last_most a r)))

-- ---- a period apart
-- the number x is q whole heads and t
number_tick : (n : Heads) (q t x : ℕ) (h u : ℤ) → 0 < n.per → x ≡ q * n.per + t → t < n.per →
    n.base +ℤ pos q ≡ h → pos t ≡ u → even_tick n x ≡ record { head = h; tail = u }
number_tick n q t x h u p e l b r =
    let d : x / n.per ≡ q = ap (λ (y : ℕ). y / n.per) e ∙ (mul-add-div_right p q t ∙ omega (arith, div-eq_of_lt l)) in
    let c : x % n.per ≡ t = ap (λ (y : ℕ). y % n.per) e ∙ (mul-add-mod_self_right q n.per t ∙ mod-eq_of_lt l) in
    rw (d, c, b, r)

pub heads_in_order : (a : Axis) → in_order a ≡ true → pos_part a.start.head + neg_part a.end.head ≤ pos_part a.end.head
    + neg_part a.start.head
unfolding in_order earlier
heads_in_order a o =
    lt_false a.end.head a.start.head (either_false (lt_z a.end.head a.start.head)
    (le_z a.end.head a.start.head && lt_z a.end.tail a.start.tail) (not-true _ o)).0

module _ (a : Axis) (o : in_order a ≡ true) where
  abbrev heads : ℤ
  heads = a.end.head -ℤ a.start.head

  heads_dn : neg_part heads ≡ 0
  heads_dn = not_below heads (omega (arith, sub a.end.head a.start.head, heads_in_order a o))

  heads_up : a.start.head +ℤ pos (pos_part heads) ≡ a.end.head
  heads_up = same (a.start.head +ℤ pos (pos_part heads)) a.end.head
      (omega (arith, add a.start.head (pos (pos_part heads)), sub a.end.head a.start.head, heads_dn))

  -- the end, counted from the start's head
  at_end : (per : ℕ) → span_of a ≡ heads *ℤ pos per +ℤ (a.end.tail -ℤ a.start.tail) → neg_part (span_of a) ≡ 0 →
      neg_part a.start.tail ≡ 0 → neg_part a.end.tail ≡ 0
      → pos_part a.start.tail + pos_part (span_of a) ≡ pos_part heads * per + pos_part a.end.tail
  at_end per e z s t =
      let y : neg_part heads * per ≡ 0 = rw heads_dn (zero-mul per) in
      let x = joint heads (a.end.tail -ℤ a.start.tail) per in
      omega (arith, ap pos_part e, ap neg_part e, sub a.end.tail a.start.tail)

-- the numbers of an axis over date-times or durations, per to a head
pub record Counts (a : Axis) (per : ℕ) : Type 0 where
  pub least : per_second ≤ per
  pub most : per ≤ per_day
  pub start_dn : neg_part a.start.tail ≡ 0
  pub start_most : pos_part a.start.tail < per
  pub end_dn : neg_part a.end.tail ≡ 0
  pub end_most : pos_part a.end.tail < per
  pub head_dn : neg_part a.start.head ≤ 315576000000
  pub head_up : pos_part a.start.head ≤ 315576000000
  pub parts : span_of a ≡ (a.end.head -ℤ a.start.head) *ℤ pos per +ℤ (a.end.tail -ℤ a.start.tail)

pub counts : (a : Axis) → ends a ≡ true → Counts a (unit a.kind)
unfolding span_of
counts a r =
    choose (Counts a) (is_duration a.kind)
    (λ e. let v = start_duration a r e in
    let w = end_duration a r e in
    record {
      least = omega arith;
      most = omega arith;
      start_dn = v.tail_dn;
      start_most = omega arith;
      end_dn = w.tail_dn;
      end_most = omega arith;
      head_dn = v.head_least;
      head_up = v.head_most;
      parts = durations_apart a.kind a.start a.end e;
    })
    (λ e. let v = starts a (record { real = r; dates = e }) in
    let w = end_value a (record { real = r; dates = e }) in
    record {
      least = omega arith;
      most = omega arith;
      start_dn = v.tail_dn;
      start_most = omega arith;
      end_dn = w.tail_dn;
      end_most = omega arith;
      head_dn = omega arith;
      head_up = omega arith;
      parts = days_apart a.kind a.start a.end e;
    })

module _ (a : Axis) (n k per x : ℕ) (t : Timed a k) (c : Counts a per) (few : pos_part (span_of a) < (n + 1) * k)
    (near : x ≤ k) where
  abbrev from_head : ℕ
  from_head = pos_part a.start.tail

  abbrev heads_on : Heads
  heads_on = record { base = a.start.head; per = per }

  abbrev pub even : Steps
  even =
      evenly (record {
        heads = heads_on;
        first = from_head + x;
        end = from_head + pos_part (span_of a);
        step = k;
      })

  above : 0 < per
  above = omega (arith, c.least)

  at_start_tick : tick_of_number even from_head ≡ a.start
  at_start_tick =
      let y : from_head ≡ 0 * per + from_head = omega (arith, zero-mul per) in
      number_tick heads_on 0 from_head from_head a.start.head a.start.tail above y c.start_most
      (+ℤ_idr a.start.head) (pos_up a.start.tail c.start_dn)

  pub at_end_tick : tick_of_number even (from_head + pos_part (span_of a)) ≡ a.end
  at_end_tick =
      let o = t.order in
      let e = at_end a o per c.parts (span_from_0 a t.real o) c.start_dn c.end_dn in
      number_tick heads_on (pos_part (heads a o)) (pos_part a.end.tail) (from_head + pos_part (span_of a)) a.end.head
      a.end.tail above e c.end_most (heads_up a o) (pos_up a.end.tail c.end_dn)

  even_good : Good a n even
  even_good =
      let f = from_head + x in
      let e = from_head + pos_part (span_of a) in
      let s = fits_range (span_of a) t.fits in
      let room : e - f ≤ (n + 1) * k = omega arith in
      let h : Kept k (fitting (e - f) k) n (e - f) =
      record { stride = t.above; all = refl; few = few_steps (e - f) k n t.above room } in
      let stride : k < 2 ^ 60 * per = omega (arith, t.small, c.least) in
      let top : f + (e - f) < 2 ^ 60 * per = omega (arith, t.small, c.least, c.most, c.start_most) in
      record {
        sound = kept_even heads_on even n (e - f) h above (omega (arith, c.most))
            (mag_of a.start.head (2 ^ 60) (omega (arith, c.head_up)) (omega (arith, c.head_dn)))
            ((div-lt_iff_lt-mul above).1 stride) ((div-lt_iff_lt-mul above).1 top);
        fine = steps_fine even n (e - f) (e - 1) a.start a.end above h (λ g. omega arith)
            (not_before_second (tick_of_number even f) a.start c.start_dn
            (subst (λ (v : Value). Later (tick_of_number even f) v → ⊥) at_start_tick
            (not_earlier even from_head f above (omega arith))))
            (subst (λ (v : Value). Later v (tick_of_number even (e - 1)) → ⊥) at_end_tick
            (not_earlier even (e - 1) e above (omega arith)));
      }

module _ (a : Axis) (n : ℕ) (q : Accepted a n) (some : 1 ≤ n) (k : ℕ) (h : period_in a n ≡ Some k) where
  -- less than n + 1 periods
  pub few_periods : pos_part (span_of a) < (n + 1) * k
  few_periods = omega (arith, (spaced_out a n q some k h).room)

  time_good : Good a n (time_plan a k)
  unfolding time_plan
  time_good =
      let t = timed a n q some k h in
      even_good a n k (unit a.kind) (shift a k) t (counts a q.real) few_periods (shift_small a k t.above)

-- ---- whole days of a long duration
module _ (a : Axis) (n : ℕ) (l : Long a) where
  abbrev seconds : ℤ
  seconds = first_second a.start

  abbrev stride : ℕ
  stride = seconds_per_day * first_fit (pos_part (days_in a.end -ℤ days_in a.start)) n

  seconds_from : Later (midnight (seconds +ℤ pos 0)) a.start → ⊥
  seconds_from (by_head p) = let f = begins a l in omega (arith, is_smaller p, add seconds (pos 0))
  seconds_from (by_tail e q) =
      let f = begins a l in
      let z : pos_part a.start.tail ≡ 0 = f.whole (omega (arith, ap pos_part e, ap neg_part e, add seconds (pos 0))) in
      omega (arith, is_smaller q)

  seconds_to : (x : ℕ) → x ≤ pos_part (a.end.head -ℤ seconds) → Later a.end (midnight (seconds +ℤ pos x)) → ⊥
  seconds_to x h (by_head p) = omega (
    arith,
    is_smaller p,
    add seconds (pos x),
    sub a.end.head seconds,
    left_dn a l,
  )
  seconds_to x h (by_tail e q) = let w = to a l in omega (arith, is_smaller q)

  long_good : Good a n (span_days_plan a n)
  unfolding span_days_plan
  long_good =
      let left = seconds_left a in
      let s = evenly (record { heads = whole_heads seconds; first = 0; end = left; step = stride }) in
      let total = pos_part (days_in a.end -ℤ days_in a.start) in
      let (small, f) = total_range a l in
      let p = fit_above total n in
      let q = fit_room total n (omega arith) in
      let room : left ≤ (n + 1) * stride = omega (arith, left_most a l) in
      let z : left - 0 ≡ left = omega arith in
      let above : 0 < stride = omega arith in
      let h : Kept stride (fitting (left - 0) stride) n left =
      rw z (record { stride = above; all = refl; few = few_steps left stride n above room }) in
      let v = from a l in
      let b = begins a l in
      let (x, y) = bounded seconds 400000000000 400000000000 (omega arith) (omega arith) in
      let (last, even) = left_last a l in
      let end-at : left - 1 ≤ pos_part (a.end.head -ℤ seconds) = omega arith in
      record {
        sound = kept_even (whole_heads seconds) s n left h (omega arith) (omega arith)
            (mag_of seconds (2 ^ 60) (omega arith) (omega arith))
            (rw (div-one stride) (omega (arith, fit_most total n)))
            (rw (div-one (0 + left)) (omega (arith, left_small a l)));
        fine = steps_fine s n left (left - 1) a.start a.end (omega arith) h (λ g. omega arith)
            (rw (heads_tick seconds 0) (not_before_second (midnight (seconds +ℤ pos 0)) a.start v.tail_dn
            seconds_from))
            (rw (heads_tick seconds (left - 1)) (seconds_to (left - 1) end-at));
      }

-- ---- the days of an axis are in order
pub date_order : (a : Axis) (n : ℕ) → Accepted a n → over_dates a.kind ≡ true → from_day a ≤ to_day a
date_order a n q d =
    let v = date_value a.kind a.start (both_ends a q.real).first d in
    let w = date_value a.kind a.end (both_ends a q.real).second d in
    omega (arith, date_from a q.real d, to_is a, heads_in_order a q.order)

-- date-times have no period just from 10^14 ns for each of the n on
module _ (a : Axis) (n : ℕ) (q : Accepted a n) (some : 1 ≤ n) (d : is_duration a.kind ≡ false) where
  period_is : fits_i64 (span_of a) ≡ true → period_of (pos_part (span_of a)) n true ≡ period_in a n
  period_is e = let s : not (is_duration a.kind) ≡ true = rw d in rw s at (some_period a n e)

  pub from_none : period_in a n ≡ None → 10 ^ 14 * n ≤ pos_part (span_of a)
  from_none h = by_test (fits_i64 (span_of a))
      (λ e. let r = fits_range (span_of a) e in
      periods.from_none (pos_part (span_of a)) n (omega arith) some q.most (period_is e ∙ h))
      (λ e. omega (arith, not_fitting (span_of a) (span_from_0 a q.real q.order) e, q.most))

  pub none_from : 10 ^ 14 * n ≤ pos_part (span_of a) → None ≡ period_in a n
  none_from h = by_test (fits_i64 (span_of a))
      (λ e. let r = fits_range (span_of a) e in
      periods.none_from (pos_part (span_of a)) n (omega arith) some q.most h ∙ period_is e)
      (λ e. no_period a n e)

  -- so that a whole day lies between the ends
  pub day_order : period_in a n ≡ None → from_day a ≤ to_day a
  day_order h =
      let c = counts a q.real in
      let dated : Dated a = record { real = q.real; dates = d } in
      let v = starts a dated in
      let w = end_value a dated in
      let o = q.order in
      let per : unit a.kind ≡ per_day = rw d in
      let e = at_end a o (unit a.kind) c.parts (span_from_0 a q.real o) c.start_dn c.end_dn in
      let f : pos_part a.start.tail + pos_part (span_of a) ≡ pos_part (heads a o) * per_day + pos_part a.end.tail =
      rw per at e in
      omega (arith, from_none h, from_next a, to_is a, sub a.end.head a.start.head, heads_dn a o)

-- ---- every plan
module _ (a : Axis) (n : ℕ) (q : Accepted a n) where
  dated : is_duration a.kind ≡ false → Dated a
  dated d = record { real = q.real; dates = d }

  period_good : 1 ≤ n → Good a n (period_plan a n)
  unfolding period_plan
  period_good some = by_period (period_in a n) refl
    where
      by_period : (p : Option ℕ) → period_in a n ≡ p → Good a n (plan_by a n p)
      by_period (Some k) h = time_good a n q some k h
      by_period None h =
          choose (Good a n) (is_duration a.kind) (λ d. long_good a n (long a n q some d h))
          (λ d. day_good a n (dated d) (day_order a n q some d h))

  pub plan_good : Good a n (plan_of a n)
  plan_good =
      by_plan (Good a n) a n (ends_known a q.real)
      (λ d. day_good a n (dated (dates_no_duration a.kind d)) (date_order a n q d))
      (λ m. month_good a n (dated m))
      (λ y. year_good a n (dated y))
      (λ w. week_good a n (dated (dates_no_duration a.kind w)))
      (λ _ o. period_good (q.some o))
