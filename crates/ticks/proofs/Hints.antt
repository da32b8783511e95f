-- What the questions say of an axis and its hint, and of the finer axis. Assumes nothing.
use mathlib.Core.Path.{◌≡◌, refl, sym, ◌∙◌}
use mathlib.Core.Logic.{inl, inr}
use mathlib.Core.Bool.{Bool, true, false, cond, true≢false, ◌&&◌, ◌||◌}
use mathlib.Core.List.{[], ◌∷◌, ◌++◌}
use Prim.Native.Nat.{ℕ, ◌*◌, ◌≤◌, ◌<◌}
use lib.Dec.{leb}
use lib.IntN.{ℤ}
use borrow.Author.Tests.{le-leb, lt-leb}
use Rattle.std.specs.Prelude.{Some, None}
use Rattle.laws.specs.Numbers.{pos_part, neg_part}
use Rattle.asking.specs.declared.Refusal.TheVariants as refusal
use Rattle.asking.specs.Asking.{ask, passes}
use Rattle.asking.proofs.Asked.{told, fewer, passes_append}
use Rattle.laws.proofs.Tests.{both_true, and_false}
use Rattle.values.specs.declared.Kind.{Kind}
use Rattle.values.specs.declared.Kind.TheVariants as kind
use Rattle.values.specs.declared.Value.{Value}
use Rattle.values.specs.Values.{over_dates, over_date_times, is_stamp, is_duration, is_value}
use Rattle.values.proofs.Numbers.{either_true}
use Rattle.values.proofs.Values.{duration_no_dates}
use Rattle.axis.specs.declared.Axis.{Axis}
use Rattle.axis.specs.declared.BoldPoints.{BoldPoints}
use Rattle.axis.specs.declared.LightPoints.{LightPoints}
use Rattle.axis.specs.declared.Hint.{Hint}
use Rattle.axis.specs.declared.Hint.TheVariants.{Bold, Light}
use Rattle.axis.specs.Axes.{closed}
use Rattle.axis.specs.Questions.{ends, in_order, has_period, bold_hint, light_hint, hint_on, axis_questions}
use Rattle.axis.proofs.Axes.{both_ends}
use Rattle.axis.proofs.ClosedAxes.{same_kind, axis_passed}
use Rattle.axis.proofs.Questions as asks
use Rattle.axis.proofs.Questions.{other_kind, bold_range, light_range}
use Rattle.counting.specs.Counting.{counts_months, counts_years, monthly, yearly, size_of}
use Rattle.counting.proofs.Counting.{monthly_dated, yearly_dated}
use Rattle.counting.proofs.Counting.{no_less}
use Rattle.plans.specs.Plans.{Accepted}
use Rattle.plans.proofs.Cases.{choose}
use Rattle.keypoints.specs.Hints.{limit, finer_kind, finer}
use Rattle.ticks.specs.Answers.{tick_questions, period_questions}
use Rattle.ticks.specs.Plans.{refined, axis_for, points}

-- ---- the finer kind, which is over the same values
same_dates : (k : Kind) → over_dates (finer_kind k) ≡ over_dates k
same_dates kind.Date = refl
same_dates kind.Month = refl
same_dates kind.Year = refl
same_dates kind.Stamp = refl
same_dates kind.StampMonth = refl
same_dates kind.StampYear = refl
same_dates kind.Span = refl
same_dates kind.Week = refl
same_dates kind.Unknown = refl

same_times : (k : Kind) → over_date_times (finer_kind k) ≡ over_date_times k
same_times kind.Date = refl
same_times kind.Month = refl
same_times kind.Year = refl
same_times kind.Stamp = refl
same_times kind.StampMonth = refl
same_times kind.StampYear = refl
same_times kind.Span = refl
same_times kind.Week = refl
same_times kind.Unknown = refl

same_durations : (k : Kind) → is_duration (finer_kind k) ≡ is_duration k
same_durations kind.Date = refl
same_durations kind.Month = refl
same_durations kind.Year = refl
same_durations kind.Stamp = refl
same_durations kind.StampMonth = refl
same_durations kind.StampYear = refl
same_durations kind.Span = refl
same_durations kind.Week = refl
same_durations kind.Unknown = refl

same_values : (k : Kind) (v : Value) → is_value (finer_kind k) v ≡ is_value k v
unfolding is_value
same_values k v = rw (same_dates k, same_times k, same_durations k)

module _ (a : Axis) where
  -- what the code finds of its kind
  pub has_finer : {k : Kind} → Some k ≡ cond (counts_months a.kind || counts_years a.kind) (Some (finer_kind a.kind)) None →
      (monthly a || yearly a ≡ true) × (k ≡ finer_kind a.kind)
  unfolding monthly yearly
  has_finer {k} f = go (counts_months a.kind || counts_years a.kind) f
    where
      go : (b : Bool) → Some k ≡ cond b (Some (finer_kind a.kind)) None → (b ≡ true) × (k ≡ finer_kind a.kind)
      go true e = (refl, let z : k ≡ finer_kind a.kind = cc in z)
      go false e = absurd (let z : ⊥ = cc in z)

  pub none_finer : None ≡ cond (counts_months a.kind || counts_years a.kind) (Some (finer_kind a.kind)) None →
      monthly a || yearly a ≡ false
  unfolding monthly yearly
  none_finer f = go (counts_months a.kind || counts_years a.kind) f
    where
      go : (b : Bool) → None ≡ cond b (Some (finer_kind a.kind)) None → b ≡ false
      go true e = absurd (let z : ⊥ = cc in z)
      go false e = refl

  module _ (e : monthly a || yearly a ≡ true) where
    pub no_duration : is_duration a.kind ≡ false
    no_duration = elim (either_true (monthly a) (yearly a) e) [ inl x ↦ monthly_dated a x | inr x ↦ yearly_dated a x ]

    pub finer_accepted : (n : ℕ) → Accepted a n → Accepted (finer a) n
    unfolding ends in_order
    finer_accepted n q =
        let v = both_ends a q.real in
        record {
          real = rw (same_values a.kind a.start, same_values a.kind a.end, v.first, v.second);
          order = q.order;
          near = sym (other_kind (finer a) (rw (same_durations a.kind) no_duration));
          most = q.most;
          some = λ m. q.some (rw (same_dates a.kind) at m);
        }

module _ (a : Axis) (b : ℕ) where
  pub refined_accepted : (n : ℕ) → Accepted a n → Accepted (refined b a) n
  unfolding refined
  refined_accepted n q =
      choose (λ (x : Axis). Accepted x n) ((monthly a || yearly a) && leb (size_of a) (2 * b))
      (λ e. finer_accepted a (both_true (monthly a || yearly a) (leb (size_of a) (2 * b)) e).0 n q) (λ _. q)

  -- the ends stay
  refined_ends : ((refined b a).start ≡ a.start) × ((refined b a).end ≡ a.end)
  unfolding refined
  refined_ends =
      choose (λ (x : Axis). (x.start ≡ a.start) × (x.end ≡ a.end)) ((monthly a || yearly a) && leb (size_of a) (2 * b))
      (λ _. (refl, refl)) (λ _. (refl, refl))

  -- and so do the values of its kind
  refined_value : (v : Value) → is_value (refined b a).kind v ≡ is_value a.kind v
  unfolding refined
  refined_value v =
      choose (λ (x : Axis). is_value x.kind v ≡ is_value a.kind v) ((monthly a || yearly a) && leb (size_of a) (2 * b))
      (λ _. same_values a.kind v) (λ _. refl)

  -- ---- as the code finds it
  pub stays_fine : monthly a || yearly a ≡ false → a ≡ refined b a
  unfolding refined
  stays_fine e = rw e

  pub stays_coarse : 2 * b < size_of a → a ≡ refined b a
  unfolding refined
  stays_coarse h = rw (lt-leb (size_of a) (2 * b) h, and_false (monthly a || yearly a))

  pub goes_finer : monthly a || yearly a ≡ true → size_of a ≤ 2 * b → finer a ≡ refined b a
  unfolding refined
  goes_finer e h = rw (e, le-leb (size_of a) (2 * b) h)

-- ---- what no refusal says
-- of an axis and of its hint, where N is n
row_accepted : (a : Axis) (has hint : Bool) (n : ℤ) → passes (axis_questions has a ++ (ask refusal.Hint hint ∷ [])) ≡ true →
    (hint ≡ true → asks.Hint a n) → Accepted a (pos_part n)
row_accepted a has hint n e f =
    let row = axis_questions has a ++ (ask refusal.Hint hint ∷ []) in
    let r = f (told 6 row e) in
    record {
      real = told 3 row e;
      order = told 4 row e;
      near = told 5 row e;
      most = r.most;
      some = r.some;
    }

-- kinds 4 and 7 are over no dates: they have a hint of 1 at least
period_no_dates : (a : Axis) → has_period a ≡ true → over_dates a.kind ≡ false
unfolding has_period
period_no_dates a e =
    elim (either_true (is_stamp a.kind) (is_duration a.kind) e) [
      | inl x ↦ stamp_no_dates a.kind x
      | inr x ↦ duration_no_dates a.kind x
    ]
  where
    stamp_no_dates : (k : Kind) → is_stamp k ≡ true → over_dates k ≡ false
    stamp_no_dates kind.Date e = absurd (true≢false (sym e))
    stamp_no_dates kind.Month e = absurd (true≢false (sym e))
    stamp_no_dates kind.Year e = absurd (true≢false (sym e))
    stamp_no_dates kind.Stamp e = refl
    stamp_no_dates kind.StampMonth e = absurd (true≢false (sym e))
    stamp_no_dates kind.StampYear e = absurd (true≢false (sym e))
    stamp_no_dates kind.Span e = absurd (true≢false (sym e))
    stamp_no_dates kind.Week e = absurd (true≢false (sym e))
    stamp_no_dates kind.Unknown e = absurd (true≢false (sym e))

pub limit_is : (h : Hint) → pos_part (points h) ≡ limit h
limit_is (Bold h) = refl
limit_is (Light h) = refl

module _ (a : Axis) where
  pub accepted : (h : Hint) → passes (tick_questions a h) ≡ true → Accepted a (limit h)
  accepted (Bold h) e =
      row_accepted a true (hint_on a (Bold h)) h.n e (bold_range a h (told 1 (tick_questions a (Bold h)) e))
  accepted (Light h) e =
      row_accepted a true (hint_on a (Light h)) h.n e (λ y. (light_range a h (told 1 (tick_questions a (Light h)) e) y).0)

  -- the axis by which it lists passes what it passed
  pub same_hint : (h : Hint) → hint_on (closed a) h ≡ hint_on a h
  unfolding bold_hint light_hint
  same_hint (Bold h) = rw (same_kind a)
  same_hint (Light h) = rw (same_kind a)

  pub closed_passed : (h : Hint) → passes (tick_questions a h) ≡ true → passes (tick_questions (closed a) h) ≡ true
  closed_passed h z =
      let (q, y) = fewer (axis_questions true a) (ask refusal.Hint (hint_on a h)) z in
      passes_append (axis_questions true (closed a)) (ask refusal.Hint (hint_on (closed a) h) ∷ [])
      ∙ rw (axis_passed a true q, same_hint h, y)

  -- the hint's numbers
  pub bold_count : (h : BoldPoints) → passes (tick_questions a (Bold h)) ≡ true → neg_part h.n ≡ 0
  bold_count h e = let row = tick_questions a (Bold h) in (bold_range a h (told 1 row e) (told 6 row e)).none_below

  pub light_counts : (h : LightPoints) → passes (tick_questions a (Light h)) ≡ true →
      (neg_part h.n ≡ 0) × (neg_part h.bold ≡ 0) × (pos_part h.bold ≤ 4096)
  light_counts h e =
      let row = tick_questions a (Light h) in
      let (r, z, m) = light_range a h (told 1 row e) (told 6 row e) in
      (r.none_below, z, m)

  -- N, which is the limit
  pub count_of_points : (h : Hint) → passes (tick_questions a h) ≡ true → neg_part (points h) ≡ 0
  count_of_points (Bold h) e = bold_count h e
  count_of_points (Light h) e = (light_counts h e).0

  -- the axis that lists
  pub listing_accepted : (h : Hint) → passes (tick_questions a h) ≡ true → Accepted (axis_for a h) (limit h)
  listing_accepted (Bold h) e = accepted (Bold h) e
  listing_accepted (Light h) e =
      let b = pos_part h.bold in
      refined_accepted (refined b a) b (pos_part h.n) (refined_accepted a b (pos_part h.n) (accepted (Light h) e))

  pub listing_ends : (h : Hint) → ((axis_for a h).start ≡ a.start) × ((axis_for a h).end ≡ a.end)
  listing_ends (Bold h) = (refl, refl)
  listing_ends (Light h) =
      let b = pos_part h.bold in
      let x = refined_ends (refined b a) b in
      let y = refined_ends a b in
      (x.0 ∙ y.0, x.1 ∙ y.1)

  pub listing_value : (h : Hint) (v : Value) → is_value (axis_for a h).kind v ≡ is_value a.kind v
  listing_value (Bold h) v = refl
  listing_value (Light h) v =
      let b = pos_part h.bold in
      refined_value (refined b a) b v ∙ refined_value a b v

  pub period_accepted : (h : BoldPoints) → passes (period_questions a h) ≡ true →
      Accepted a (pos_part h.n) × (1 ≤ pos_part h.n) × (neg_part h.n ≡ 0)
  period_accepted h e =
      let row = period_questions a h in
      let q = row_accepted a (has_period a) (hint_on a (Bold h)) h.n e (bold_range a h (told 1 row e)) in
      (q, q.some (period_no_dates a (told 2 row e)), (bold_range a h (told 1 row e) (told 6 row e)).none_below)

-- what the code knows of the finer axis, and of the one that lists
pub ruleset refining = (has_finer, none_finer, no_duration, stays_fine, stays_coarse, goes_finer)

pub ruleset listing_hints = (accepted, count_of_points, light_counts, limit_is, listing_accepted, no_less)
