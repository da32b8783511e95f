-- Where a date-time axis lists dates, the calls answer as of the axis of these dates. Assumes nothing.
use mathlib.Core.Path.{◌≡◌, refl, sym, ap, ◌∙◌}
use mathlib.Core.Bool.{Bool, true, false, not, cond, ◌||◌}
use mathlib.Core.List.{List, []}
use Prim.Native.Nat.{ℕ, ◌≤◌}
use native.Mathlib.Omega.{arith}
use lib.IntN.{ℤ}
use lib.ListN.{length}
use Rattle.std.specs.Prelude.{Option, Some, None, Result, Ok, Err}
use Rattle.laws.specs.Numbers.{minus, pos_part, neg_part}
use Rattle.laws.proofs.Tests.{both_true}
use Rattle.asking.specs.declared.Refusal.{Refusal}
use Rattle.asking.specs.Asking.{passes}
use Rattle.asking.proofs.Asked.{told, answered_ok, passed}
use Rattle.values.specs.declared.Value.{Value}
use Rattle.values.specs.Values.{is_duration}
use Rattle.axis.specs.declared.Axis.{Axis}
use Rattle.axis.specs.declared.BoldPoints.{BoldPoints}
use Rattle.axis.specs.declared.Hint.{Hint}
use Rattle.axis.specs.declared.Hint.TheVariants.{Bold, Light}
use Rattle.axis.specs.Axes.{closed}
use Rattle.axis.specs.Questions.{has_period, has_index, excludable, is_count, enough, bold_hint}
use Rattle.axis.proofs.ClosedAxes.{kept}
use Rattle.counting.specs.Counting.{Dated, from_day, to_day}
use Rattle.counting.proofs.Counting.{from_range, to_range}
use Rattle.steps.specs.Listing.{listed_of, lent_after, front}
use Rattle.plans.specs.Times.{period_in}
use Rattle.plans.proofs.Promise.{from_none, none_from, day_order}
use Rattle.keypoints.specs.Times.{period_on}
use Rattle.keypoints.specs.Hints.{limit, turns_for, key_points_for}
use Rattle.keypoints.specs.AsDates.{date_times, bold_points}
use Rattle.keypoints.proofs.AsDates.{lists_dates}
use Rattle.ticks.specs.Answers.{tick_questions, ticks_of, ticks_answer, ticks_written, ticks_handed}
use Rattle.ticks.specs.Answers.{period_questions, period_answer}
use Rattle.ticks.proofs.Hints.{period_accepted}
use Rattle.ticks.proofs.KeyPoints.{period_answered}
use Rattle.segmented.specs.Answers.{segment_ticks_answer, segment_ticks_written}
use Rattle.ordered.specs.declared.OrderedPeriod.{OrderedPeriod}
use Rattle.ordered.specs.Replies.{number_reply, period_reply}
use Rattle.promises.specs.declared.Lists.{Lists}
use Rattle.promises.specs.OneList.{ListsDates, days, ceil_of_start, floor_of_end, Alike, OneList, SameLists, NoneFrom}
use Rattle.promises.proofs.DateAxes.{dates_accepted}

-- ---- a period that is none: nothing was refused, and there is none
none_in : (a : Axis) (h : BoldPoints) → passes (period_questions a h) ≡ true → period_answer a h ≡ Ok None →
    period_in a (pos_part h.n) ≡ None
none_in a h z e = let answered = period_answered a h z in cc

same_limit : (h : Hint) → limit h ≡ pos_part (bold_points h).n
same_limit (Bold h) = refl
same_limit (Light h) = refl

module _ (a : Axis) (h : Hint) (l : ListsDates a h) where
  abbrev t : Axis
  t = date_times a

  abbrev b : Axis
  b = days (ceil_of_start a) (floor_of_end a) false

  abbrev g : Hint
  g = Bold (bold_points h)

  abbrev n : ℕ
  n = pos_part (bold_points h).n

  asked_none : (passes (period_questions t (bold_points h)) ≡ true) × (period_on (turns_for n) t n true ≡ None)
  unfolding period_answer
  asked_none =
      let (z, e) = answered_ok (period_questions t (bold_points h)) (Ok (period_on (turns_for n) t n true)) None l.no_period in
      (z, cc)

  -- ---- the axis of the dates is accepted
  order : from_day a ≤ to_day a
  unfolding from_day to_day
  order =
      let z = asked_none.0 in
      let (q, many, _) = period_accepted t (bold_points h) z in
      day_order t n q many refl (none_in t (bold_points h) z l.no_period)

  accepted : passes (tick_questions b g) ≡ true
  unfolding from_day to_day bold_hint
  accepted =
      let row = period_questions t (bold_points h) in
      let z = asked_none.0 in
      let d : Dated t = record { real = told 3 row z; dates = refl } in
      let c = (both_true (is_count (bold_points h).n) (enough t (bold_points h).n) (told 6 row z)).0 in
      dates_accepted (from_day t) (to_day t) (from_range t d).0 order (to_range t d).1 (bold_points h) c

  -- ---- and its list is that of the date-times, whose end belongs to them
  included : a ≡ closed a
  unfolding excludable
  included = kept a (go a.end_excluded (told 14 (period_questions t (bold_points h)) asked_none.0))
    where
      go : (x : Bool) → not x || false ≡ true → x ≡ false
      go false e = refl
      go true e = sym e

  same_list : ticks_of a h ≡ ticks_of b g
  unfolding closed from_day to_day ticks_of key_points_for
  same_list =
      ap (λ (x : Axis). key_points_for x h) (sym included)
      ∙ rw (same_limit h) (lists_dates (turns_for n) a h l.as_times asked_none.1)

  -- ---- so is every answer that is made of the list
  count : (k : ℕ) → ticks_answer a h k ≡ ticks_answer b g k
  unfolding ticks_answer
  count k =
      sym (passed (tick_questions a h) (listed_of (ticks_of a h) k) l.accepted)
      ∙ ap (λ (v : List Value). listed_of v k) same_list
      ∙ passed (tick_questions b g) (listed_of (ticks_of b g) k) accepted

  by_list : {A : Type 0} (answer : List Value → A) (refused : A) →
      cond (passes (tick_questions a h)) (answer (ticks_of a h)) refused
      ≡ cond (passes (tick_questions b g)) (answer (ticks_of b g)) refused
  by_list answer refused = λ i. cond ((l.accepted ∙ sym accepted) i) (answer (same_list i)) refused

  written : (d : List ℤ) → ticks_written a h d ≡ ticks_written b g d
  unfolding ticks_written
  written d = by_list (λ v. lent_after v d) d

  handed : (k : ℕ) → ticks_handed a h k ≡ ticks_handed b g k
  unfolding ticks_handed
  handed k = by_list (λ v. front v k) []

  -- ---- segments, where the kind has them
  segment_count : has_index a ≡ true → (k : ℕ) → segment_ticks_answer a h k ≡ segment_ticks_answer b g k
  unfolding segment_ticks_answer has_index has_period
  segment_count i k = rw (told 1 (tick_questions a h) l.accepted, i) (count k)

  segment_written : has_index a ≡ true → (d : List ℤ) → segment_ticks_written a h d ≡ segment_ticks_written b g d
  unfolding segment_ticks_written has_index has_period
  segment_written i d = rw (told 1 (tick_questions a h) l.accepted, i) (written d)

  pub alike : Alike a h b g
  alike = record {
    accepted = accepted;
    count = count;
    written = written;
    handed = handed;
    segment_count = segment_count;
    segment_written = segment_written;
  }

-- THE THEOREM, of any axis and any hint
pub one_list : OneList
one_list a h l = alike a h l

-- ---- where dates are listed, in numbers
pub none_from_span : NoneFrom
none_from_span a h s z =
    let n = pos_part h.n in
    let (q, many, _) = period_accepted a h z in
    let d : is_duration a.kind ≡ false = ap is_duration s in (
      λ e. from_none a n q many d (none_in a h z e),
      λ l. sym (period_answered a h z) ∙ ap Ok (sym (none_from a n q many d l)),
    )

-- ---- of what three calls handed back, each as defined
status_none : (p : Result (Option ℕ) Refusal) → (period_reply p).status ≡ minus 1 → p ≡ Ok None
status_none (Ok (Some k)) e = absurd (let z : ⊥ = omega (arith, ap neg_part e) in z)
status_none (Ok None) e = refl
status_none (Err q) e = absurd (let z : ⊥ = omega (arith, ap neg_part e) in z)

pub lists_as : (a : Axis) (h : Hint) (from to : ℤ) (d e : List ℤ) (r : Lists) (l m : List ℤ) →
    r.period ≡ period_reply (period_answer (date_times a) (bold_points h)) →
    (r.times ≡ number_reply (ticks_answer a h (length d))) × (l ≡ ticks_written a h d) →
    let b = days from to false in
    (r.dates ≡ number_reply (ticks_answer b (Bold (bold_points h)) (length e))) × (m ≡ ticks_written b (Bold (bold_points h)) e) →
    SameLists a h from to d e r l m
lists_as a h from to d e r l m p (t, w) (u, v) z k s f g q =
    let period = status_none (period_answer (date_times a) (bold_points h)) (ap (λ (x : OrderedPeriod). x.status) (sym p) ∙ s) in
    let same = alike a h (record { accepted = z; as_times = k; no_period = period }) in
    let axis : days from to false ≡ days (ceil_of_start a) (floor_of_end a) false = λ i. days (f i) (g i) false in (
      t
          ∙ ap number_reply (same.count (length d))
          ∙ sym (λ i. number_reply (ticks_answer (axis i) (Bold (bold_points h)) (length (sym q i))))
          ∙ sym u,
      w
          ∙ same.written d
          ∙ sym (λ i. ticks_written (axis i) (Bold (bold_points h)) (sym q i))
          ∙ sym v,
    )
