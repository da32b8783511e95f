-- How the pixels of segments are drawn: on dates they lose nothing, in all three cases. Assumes nothing.
use mathlib.Core.Path.{◌≡◌, refl, sym, ◌∙◌, ap}
use mathlib.Core.Bool.{true, false}
use mathlib.Core.List.{[], ◌∷◌, ◌++◌}
use Rattle.std.specs.Prelude.{Option, Some, None, Ok}
use Rattle.asking.specs.declared.Refusal.TheVariants as refusal
use Rattle.asking.specs.Asking.{ask, passes}
use Rattle.asking.proofs.Asked.{told, fewer}
use Rattle.laws.proofs.Tests.{both_true}
use Rattle.calendar.specs.Questions.{is_day}
use Rattle.values.specs.declared.Value.{Value}
use Rattle.values.specs.Values.{over_dates}
use Rattle.axis.specs.declared.Axis.{Axis}
use Rattle.axis.specs.declared.Limits.{Limits}
use Rattle.axis.specs.Axes.{closed}
use Rattle.axis.specs.Questions.{ends, value_on, checked_if}
use Rattle.mapping.specs.declared.Hairline.{Hairline}
use Rattle.mapping.specs.Mapping.{hairline}
use Rattle.mapping.proofs.Answers.{answer_at}
use Rattle.mapping.proofs.Drawn.{kept_dates}
use Rattle.counting.specs.Counting.{Dated}
use Rattle.counting.proofs.Counting.{value_on_law}
use Rattle.discrete.specs.Answers.{next_in}
use Rattle.discrete.proofs.Answers.{counted}
use Rattle.discrete.proofs.Laws.{next_on}
use Rattle.segmented.specs.declared.Segment.{Segment}
use Rattle.segmented.specs.declared.SegmentValue.{SegmentValue}
use Rattle.segmented.specs.declared.SegmentValue.TheVariants.{Exact, CenterOf, Last}
use Rattle.segmented.specs.Segments.{SegmentOn, segment_of, segment_mappable, segments, inner, between, centred}
use Rattle.segmented.specs.Segments.{segment_worked}
use Rattle.segmented.specs.Answers.{segment_value_questions, segment_map_questions, segment_map_answer}
use Rattle.segmented.proofs.Answers.{first_passed, on_kind}

-- a next value whose date is in the calendar is one of the kind
next_value : (a : Axis) (v w : Value) → Dated (closed a) → next_in (closed a) v ≡ Some w → is_day w.head ≡ true →
    value_on a w ≡ true
unfolding checked_if
next_value a v w c e day = sym (value_on_law a w) ∙ next_on (closed a) v w c (rw (e, day) refl)

module _ (a : Axis) (l : Limits) (e : ends a ≡ true) (c : Dated (closed a)) (dates : over_dates a.kind ≡ true) where
  line_kept : (m : Limits) (v : Value) → value_on a v ≡ true → (hairline a m v).lost ≡ false
  unfolding hairline
  line_kept m v o = kept_dates a v e o dates

  -- by the next value
  centre_kept : (v : Value) (n : Option Value) → next_in (closed a) v ≡ n → (left : Hairline) → left.lost ≡ false →
      (centred a l left n).fits ≡ true → (centred a l left n).hairline.lost ≡ false
  centre_kept v (Some w) is left k f =
      let right = hairline a (inner (segments a) l) w in
      let (day, rest) = both_true (is_day w.head) (between left right).fits f in
      rw (k, line_kept (inner (segments a) l) w (next_value a v w c is day)) refl
  centre_kept v None is left k f = k

  worked_kept : (v : SegmentValue) → SegmentOn a v → (segment_worked a l v).fits ≡ true →
      (segment_worked a l v).hairline.lost ≡ false
  unfolding segment_worked
  worked_kept (Exact v) o f = line_kept (inner (segments a) l) v o
  worked_kept (CenterOf v) o f =
      centre_kept v (next_in (closed a) v) refl (hairline a (inner (segments a) l) v) (line_kept (inner (segments a) l) v o) f
  worked_kept Last o f = refl

-- THE THEOREM, of every pixel of a segment that is answered
pub segments_kept : (a : Axis) (l : Limits) (s : Segment) (h : Hairline) → over_dates a.kind ≡ true →
    segment_map_answer a l s ≡ Ok h → h.lost ≡ false
unfolding segment_map_answer
segments_kept a l s h dates m =
    let row = segment_map_questions a l s in
    let (none, is) = answer_at row (segment_worked a l (segment_of s)).hairline h m in
    let nine = segment_value_questions a l s ++ (ask refusal.Length (segment_mappable a (segment_of s)) ∷ []) in
    let y : passes (nine ++ (ask refusal.Range (segment_worked a l (segment_of s)).fits ∷ [])) ≡ true = none in
    let (z, fits) = fewer nine (ask refusal.Range (segment_worked a l (segment_of s)).fits) y in
    let (x, maps) = fewer (segment_value_questions a l s) (ask refusal.Length (segment_mappable a (segment_of s))) z in
    sym (ap (λ (k : Hairline). k.lost) is)
    ∙ worked_kept a l (told 3 row none) (counted a (first_passed a l s x)) dates (segment_of s)
    (on_kind a s (told 8 row none)) fits
