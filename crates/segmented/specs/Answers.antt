-- What the operations on segments answer on raw numbers, refused calls too. Definitions only.
use Rattle.std.specs.Prelude.{Bool, true, cond, List, [], ◌∷◌, ◌++◌, ℕ, ◌+◌, ltb, leb, ℤ}
use Rattle.std.specs.Prelude.{Option, Some, None, Result, Ok}
use Rattle.asking.specs.declared.Refusal.{Refusal}
use Rattle.asking.specs.declared.Refusal.TheVariants as refusal
use Rattle.asking.specs.Asking.{Question, ask, asked, passes}
use Rattle.laws.specs.Numbers.{pos_part}
use Rattle.axis.specs.declared.Axis.{Axis}
use Rattle.axis.specs.declared.Limits.{Limits}
use Rattle.axis.specs.Axes.{closed}
use Rattle.axis.specs.Questions.{known, has_index, pixels, plain_questions, in_calendar}
use Rattle.mapping.specs.declared.Hairline.{Hairline}
use Rattle.counting.specs.Counting.{size_of}
use Rattle.discrete.specs.Indices.{value_at}
use Rattle.discrete.specs.Answers.{size_questions, index_questions, index_in}
use Rattle.axis.specs.declared.Hint.{Hint}
use Rattle.ticks.specs.Answers.{ticks_answer, ticks_written}
use Rattle.segmented.specs.declared.Segment.{Segment}
use Rattle.segmented.specs.declared.SegmentValue.{SegmentValue}
use Rattle.segmented.specs.declared.SegmentValue.TheVariants.{Exact, CenterOf, Last}
use Rattle.segmented.specs.Segments.{segment_on, segment_of, segments, segment_mappable, segment_worked}

-- ---- the questions
abbrev pub segment_questions : Axis → Segment → List Question
segment_questions a s = size_questions a ++ (ask refusal.Value (segment_on a s) ∷ [])

-- of a segment value between two limits
abbrev pub between_questions : Axis → Limits → Segment → List Question
between_questions a l s = ask refusal.Limits (pixels l) ∷ (ask refusal.Value (segment_on a s) ∷ [])

-- of all three, before the size is asked for
abbrev pub segment_value_questions : Axis → Limits → Segment → List Question
segment_value_questions a l s = plain_questions (has_index a) a ++ between_questions a l s

-- and then the size, and what was worked out
abbrev pub segment_map_questions : Axis → Limits → Segment → List Question
segment_map_questions a l s =
    segment_value_questions a l s
    ++ (ask refusal.Length (segment_mappable a (segment_of s))
    ∷ (ask refusal.Range (segment_worked a l (segment_of s)).fits
    ∷ []))

-- ticks are asked for the kind's segments before all else; the rest are the questions of the axis' own ticks
abbrev pub segment_kind_questions : Axis → List Question
segment_kind_questions a = ask refusal.Kind (known a) ∷ (ask refusal.Operation (has_index a) ∷ [])

-- ---- the answers
unfoldable pub segment_map_answer : Axis → Limits → Segment → Result Hairline Refusal
segment_map_answer a l s = asked (segment_map_questions a l s) (Ok (segment_worked a l (segment_of s)).hairline)

-- one more than the axis has: the last end
unfoldable pub segment_size_answer : Axis → Result ℕ Refusal
segment_size_answer a = asked (size_questions a) (Ok (segments a + 1))

-- the last end stands at the size
unfoldable pub segment_index_in : Axis → SegmentValue → Option ℕ
segment_index_in a (Exact v) = index_in a v
segment_index_in a (CenterOf v) = index_in a v
segment_index_in a Last = Some (size_of a)

-- `index_of`
unfoldable pub segment_index_answer : Axis → Segment → Result (Option ℕ) Refusal
segment_index_answer a s = asked (segment_questions a s) (Ok (segment_index_in (closed a) (segment_of s)))

-- below the size a value, at the size the last end, beyond it none
unfoldable pub segment_at : Axis → ℕ → Option SegmentValue
segment_at a i = cond (ltb i (size_of a)) (Some (Exact (value_at a i))) (cond (leb i (size_of a)) (Some Last) None)

-- 10. Is the date that is answered one of the days of question 3?
abbrev pub segment_in_calendar : Option SegmentValue → Bool
segment_in_calendar (Some (Exact v)) = in_calendar v
segment_in_calendar (Some (CenterOf v)) = in_calendar v
segment_in_calendar (Some Last) = true
segment_in_calendar None = true

-- question 10 alone, as the code asks it
abbrev pub segment_checked : Option SegmentValue → Result (Option SegmentValue) Refusal
segment_checked v = asked (ask refusal.Range (segment_in_calendar v) ∷ []) (Ok v)

-- `from_index`
unfoldable pub segment_from_answer : Axis → ℤ → Result (Option SegmentValue) Refusal
segment_from_answer a i = asked (index_questions a i) (segment_checked (segment_at (closed a) (pos_part i)))

-- ---- ticks: those of the axis, each the centre of its segment
-- the count of ticks, where k numbers are lent
unfoldable pub segment_ticks_answer : Axis → Hint → ℕ → Result ℕ Refusal
segment_ticks_answer a h k = asked (segment_kind_questions a) (ticks_answer a h k)

-- all lent numbers after the call
unfoldable pub segment_ticks_written : Axis → Hint → List ℤ → List ℤ
segment_ticks_written a h d = cond (passes (segment_kind_questions a)) (ticks_written a h d) d
