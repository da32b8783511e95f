-- The questions before an answer, by document 01's numbers: a test for each, and the rows that operations on an axis
-- begin with. An operation's own row stands in its crate. Definitions only.
use Rattle.std.specs.Prelude.{Bool, not, ◌&&◌, ◌||◌, List, [], ◌∷◌, ◌++◌, ℤ, pos, Result, Ok, Option, Some, None}
use Rattle.std.specs.Int.Signed.{lt_z, le_z}
use Rattle.asking.specs.Asking.{Question, ask, asked}
use Rattle.asking.specs.declared.Refusal.{Refusal}
use Rattle.asking.specs.declared.Refusal.TheVariants as refusal
use Rattle.laws.specs.Numbers.{minus, within, equal}
use Rattle.calendar.specs.Questions.{last_day, is_day}
use Rattle.values.specs.declared.Value.{Value}
use Rattle.values.specs.declared.Kind.TheVariants.{Span}
use Rattle.values.specs.Values.{is_kind, over_dates, is_stamp, is_duration, is_value, earlier}
use Rattle.values.specs.Differences.{nanoseconds}
use Rattle.axis.specs.declared.Axis.{Axis}
use Rattle.axis.specs.declared.Limits.{Limits}
use Rattle.axis.specs.declared.BoldPoints.{BoldPoints}
use Rattle.axis.specs.declared.LightPoints.{LightPoints}
use Rattle.axis.specs.declared.Hint.{Hint}
use Rattle.axis.specs.declared.Hint.TheVariants.{Bold, Light}
use Rattle.axis.specs.Axes.{span_of}

-- 1. Is the kind one of the eight?
abbrev pub known : Axis → Bool
known a = is_kind a.kind

-- 2. Does the kind have this operation? All kinds map and list ticks. All but 7 unmap.
unfoldable pub has_unmap : Axis → Bool
has_unmap a = not (is_duration a.kind)

-- kinds 4 and 7 have a period in nanoseconds
unfoldable pub has_period : Axis → Bool
has_period a = is_stamp a.kind || is_duration a.kind

-- all others have indices, size, next, previous, values and segments
unfoldable pub has_index : Axis → Bool
unfolding has_period
has_index a = not (has_period a)

-- 3. Are start and end values of the kind?
unfoldable pub ends : Axis → Bool
ends a = is_value a.kind a.start && is_value a.kind a.end

-- 4. Is start no later than end?
unfoldable pub in_order : Axis → Bool
in_order a = not (earlier a.end a.start)

-- two values, number by number
abbrev pub equals : Value → Value → Bool
equals v w = equal v.head w.head && equal v.tail w.tail

-- 14, asked after 4. Does the end belong to the axis, or is it excluded on one over dates, and not the start?
unfoldable pub excludable : Axis → Bool
excludable a = not a.end_excluded || (over_dates a.kind && not (equals a.end a.start))

-- 5. Kind 7: are both ends within 4 × 10^18 ns of zero, or is the span above 2^63 - 1 ns?
unfoldable pub near_zero : Value → Bool
near_zero v = within (minus 4000000000000000000) (nanoseconds Span v) (pos 4000000000000000000)

-- of an axis: durations alone are asked
unfoldable pub near_or_long : Axis → Bool
near_or_long a =
    not (is_duration a.kind)
    || ((near_zero a.start && near_zero a.end)
    || lt_z (pos 9223372036854775807) (span_of a))

-- 6. Are the hint's numbers 0 to 4,096, and N at least 1 on kinds 4 to 7?
abbrev pub is_count : ℤ → Bool
is_count n = within (pos 0) n (pos 4096)

-- N, by the kind; of what is no kind nothing is asked
abbrev pub enough : Axis → ℤ → Bool
enough a n = not (known a) || (over_dates a.kind || le_z (pos 1) n)

-- of a bold hint
unfoldable pub bold_hint : Axis → BoldPoints → Bool
bold_hint a h = is_count h.n && enough a h.n

-- of a light hint, whose N is its limit
unfoldable pub light_hint : Axis → LightPoints → Bool
light_hint a h = is_count h.bold && (is_count h.n && enough a h.n)

-- of either
abbrev pub hint_on : Axis → Hint → Bool
hint_on a (Bold h) = bold_hint a h
hint_on a (Light h) = light_hint a h

-- 7. Are limits and pixel each -32,767 to 32,767, and, to unmap, the limits different?
abbrev pub is_pixel : ℤ → Bool
is_pixel p = within (minus 32767) p (pos 32767)

-- both limits
unfoldable pub pixels : Limits → Bool
pixels l = is_pixel l.low && is_pixel l.high

-- the limits are different
unfoldable pub differ : Limits → Bool
differ l = lt_z l.low l.high || lt_z l.high l.low

-- to unmap: limits and pixel together
unfoldable pub unmap_pixels : Limits → ℤ → Bool
unmap_pixels l p = pixels l && (is_pixel p && differ l)

-- 8. Is the value one of the kind, the index 0 to 3,652,059?
unfoldable pub value_on : Axis → Value → Bool
value_on a v = is_value a.kind v

-- an index
abbrev pub is_index : ℤ → Bool
is_index i = within (pos 0) i (pos last_day)

-- 9. To map: is start before end, or the value equal to start?
unfoldable pub mappable : Axis → Value → Bool
mappable a v = earlier a.start a.end || equals v a.start

-- 10. Does the answer fit i32?
abbrev pub fits_i32 : ℤ → Bool
fits_i32 n = within (minus 2147483648) n (pos 2147483647)

-- 10, of a date that is answered: is it one of the days of question 3?
abbrev pub in_calendar : Value → Bool
in_calendar v = is_day v.head

-- a value that is answered where it passes question 10
unfoldable pub checked : Value → Result Value Refusal
checked v = asked (ask refusal.Range (in_calendar v) ∷ []) (Ok v)

-- a value, if there is one: none passes
unfoldable pub checked_if : Option Value → Result (Option Value) Refusal
checked_if None = Ok None
checked_if (Some v) = asked (ask refusal.Range (in_calendar v) ∷ []) (Ok (Some v))

-- 11 is asked where a list's length is known: `has_room` in steps/specs/Listing.antt

-- 4 and 14
abbrev pub order_questions : Axis → List Question
order_questions a = ask refusal.Order (in_order a) ∷ (ask refusal.ExcludedEnd (excludable a) ∷ [])

-- the row of operations that kind 7 does not have
abbrev pub plain_questions : Bool → Axis → List Question
plain_questions has a =
    ask refusal.Kind (known a) ∷ (ask refusal.Operation has ∷ (ask refusal.Ends (ends a) ∷ order_questions a))

-- and of those that kind 7 has: question 5 comes last
abbrev pub axis_questions : Bool → Axis → List Question
axis_questions has a = plain_questions has a ++ (ask refusal.Duration (near_or_long a) ∷ [])
