-- Segments: each value of an axis has the room up to the next one, and one room is left behind the last. Where an exact
-- value, a centre and the last end stand between two limits. Definitions only.
-- An excluded end has no segment: the limits part the size without it, and the next value is one before it. But a value is
-- mapped to the end as written, so that a part stays blank before the last end.
use Rattle.std.specs.Prelude.{◌≡◌, Bool, true, false, cond, ◌&&◌, ◌||◌, [], ◌∷◌, ℕ, ◌≤◌, ◌<◌, ltb, ℤ, pos, ◌+ℤ◌, ◌-ℤ◌}
use Rattle.std.specs.Prelude.{Option, Some, None, Result, Ok}
use Rattle.std.specs.Int.Signed.{quot_z, rem_z}
use Rattle.std.specs.Float.{binary32}
use Rattle.std.specs.Float.Ieee.{of_int, div, to_signed}
use Rattle.asking.specs.declared.Refusal.{Refusal}
use Rattle.asking.specs.declared.Refusal.TheVariants as refusal
use Rattle.asking.specs.Asking.{ask, asked}
use Rattle.laws.specs.Numbers.{within, is_number}
use Rattle.calendar.specs.Questions.{last_day, is_day}
use Rattle.floats.specs.Rounding.{round_f}
use Rattle.values.specs.declared.Value.{Value}
use Rattle.axis.specs.declared.Axis.{Axis}
use Rattle.axis.specs.declared.Limits.{Limits}
use Rattle.axis.specs.Axes.{closed}
use Rattle.axis.specs.Questions.{value_on, mappable, fits_i32}
use Rattle.mapping.specs.declared.Hairline.{Hairline}
use Rattle.mapping.specs.Mapping.{hairline}
use Rattle.counting.specs.Counting.{size_of}
use Rattle.discrete.specs.Answers.{next_in}
use Rattle.segmented.specs.declared.Segment.{Segment}
use Rattle.segmented.specs.declared.SegmentValue.{SegmentValue}
use Rattle.segmented.specs.declared.SegmentValue.TheVariants.{Exact, CenterOf, Last}

-- ---- the three numbers of a segment value
abbrev pub head_tail : Segment → Value
head_tail s = record { head = s.head; tail = s.tail }

-- 8. Is the case 1 to 3, and the value one of the kind? The numbers beside the last are not read.
unfoldable pub segment_on : Axis → Segment → Bool
segment_on a s = is_number s.case 3 || (within (pos 1) s.case (pos 2) && value_on a (head_tail s))

-- the segment value of three numbers
unfoldable pub segment_of : Segment → SegmentValue
segment_of s =
    cond (is_number s.case 1) (Exact (head_tail s))
    (cond (is_number s.case 2) (CenterOf (head_tail s))
    Last)

-- of a segment value: its value is one of the kind
abbrev pub SegmentOn : Axis → SegmentValue → Type 0
SegmentOn a (Exact v) = value_on a v ≡ true
SegmentOn a (CenterOf v) = value_on a v ≡ true
SegmentOn a Last = Unit {0}

-- how many segments an axis has, without the last end
abbrev pub segments : Axis → ℕ
segments a = size_of (closed a)

-- 9. Is the size at least 1? Then the question of mapping; the last is asked only for the size.
unfoldable pub segment_mappable : Axis → SegmentValue → Bool
segment_mappable a (Exact v) = ltb 0 (segments a) && mappable a v
segment_mappable a (CenterOf v) = ltb 0 (segments a) && mappable a v
segment_mappable a Last = ltb 0 (segments a)

-- a size that has room for a segment
pub record SomeSize (size : ℕ) : Type 0 where
  pub least : 0 < size
  pub most : size ≤ last_day

-- ---- pixels
-- the room of a segment: (W as f32 / size as f32).round() as i32
unfoldable pub margin_of : ℕ → Limits → ℤ
margin_of size l = to_signed 31 (round_f binary32 (div binary32 (of_int binary32 (l.high -ℤ l.low)) (of_int binary32 (pos size))))

-- values are mapped between the low limit and the high one less a segment
unfoldable pub inner : ℕ → Limits → Limits
inner size l = record { low = l.low; high = l.high -ℤ margin_of size l }

-- a half, cut toward zero
abbrev pub half : ℤ → ℤ
half z = quot_z z (pos 2)

-- "the halving leaves nothing"
abbrev pub even : ℤ → Bool
even z = is_number (rem_z z (pos 2)) 0

-- a hairline, and whether each mapping and sum used for it fits i32 and each date mapped on the way is in the calendar
pub record Worked : Type 0 where
  pub hairline : Hairline
  pub fits : Bool

-- the two together
abbrev pub worked : Hairline → Bool → Worked
worked h b = record { hairline = h; fits = b }

-- an exact value
abbrev pub alone : Hairline → Worked
alone h = worked h (fits_i32 h.pixel)

-- midway to the next value: exact "just when each mapping it uses" is "and the halving leaves nothing"
abbrev pub between : Hairline → Hairline → Worked
between left right =
    let sum = left.pixel +ℤ right.pixel in
    worked (record { pixel = half sum; exact = (left.exact && right.exact) && even sum; lost = left.lost || right.lost })
    (fits_i32 left.pixel && (fits_i32 right.pixel && fits_i32 sum))

-- half a segment on, where there is no next value
abbrev pub beside : Hairline → ℤ → Worked
beside left margin =
    let p = left.pixel +ℤ half margin in
    worked (record { pixel = p; exact = left.exact && even margin; lost = left.lost }) (fits_i32 left.pixel && fits_i32 p)

-- the centre of a segment that begins at a hairline, by the next value
abbrev pub centred : Axis → Limits → Hairline → Option Value → Worked
centred a l left (Some w) =
    let c = between left (hairline a (inner (segments a) l) w) in worked c.hairline (is_day w.head && c.fits)
centred a l left None = beside left (margin_of (segments a) l)

-- the pixel of a segment value
unfoldable pub segment_worked : Axis → Limits → SegmentValue → Worked
segment_worked a l (Exact v) = alone (hairline a (inner (segments a) l) v)
segment_worked a l (CenterOf v) = centred a l (hairline a (inner (segments a) l) v) (next_in (closed a) v)
segment_worked a l Last = worked (record { pixel = l.high; exact = true; lost = false }) true

-- question 10 alone, as the code asks it
abbrev pub pixel_checked : Worked → Result Hairline Refusal
pixel_checked w = asked (ask refusal.Range w.fits ∷ []) (Ok w.hairline)
