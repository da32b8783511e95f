-- The pixel of a value on an axis between two limits: map_coord of all kinds but 7, the duration's own map, and what
-- mapping answers, refused calls too; a pixel is answered as a hairline, which says how it is drawn. Definitions only.
use Rattle.std.specs.Prelude.{◌≡◌, Bool, true, false, cond, ◌||◌, List, [], ◌∷◌, ◌++◌, ◌^◌, ℤ, pos, ◌+ℤ◌, Float}
use Rattle.std.specs.Prelude.{Result, Ok, Option, Some, None}
use Rattle.std.specs.Option.{option_map}
use Rattle.std.specs.Float.{binary64}
use Rattle.std.specs.Float.Ieee.{of_int, add, div}
use Rattle.asking.specs.Asking.{Question, ask, asked}
use Rattle.asking.specs.declared.Refusal.{Refusal}
use Rattle.asking.specs.declared.Refusal.TheVariants as refusal
use Rattle.laws.specs.Numbers.{is_number}
use Rattle.floats.specs.Rounding.{quotient_of, cut}
use Rattle.floats.specs.Losses.{lost_in}
use Rattle.values.specs.declared.Value.{Value}
use Rattle.values.specs.Values.{is_duration}
use Rattle.values.specs.Differences.{fits_i64, nanoseconds_of, whole_days}
use Rattle.axis.specs.declared.Axis.{Axis}
use Rattle.axis.specs.declared.Limits.{Limits}
use Rattle.axis.specs.Axes.{span_of, offset_of}
use Rattle.axis.specs.Questions.{ends, pixels, value_on, mappable, fits_i32, axis_questions}
use Rattle.mapping.specs.declared.Span.{Span}
use Rattle.mapping.specs.declared.Hairline.{Hairline}
use Rattle.mapping.specs.declared.Ratio.{Ratio}
use Rattle.mapping.specs.declared.Divided.{Divided}
use Rattle.mapping.specs.Position.{width}
use Rattle.mapping.specs.Hairlines.{on_pixel, in_nanoseconds, hairline_at}

-- W × offset ÷ span in floats, each step rounded
abbrev pub over : Limits → ℤ → ℤ → Float
over l offset span = quotient_of (of_int binary64 (width l)) offset (of_int binary64 span)

-- all kinds but 7: nanoseconds if the span and the offset fit, else whole days
unfoldable pub map_coord : Axis → Limits → Value → ℤ
unfolding quotient_of
map_coord a l v =
    cond (in_nanoseconds a v)
    (l.low +ℤ cut (over l (offset_of a v) (span_of a)))
    (l.low +ℤ cut (over l (whole_days (offset_of a v)) (whole_days (span_of a))))

-- 1e-10: one over ten to the tenth
unfoldable pub nudge : Float
nudge = div binary64 (of_int binary64 (pos 1)) (of_int binary64 (pos (10 ^ 10)))

-- kind 7: 1e-10 more before the cut; the high limit where the span fits nanoseconds and the offset does not
unfoldable pub map_duration : Axis → Limits → Value → ℤ
unfolding quotient_of
map_duration a l v =
    cond (fits_i64 (span_of a))
    (cond (fits_i64 (offset_of a v)) (l.low +ℤ cut (add binary64 (over l (offset_of a v) (span_of a)) nudge)) l.high)
    (l.low +ℤ cut (add binary64 (over l (whole_days (offset_of a v)) (whole_days (span_of a))) nudge))

-- the pixel of a value, by its kind's mapping
unfoldable pub placed : Axis → Limits → Value → ℤ
unfolding map_coord map_duration
placed a l v = cond (is_duration a.kind) (map_duration a l v) (map_coord a l v)

-- and how it is drawn there
unfoldable pub hairline : Axis → Limits → Value → Hairline
unfolding placed
hairline a l v = hairline_at a l v (placed a l v)

-- the questions of mapping: those of the axis and of the limits, which are the same for all values
abbrev pub scale_questions : Axis → Limits → List Question
scale_questions a l = axis_questions true a ++ (ask refusal.Limits (pixels l) ∷ [])

-- then those of the value
abbrev pub map_value_questions : Axis → Value → List Question
map_value_questions a v = ask refusal.Value (value_on a v) ∷ (ask refusal.Length (mappable a v) ∷ [])

-- and of the answer p
abbrev pub pixel_questions : Axis → Value → ℤ → List Question
pixel_questions a v p = map_value_questions a v ++ (ask refusal.Range (fits_i32 p) ∷ [])

-- all questions of mapping
abbrev pub map_questions : Axis → Limits → Value → List Question
map_questions a l v = scale_questions a l ++ pixel_questions a v (placed a l v)

-- what mapping answers
unfoldable pub mapped : Axis → Limits → Value → Result Hairline Refusal
unfolding placed hairline
mapped a l v = asked (map_questions a l v) (Ok (hairline a l v))

-- a hairline that only the questions of the axis and the limits can refuse, as those of the ends are
abbrev pub answered_at : Axis → Limits → Hairline → Result Hairline Refusal
answered_at a l h = asked (scale_questions a l) (Ok h)

-- ---- many values of one axis
-- the same where the axis and the limits were asked
unfoldable pub mapped_by : Axis → Limits → Value → Result Hairline Refusal
unfolding placed hairline
mapped_by a l v = asked (pixel_questions a v (placed a l v)) (Ok (hairline a l v))

-- what all values on an axis share
abbrev pub with_total : ℤ → Span
with_total n = record { nanoseconds = n; total = of_int binary64 n }

-- a ready scale of an axis and its limits: the width, and the span, where it fits nanoseconds. The ends are real, and the limits
-- on the page, as the sum with the low limit and the products with W want.
pub record ScaleFor (a : Axis) (l : Limits) (w : Float) (s : Option Span) : Type 0 where
  pub real : ends a ≡ true
  pub on_page : pixels l ≡ true
  pub wide : w ≡ of_int binary64 (width l)
  pub spans : s ≡ option_map with_total (nanoseconds_of (span_of a))

-- what is divided in nanoseconds
abbrev pub in_nanos : Float → ℤ → Span → Divided
in_nanos width offset t =
    record { x = quotient_of width offset t.total; ratio = Some (record { offset = offset; span = t.nanoseconds }) }

-- and in whole days
abbrev pub in_days : Axis → Limits → Value → Divided
in_days a l v =
    let days = whole_days (offset_of a v) in
    let span = whole_days (span_of a) in
    record { x = over l days span; ratio = cond (is_number span 0) None (Some (record { offset = days; span = span })) }

-- 1e-10 more
abbrev pub nudged : Divided → Divided
nudged q = record { x = add binary64 q.x nudge; ratio = q.ratio }

-- is the pixel p where the ratio of what was divided says?
abbrev pub exact_by : Limits → ℤ → Option Ratio → Bool
exact_by l p None = false
exact_by l p (Some r) = on_pixel l r.offset r.span p

-- and what was lost of it
abbrev pub lost_by : Option Ratio → Bool
lost_by None = false
lost_by (Some r) = lost_in r.offset || lost_in r.span

-- the hairline of what was divided: low and the position, cut
abbrev pub hairline_from : Limits → Divided → Hairline
hairline_from l q = let p = l.low +ℤ cut q.x in record { pixel = p; exact = exact_by l p q.ratio; lost = lost_by q.ratio }

-- what was asked once, of an axis and limits, and both where nothing was refused
abbrev pub ReadyFor : Axis → Limits → Result (Axis × Limits) Refusal → Type 0
ReadyFor a l m = m ≡ asked (scale_questions a l) (Ok (a, l))
