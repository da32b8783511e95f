-- Hairlines: whether a value's pixel is its exact position, in whole numbers, and whether the mapping divided a number that lost
-- something on its way to f64. Definitions only.
use Rattle.std.specs.Prelude.{Bool, false, not, cond, ◌&&◌, ◌||◌, ℤ, ◌-ℤ◌, ◌*ℤ◌}
use Rattle.laws.specs.Numbers.{equal, is_number}
use Rattle.floats.specs.Losses.{lost_in}
use Rattle.values.specs.declared.Value.{Value}
use Rattle.values.specs.Values.{is_duration}
use Rattle.values.specs.Differences.{fits_i64, whole_days}
use Rattle.axis.specs.declared.Axis.{Axis}
use Rattle.axis.specs.declared.Limits.{Limits}
use Rattle.axis.specs.Axes.{span_of, offset_of}
use Rattle.mapping.specs.declared.Hairline.{Hairline}
use Rattle.mapping.specs.Position.{width}

-- "position plus low is a whole number and is the pixel": W × offset ÷ span is p less low, multiplied out
abbrev pub on_pixel : Limits → ℤ → ℤ → ℤ → Bool
on_pixel l offset span p = equal (width l *ℤ offset) ((p -ℤ l.low) *ℤ span)

-- the mapping divides nanoseconds where span and offset are numbers of 64 bits
abbrev pub in_nanoseconds : Axis → Value → Bool
in_nanoseconds a v = fits_i64 (span_of a) && fits_i64 (offset_of a v)

-- else whole days, but nothing for "a duration beyond i64 nanoseconds from a start whose span fits"
abbrev pub divides_nothing : Axis → Bool
divides_nothing a = is_duration a.kind && fits_i64 (span_of a)

-- is the pixel p of a value its exact position? Where start equals end, both sides are 0 × W and (p − low) × 0: yes. In whole
-- days, "a mapping that divides by zero whole days": no.
unfoldable pub exact_at : Axis → Limits → Value → ℤ → Bool
exact_at a l v p =
    cond (in_nanoseconds a v) (on_pixel l (offset_of a v) (span_of a) p)
    (cond (divides_nothing a) false
    (not (is_number (whole_days (span_of a)) 0) && on_pixel l (whole_days (offset_of a v)) (whole_days (span_of a)) p))

-- "whether an offset or span in its divisions lost something"
unfoldable pub lost_at : Axis → Value → Bool
lost_at a v =
    cond (in_nanoseconds a v) (lost_in (offset_of a v) || lost_in (span_of a))
    (cond (divides_nothing a) false
    (lost_in (whole_days (offset_of a v)) || lost_in (whole_days (span_of a))))

-- the pixel p of a value with both
abbrev pub hairline_at : Axis → Limits → Value → ℤ → Hairline
hairline_at a l v p = record { pixel = p; exact = exact_at a l v p; lost = lost_at a v }
