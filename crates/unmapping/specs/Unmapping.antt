-- The date-time under a pixel, kind 4, as unmap_coord: the span is divided over the width in whole nanoseconds where their
-- product with the offset fits, else by whole days in floats. Definitions only.
use Rattle.std.specs.Prelude.{◌≡◌, Bool, true, false, cond, ◌&&◌, ◌||◌, ◌/◌, ◌%◌, ℤ, pos, nat_abs, ◌+ℤ◌, ◌-ℤ◌, ◌*ℤ◌}
use Rattle.std.specs.Int.Signed.{lt_z, le_z, quot_z, rem_z}
use Rattle.std.specs.Float.{binary64}
use Rattle.std.specs.Float.Ieee.{of_int, mul, div, to_signed}
use Rattle.laws.specs.Numbers.{is_number, pos_part}
use Rattle.laws.specs.Units.{per_day}
use Rattle.values.specs.declared.Value.{Value}
use Rattle.values.specs.Values.{is_duration}
use Rattle.values.specs.Differences.{nanoseconds, fits_i64, whole_days}
use Rattle.axis.specs.declared.Axis.{Axis}
use Rattle.axis.specs.declared.Limits.{Limits}
use Rattle.axis.specs.Axes.{span_of}
use Rattle.axis.specs.Questions.{ends, in_order, unmap_pixels}

-- does offset × factor fit, by the Rust's test? A factor below 0 never passes it
abbrev pub product_fits : ℤ → ℤ → ℤ → Bool
product_fits offset factor rest =
    is_number factor 0
    || (lt_z (pos (nat_abs offset)) (quot_z (pos 9223372036854775807) factor)
    || (is_number rest 0 && le_z (pos (nat_abs offset)) (quot_z (pos 9223372036854775807) factor)))

-- from start to the date-time: s is the span in nanoseconds, w the width, which is not 0
abbrev pub by_nanoseconds : ℤ → ℤ → ℤ → ℤ
by_nanoseconds s w offset = offset *ℤ quot_z s w +ℤ quot_z (rem_z s w *ℤ offset) w

-- a span of whole days, in floats, cut toward zero as Rust's `as i64`
abbrev pub by_days : ℤ → ℤ → ℤ → ℤ
by_days days w offset =
    to_signed 63 (div binary64 (mul binary64 (of_int binary64 offset) (of_int binary64 days)) (of_int binary64 w))

-- either way, as unmap_coord chooses
unfoldable pub moved_by : ℤ → ℤ → ℤ → ℤ
moved_by s w offset =
    cond (fits_i64 s && product_fits offset (quot_z s w) (rem_z s w))
    (by_nanoseconds s w offset)
    (by_days (whole_days s) w offset *ℤ pos per_day)

-- the date-time of a number of nanoseconds from midnight of the day 0; below that it is that midnight, which is no day
abbrev pub date_time_at : ℤ → Value
date_time_at z = record { head = pos (pos_part z / per_day); tail = pos (pos_part z % per_day) }

-- the date-time under a pixel
unfoldable pub unmap_coord : Axis → Limits → ℤ → Value
unfolding moved_by
unmap_coord a l pixel =
    date_time_at (nanoseconds a.kind a.start +ℤ moved_by (span_of a) (l.high -ℤ l.low) (pixel -ℤ l.low))

-- what was asked before
pub record Unmappable (a : Axis) (l : Limits) (pixel : ℤ) : Type 0 where
  pub dated : is_duration a.kind ≡ false
  pub real : ends a ≡ true
  pub order : in_order a ≡ true
  pub page : unmap_pixels l pixel ≡ true
