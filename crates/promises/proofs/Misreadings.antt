-- Document 01's misreadings are false, each by one input. Assumes nothing.
use mathlib.Core.Path.{◌≡◌, refl, ap}
use mathlib.Core.List.{[], ◌∷◌}
use native.Mathlib.Omega.{arith}
use lib.Ieee as ieee
use lib.IntN.{pos}
use Rattle.laws.specs.Numbers.{pos_part}
use Rattle.values.specs.declared.Kind.TheVariants as kind
use Rattle.values.specs.declared.Value.{Value}
use Rattle.values.specs.Differences.{nanoseconds, difference, nanoseconds_of}
use Rattle.values.specs.Values.{is_value, earlier, midnight}
use Rattle.axis.specs.declared.Axis.{Axis}
use Rattle.axis.specs.Axes.{span_of, offset_of, closed}
use Rattle.axis.specs.Questions as asks
use Rattle.floats.specs.Rounding as rounding
use Rattle.mapping.specs.Mapping as mapping
use Rattle.mapping.specs.Position.{cut_position}
use Rattle.counting.specs.Counting as count
use Rattle.keypoints.specs.Loops.{while}
use Rattle.keypoints.specs.Months as months
use Rattle.keypoints.specs.KeyPoints.{key_points}
use Rattle.keypoints.specs.Hints.{key_points_for}
use Rattle.steps.specs.Promise.{by_tail}
use Rattle.steps.proofs.Order.{smaller}
use Rattle.ticks.specs.Answers as ticks
use Rattle.discrete.specs.Indices as index
use Rattle.discrete.specs.Answers as discrete
use Rattle.calendar.specs.Gregorian as calendar
use Rattle.promises.specs.Examples.{axis_from, bold_of, limits_of, at_nano}
use Rattle.promises.specs.Misreadings.{UnmapInverts, NeverBefore, AlwaysExact}

-- days 1 and 2 between 0 and 1: day 2 is at 1, and under 1 is day 3, since the size counts both ends
two_days : Axis
two_days = axis_from kind.Date (midnight (pos 1)) (midnight (pos 2))

pub no_inverse : UnmapInverts → ⊥
unfolding closed ieee.span ieee.climb ieee.size ieee.odd ieee.units ieee.round ieee.mul ieee.div ieee.of_int ieee.to_unsigned
    ieee.to_signed rounding.floor_f rounding.quotient_of nanoseconds difference nanoseconds_of is_value earlier span_of
    offset_of asks.has_period asks.has_unmap asks.ends asks.in_order asks.excludable asks.near_or_long asks.pixels
    asks.differ asks.unmap_pixels asks.value_on asks.mappable asks.checked mapping.map_coord mapping.placed
    mapping.hairline mapping.mapped count.weekly count.monthly count.yearly count.from_day count.size_of index.value_at
    index.index_at index.index_under discrete.value_under discrete.unmap_answer two_days
no_inverse f =
    let e : midnight (pos 3) ≡ midnight (pos 2) =
    f two_days (limits_of (pos 0) (pos 1)) (midnight (pos 2)) (midnight (pos 3)) _ refl refl in
    let z = ap (λ (v : Value). pos_part v.head) e in
    omega arith

-- months over date-times, from the first nanosecond of 0001-01-01 to the same, N 1: the tick is that midnight
first_nanosecond : Axis
first_nanosecond = axis_from kind.StampMonth (at_nano (midnight (pos 1)) 1) (at_nano (midnight (pos 1)) 1)

pub some_before : NeverBefore → ⊥
unfolding closed calendar.leap calendar.leap_day calendar.month_length calendar.months calendar.year_length calendar.years
    calendar.day_number calendar.next_day calendar.days_later calendar.date_of is_value earlier asks.ends asks.in_order
    asks.excludable asks.near_or_long asks.bold_hint count.weekly count.monthly count.yearly count.from_day count.to_day
    while months.start_of months.carried months.generate_key_points months.total_month months.months_from
    months.month_key_points key_points key_points_for ticks.ticks_of ticks.ticks_answer ticks.ticks_written first_nanosecond
some_before f =
    let later = by_tail refl (smaller (pos 0) (pos 1) (omega arith)) in
    f first_nanosecond (bold_of 1) (pos 7 ∷ (pos 7 ∷ [])) 1 0 refl (omega arith) later

-- date-times from the first nanosecond of day 1 to midnight of day 8, between 0 and 15: the end is at 14
week_less_one : Axis
week_less_one = axis_from kind.Stamp (at_nano (midnight (pos 1)) 1) (midnight (pos 8))

pub not_exact : AlwaysExact → ⊥
unfolding ieee.span ieee.climb ieee.size ieee.odd ieee.units ieee.round ieee.mul ieee.div ieee.of_int ieee.to_signed
    rounding.quotient_of nanoseconds difference nanoseconds_of is_value earlier span_of offset_of asks.ends asks.in_order
    asks.excludable asks.near_or_long asks.pixels asks.value_on asks.mappable mapping.map_coord
    mapping.placed mapping.hairline mapping.mapped cut_position week_less_one
not_exact f =
    let e : pos 14 ≡ pos 15 =
    f week_less_one (limits_of (pos 0) (pos 15)) (midnight (pos 8)) _ refl (smaller _ _ (omega arith)) refl in
    let z = ap pos_part e in
    omega arith
