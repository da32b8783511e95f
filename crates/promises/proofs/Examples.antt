-- The settled examples: rows with a law by the law, for the others the definitions compute the answer. Assumes nothing.
use mathlib.Core.Path.{refl}
use mathlib.Core.List.{[], ◌∷◌, ◌++◌}
use native.Mathlib.Omega.{arith}
use lib.Ieee as ieee
use Rattle.calendar.specs.Gregorian.{leap, leap_day, month_length, months, year_length, years, day_number}
use Rattle.calendar.specs.Questions.{is_date, in_ranges, number_of}
use Rattle.floats.specs.Rounding as rounding
use Rattle.values.specs.Differences.{nanoseconds, difference, nanoseconds_of}
use Rattle.values.specs.Values.{is_value, earlier}
use Rattle.axis.specs.Axes.{span_of, offset_of, closed}
use Rattle.axis.specs.Questions as asks
use Rattle.mapping.specs.Mapping as mapping
use Rattle.counting.specs.Counting as count
use Rattle.keypoints.specs.Loops.{while}
use Rattle.keypoints.specs.Periods as periods
use Rattle.keypoints.specs.Times as times
use Rattle.keypoints.specs.KeyPoints.{key_points}
use Rattle.keypoints.specs.Hints.{key_points_for}
use Rattle.ticks.specs.Answers as ticks
use Rattle.discrete.specs.Indices as index
use Rattle.discrete.specs.Answers as discrete
use Rattle.segmented.specs.Segments as segments
use Rattle.segmented.specs.Answers.{segment_map_answer}
use Rattle.ordered.specs.Replies.{number_reply, index_reply, period_reply}
use Rattle.promises.specs.Examples as rows
use Rattle.promises.specs.Examples.{Holds, span_from, count_numbers, period_numbers, sevens}
use Rattle.promises.specs.Examples.{settled_table, published_days, AllHold}
use Rattle.promises.proofs.OpenRows as laws

-- ---- rows that leave something open
below_the_power : Holds rows.below_the_power
unfolding is_value asks.ends asks.in_order asks.excludable earlier span_of difference nanoseconds
below_the_power = λ i. period_numbers (period_reply (laws.below_the_power (span_from 49599999999999) refl refl refl refl refl i))

at_the_power : Holds rows.at_the_power
unfolding is_value asks.ends asks.in_order asks.excludable earlier span_of difference nanoseconds
at_the_power = λ i. period_numbers (period_reply (laws.at_the_power (span_from 49600000000000) refl refl refl refl refl i))

earlier_year : Holds rows.earlier_year
earlier_year = λ i. count_numbers (index_reply (laws.earlier_year 737790 (omega arith) (omega arith) i))

no_whole_month : Holds rows.no_whole_month
no_whole_month = λ i.
    count_numbers (number_reply (laws.twelve i)) ++ laws.no_whole_month 10 sevens (omega arith) (omega arith) i

-- ---- the others
negative_start : Holds rows.negative_start
unfolding closed is_value earlier span_of difference nanoseconds nanoseconds_of asks.ends asks.in_order asks.excludable
    asks.near_zero asks.near_or_long asks.bold_hint count.monthly count.yearly count.weekly while periods.exponent_from
    periods.determine_actual_ns_per_point periods.period_from periods.compute_period_per_point times.plus times.period_on
    times.aligned times.duration_of times.durations_by times.duration_key_points key_points key_points_for ticks.ticks_of
    ticks.ticks_answer ticks.ticks_written
negative_start = refl

high_limit : Holds rows.high_limit
unfolding closed ieee.span ieee.climb ieee.size ieee.odd ieee.units ieee.round ieee.mul ieee.div ieee.of_int ieee.to_unsigned
    rounding.floor_f is_value earlier asks.has_unmap asks.ends asks.in_order asks.excludable asks.pixels asks.differ
    asks.unmap_pixels asks.checked count.monthly count.yearly count.weekly count.from_day count.size_of index.value_at
    index.index_at index.index_under discrete.value_under discrete.unmap_answer
high_limit = refl

first_centre : Holds rows.first_centre
unfolding closed ieee.span ieee.climb ieee.size ieee.odd ieee.units ieee.round ieee.mul ieee.div ieee.of_int ieee.to_unsigned
    ieee.to_signed rounding.floor_f rounding.round_f rounding.quotient_of nanoseconds difference nanoseconds_of is_value
    earlier span_of offset_of asks.has_period asks.has_index asks.ends asks.in_order asks.excludable asks.pixels
    asks.value_on asks.mappable asks.checked mapping.map_coord mapping.placed mapping.hairline count.monthly
    count.yearly count.weekly count.origin count.position count.size_of index.is_indexed index.index_of index.value_at
    discrete.next_in segments.segment_on segments.segment_of segments.segment_mappable segments.margin_of segments.inner
    segments.segment_worked segment_map_answer
first_centre = refl

later : AllHold (rows.high_limit ∷ (rows.earlier_year ∷ (rows.no_whole_month ∷ (rows.first_centre ∷ []))))
later = (high_limit, (earlier_year, (no_whole_month, (first_centre, tt))))

-- THE THEOREM, of all rows, and the days that they name
pub settled : AllHold settled_table
unfolding leap leap_day month_length months year_length years day_number is_date in_ranges number_of
settled =
    let six = laws.six_days 737850 sevens (omega arith) (omega arith) (omega arith) in
    let two = laws.two_weeks 737850 sevens (omega arith) (omega arith) (omega arith) in
    (refl, (refl, (refl, (six, (two, (below_the_power, (at_the_power, (negative_start, later))))))))

pub days_settled : AllHold published_days
unfolding leap leap_day month_length months year_length years day_number is_date in_ranges number_of
days_settled = (refl, (refl, (refl, (refl, (refl, (refl, (refl, (refl, (refl, (refl, tt))))))))))
