-- Where a date-time axis lists dates, other dates or another hint do not give its list: each such claim is false, by its smallest
-- input. And dates are listed on each kind. Assumes nothing.
use mathlib.Core.Path.{◌≡◌, refl, ap}
use mathlib.Core.Bool.{true}
use mathlib.Core.List.{List}
use Prim.Native.Nat.{ℕ}
use native.Mathlib.Omega.{arith}
use lib.IntN.{ℤ, pos}
use lib.ListN.{get_or}
use Rattle.std.specs.Prelude.{None, Ok}
use Rattle.laws.specs.Numbers.{pos_part}
use Rattle.asking.specs.Asking.{passes}
use Rattle.values.specs.declared.Kind.TheVariants as kind
use Rattle.values.specs.Differences.{nanoseconds, difference, nanoseconds_of}
use Rattle.values.specs.Values.{is_value, earlier, midnight}
use Rattle.axis.specs.declared.Axis.{Axis}
use Rattle.axis.specs.declared.LightPoints.{LightPoints}
use Rattle.axis.specs.declared.Hint.{Hint}
use Rattle.axis.specs.Axes.{span_of, closed}
use Rattle.axis.specs.Questions as asks
use Rattle.calendar.specs.Gregorian as calendar
use Rattle.counting.specs.Counting as count
use Rattle.keypoints.specs.Dates.{dates_from, date_key_points}
use Rattle.keypoints.specs.Periods.{exponent_from, determine_actual_ns_per_point, period_from, compute_period_per_point}
use Rattle.keypoints.specs.Times.{period_on, date_time_key_points}
use Rattle.keypoints.specs.KeyPoints.{key_points}
use Rattle.keypoints.specs.Hints.{light_key_points, key_points_for}
use Rattle.keypoints.specs.AsDates.{date_times, times, months, years, bold_points}
use Rattle.ticks.specs.Answers.{tick_questions, ticks_of, ticks_written, period_answer}
use Rattle.promises.specs.Examples.{axis_from, at_nano, bold_of, light_of, sevens}
use Rattle.promises.specs.OneList.{ListsDates, NoOtherList, OnEachKind}

-- from a nanosecond of day 1 to one of another day
abbrev span : ℕ → ℕ → ℕ → Axis
span from day to = axis_from kind.Stamp (at_nano (midnight (pos 1)) from) (at_nano (midnight (pos day)) to)

-- the number at a place
abbrev number_at : ℕ → List ℤ → ℕ
number_at i l = pos_part (get_or l i (pos 0))

-- on kind 4, where the questions and the period compute
shown : {a : Axis} {h : Hint} → a.kind ≡ kind.Stamp → passes (tick_questions a h) ≡ true →
    period_answer (date_times a) (bold_points h) ≡ Ok None → ListsDates a h
shown k z e = record { accepted = z; as_times = times k; no_period = e }

-- N 1: from 00:00:01 of day 1 to day 3, days 2 and 3, and not day 1 alone; from day 1 to 00:00:01 of day 7, day 1 alone, and
-- not days 1 and 8; to day 3, day 1 alone, and not days 1 and 2, nor days 1 to 3, as for N 2
pub no_other_list : NoOtherList
unfolding closed nanoseconds difference nanoseconds_of is_value earlier span_of asks.has_period asks.ends asks.in_order
    asks.excludable asks.near_or_long asks.bold_hint asks.light_hint count.monthly count.yearly count.weekly count.from_day
    count.to_day dates_from date_key_points exponent_from determine_actual_ns_per_point period_from compute_period_per_point
    period_on date_time_key_points key_points light_key_points key_points_for ticks_of ticks_written period_answer
no_other_list = record {
  from_floor = λ f. let z = ap (number_at 0) (f (span 1000000000 3 0) (bold_of 1) sevens (shown refl refl refl)) in omega arith;
  to_ceil = λ f. let z = ap (number_at 2) (f (span 0 7 1000000000) (bold_of 1) sevens (shown refl refl refl)) in omega arith;
  end_left_out = λ f. let z = ap (number_at 2) (f (span 0 3 0) (bold_of 1) sevens (shown refl refl refl)) in omega arith;
  bold_count = λ f. let z = ap (number_at 2) (f (span 0 3 0) (light_of 2 1) sevens (shown refl refl refl)) in omega arith;
}

pub on_each_kind : OnEachKind
unfolding calendar.leap calendar.leap_day calendar.month_length calendar.months calendar.year_length calendar.years
    calendar.day_number calendar.next_day calendar.days_later calendar.date_of nanoseconds difference nanoseconds_of is_value
    earlier span_of asks.has_period asks.ends asks.in_order asks.excludable asks.near_or_long asks.bold_hint asks.light_hint
    count.monthly count.yearly count.weekly count.from_day count.to_day count.first_date count.date_on count.size_of
    exponent_from determine_actual_ns_per_point period_from compute_period_per_point period_on period_answer
on_each_kind =
    let one : LightPoints = record { bold = pos 1; n = pos 1 } in
    record {
      bold = shown refl refl refl;
      light = shown refl refl refl;
      months = record { accepted = refl; as_times = months one refl refl (omega arith); no_period = refl };
      years = record { accepted = refl; as_times = years one refl refl (omega arith) (omega arith); no_period = refl };
    }
