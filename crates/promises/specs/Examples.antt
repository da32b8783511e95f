-- The settled examples of document 01: what the definitions answer, as the numbers that C gets, beside what is settled.
-- Definitions only.
use Rattle.std.specs.Prelude.{◌≡◌, false, List, [], ◌∷◌, ◌++◌, ℕ, ℤ, pos, length, drop}
use Rattle.values.specs.declared.Kind.{Kind}
use Rattle.values.specs.declared.Kind.TheVariants as kind
use Rattle.values.specs.declared.Value.{Value}
use Rattle.axis.specs.declared.Axis.{Axis}
use Rattle.axis.specs.declared.Limits.{Limits}
use Rattle.calendar.specs.declared.Ymd.{Ymd}
use Rattle.calendar.specs.Questions.{number_of}
use Rattle.axis.specs.declared.Hint.{Hint}
use Rattle.axis.specs.declared.Hint.TheVariants.{Bold, Light}
use Rattle.laws.specs.Numbers.{minus}
use Rattle.values.specs.Values.{midnight}
use Rattle.ticks.specs.Answers.{ticks_answer, ticks_written, period_answer}
use Rattle.discrete.specs.Answers.{size_answer, index_answer, unmap_answer}
use Rattle.segmented.specs.declared.Segment.{Segment}
use Rattle.segmented.specs.Answers.{segment_map_answer}
use Rattle.ordered.specs.declared.OrderedNumber.{OrderedNumber}
use Rattle.ordered.specs.declared.OrderedPixel.{OrderedPixel}
use Rattle.ordered.specs.declared.OrderedPeriod.{OrderedPeriod}
use Rattle.ordered.specs.declared.OrderedValue.{OrderedValue}
use Rattle.ordered.specs.Replies.{number_reply, index_reply, period_reply, value_reply, pixel_reply}

-- ---- the numbers of an answer, its status first
abbrev pub count_numbers : OrderedNumber → List ℤ
count_numbers r = r.status ∷ (r.value ∷ [])

-- of a pixel
abbrev pub pixel_numbers : OrderedPixel → List ℤ
pixel_numbers r = r.status ∷ (r.pixel ∷ [])

-- of a pixel and how it is drawn
abbrev pub hairline_numbers : OrderedPixel → List ℤ
hairline_numbers r = r.status ∷ (r.pixel ∷ (r.exact ∷ (r.lost ∷ [])))

-- of a period
abbrev pub period_numbers : OrderedPeriod → List ℤ
period_numbers r = r.status ∷ (r.nanoseconds ∷ [])

-- of a value
abbrev pub value_numbers : OrderedValue → List ℤ
value_numbers r = r.status ∷ (r.head ∷ (r.tail ∷ []))

-- ---- what is given
abbrev pub ymd : ℕ → ℕ → ℕ → Ymd
ymd y m d = record { year = pos y; month = pos m; day = pos d }

-- a nanosecond of the day
abbrev pub at_nano : Value → ℕ → Value
at_nano v t = record { head = v.head; tail = pos t }

-- an axis of a kind between two values, which belong to it
abbrev pub axis_from : Kind → Value → Value → Axis
axis_from k s e = record { kind = k; start = s; end = e; end_excluded = false }

-- a bold hint
abbrev pub bold_of : ℕ → Hint
bold_of n = Bold (record { n = pos n })

-- a light hint
abbrev pub light_of : ℕ → ℕ → Hint
light_of b n = Light (record { bold = pos b; n = pos n })

-- two limits
abbrev pub limits_of : ℤ → ℤ → Limits
limits_of low high = record { low = low; high = high }

-- the centre of a value's segment
abbrev pub centre_at : Value → Segment
centre_at v = record { case = pos 2; head = v.head; tail = v.tail }

-- the count of ticks, and all lent numbers after the call, where d are those before it
abbrev pub listed_into : Axis → Hint → List ℤ → List ℤ
listed_into a h d = count_numbers (number_reply (ticks_answer a h (length d))) ++ ticks_written a h d

-- six lent numbers before a call
abbrev pub sevens : List ℤ
sevens = pos 7 ∷ (pos 7 ∷ (pos 7 ∷ (pos 7 ∷ (pos 7 ∷ (pos 7 ∷ [])))))

-- ---- the rows
pub record Example : Type 0 where
  pub answer : List ℤ
  pub settled : List ℤ

-- 1970-01-01: day 719,163
abbrev pub day_1970 : Example
day_1970 = record { answer = count_numbers (number_reply (number_of (ymd 1970 1 1))); settled = pos 0 ∷ (pos 719163 ∷ []) }

-- 1900-02-29: 8
abbrev pub no_leap_year : Example
no_leap_year = record { answer = count_numbers (number_reply (number_of (ymd 1900 2 29))); settled = pos 8 ∷ (pos 0 ∷ []) }

-- 2000-02-29: accepted
abbrev pub leap_year : Example
leap_year = record { answer = count_numbers (number_reply (number_of (ymd 2000 2 29))); settled = pos 0 ∷ (pos 730179 ∷ []) }

-- dates 6 days apart, N 0: start
abbrev pub six_days : Example
six_days =
    record {
      answer = listed_into (axis_from kind.Date (midnight (pos 737850)) (midnight (pos 737856))) (bold_of 0) sevens;
      settled = pos 0 ∷ (pos 1 ∷ (pos 737850 ∷ (pos 0 ∷ drop 2 sevens)));
    }

-- dates 14 days apart, N 1: start, end
abbrev pub two_weeks : Example
two_weeks =
    record {
      answer = listed_into (axis_from kind.Date (midnight (pos 737850)) (midnight (pos 737864))) (bold_of 1) sevens;
      settled = pos 0 ∷ (pos 2 ∷ (pos 737850 ∷ (pos 0 ∷ (pos 737864 ∷ (pos 0 ∷ drop 4 sevens)))));
    }

-- kind 4, from the first midnight to a nanosecond of the twelfth day
abbrev pub span_from : ℕ → Axis
span_from t = axis_from kind.Stamp (midnight (pos 1)) (at_nano (midnight (pos 12)) t)

-- span 10^15 - 1 ns, N 100, kind 4: period 5 h
abbrev pub below_the_power : Example
below_the_power =
    record {
      answer = period_numbers
          (period_reply (period_answer (span_from 49599999999999) (record { n = pos 100 })));
      settled = pos 0 ∷ (pos 18000000000000 ∷ []);
    }

-- span 10^15 ns, same: 4 h
abbrev pub at_the_power : Example
at_the_power =
    record {
      answer = period_numbers
          (period_reply (period_answer (span_from 49600000000000) (record { n = pos 100 })));
      settled = pos 0 ∷ (pos 14400000000000 ∷ []);
    }

-- duration -1 to 4 ns, N 1: -1 ns
abbrev pub negative_start : Example
negative_start =
    record {
      answer = listed_into (axis_from kind.Span (record { head = minus 1; tail = pos 999999999 }) (record {
        head = pos 0;
        tail =
            pos 4;
      })) (bold_of 1) sevens;
      settled = pos 0 ∷ (pos 1 ∷ (minus 1 ∷ (pos 999999999 ∷ drop 2 sevens)));
    }

-- 2021-03-01 to 03-10, limits 0, 100, pixel 100: 2021-03-11
abbrev pub high_limit : Example
high_limit =
    record {
      answer = value_numbers (value_reply (unmap_answer (axis_from kind.Date (midnight (pos 737850)) (midnight (pos 737859)))
          (limits_of (pos 0) (pos 100)) (pos 100)));
      settled = pos 0 ∷ (pos 737860 ∷ (pos 0 ∷ []));
    }

-- kind 2 from 2020-01-01, index of 2019-12-31: 11
abbrev pub earlier_year : Example
earlier_year =
    record {
      answer = count_numbers (index_reply (index_answer (axis_from kind.Month (midnight (pos 737425)) (midnight (pos 737790)))
          (midnight (pos 737424))));
      settled = pos 0 ∷ (pos 11 ∷ []);
    }

-- kind 5, 2021-12-31 10:00 to 12:00: size 12, no bold ticks
abbrev pub new_year : Axis
new_year =
    let day = midnight (pos 738155) in
    axis_from kind.StampMonth (at_nano day 36000000000000) (at_nano day 43200000000000)

-- its size is 12, and it has no bold ticks
abbrev pub no_whole_month : Example
no_whole_month =
    record {
      answer = count_numbers (number_reply (size_answer new_year)) ++ listed_into new_year (bold_of 10) sevens;
      settled = pos 0 ∷ (pos 12 ∷ (pos 0 ∷ (pos 0 ∷ sevens)));
    }

-- dates 2021-03-01 to 03-03, limits 0, 100, centre of the first: 16
abbrev pub first_centre : Example
first_centre =
    record {
      answer = pixel_numbers (pixel_reply (segment_map_answer
          (axis_from kind.Date (midnight (pos 737850)) (midnight (pos 737852))) (limits_of (pos 0) (pos 100))
          (centre_at (midnight (pos 737850)))));
      settled = pos 0 ∷ (pos 16 ∷ []);
    }

-- ---- the days of the rows, by the calendar
abbrev pub is_day_law : ℕ → ℕ → ℕ → ℕ → Example
is_day_law y m d n = record { answer = count_numbers (number_reply (number_of (ymd y m d))); settled = pos 0 ∷ (pos n ∷ []) }

-- the published days
abbrev pub published_days : List Example
published_days =
    is_day_law 2021 3 1 737850
    ∷ (is_day_law 2021 3 7 737856
    ∷ (is_day_law 2021 3 15 737864
    ∷ (is_day_law 2021 3 10 737859
    ∷ (is_day_law 2021 3 11 737860
    ∷ (is_day_law 2019 12 31 737424
    ∷ (is_day_law 2020 1 1 737425
    ∷ (is_day_law 2020 12 31 737790
    ∷ (is_day_law 2021 12 31 738155
    ∷ (is_day_law 2021 3 3 737852
    ∷ [])))))))))

-- ---- the settled_table, and what is claimed of it: every row answers what is settled
abbrev pub settled_table : List Example
settled_table =
    day_1970
    ∷ (no_leap_year
    ∷ (leap_year
    ∷ (six_days
    ∷ (two_weeks
    ∷ (below_the_power
    ∷ (at_the_power
    ∷ (negative_start
    ∷ (high_limit
    ∷ (earlier_year
    ∷ (no_whole_month
    ∷ (first_centre
    ∷ [])))))))))))

-- a row holds
abbrev pub Holds : Example → Type 0
Holds e = e.answer ≡ e.settled

-- all rows hold
abbrev pub AllHold : List Example → Type 0
AllHold [] = Unit {0}
AllHold (e ∷ es) = Holds e × AllHold es
