-- For each exported operation two wrong answers to one request, and for some of them two of weeks, of an excluded end, of
-- hairlines and of house rules. An export's statement says that it answers what its definition does, so an answer that the
-- definition does not give is ruled out. Definitions only.
use Rattle.std.specs.Prelude.{◌≡◌, List, [], ◌∷◌, ◌++◌, ℕ, ℤ, pos, length}
use Rattle.values.specs.declared.Kind.TheVariants as kind
use Rattle.axis.specs.declared.Axis.{Axis}
use Rattle.calendar.specs.Questions.{number_of, date_at}
use Rattle.mapping.specs.Mapping.{mapped}
use Rattle.axis.specs.declared.Hint.{Hint}
use Rattle.laws.specs.Numbers.{minus}
use Rattle.values.specs.Values.{midnight}
use Rattle.ticks.specs.Answers.{ticks_answer, period_answer}
use Rattle.discrete.specs.Answers.{size_answer, index_answer, from_index_answer, next_answer, previous_answer}
use Rattle.discrete.specs.Answers.{values_answer, unmap_answer}
use Rattle.segmented.specs.Answers.{segment_map_answer, segment_ticks_answer, segment_ticks_written, segment_size_answer}
use Rattle.segmented.specs.Answers.{segment_index_answer, segment_from_answer}
use Rattle.ordered.specs.declared.OrderedDate.{OrderedDate}
use Rattle.ordered.specs.declared.OrderedStep.{OrderedStep}
use Rattle.ordered.specs.declared.OrderedSegment.{OrderedSegment}
use Rattle.ordered.specs.Replies.{number_reply, index_reply, period_reply, date_reply, pixel_reply}
use Rattle.ordered.specs.Replies.{value_reply, value_if_reply, step_reply, segment_reply}
use Rattle.promises.specs.Examples.{count_numbers, pixel_numbers, period_numbers, value_numbers, ymd, at_nano}
use Rattle.promises.specs.Examples.{axis_from, bold_of, light_of, limits_of, centre_at, listed_into, sevens}
use Rattle.promises.specs.ExcludedEnds.{before, segment_pixel}
use Rattle.promises.specs.Hairlines as hairlines
use Rattle.promises.specs.Hairlines.{four_of}
use Rattle.promises.specs.RulesExamples as rules
use Rattle.promises.specs.Weeks.{day_of_week_date, week_date_of_day, week_numbers}

-- the numbers of a date
abbrev pub date_numbers : OrderedDate → List ℤ
date_numbers r = r.status ∷ (r.year ∷ (r.month ∷ (r.day ∷ [])))

-- of a step of the cursor
abbrev pub step_numbers : OrderedStep → List ℤ
step_numbers r = r.status ∷ (r.head ∷ (r.tail ∷ (r.next ∷ [])))

-- of a segment value
abbrev pub segment_numbers : OrderedSegment → List ℤ
segment_numbers r = r.status ∷ (r.segment ∷ (r.head ∷ (r.tail ∷ [])))

-- a list of segments in six lent numbers
abbrev pub segments_into : Axis → Hint → List ℤ
segments_into a h = count_numbers (number_reply (segment_ticks_answer a h (length sevens))) ++ segment_ticks_written a h sevens

-- ---- the rows
pub record Row : Type 0 where
  pub answer : List ℤ
  pub wrong : List ℤ
  pub other : List ℤ

-- ordered_day_number, 2000-02-29: refused as if 2000 were no leap year; one day less
abbrev pub ordered_day_number : Row
ordered_day_number = record {
  answer = count_numbers (number_reply (number_of (ymd 2000 2 29)));
  wrong = pos 8 ∷ (pos 0 ∷ []);
  other =
      pos 0 ∷ (pos 730178 ∷ []);
}

-- ordered_date_of, day 60, which is 0001-03-01: 0001-02-29; month and day exchanged
abbrev pub ordered_date_of : Row
ordered_date_of =
    record {
      answer = date_numbers (date_reply (date_at (pos 60)));
      wrong = pos 0 ∷ (pos 1 ∷ (pos 2 ∷ (pos 29 ∷ [])));
      other = pos 0 ∷ (pos 1 ∷ (pos 1 ∷ (pos 3 ∷ [])));
    }

-- ordered_week_day_number, week 53 of the year 1, which has 52: its Monday as if every year had 53; 10
abbrev pub ordered_week_day_number : Row
ordered_week_day_number =
    record {
      answer = count_numbers (day_of_week_date (pos 1) (pos 53) (pos 1));
      wrong = pos 0 ∷ (pos 365 ∷ []);
      other = pos 10 ∷ (pos 0 ∷ []);
    }

-- ordered_week_date_of, day 7, the Sunday of 0001-W01: the first day of W02, as if weeks began on Sunday; the next week's
abbrev pub ordered_week_date_of : Row
ordered_week_date_of =
    record {
      answer = week_numbers (week_date_of_day (pos 7));
      wrong = pos 0 ∷ (pos 1 ∷ (pos 2 ∷ (pos 1 ∷ [])));
      other = pos 0 ∷ (pos 1 ∷ (pos 2 ∷ (pos 7 ∷ [])));
    }

-- ordered_map, days 1 to 3 between 0 and 100, day 2: one pixel less; the low limit
abbrev pub ordered_map : Row
ordered_map =
    record {
      answer = pixel_numbers
          (pixel_reply (mapped (axis_from kind.Date (midnight (pos 1)) (midnight (pos 3))) (limits_of (pos 0) (pos 100))
          (midnight (pos 2))));
      wrong = pos 0 ∷ (pos 49 ∷ []);
      other = pos 0 ∷ (pos 0 ∷ []);
    }

-- ordered_ticks_bold, days 1 to 15, N 1: start as the only tick; success reported and the lent numbers left
abbrev pub ordered_ticks_bold : Row
ordered_ticks_bold =
    record {
      answer = listed_into (axis_from kind.Date (midnight (pos 1)) (midnight (pos 15))) (bold_of 1) sevens;
      wrong = pos 0 ∷ (pos 1 ∷ (pos 1 ∷ (pos 0 ∷ (pos 7 ∷ (pos 7 ∷ (pos 7 ∷ (pos 7 ∷ [])))))));
      other = pos 0 ∷ (pos 2 ∷ sevens);
    }

-- ordered_ticks_light, months of days 1 to 60 by (2, 2): the months, though three are at most twice two; refused
abbrev pub ordered_ticks_light : Row
ordered_ticks_light =
    record {
      answer = listed_into (axis_from kind.Month (midnight (pos 1)) (midnight (pos 60))) (light_of 2 2) sevens;
      wrong = pos 0 ∷ (pos 3 ∷ (pos 1 ∷ (pos 0 ∷ (pos 32 ∷ (pos 0 ∷ (pos 60 ∷ (pos 0 ∷ [])))))));
      other = pos 6 ∷ (pos 0 ∷ sevens);
    }

-- ordered_count_bold, days 1 to 15, N 1, two numbers lent: a count that no list backs; another one
abbrev pub ordered_count_bold : Row
ordered_count_bold =
    record {
      answer =
          count_numbers (number_reply (ticks_answer (axis_from kind.Date (midnight (pos 1)) (midnight (pos 15))) (bold_of 1) 2));
      wrong = pos 0 ∷ (pos 2 ∷ []);
      other = pos 0 ∷ (pos 1 ∷ []);
    }

-- ordered_count_light, the same days by (0, 1), four numbers lent: 11 before the list's length is known; one tick more
abbrev pub ordered_count_light : Row
ordered_count_light =
    record {
      answer =
          count_numbers (number_reply (ticks_answer (axis_from kind.Date (midnight (pos 1)) (midnight (pos 15)))
          (light_of 0 1) 4));
      wrong = pos 11 ∷ (pos 0 ∷ []);
      other = pos 0 ∷ (pos 3 ∷ []);
    }

-- ordered_period_per_point, 10^15 - 1 ns, N 100: 4 h, as a rounded logarithm says; none
abbrev pub ordered_period_per_point : Row
ordered_period_per_point =
    record {
      answer = period_numbers
          (period_reply (period_answer (axis_from kind.Stamp (midnight (pos 1)) (at_nano (midnight (pos 12)) 49599999999999))
          (record { n = pos 100 })));
      wrong = pos 0 ∷ (pos 14400000000000 ∷ []);
      other = minus 1 ∷ (pos 0 ∷ []);
    }

-- ordered_unmap, days 1 to 10 between 0 and 100, pixel 100: the last day; refused
abbrev pub ordered_unmap : Row
ordered_unmap =
    record {
      answer = value_numbers (value_reply (unmap_answer (axis_from kind.Date (midnight (pos 1)) (midnight (pos 10)))
          (limits_of (pos 0) (pos 100)) (pos 100)));
      wrong = pos 0 ∷ (pos 10 ∷ (pos 0 ∷ []));
      other = pos 10 ∷ (pos 0 ∷ (pos 0 ∷ []));
    }

-- ordered_size, days 1 to 10: without the last day; one more
abbrev pub ordered_size : Row
ordered_size = record {
  answer = count_numbers (number_reply (size_answer (axis_from kind.Date (midnight (pos 1)) (midnight (pos 10)))));
  wrong =
      pos 0 ∷ (pos 9 ∷ []);
  other = pos 0 ∷ (pos 11 ∷ []);
}

-- ordered_index_of, months from 0002-01-01 on, 0001-12-31: none; the first
abbrev pub ordered_index_of : Row
ordered_index_of =
    record {
      answer = count_numbers (index_reply (index_answer (axis_from kind.Month (midnight (pos 366)) (midnight (pos 730)))
          (midnight (pos 365))));
      wrong = minus 1 ∷ (pos 0 ∷ []);
      other = pos 0 ∷ (pos 0 ∷ []);
    }

-- ordered_from_index, days 1 to 2, index 3,652,059: the day 3,652,060; refused as an index
abbrev pub ordered_from_index : Row
ordered_from_index =
    record {
      answer =
          value_numbers (value_reply (from_index_answer (axis_from kind.Date (midnight (pos 1)) (midnight (pos 2)))
          (pos 3652059)));
      wrong = pos 0 ∷ (pos 3652060 ∷ (pos 0 ∷ []));
      other = pos 8 ∷ (pos 0 ∷ (pos 0 ∷ []));
    }

-- ordered_next, months of days 1 to 32, day 2: a month on from it; none
abbrev pub ordered_next : Row
ordered_next =
    record {
      answer = value_numbers (value_if_reply (next_answer (axis_from kind.Month (midnight (pos 1)) (midnight (pos 32)))
          (midnight (pos 2))));
      wrong = pos 0 ∷ (pos 33 ∷ (pos 0 ∷ []));
      other = minus 1 ∷ (pos 0 ∷ (pos 0 ∷ []));
    }

-- ordered_previous, months of days 1 to 32, day 32: the day before; none
abbrev pub ordered_previous : Row
ordered_previous =
    record {
      answer = value_numbers (value_if_reply (previous_answer (axis_from kind.Month (midnight (pos 1)) (midnight (pos 32)))
          (midnight (pos 32))));
      wrong = pos 0 ∷ (pos 31 ∷ (pos 0 ∷ []));
      other = minus 1 ∷ (pos 0 ∷ (pos 0 ∷ []));
    }

-- ordered_values, days 5 to 6, place 1: the first value again; a cursor that stays
abbrev pub ordered_values : Row
ordered_values =
    record {
      answer = step_numbers (step_reply (values_answer (axis_from kind.Date (midnight (pos 5)) (midnight (pos 6)))
          (record { place = pos 1 })));
      wrong = pos 0 ∷ (pos 5 ∷ (pos 0 ∷ (pos 2 ∷ [])));
      other = pos 0 ∷ (pos 6 ∷ (pos 0 ∷ (pos 1 ∷ [])));
    }

-- ordered_segment_map, days 1 to 3 between 0 and 100, centre of the first: 33 / 2 rounded up; the middle of the limits
abbrev pub ordered_segment_map : Row
ordered_segment_map =
    record {
      answer = pixel_numbers (pixel_reply (segment_map_answer (axis_from kind.Date (midnight (pos 1)) (midnight (pos 3)))
          (limits_of (pos 0) (pos 100)) (centre_at (midnight (pos 1)))));
      wrong = pos 0 ∷ (pos 17 ∷ []);
      other = pos 0 ∷ (pos 50 ∷ []);
    }

-- ordered_segment_ticks_bold, date-times: listed; refused by another number
abbrev pub ordered_segment_ticks_bold : Row
ordered_segment_ticks_bold =
    record {
      answer = segments_into (axis_from kind.Stamp (midnight (pos 1)) (midnight (pos 2))) (bold_of 1);
      wrong = pos 0 ∷ (pos 1 ∷ (pos 1 ∷ (pos 0 ∷ (pos 7 ∷ (pos 7 ∷ (pos 7 ∷ (pos 7 ∷ [])))))));
      other = pos 1 ∷ (pos 0 ∷ sevens);
    }

-- ordered_segment_ticks_light, days 1 to 15 by (0, 1): refused; the end left out
abbrev pub ordered_segment_ticks_light : Row
ordered_segment_ticks_light =
    record {
      answer = segments_into (axis_from kind.Date (midnight (pos 1)) (midnight (pos 15))) (light_of 0 1);
      wrong = pos 2 ∷ (pos 0 ∷ sevens);
      other = pos 0 ∷ (pos 1 ∷ (pos 1 ∷ (pos 0 ∷ (pos 7 ∷ (pos 7 ∷ (pos 7 ∷ (pos 7 ∷ [])))))));
    }

-- ordered_segment_size, days 5 to 6: without the last end; one more
abbrev pub ordered_segment_size : Row
ordered_segment_size =
    record {
      answer = count_numbers (number_reply (segment_size_answer (axis_from kind.Date (midnight (pos 5)) (midnight (pos 6)))));
      wrong = pos 0 ∷ (pos 2 ∷ []);
      other = pos 0 ∷ (pos 4 ∷ []);
    }

-- ordered_segment_index_of, days 5 to 6, the last end: none; the last day's
abbrev pub ordered_segment_index_of : Row
ordered_segment_index_of =
    record {
      answer =
          count_numbers (index_reply (segment_index_answer (axis_from kind.Date (midnight (pos 5)) (midnight (pos 6))) (record {
            case = pos 3;
            head =
                pos 0;
            tail = pos 0;
          })));
      wrong = minus 1 ∷ (pos 0 ∷ []);
      other = pos 0 ∷ (pos 1 ∷ []);
    }

-- ordered_segment_from_index, days 5 to 6, index 2: the day after the last; none
abbrev pub ordered_segment_from_index : Row
ordered_segment_from_index =
    record {
      answer =
          segment_numbers (segment_reply (segment_from_answer (axis_from kind.Date (midnight (pos 5)) (midnight (pos 6)))
          (pos 2)));
      wrong = pos 0 ∷ (pos 1 ∷ (pos 7 ∷ (pos 0 ∷ [])));
      other = minus 1 ∷ (pos 0 ∷ (pos 0 ∷ (pos 0 ∷ [])));
    }

-- ---- of weeks
-- an axis of weeks between two days
abbrev pub weeks_from : ℕ → ℕ → Axis
weeks_from s e = axis_from kind.Week (midnight (pos s)) (midnight (pos e))

-- ordered_ticks_bold, days 1 to 15, N 2, three Mondays: every second one, though all three are not too many; Sundays
abbrev pub ticks_of_weeks : Row
ticks_of_weeks =
    record {
      answer = listed_into (weeks_from 1 15) (bold_of 2) sevens;
      wrong = pos 0 ∷ (pos 2 ∷ (pos 1 ∷ (pos 0 ∷ (pos 15 ∷ (pos 0 ∷ (pos 7 ∷ (pos 7 ∷ [])))))));
      other = pos 0 ∷ (pos 2 ∷ (pos 7 ∷ (pos 0 ∷ (pos 14 ∷ (pos 0 ∷ (pos 7 ∷ (pos 7 ∷ [])))))));
    }

-- ordered_index_of, days 10 to 20, day 7, the Sunday before the start's Monday: 0, as of the start's week; refused as a value
abbrev pub index_of_weeks : Row
index_of_weeks =
    record {
      answer = count_numbers (index_reply (index_answer (weeks_from 10 20) (midnight (pos 7))));
      wrong = pos 0 ∷ (pos 0 ∷ []);
      other = pos 8 ∷ (pos 0 ∷ []);
    }

-- ordered_from_index, days 10 to 20, index 0: the Monday of the start's week; the first Monday from the start on
abbrev pub value_of_weeks : Row
value_of_weeks =
    record {
      answer = value_numbers (value_reply (from_index_answer (weeks_from 10 20) (pos 0)));
      wrong = pos 0 ∷ (pos 8 ∷ (pos 0 ∷ []));
      other = pos 0 ∷ (pos 15 ∷ (pos 0 ∷ []));
    }

-- ---- of an excluded end
-- ordered_size, days 1 to 4, day 4 excluded: the end still counted; refused, as if no date axis had an excluded end
abbrev pub size_excluded : Row
size_excluded =
    record {
      answer = count_numbers (number_reply (size_answer (before kind.Date 1 4)));
      wrong = pos 0 ∷ (pos 4 ∷ []);
      other = pos 14 ∷ (pos 0 ∷ []);
    }

-- ordered_map, days 1 to 3, day 3 excluded, between 0 and 100, day 2: at the high limit, as if measured to the day before; 9
abbrev pub map_excluded : Row
map_excluded =
    record {
      answer = pixel_numbers (pixel_reply (mapped (before kind.Date 1 3) (limits_of (pos 0) (pos 100)) (midnight (pos 2))));
      wrong = pos 0 ∷ (pos 100 ∷ []);
      other = pos 9 ∷ (pos 0 ∷ []);
    }

-- ordered_ticks_bold, days 1 to 3, day 3 excluded, N 10: a tick on the excluded end; the start alone
abbrev pub ticks_excluded : Row
ticks_excluded =
    record {
      answer = listed_into (before kind.Date 1 3) (bold_of 10) sevens;
      wrong = pos 0 ∷ (pos 3 ∷ (pos 1 ∷ (pos 0 ∷ (pos 2 ∷ (pos 0 ∷ (pos 3 ∷ (pos 0 ∷ [])))))));
      other = pos 0 ∷ (pos 1 ∷ (pos 1 ∷ (pos 0 ∷ (pos 7 ∷ (pos 7 ∷ (pos 7 ∷ (pos 7 ∷ [])))))));
    }

-- ordered_period_per_point, kind 4, midnights of days 1 to 2, the end excluded, N 10: the period; none
abbrev pub period_excluded : Row
period_excluded =
    record {
      answer = period_numbers (period_reply (period_answer (before kind.Stamp 1 2) (record { n = pos 10 })));
      wrong = pos 0 ∷ (pos 18000000000000 ∷ []);
      other = minus 1 ∷ (pos 0 ∷ []);
    }

-- ordered_size, kind 5 from day 6 to day 5, the end excluded: 14 before 4; answered
abbrev pub order_excluded : Row
order_excluded =
    record {
      answer = count_numbers (number_reply (size_answer (before kind.StampMonth 6 5)));
      wrong = pos 14 ∷ (pos 0 ∷ []);
      other = pos 0 ∷ (pos 0 ∷ []);
    }

-- ordered_segment_map, days 1 to 4, day 4 excluded, between 0 and 90, day 2: by the size with the end; to the day before
abbrev pub segment_excluded : Row
segment_excluded =
    record {
      answer = segment_pixel 1 2;
      wrong = pos 0 ∷ (pos 22 ∷ []);
      other = pos 0 ∷ (pos 30 ∷ []);
    }

-- ---- of hairlines: pixel, exact and lost
-- ordered_map, an offset of -2^63 ns: not exact, as if its size had wrapped; something lost
abbrev pub drawn_least_offset : Row
drawn_least_offset =
    record {
      answer = (hairlines.least_offset).answer;
      wrong = four_of (minus 2) (pos 0) (pos 0);
      other = four_of (minus 2) (pos 1) (pos 1);
    }

-- ordered_map, day 1808 of days 1 to 1808 between 0 and 3781: exact, since the position is whole; that position
abbrev pub drawn_one_short : Row
drawn_one_short =
    record {
      answer = (hairlines.one_short).answer;
      wrong = four_of (pos 3780) (pos 1) (pos 0);
      other = four_of (pos 3781) (pos 1) (pos 0);
    }

-- ordered_segment_map, day 10 to day 10 between 0 and 7, its centre: exact, since start equals end; 7 / 2 rounded up
abbrev pub drawn_centre : Row
drawn_centre =
    record {
      answer = (hairlines.halved_centre).answer;
      wrong = four_of (pos 3) (pos 1) (pos 0);
      other = four_of (pos 4) (pos 0) (pos 0);
    }

-- ordered_map, 0 whole days of span and W 0: exact, as 0 times anything; 9, as if start were the end
abbrev pub drawn_zero_days : Row
drawn_zero_days =
    record {
      answer = (hairlines.zero_days).answer;
      wrong = four_of (pos 0) (pos 1) (pos 0);
      other = pos 9 ∷ (pos 0 ∷ (pos 0 ∷ (pos 0 ∷ [])));
    }

-- ordered_map, an offset of 2^53 + 1 ns between 0 and 1: nothing lost; exact
abbrev pub drawn_lost : Row
drawn_lost =
    record {
      answer = (hairlines.some_lost).answer;
      wrong = four_of (pos 104) (pos 0) (pos 0);
      other = four_of (pos 104) (pos 1) (pos 1);
    }

-- between 0 and 0: nothing lost, as if only a wrong pixel told it; not exact, as if what lost something could not be
abbrev pub drawn_lost_exact : Row
drawn_lost_exact =
    record {
      answer = (hairlines.lost_exact).answer;
      wrong = four_of (pos 0) (pos 1) (pos 0);
      other = four_of (pos 0) (pos 0) (pos 1);
    }

-- ---- of house rules
-- ordered_rules, names alone: 12, as if such a table did not read; accepted without a row
abbrev pub ordered_rules : Row
ordered_rules = record { answer = (rules.names_alone).answer; wrong = pos 12 ∷ (pos 0 ∷ []); other = pos 0 ∷ (pos 0 ∷ []) }

-- a row for all lengths twice: accepted, as if the first were taken; 15
abbrev pub rules_row_twice : Row
rules_row_twice =
    record { answer = (rules.row_twice).answer; wrong = pos 0 ∷ (pos 2 ∷ []); other = pos 15 ∷ (pos 0 ∷ []) }

-- ordered_ticks_ruled, every second of days 1 to 5: the end left out; a tick too few counted
abbrev pub ordered_ticks_ruled : Row
ordered_ticks_ruled =
    record {
      answer = (rules.second_days).answer;
      wrong = pos 0 ∷ (pos 2 ∷ (pos 1 ∷ (pos 0 ∷ (pos 3 ∷ (pos 0 ∷ (pos 7 ∷ (pos 7 ∷ [])))))));
      other = pos 0 ∷ (pos 2 ∷ (pos 1 ∷ (pos 0 ∷ (pos 3 ∷ (pos 0 ∷ (pos 5 ∷ (pos 0 ∷ [])))))));
    }

-- days 1 to 4, day 4 excluded, of which each gets a tick: every second, by the row for the days to the end; no room, as if the
-- end were listed
abbrev pub ticks_ruled_excluded : Row
ticks_ruled_excluded =
    record {
      answer = (rules.row_before_end).answer;
      wrong = pos 0 ∷ (pos 2 ∷ (pos 1 ∷ (pos 0 ∷ (pos 3 ∷ (pos 0 ∷ (pos 7 ∷ (pos 7 ∷ [])))))));
      other = pos 11 ∷ (pos 0 ∷ sevens);
    }

-- ordered_count_ruled, every second January 1 from 0001-01-02 to 0004-01-01: counted from that of 0001 on, so of 0003 alone;
-- each of them
abbrev pub ordered_count_ruled : Row
ordered_count_ruled =
    record { answer = (rules.second_januaries).answer; wrong = pos 0 ∷ (pos 1 ∷ []); other = pos 0 ∷ (pos 3 ∷ []) }

-- kind 4, midnights of days 1 to 5: counted as of the dates; refused by another number
abbrev pub count_ruled_date_times : Row
count_ruled_date_times =
    record { answer = (rules.date_times).answer; wrong = pos 0 ∷ (pos 3 ∷ []); other = pos 1 ∷ (pos 0 ∷ []) }

-- ---- the wrong_table, and what is claimed of it: no row answers a wrong answer
-- rows that are computed
abbrev pub computed_rows : List Row
computed_rows =
    ordered_day_number
    ∷ (ordered_date_of
    ∷ (ordered_week_day_number
    ∷ (ordered_week_date_of
    ∷ (ordered_map
    ∷ (ordered_ticks_bold
    ∷ (ordered_ticks_light
    ∷ (ordered_count_bold
    ∷ (ordered_count_light
    ∷ (ordered_period_per_point
    ∷ (ordered_unmap
    ∷ (ordered_size
    ∷ (ordered_index_of
    ∷ (ordered_from_index
    ∷ (ordered_next
    ∷ (ordered_previous
    ∷ (ordered_values
    ∷ (ordered_segment_map
    ∷ (ordered_segment_ticks_bold
    ∷ (ordered_segment_ticks_light
    ∷ (ordered_segment_size
    ∷ (ordered_segment_index_of
    ∷ (ordered_segment_from_index
    ∷ (ticks_of_weeks
    ∷ (index_of_weeks
    ∷ (value_of_weeks
    ∷ (size_excluded
    ∷ (map_excluded
    ∷ (ticks_excluded
    ∷ (period_excluded
    ∷ (order_excluded
    ∷ (segment_excluded
    ∷ (drawn_least_offset
    ∷ (drawn_one_short
    ∷ (drawn_centre
    ∷ (drawn_zero_days
    ∷ (drawn_lost
    ∷ (drawn_lost_exact
    ∷ [])))))))))))))))))))))))))))))))))))))

-- and those of tables, whose verdicts are about too many lengths to be computed
abbrev pub ruled_rows : List Row
ruled_rows =
    ordered_rules
    ∷ (rules_row_twice
    ∷ (ordered_ticks_ruled
    ∷ (ticks_ruled_excluded
    ∷ (ordered_count_ruled
    ∷ (count_ruled_date_times
    ∷ [])))))

abbrev pub wrong_table : List Row
wrong_table = computed_rows ++ ruled_rows

-- the answer is neither of the two
abbrev pub RuledOut : Row → Type 0
RuledOut r = (r.answer ≡ r.wrong → ⊥) × (r.answer ≡ r.other → ⊥)

-- so in all rows
abbrev pub AllRuledOut : List Row → Type 0
AllRuledOut [] = Unit {0}
AllRuledOut (r ∷ rs) = RuledOut r × AllRuledOut rs
