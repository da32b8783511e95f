-- House rules: small tables as bytes, what the definitions answer of them, as the numbers that C gets, and what is settled.
-- Definitions only.
use Rattle.std.specs.Prelude.{List, [], ◌∷◌, ◌++◌, ℕ, ℤ, pos, length}
use Rattle.values.specs.declared.Kind.{Kind}
use Rattle.values.specs.declared.Kind.TheVariants as kind
use Rattle.values.specs.Values.{midnight}
use Rattle.axis.specs.declared.Axis.{Axis}
use Rattle.axis.specs.Axes.{axis_of}
use Rattle.rules.specs.Table.{rules_answer}
use Rattle.ruled.specs.Answers.{ruled_answer, ruled_written}
use Rattle.ordered.specs.Replies.{number_reply}
use Rattle.promises.specs.Examples.{Example, count_numbers, axis_from, sevens}
use Rattle.promises.specs.ExcludedEnds.{before}

-- ---- lines, each with its LF
-- from to unit step
abbrev pub names_line : List ℕ
names_line =
    102 ∷ 114 ∷ 111 ∷ 109 ∷ 32 ∷ 116 ∷ 111 ∷ 32 ∷ 117 ∷ 110 ∷ 105 ∷ 116 ∷ 32 ∷ 115 ∷ 116 ∷ 101
    ∷ 112 ∷ 10 ∷ []

-- 0 3652058 day 7
abbrev pub all_weekly : List ℕ
all_weekly = 48 ∷ 32 ∷ 51 ∷ 54 ∷ 53 ∷ 50 ∷ 48 ∷ 53 ∷ 56 ∷ 32 ∷ 100 ∷ 97 ∷ 121 ∷ 32 ∷ 55 ∷ 10 ∷ []

-- 1 3652058 day 7
abbrev pub from_one : List ℕ
from_one = 49 ∷ 32 ∷ 51 ∷ 54 ∷ 53 ∷ 50 ∷ 48 ∷ 53 ∷ 56 ∷ 32 ∷ 100 ∷ 97 ∷ 121 ∷ 32 ∷ 55 ∷ 10 ∷ []

-- 0 3652057 day 7
abbrev pub to_less : List ℕ
to_less = 48 ∷ 32 ∷ 51 ∷ 54 ∷ 53 ∷ 50 ∷ 48 ∷ 53 ∷ 55 ∷ 32 ∷ 100 ∷ 97 ∷ 121 ∷ 32 ∷ 55 ∷ 10 ∷ []

-- 0 3652058 day 2
abbrev pub all_second_days : List ℕ
all_second_days =
    48 ∷ 32 ∷ 51 ∷ 54 ∷ 53 ∷ 50 ∷ 48 ∷ 53 ∷ 56 ∷ 32 ∷ 100 ∷ 97 ∷ 121 ∷ 32 ∷ 50 ∷ 10 ∷ []

-- 0 3652058 year 2
abbrev pub all_second_years : List ℕ
all_second_years =
    48 ∷ 32 ∷ 51 ∷ 54 ∷ 53 ∷ 50 ∷ 48 ∷ 53 ∷ 56 ∷ 32 ∷ 121 ∷ 101 ∷ 97 ∷ 114 ∷ 32 ∷ 50 ∷ 10
    ∷ []

-- 0 2 day 1
abbrev pub short_daily : List ℕ
short_daily = 48 ∷ 32 ∷ 50 ∷ 32 ∷ 100 ∷ 97 ∷ 121 ∷ 32 ∷ 49 ∷ 10 ∷ []

-- 3 3652058 day 2
abbrev pub long_second_days : List ℕ
long_second_days =
    51 ∷ 32 ∷ 51 ∷ 54 ∷ 53 ∷ 50 ∷ 48 ∷ 53 ∷ 56 ∷ 32 ∷ 100 ∷ 97 ∷ 121 ∷ 32 ∷ 50 ∷ 10 ∷ []

-- ---- lines that do not read as rows
-- 0 3652058 day 7, without its LF
abbrev pub no_feed : List ℕ
no_feed = 48 ∷ 32 ∷ 51 ∷ 54 ∷ 53 ∷ 50 ∷ 48 ∷ 53 ∷ 56 ∷ 32 ∷ 100 ∷ 97 ∷ 121 ∷ 32 ∷ 55 ∷ []

-- 0 3652058  day 7, with two spaces
abbrev pub two_spaces : List ℕ
two_spaces = 48 ∷ 32 ∷ 51 ∷ 54 ∷ 53 ∷ 50 ∷ 48 ∷ 53 ∷ 56 ∷ 32 ∷ 32 ∷ 100 ∷ 97 ∷ 121 ∷ 32 ∷ 55 ∷ 10 ∷ []

-- 0 3652058 day, without a step
abbrev pub no_step : List ℕ
no_step = 48 ∷ 32 ∷ 51 ∷ 54 ∷ 53 ∷ 50 ∷ 48 ∷ 53 ∷ 56 ∷ 32 ∷ 100 ∷ 97 ∷ 121 ∷ 10 ∷ []

-- 0 3652058 days 7
abbrev pub other_unit : List ℕ
other_unit = 48 ∷ 32 ∷ 51 ∷ 54 ∷ 53 ∷ 50 ∷ 48 ∷ 53 ∷ 56 ∷ 32 ∷ 100 ∷ 97 ∷ 121 ∷ 115 ∷ 32 ∷ 55 ∷ 10 ∷ []

-- 0 3652058 day +7
abbrev pub plus_sign : List ℕ
plus_sign = 48 ∷ 32 ∷ 51 ∷ 54 ∷ 53 ∷ 50 ∷ 48 ∷ 53 ∷ 56 ∷ 32 ∷ 100 ∷ 97 ∷ 121 ∷ 32 ∷ 43 ∷ 55 ∷ 10 ∷ []

-- -1 3652058 day 7
abbrev pub from_below : List ℕ
from_below = 45 ∷ 49 ∷ 32 ∷ 51 ∷ 54 ∷ 53 ∷ 50 ∷ 48 ∷ 53 ∷ 56 ∷ 32 ∷ 100 ∷ 97 ∷ 121 ∷ 32 ∷ 55 ∷ 10 ∷ []

-- 0 3652059 day 7
abbrev pub to_above : List ℕ
to_above = 48 ∷ 32 ∷ 51 ∷ 54 ∷ 53 ∷ 50 ∷ 48 ∷ 53 ∷ 57 ∷ 32 ∷ 100 ∷ 97 ∷ 121 ∷ 32 ∷ 55 ∷ 10 ∷ []

-- 2 1 day 7
abbrev pub from_above_to : List ℕ
from_above_to = 50 ∷ 32 ∷ 49 ∷ 32 ∷ 100 ∷ 97 ∷ 121 ∷ 32 ∷ 55 ∷ 10 ∷ []

-- 0 3652058 day 0
abbrev pub step_none : List ℕ
step_none = 48 ∷ 32 ∷ 51 ∷ 54 ∷ 53 ∷ 50 ∷ 48 ∷ 53 ∷ 56 ∷ 32 ∷ 100 ∷ 97 ∷ 121 ∷ 32 ∷ 48 ∷ 10 ∷ []

-- 0 3652058 day 1001
abbrev pub step_above : List ℕ
step_above = 48 ∷ 32 ∷ 51 ∷ 54 ∷ 53 ∷ 50 ∷ 48 ∷ 53 ∷ 56 ∷ 32 ∷ 100 ∷ 97 ∷ 121 ∷ 32 ∷ 49 ∷ 48 ∷ 48 ∷ 49 ∷ 10 ∷ []

-- -0 0003652058 day 1000, which does
abbrev pub long_numbers : List ℕ
long_numbers =
    45 ∷ 48 ∷ 32 ∷ 48 ∷ 48 ∷ 48 ∷ 51 ∷ 54 ∷ 53 ∷ 50 ∷ 48 ∷ 53 ∷ 56 ∷ 32 ∷ 100 ∷ 97
    ∷ 121 ∷ 32 ∷ 49 ∷ 48 ∷ 48 ∷ 48 ∷ 10 ∷ []

-- rom to unit step
abbrev pub other_names : List ℕ
other_names = 114 ∷ 111 ∷ 109 ∷ 32 ∷ 116 ∷ 111 ∷ 32 ∷ 117 ∷ 110 ∷ 105 ∷ 116 ∷ 32 ∷ 115 ∷ 116 ∷ 101 ∷ 112 ∷ 10 ∷ []

-- ---- what is asked
-- the verdict on a table
abbrev pub verdict_on : List ℕ → List ℤ
verdict_on table = count_numbers (number_reply (rules_answer table))

-- a count, where six numbers are lent
abbrev pub ruled_count : List ℕ → Axis → List ℤ
ruled_count table a = count_numbers (number_reply (ruled_answer table a (length sevens)))

-- a list in six lent numbers
abbrev pub ruled_into : List ℕ → Axis → List ℤ
ruled_into table a = ruled_count table a ++ ruled_written table a sevens

-- an axis of a kind between two midnights
abbrev pub between : Kind → ℕ → ℕ → Axis
between k s e = axis_from k (midnight (pos s)) (midnight (pos e))

-- ---- rows of tables
-- no bytes: 12
abbrev pub empty : Example
empty = record { answer = verdict_on []; settled = pos 12 ∷ (pos 0 ∷ []) }

-- names alone: 15
abbrev pub names_alone : Example
names_alone = record { answer = verdict_on names_line; settled = pos 15 ∷ (pos 0 ∷ []) }

-- one row for all lengths: accepted
abbrev pub one_row : Example
one_row = record { answer = verdict_on (names_line ++ all_weekly); settled = pos 0 ∷ (pos 1 ∷ []) }

-- the same row twice: 16
abbrev pub row_twice : Example
row_twice = record { answer = verdict_on (names_line ++ all_weekly ++ all_weekly); settled = pos 16 ∷ (pos 0 ∷ []) }

-- no row for 0, the least length: 15
abbrev pub none_for_least : Example
none_for_least = record { answer = verdict_on (names_line ++ from_one); settled = pos 15 ∷ (pos 0 ∷ []) }

-- none for 3,652,058, the greatest: 15
abbrev pub none_for_greatest : Example
none_for_greatest = record { answer = verdict_on (names_line ++ to_less); settled = pos 15 ∷ (pos 0 ∷ []) }

-- none for 0, and two for each other length: 15 before 16
abbrev pub none_and_two : Example
none_and_two = record { answer = verdict_on (names_line ++ from_one ++ from_one); settled = pos 15 ∷ (pos 0 ∷ []) }

-- minus zero, zeros before a number and the largest step: accepted
abbrev pub long_numbers_law : Example
long_numbers_law = record { answer = verdict_on (names_line ++ long_numbers); settled = pos 0 ∷ (pos 1 ∷ []) }

-- a table that does not read: 12
abbrev pub unread : List ℕ → Example
unread table = record { answer = verdict_on table; settled = pos 12 ∷ (pos 0 ∷ []) }

-- other names, an empty line, and each of the lines above after the names
abbrev pub unread_table : List Example
unread_table =
    unread (other_names ++ all_weekly)
    ∷ (unread (names_line ++ 10 ∷ [])
    ∷ (unread (names_line ++ no_feed)
    ∷ (unread (names_line ++ two_spaces)
    ∷ (unread (names_line ++ no_step)
    ∷ (unread (names_line ++ other_unit)
    ∷ (unread (names_line ++ plus_sign)
    ∷ (unread (names_line ++ from_below)
    ∷ (unread (names_line ++ to_above)
    ∷ (unread (names_line ++ from_above_to)
    ∷ (unread (names_line ++ step_none)
    ∷ (unread (names_line ++ step_above)
    ∷ [])))))))))))

-- the tables
abbrev pub verdict_table : List Example
verdict_table =
    empty ∷ (names_alone ∷ (one_row ∷ (long_numbers_law ∷ (row_twice
    ∷ (none_for_least ∷ (none_for_greatest ∷ (none_and_two ∷ [])))))))

-- ---- rows of lists and counts
-- kind 0 with no bytes: 12 before 1
abbrev pub table_first : Example
table_first =
    record {
      answer = count_numbers (number_reply (ruled_answer [] (axis_of (pos 0) (pos 1) (pos 0) (pos 5) (pos 0) (pos 0)) 6));
      settled = pos 12 ∷ (pos 0 ∷ []);
    }

-- kind 4 has no house rules: 2
abbrev pub date_times : Example
date_times =
    record {
      answer = ruled_count (names_line ++ all_second_days) (between kind.Stamp 1 5);
      settled = pos 2 ∷ (pos 0 ∷ []);
    }

-- every second day from day 1 to day 5: 1, 3 and 5, the end too
abbrev pub second_days : Example
second_days =
    record {
      answer = ruled_into (names_line ++ all_second_days) (between kind.Date 1 5);
      settled = pos 0 ∷ (pos 3 ∷ (pos 1 ∷ (pos 0 ∷ (pos 3 ∷ (pos 0 ∷ (pos 5 ∷ (pos 0 ∷ [])))))));
    }

-- every second January 1 from 0001-01-02, day 2, to 0004-01-01, day 1096: of 0002, the first in the span, and of 0004
abbrev pub second_januaries : Example
second_januaries =
    record { answer = ruled_count (names_line ++ all_second_years) (between kind.Year 2 1096); settled = pos 0 ∷ (pos 2 ∷ []) }

-- days 1 to 4, day 4 excluded: 2 days long, so the row is the daily one
abbrev pub row_before_end : Example
row_before_end =
    record {
      answer = ruled_into (names_line ++ short_daily ++ long_second_days) (before kind.Date 1 4);
      settled = pos 0 ∷ (pos 3 ∷ (pos 1 ∷ (pos 0 ∷ (pos 2 ∷ (pos 0 ∷ (pos 3 ∷ (pos 0 ∷ [])))))));
    }

-- the lists
abbrev pub ruled_table : List Example
ruled_table = table_first ∷ (date_times ∷ (second_days ∷ (second_januaries ∷ (row_before_end ∷ []))))
