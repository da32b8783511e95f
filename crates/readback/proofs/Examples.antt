-- The settled texts and readings: the definitions compute each. Assumes nothing.
use mathlib.Core.Path.{refl}
use Rattle.values.specs.Values.{is_value}
use Rattle.values.specs.Differences.{nanoseconds}
use Rattle.calendar.specs.Gregorian.{leap, leap_day, month_length, months, year_length, years, day_number, next_day, days_later}
use Rattle.calendar.specs.Gregorian.{date_of}
use Rattle.calendar.specs.Questions.{is_date, in_ranges, number_of}
use Rattle.text_read.specs.Fields.{until_of, digits_from, digits_of, triple_of, nanos_of, fraction_of}
use Rattle.text_read.specs.Fields.{read_date, read_stamp, seconds_of, read_span}
use Rattle.text_line.specs.Line.{on_day, stamp_value, span_value, read_value}
use Rattle.text_write.specs.Texts.{fixed_text, up_to_text}
use Rattle.text_write.specs.Rows.{tick_text}
use Rattle.readback.specs.Examples.{AllWritten, AllRead, Largest}

pub all_written : AllWritten
unfolding leap leap_day month_length months year_length years day_number next_day days_later date_of nanoseconds fixed_text
    up_to_text
    tick_text
all_written = refl

pub all_read : AllRead
unfolding leap leap_day month_length months year_length years day_number is_date in_ranges number_of until_of digits_from
    digits_of
    triple_of nanos_of fraction_of read_date read_stamp seconds_of read_span on_day stamp_value span_value read_value
all_read = refl

pub largest : Largest
unfolding is_value
largest = (refl, refl)
