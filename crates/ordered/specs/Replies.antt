-- Answers as C's numbers: the status is 0, or -1 for none, or the refusal's number; all else is 0 unless answered.
-- Definitions only.
use Rattle.std.specs.Prelude.{Bool, cond, ℕ, ℤ, pos, Option, Some, None, Result, Ok, Err}
use Rattle.laws.specs.Numbers.{minus}
use Rattle.asking.specs.declared.Refusal.{Refusal}
use Rattle.asking.specs.Asking.{number}
use Rattle.calendar.specs.declared.Date.{Date}
use Rattle.weeks.specs.declared.WeekDate.{WeekDate}
use Rattle.values.specs.declared.Value.{Value}
use Rattle.mapping.specs.declared.Hairline.{Hairline}
use Rattle.discrete.specs.declared.Cursor.{Cursor}
use Rattle.segmented.specs.declared.SegmentValue.{SegmentValue}
use Rattle.segmented.specs.declared.SegmentValue.TheVariants.{Exact, CenterOf, Last}
use Rattle.ordered.specs.declared.OrderedSegment.{OrderedSegment}
use Rattle.ordered.specs.declared.OrderedValue.{OrderedValue}
use Rattle.ordered.specs.declared.OrderedStep.{OrderedStep}
use Rattle.ordered.specs.declared.OrderedPeriod.{OrderedPeriod}
use Rattle.ordered.specs.declared.OrderedPixel.{OrderedPixel}
use Rattle.ordered.specs.declared.OrderedNumber.{OrderedNumber}
use Rattle.ordered.specs.declared.OrderedDate.{OrderedDate}
use Rattle.ordered.specs.declared.OrderedWeekDate.{OrderedWeekDate}

-- a day number, a count of ticks or rows, a size
abbrev pub number_reply : Result ℕ Refusal → OrderedNumber
number_reply (Ok n) = record { status = pos 0; value = pos n }
number_reply (Err q) = record { status = pos (number q); value = pos 0 }

-- the number of an answer, 0 if it has none
abbrev pub number_in : Result (Option ℕ) Refusal → ℕ
number_in (Ok (Some n)) = n
number_in (Ok None) = 0
number_in (Err q) = 0

-- an index
abbrev pub index_reply : Result (Option ℕ) Refusal → OrderedNumber
index_reply (Ok (Some n)) = record { status = pos 0; value = pos n }
index_reply (Ok None) = record { status = minus 1; value = pos 0 }
index_reply (Err q) = record { status = pos (number q); value = pos 0 }

-- a period
abbrev pub period_reply : Result (Option ℕ) Refusal → OrderedPeriod
period_reply (Ok (Some k)) = record { status = pos 0; nanoseconds = pos k }
period_reply (Ok None) = record { status = minus 1; nanoseconds = pos 0 }
period_reply (Err q) = record { status = pos (number q); nanoseconds = pos 0 }

-- a date
abbrev pub date_reply : Result Date Refusal → OrderedDate
date_reply (Ok t) = record { status = pos 0; year = pos t.year; month = pos t.month; day = pos t.day }
date_reply (Err q) = record { status = pos (number q); year = pos 0; month = pos 0; day = pos 0 }

-- a week date
abbrev pub week_reply : Result WeekDate Refusal → OrderedWeekDate
week_reply (Ok t) = record { status = pos 0; year = pos t.year; week = pos t.week; weekday = pos t.weekday }
week_reply (Err q) = record { status = pos (number q); year = pos 0; week = pos 0; weekday = pos 0 }

-- 1 for yes, 0 for no
abbrev pub flag : Bool → ℤ
flag b = cond b (pos 1) (pos 0)

-- a pixel, and how it is drawn
abbrev pub pixel_reply : Result Hairline Refusal → OrderedPixel
pixel_reply (Ok h) = record { status = pos 0; pixel = h.pixel; exact = flag h.exact; lost = flag h.lost }
pixel_reply (Err q) = record { status = pos (number q); pixel = pos 0; exact = pos 0; lost = pos 0 }

-- a value
abbrev pub value_reply : Result Value Refusal → OrderedValue
value_reply (Ok v) = record { status = pos 0; head = v.head; tail = v.tail }
value_reply (Err q) = record { status = pos (number q); head = pos 0; tail = pos 0 }

-- a value, if there is one
abbrev pub value_if_reply : Result (Option Value) Refusal → OrderedValue
value_if_reply (Ok (Some v)) = record { status = pos 0; head = v.head; tail = v.tail }
value_if_reply (Ok None) = record { status = minus 1; head = pos 0; tail = pos 0 }
value_if_reply (Err q) = record { status = pos (number q); head = pos 0; tail = pos 0 }

-- none leaves the cursor where it is
abbrev pub step_reply : Result (Option Value × Cursor) Refusal → OrderedStep
step_reply (Ok (Some v, c)) = record { status = pos 0; head = v.head; tail = v.tail; next = c.place }
step_reply (Ok (None, c)) = record { status = minus 1; head = pos 0; tail = pos 0; next = c.place }
step_reply (Err q) = record { status = pos (number q); head = pos 0; tail = pos 0; next = pos 0 }

-- 1 exact, 2 centre, 3 last
abbrev pub segment_reply : Result (Option SegmentValue) Refusal → OrderedSegment
segment_reply (Ok (Some (Exact v))) = record { status = pos 0; segment = pos 1; head = v.head; tail = v.tail }
segment_reply (Ok (Some (CenterOf v))) = record { status = pos 0; segment = pos 2; head = v.head; tail = v.tail }
segment_reply (Ok (Some Last)) = record { status = pos 0; segment = pos 3; head = pos 0; tail = pos 0 }
segment_reply (Ok None) = record { status = minus 1; segment = pos 0; head = pos 0; tail = pos 0 }
segment_reply (Err q) = record { status = pos (number q); segment = pos 0; head = pos 0; tail = pos 0 }
