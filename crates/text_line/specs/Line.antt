-- The names line, which lines of values read, and the request that such a line makes. Definitions only.
-- A line is its bytes without the LF. Its fields are kind start end hint low high, with one space between them.
use Rattle.std.specs.Prelude.{Bool, false, ◌&&◌, cond, List, [], ◌∷◌, ℕ, suc, ◌+◌, ◌-◌, ◌*◌, ltb, eqb, ℤ, pos}
use Rattle.std.specs.Prelude.{Option, None, Some, Result, Ok, Err}
use Rattle.std.specs.Option.{option_map, option_and_then}
use Rattle.asking.specs.declared.Refusal.{Refusal}
use Rattle.laws.specs.Numbers.{minus}
use Rattle.laws.specs.Units.{per_second}
use Rattle.calendar.specs.declared.Ymd.{Ymd}
use Rattle.calendar.specs.Questions.{number_of}
use Rattle.values.specs.declared.Kind.{Kind}
use Rattle.values.specs.declared.Kind.TheVariants as kind
use Rattle.values.specs.declared.Value.{Value}
use Rattle.values.specs.Values.{over_date_times, is_duration}
use Rattle.text_read.specs.Fields.{field_of, read_number, read_date, read_stamp, read_span}
use Rattle.text_read.specs.Lines.{same_as, named, in_form, fields_from}
use Rattle.text_read.specs.declared.Moment.{Moment}
use Rattle.text_read.specs.declared.Duration.{Duration}
use Rattle.text_line.specs.declared.Request.{Request}

-- ---- words
-- "kind start end hint low high"
abbrev pub names : List ℕ
names =
    107 ∷ 105 ∷ 110 ∷ 100 ∷ 32 ∷ 115 ∷ 116 ∷ 97 ∷ 114 ∷ 116 ∷ 32 ∷ 101 ∷ 110 ∷ 100 ∷ 32
    ∷ 104 ∷ 105 ∷ 110 ∷ 116 ∷ 32 ∷ 108 ∷ 111 ∷ 119 ∷ 32 ∷ 104 ∷ 105 ∷ 103 ∷ 104 ∷ []

-- is it the names line?
abbrev pub is_names : List ℕ → Bool
is_names s = same_as s names

-- the kinds by their names: date, month, year, stamp, stampmonth, stampyear, span, week
abbrev pub kinds : List (List ℕ × Kind)
kinds =
    (100 ∷ 97 ∷ 116 ∷ 101 ∷ [], kind.Date)
    ∷ (109 ∷ 111 ∷ 110 ∷ 116 ∷ 104 ∷ [], kind.Month)
    ∷ (121 ∷ 101 ∷ 97 ∷ 114 ∷ [], kind.Year)
    ∷ (115 ∷ 116 ∷ 97 ∷ 109 ∷ 112 ∷ [], kind.Stamp)
    ∷ (115 ∷ 116 ∷ 97 ∷ 109 ∷ 112 ∷ 109 ∷ 111 ∷ 110 ∷ 116 ∷ 104 ∷ [], kind.StampMonth)
    ∷ (115 ∷ 116 ∷ 97 ∷ 109 ∷ 112 ∷ 121 ∷ 101 ∷ 97 ∷ 114 ∷ [], kind.StampYear)
    ∷ (115 ∷ 112 ∷ 97 ∷ 110 ∷ [], kind.Span)
    ∷ (119 ∷ 101 ∷ 101 ∷ 107 ∷ [], kind.Week)
    ∷ []

-- the kind that a word names
unfoldable pub kind_of : List ℕ → Option Kind
kind_of w = named kinds w

-- ---- a start or an end as a value
-- what is typed in form and is not real: no value of the kinds over dates and date-times, whose heads begin at 1
abbrev pub unreal : Value
unreal = record { head = pos 0; tail = pos 0 }

-- a day that is real, with a nanosecond of it
abbrev pub day_at : Result ℕ Refusal → ℕ → Value
day_at (Ok n) nano = record { head = pos n; tail = pos nano }
day_at (Err q) nano = unreal

-- the day number of a real date of the years 1 to 9999, and a nanosecond of that day
unfoldable pub on_day : Ymd → ℕ → Value
on_day d nano = day_at (number_of d) nano

-- a date as a value
abbrev pub date_value : Ymd → Value
date_value d = on_day d 0

-- 00:00:00 to 23:59:59
abbrev pub is_time : Moment → Bool
is_time m = (ltb m.hour 24 && ltb m.minute 60) && ltb m.second 60

-- the second of the day and its fraction, in nanoseconds
unfoldable pub stamp_value : Moment → Value
stamp_value m =
    cond (is_time m) (on_day m.date (((m.hour * 60 + m.minute) * 60 + m.second) * per_second + m.nano)) unreal

-- n seconds and q nanoseconds below zero: the seconds are rounded down, and the nanoseconds count up from them
abbrev pub below_zero : ℕ → ℕ → Value
below_zero n q =
    cond (eqb q 0) (record { head = minus n; tail = pos 0 })
    (record { head = minus (suc n); tail = pos (per_second - q) })

-- a span as a value
unfoldable pub span_value : Duration → Value
span_value p =
    cond p.below (below_zero p.seconds p.nano)
    (record { head = pos p.seconds; tail = pos p.nano })

-- a field that is a date
abbrev pub of_date : Option Ymd → Option Value
of_date d = option_map date_value d

-- a field that is a date-time
abbrev pub of_stamp : Option Moment → Option Value
of_stamp m = option_map stamp_value m

-- a field that is a span
abbrev pub of_span : Option Duration → Option Value
of_span p = option_map span_value p

-- date-times on kinds 4 to 6, spans on 7, dates on all others
unfoldable pub read_value : Kind → List ℕ → Option Value
read_value kind s =
    cond (over_date_times kind) (of_stamp (read_stamp s))
    (cond (is_duration kind) (of_span (read_span s))
    (of_date (read_date s)))

-- ---- the line
abbrev pub request : Kind → Value → Value → ℤ → ℤ → ℤ → Request
request kind a b n l h = record {
  axis = record { kind = kind; start = a; end = b; end_excluded = false };
  hint = record { n = n };
  limits = record { low = l; high = h };
}

-- start, end, hint, low and high, each in its form
abbrev pub request_of : Kind → Option Value → Option Value → Option ℤ → Option ℤ → Option ℤ → Option Request
request_of kind (Some a) (Some b) (Some n) (Some l) (Some h) = Some (request kind a b n l h)
request_of kind (Some a) (Some b) (Some n) (Some l) None = None
request_of kind (Some a) (Some b) (Some n) None h = None
request_of kind (Some a) (Some b) None l h = None
request_of kind (Some a) None n l h = None
request_of kind None b n l h = None

-- all fields of a line of a kind
abbrev pub fields_of : Kind → List ℕ → Option Request
fields_of kind s =
    request_of kind (read_value kind (fields_from 1 s)) (read_value kind (fields_from 2 s))
    (read_number (fields_from 3 s))
    (read_number (fields_from 4 s))
    (read_number (fields_from 5 s))

-- the request that a line makes, or that it does not read: it is in form, and its kind is known
unfoldable pub read_line : List ℕ → Option Request
read_line s = cond (in_form 5 s) (option_and_then (λ k. fields_of k s) (kind_of (field_of s))) None
