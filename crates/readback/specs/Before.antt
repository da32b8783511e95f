-- What plate read and printed before fractions were shown: starts and ends in whole seconds, ticks rounded down to the
-- second. The claim that old lines print alike cites it, and nothing else does. Definitions only.
use Rattle.std.specs.Prelude.{cond, List, [], ◌∷◌, ◌++◌, ℕ, zero, suc, ◌/◌, eqb, ℤ, pos, length, take, drop, get_or}
use Rattle.std.specs.Prelude.{Option, Some, None, Result, Ok, Err}
use Rattle.std.specs.Option.{option_map, option_and_then}
use Rattle.asking.specs.declared.Refusal.{Refusal}
use Rattle.asking.specs.declared.Refusal.TheVariants as refusal
use Rattle.laws.specs.Numbers.{pos_part}
use Rattle.laws.specs.Units.{per_second}
use Rattle.values.specs.declared.Kind.{Kind}
use Rattle.values.specs.declared.Value.{Value}
use Rattle.values.specs.Values.{over_date_times, is_duration}
use Rattle.axis.specs.declared.Axis.{Axis}
use Rattle.axis.specs.declared.Limits.{Limits}
use Rattle.axis.specs.declared.Hint.TheVariants.{Bold}
use Rattle.mapping.specs.Mapping.{mapped}
use Rattle.mapping.specs.declared.Hairline.{Hairline}
use Rattle.steps.specs.Promise.{nth}
use Rattle.ticks.specs.Answers.{ticks_answer}
use Rattle.text_read.specs.Bytes.{line_feed, space_byte, colon_byte, t_byte}
use Rattle.text_read.specs.Fields.{until_of, field_of, triple_of, ymd_of, stamp_read, read_number, read_date}
use Rattle.text_read.specs.Lines.{in_form, fields_from}
use Rattle.text_read.specs.declared.Moment.{Moment}
use Rattle.text_line.specs.declared.Request.{Request}
use Rattle.text_line.specs.Line.{kind_of, of_date, of_stamp, request_of}
use Rattle.text_write.specs.Texts.{decimal_text, signed_text, date_text, time_text}
use Rattle.text_write.specs.Rows.{mark_text, refusal_text}
use Rattle.text_rows.specs.Answers.{list_of}

-- ---- reading
-- YYYY-MM-DDThh:mm:ss: 19 bytes
unfoldable pub stamp_before : List ℕ → Option Moment
stamp_before s =
    cond (eqb (until_of space_byte s) 19)
    (cond (eqb (get_or s 10 0) t_byte)
    (stamp_read (ymd_of s) (triple_of 2 colon_byte (take 8 (drop 11 s))) (Some 0))
    None)
    None

-- whole seconds
abbrev pub of_seconds : Option ℤ → Option Value
of_seconds n = option_map (λ m. record { head = m; tail = pos 0 }) n

-- a start or an end
unfoldable pub value_before : Kind → List ℕ → Option Value
value_before kind s =
    cond (over_date_times kind) (of_stamp (stamp_before s))
    (cond (is_duration kind) (of_seconds (read_number s))
    (of_date (read_date s)))

-- all fields of a line of a kind
abbrev pub fields_before : Kind → List ℕ → Option Request
fields_before kind s =
    request_of kind (value_before kind (fields_from 1 s)) (value_before kind (fields_from 2 s))
    (read_number (fields_from 3 s))
    (read_number (fields_from 4 s))
    (read_number (fields_from 5 s))

-- the request of a line
unfoldable pub line_before : List ℕ → Option Request
line_before s = cond (in_form 5 s) (option_and_then (λ k. fields_before k s) (kind_of (field_of s))) None

-- ---- writing
-- rounded down to the second
unfoldable pub tick_before : Kind → Value → List ℕ
tick_before kind v =
    cond (over_date_times kind) (date_text (pos_part v.head) ++ (t_byte ∷ []) ++ time_text (pos_part v.tail / per_second))
    (cond (is_duration kind) (signed_text v.head)
    (date_text (pos_part v.head)))

-- number, space, tick, space, mark, LF
abbrev pub row_before : ℕ → Kind → Value → Result Hairline Refusal → List ℕ
row_before number kind v p =
    decimal_text number ++ (space_byte ∷ []) ++ tick_before kind v ++ (space_byte ∷ []) ++ mark_text p ++ (line_feed ∷ [])

-- the first k ticks of a list, a line for each
unfoldable pub ticks_before : ℕ → Axis → Limits → List ℤ → ℕ → List ℕ
ticks_before number a l list zero = []
ticks_before number a l list (suc k) =
    ticks_before number a l list k ++ row_before number a.kind (nth list k) (mapped a l (nth list k))

-- ---- a line's answer
-- where listing is refused, the refusal
abbrev pub listed_before : ℕ → Request → Result ℕ Refusal → List ℕ
listed_before number q (Err r) = refusal_text number r
listed_before number q (Ok c) = ticks_before number q.axis q.limits (list_of q) (length (list_of q) / 2)

-- of a line that reads, and of one that does not
abbrev pub answer_before : ℕ → Option Request → List ℕ
answer_before number (Some q) = listed_before number q (ticks_answer q.axis (Bold q.hint) 8194)
answer_before number None = refusal_text number refusal.Table

-- the answer to the line of that number
unfoldable pub rows_before : ℕ → List ℕ → List ℕ
rows_before number s = answer_before number (line_before s)
