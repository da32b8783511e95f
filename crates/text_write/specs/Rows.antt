-- The texts of ticks, pixels and the lines of plate's output. Definitions only.
use Rattle.std.specs.Prelude.{Bool, cond, List, [], ◌∷◌, ◌++◌, ℕ, Result, Ok, Err}
use Rattle.asking.specs.Asking.{number}
use Rattle.asking.specs.declared.Refusal.{Refusal}
use Rattle.laws.specs.Numbers.{pos_part}
use Rattle.values.specs.declared.Kind.{Kind}
use Rattle.values.specs.declared.Kind.TheVariants.{Span}
use Rattle.values.specs.declared.Value.{Value}
use Rattle.values.specs.Values.{over_date_times, is_duration}
use Rattle.values.specs.Differences.{nanoseconds}
use Rattle.mapping.specs.declared.Hairline.{Hairline}
use Rattle.text_read.specs.Bytes.{line_feed, space_byte, exclamation, minus_byte}
use Rattle.text_write.specs.Texts.{decimal_text, signed_text, date_text, date_time_text, span_text}

-- date-times on kinds 4 to 6, spans on 7, dates on all others; `shown`: the tick's list shows fractions
unfoldable pub tick_text : Bool → Kind → Value → List ℕ
tick_text shown kind v =
    cond (over_date_times kind) (date_time_text shown (pos_part v.head) (pos_part v.tail))
    (cond (is_duration kind) (span_text shown (nanoseconds Span v))
    (date_text (pos_part v.head)))

-- the pixel, or '!' and the refusal's number
abbrev pub mark_text : Result Hairline Refusal → List ℕ
mark_text (Ok h) = signed_text h.pixel
mark_text (Err q) = (exclamation ∷ []) ++ decimal_text (number q)

-- number, space, tick, space, mark, LF
abbrev pub row_text : ℕ → Bool → Kind → Value → Result Hairline Refusal → List ℕ
row_text n shown kind v p =
    decimal_text n ++ (space_byte ∷ []) ++ tick_text shown kind v ++ (space_byte ∷ []) ++ mark_text p ++ (line_feed ∷ [])

-- the same of a line that has no list: '-' for the tick
abbrev pub refusal_text : ℕ → Refusal → List ℕ
refusal_text n q =
    decimal_text n ++ (space_byte ∷ minus_byte ∷ space_byte ∷ []) ++ mark_text (Err q) ++ (line_feed ∷ [])
