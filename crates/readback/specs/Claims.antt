-- What is claimed of the texts that plate prints: a tick's text, read as a start of its kind, is that tick again, so no two
-- rows of a line look alike; and what stays as it was before fractions were shown. Claims only.
use Rattle.std.specs.Prelude.{◌≡◌, Bool, true, false, cond, List, [], ◌∷◌, ◌++◌, ℕ, ◌+◌, ◌*◌}
use Rattle.std.specs.Prelude.{◌<◌, ℤ, pos, length, Option, Some, None}
use Rattle.laws.specs.Numbers.{minus}
use Rattle.laws.specs.Units.{per_second}
use Rattle.values.specs.declared.Kind.{Kind}
use Rattle.values.specs.declared.Kind.TheVariants.{Span}
use Rattle.values.specs.declared.Value.{Value}
use Rattle.values.specs.Values.{is_value}
use Rattle.values.specs.Differences.{nanoseconds}
use Rattle.axis.specs.Questions.{has_period}
use Rattle.steps.specs.Promise.{nth}
use Rattle.text_read.specs.Bytes.{space_byte, point_byte}
use Rattle.text_read.specs.Fields.{until_of, field_of}
use Rattle.text_read.specs.Lines.{lines_of, occurrences, rest_of}
use Rattle.text_read.specs.declared.Duration.{Duration}
use Rattle.text_line.specs.declared.Request.{Request}
use Rattle.text_line.specs.Line.{span_value, read_value, read_line}
use Rattle.text_write.specs.Rows.{tick_text}
use Rattle.text_rows.specs.Answers.{has_fraction, shows_fractions, tick_row, list_of, rows_of}
use Rattle.readback.specs.Before.{rows_before}

-- ---- a tick
-- what a list shows of a value: of its kind, and at a whole second unless the list shows fractions
pub record Shown (shown : Bool) (kind : Kind) (v : Value) : Type 0 where
  pub is : is_value kind v ≡ true
  pub whole : shown ≡ false → has_fraction v ≡ false

-- the text with a fraction or without, and nothing or a space behind it
abbrev pub TickReadsBack : Type 0
TickReadsBack =
    (shown : Bool) (kind : Kind) (v : Value) (t : List ℕ) → Shown shown kind v → until_of space_byte t ≡ 0
    → read_value kind (tick_text shown kind v ++ t) ≡ Some v

-- no two look alike, be they of one list or not
abbrev pub OneText : Type 0
OneText =
    (a b : Bool) (kind : Kind) (v w : Value) → Shown a kind v → Shown b kind w
    → tick_text a kind v ≡ tick_text b kind w → v ≡ w

-- a span that is typed is its seconds and its fraction, both away from zero
abbrev pub SpanCounts : Type 0
SpanCounts =
    (p : Duration) → p.nano < per_second → nanoseconds Span (span_value p)
    ≡ cond p.below (minus (p.seconds * per_second + p.nano)) (pos (p.seconds * per_second + p.nano))

-- ---- the rows of a line
-- a row's second field, read as a start of the line's kind, is the tick of the row
abbrev pub RowReadsBack : Type 0
RowReadsBack =
    (number : ℕ) (q : Request) (i : ℕ) → 2 * i < length (list_of q)
    → read_value q.axis.kind (rest_of (tick_row number q.axis q.limits (list_of q) i))
    ≡ Some (nth (list_of q) i)

-- the second field of each line that is printed
abbrev pub tick_texts : List (List ℕ) → List (List ℕ)
tick_texts [] = []
tick_texts (row ∷ rows) = field_of (rest_of row) ∷ tick_texts rows

-- s is none of these texts
abbrev pub NotIn : List ℕ → List (List ℕ) → Type 0
NotIn s [] = Unit {0}
NotIn s (t ∷ ts) = (s ≡ t → ⊥) × NotIn s ts

-- no two are the same
abbrev pub AllDiffer : List (List ℕ) → Type 0
AllDiffer [] = Unit {0}
AllDiffer (t ∷ ts) = NotIn t ts × AllDiffer ts

-- of every line, whatever it says
abbrev pub RowsDiffer : Type 0
RowsDiffer = (number : ℕ) (s : List ℕ) → AllDiffer (tick_texts (lines_of (rows_of number s)).lines)

-- ---- what stays
-- only kinds 4 and 7 list a fraction
abbrev pub OnlyTimes : Type 0
OnlyTimes = (q : Request) → has_period q.axis ≡ false → shows_fractions (list_of q) ≡ false

-- the list of a line; of one that does not read, none
abbrev pub list_in : Option Request → List ℤ
list_in (Some q) = list_of q
list_in None = []

-- a line without a point whose list has no fraction prints as before
abbrev pub AsBefore : Type 0
AsBefore =
    (number : ℕ) (s : List ℕ) → occurrences point_byte s ≡ 0 → shows_fractions (list_in (read_line s)) ≡ false
    → rows_of number s ≡ rows_before number s
