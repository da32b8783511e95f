-- Texts and readings that are settled: what the definitions write and read, beside what it has to be. Definitions only.
use Rattle.std.specs.Prelude.{◌≡◌, Bool, true, false, List, [], ◌∷◌, ℕ, ℤ, pos, Option, Some, None}
use Prim.Native.String.{String}
use Rattle.laws.specs.Numbers.{minus}
use Rattle.values.specs.declared.Kind.{Kind}
use Rattle.values.specs.declared.Kind.TheVariants as kind
use Rattle.values.specs.declared.Value.{Value}
use Rattle.values.specs.Values.{is_value}
use Rattle.text_line.specs.Line.{read_value}
use Rattle.text_write.specs.Rows.{tick_text}
use Rattle.readback.specs.Quoted.{bytes}

-- a head and a tail
abbrev pub pair : ℤ → ℕ → Value
pair head tail = record { head = head; tail = pos tail }

-- a field that reads
abbrev pub at : ℤ → ℕ → Option Value
at head tail = Some (pair head tail)

-- ---- written
-- a tick of a kind, whether its list shows fractions, and its text
pub record Written : Type 0 where
  pub kind : Kind
  pub tick : Value
  pub shown : Bool
  pub text : String

-- in one line
abbrev pub writes : Kind → Value → Bool → String → Written
writes k tick shown text = record { kind = k; tick = tick; shown = shown; text = text }

-- settled
abbrev pub written : List Written
written =
    writes kind.Span (pair (minus 2) 500000000) true "-1.500000000"
    ∷ writes kind.Span (pair (minus 1) 999999999) true "-0.000000001"
    ∷ writes kind.Span (pair (pos 0) 0) true "0.000000000"
    ∷ writes kind.Span (pair (minus 1) 0) true "-1.000000000"
    ∷ writes kind.Span (pair (minus 1) 0) false "-1"
    ∷ writes kind.Stamp (pair (pos 60) 500000000) true "0001-03-01T00:00:00.500000000"
    ∷ writes kind.Stamp (pair (pos 60) 1000000000) false "0001-03-01T00:00:01"
    ∷ writes kind.Date (pair (pos 60) 0) false "0001-03-01"
    ∷ writes kind.Week (pair (pos 60) 0) false "0001-03-01"
    ∷ []

-- what the definitions write
abbrev pub texts : List Written → List (List ℕ)
texts [] = []
texts (w ∷ ws) = tick_text w.shown w.kind w.tick ∷ texts ws

-- what has to be written
abbrev pub settled_texts : List Written → List (List ℕ)
settled_texts [] = []
settled_texts (w ∷ ws) = bytes w.text ∷ settled_texts ws

-- they are the same
abbrev pub AllWritten : Type 0
AllWritten = texts written ≡ settled_texts written

-- ---- read
-- a field of a kind, and the value that it is
pub record Reading : Type 0 where
  pub kind : Kind
  pub field : String
  pub is : Option Value

-- in one line
abbrev pub reads : Kind → String → Option Value → Reading
reads k field is = record { kind = k; field = field; is = is }

-- settled: a time that is not real is no value, and so question 3 refuses it
abbrev pub readings : List Reading
readings =
    reads kind.Span "-0.5" (at (minus 1) 500000000)
    ∷ reads kind.Span "-0.0" (at (pos 0) 0)
    ∷ reads kind.Span "-1.5" (at (minus 2) 500000000)
    ∷ reads kind.Span "1.000000001" (at (pos 1) 1)
    ∷ reads kind.Span "315576000000.5" (at (pos 315576000000) 500000000)
    ∷ reads kind.Span "-315576000000.5" (at (minus 315576000001) 500000000)
    ∷ reads kind.Span ".5" None
    ∷ reads kind.Span "-.5" None
    ∷ reads kind.Span "1." None
    ∷ reads kind.Span "1.5.5" None
    ∷ reads kind.Span "1.1234567890" None
    ∷ reads kind.StampYear "0001-03-01T23:59:59.999999999" (at (pos 60) 86399999999999)
    ∷ reads kind.Stamp "0001-03-01T24:00:00.5" (at (pos 0) 0)
    ∷ reads kind.Stamp "0001-03-01T00:00:60.5" (at (pos 0) 0)
    ∷ reads kind.Stamp "0001-02-30T00:00:00.1234567890" None
    ∷ reads kind.Stamp "0001-03-01.5" None
    ∷ reads kind.Date "0001-03-01.5" None
    ∷ reads kind.Week "0001-03-01" (at (pos 60) 0)
    ∷ reads kind.Week "0001-W09-4" None
    ∷ []

-- what the definitions read
abbrev pub values : List Reading → List (Option Value)
values [] = []
values (r ∷ rs) = read_value r.kind (bytes r.field) ∷ values rs

-- what has to be read
abbrev pub settled_values : List Reading → List (Option Value)
settled_values [] = []
settled_values (r ∷ rs) = r.is ∷ settled_values rs

-- they are the same
abbrev pub AllRead : Type 0
AllRead = values readings ≡ settled_values readings

-- the largest span is a value, and what lies as far below zero is none
abbrev pub Largest : Type 0
Largest =
    (is_value kind.Span (pair (pos 315576000000) 500000000) ≡ true)
    × (is_value kind.Span (pair (minus 315576000001) 500000000) ≡ false)
