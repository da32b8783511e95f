-- The lines of output that answer a line of input. Definitions only.
use Rattle.std.specs.Prelude.{◌≡◌, Bool, true, false, not, ◌||◌, List, [], ◌++◌, ℕ, zero, suc, ◌/◌, ◌%◌, ◌<◌, eqb, ℤ}
use Rattle.std.specs.Prelude.{length, Option, Some, None, Result, Ok, Err}
use Rattle.asking.specs.declared.Refusal.{Refusal}
use Rattle.asking.specs.declared.Refusal.TheVariants as refusal
use Rattle.laws.specs.Numbers.{pos_part}
use Rattle.laws.specs.Units.{per_second}
use Rattle.values.specs.declared.Kind.{Kind}
use Rattle.values.specs.declared.Value.{Value}
use Rattle.values.specs.Values.{is_value}
use Rattle.axis.specs.declared.Axis.{Axis}
use Rattle.axis.specs.declared.Limits.{Limits}
use Rattle.mapping.specs.Mapping.{mapped}
use Rattle.steps.specs.Promise.{nth}
use Rattle.axis.specs.declared.Hint.TheVariants.{Bold}
use Rattle.ticks.specs.Answers.{ticks_answer, ticks_handed}
use Rattle.text_line.specs.declared.Request.{Request}
use Rattle.text_line.specs.Line.{read_line}
use Rattle.text_write.specs.Rows.{row_text, refusal_text}

-- ---- fractions
-- is the tick at no whole second? No value has a tail below 0, and a duration's is less than a second
abbrev pub has_fraction : Value → Bool
has_fraction v = not (eqb (pos_part v.tail % per_second) 0)

-- has one of the first k ticks of a list a fraction?
unfoldable pub fraction_before : List ℤ → ℕ → Bool
fraction_before list zero = false
fraction_before list (suc k) = has_fraction (nth list k) || fraction_before list k

-- then all of them show one; a list is pairs of numbers
abbrev pub shows_fractions : List ℤ → Bool
shows_fractions list = fraction_before list (length list / 2)

-- ---- lines
-- the line for the tick at place k: what mapping answers stands beside the tick
abbrev pub tick_row : ℕ → Axis → Limits → List ℤ → ℕ → List ℕ
tick_row number a l list k = row_text number (shows_fractions list) a.kind (nth list k) (mapped a l (nth list k))

-- the first k ticks, a line for each
unfoldable pub ticks_text : ℕ → Axis → Limits → List ℤ → ℕ → List ℕ
ticks_text number a l list zero = []
ticks_text number a l list (suc k) = ticks_text number a l list k ++ tick_row number a l list k

-- all of them
abbrev pub list_text : ℕ → Axis → Limits → List ℤ → List ℕ
list_text number a l list = ticks_text number a l list (length list / 2)

-- the list of a request: 8,194 numbers are lent, two for each tick that a list can have
abbrev pub list_of : Request → List ℤ
list_of q = ticks_handed q.axis (Bold q.hint) 8194

-- where listing is refused, the refusal; an empty list gives nothing
abbrev pub listed_text : ℕ → Request → Result ℕ Refusal → List ℕ
listed_text number q (Err r) = refusal_text number r
listed_text number q (Ok c) = list_text number q.axis q.limits (list_of q)

-- of a request, refused or not
unfoldable pub request_text : ℕ → Request → List ℕ
request_text number q = listed_text number q (ticks_answer q.axis (Bold q.hint) 8194)

-- question 12, which a table of house rules is asked too: does the line read?
abbrev pub line_text : ℕ → Option Request → List ℕ
line_text number (Some q) = request_text number q
line_text number None = refusal_text number refusal.Table

-- the answer to the line of that number
unfoldable pub rows_of : ℕ → List ℕ → List ℕ
rows_of number s = line_text number (read_line s)

-- every tick of a list is a value of its kind
abbrev pub Printable : Kind → List ℤ → Type 0
Printable kind list = (i : ℕ) → i < length list / 2 → is_value kind (nth list i) ≡ true
