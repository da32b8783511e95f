-- What ruled ticks and counts answer, and what the lent numbers hold after it, refused calls too. Definitions only.
use Rattle.std.specs.Prelude.{Bool, cond, List, [], ◌++◌, ℕ, ◌-◌, ℤ, Option, None, Some, Result}
use Rattle.asking.specs.declared.Refusal.{Refusal}
use Rattle.asking.specs.Asking.{Question, asked, passes}
use Rattle.values.specs.declared.Value.{Value}
use Rattle.values.specs.Values.{over_dates}
use Rattle.axis.specs.declared.Axis.{Axis}
use Rattle.axis.specs.Axes.{closed}
use Rattle.axis.specs.Questions.{plain_questions}
use Rattle.counting.specs.Counting.{from_day, to_day}
use Rattle.steps.specs.Listing.{listed_of, lent_after}
use Rattle.rules.specs.declared.Row.{Row}
use Rattle.rules.specs.Cover.{row_for}
use Rattle.rules.specs.Table.{rows_in, table_questions}
use Rattle.ruled.specs.Ruled.{ruled_ticks}

-- 2. Kinds 1, 2, 3 and 8 take house rules
unfoldable pub has_rules : Axis → Bool
has_rules a = over_dates a.kind

-- 12, 15 and 16 of the table, and then the questions of an axis
abbrev pub ruled_questions : List ℕ → Axis → List Question
ruled_questions table a = table_questions table ++ plain_questions (has_rules a) a

-- the length of the span in days
abbrev pub length_of : Axis → ℕ
length_of a = to_day a - from_day a

-- the row for it
abbrev pub row_on : List Row → Axis → Option Row
row_on ws a = row_for ws (length_of a)

-- the ticks by a row, where there is one
abbrev pub ticks_by : Option Row → Axis → List Value
ticks_by (Some w) a = ruled_ticks w.unit w.step a
ticks_by None a = []

-- the ticks by the row for the length: those of the axis that ends a day earlier, where the end is excluded
unfoldable pub ruled_on : List ℕ → Axis → List Value
ruled_on table a = ticks_by (row_on (rows_in table) (closed a)) (closed a)

-- the count of ticks, or a refusal; the list asks question 11 of the lent numbers
unfoldable pub ruled_answer : List ℕ → Axis → ℕ → Result ℕ Refusal
ruled_answer table a k = asked (ruled_questions table a) (listed_of (ruled_on table a) k)

-- all lent numbers after the call
unfoldable pub ruled_written : List ℕ → Axis → List ℤ → List ℤ
ruled_written table a d = cond (passes (ruled_questions table a)) (lent_after (ruled_on table a) d) d
