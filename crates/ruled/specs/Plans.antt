-- How the code finds a ruled list: its progression. No answer is defined by it; proofs/Ruled.antt says that its ticks are the
-- list. Definitions only.
use Rattle.std.specs.Prelude.{ℕ, ◌+◌, ◌-◌, ◌*◌, ◌/◌, ◌≡◌, true, List, pos, Some, ⊤, Result, Ok, Err}
use Rattle.asking.specs.declared.Refusal.{Refusal}
use Rattle.asking.specs.Asking.{asked, passes}
use Rattle.axis.specs.declared.Axis.{Axis}
use Rattle.axis.specs.Axes.{closed}
use Rattle.counting.specs.Counting.{from_day, to_day}
use Rattle.steps.specs.declared.Steps.{Steps}
use Rattle.plans.specs.Days.{whole_heads, evenly}
use Rattle.plans.specs.Months.{from_month, to_month, months_by}
use Rattle.rules.specs.declared.Unit.{Unit}
use Rattle.rules.specs.declared.Unit.TheVariants as unit
use Rattle.rules.specs.declared.Row.{Row}
use Rattle.rules.specs.Table.{rows_in}
use Rattle.ruled.specs.Answers.{ruled_questions, row_on}

-- the first January that is no earlier than the month m, as a month
abbrev pub january : ℕ → ℕ
january m = (m + 11) / 12 * 12

-- every step-th day from the first, month from the first whole one, or January
unfoldable pub ruled_plan : Unit → ℕ → Axis → Steps
ruled_plan unit.Day step a =
    evenly (record { heads = whole_heads (pos (from_day a)); first = 0; end = to_day a + 1 - from_day a; step = step })
ruled_plan unit.Month step a = months_by (from_month a) (to_month a) step
ruled_plan unit.Year step a = months_by (january (from_month a)) (to_month a) (12 * step)

-- the plan by the row that is found where nothing is refused, or the first no
abbrev pub RuledFor : List ℕ → Axis → Result Steps Refusal → Type 0
RuledFor table a (Ok p) =
    (passes (ruled_questions table a) ≡ true)
    × ((w : Row) × (row_on (rows_in table) (closed a) ≡ Some w) × (p ≡ ruled_plan w.unit w.step (closed a)))
RuledFor table a (Err q) = ◌≡◌ {A = Result ⊤ Refusal} (asked (ruled_questions table a) (Ok tt)) (Err q)
