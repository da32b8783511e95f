-- `discrete::month_at` meets its contract: index 0 is the first day, and the others are firsts of months. Assumes nothing.
use mathlib.Core.Path.{sym, ◌∙◌, ap}
use native.Mathlib.Omega.{arith}
use Prim.Native.Nat.{ℕ, ◌+◌, ◌-◌, ◌/◌, ◌%◌}
use lib.IntN.{pos}
use Rattle.calendar.specs.declared.Date.{Date}
use Rattle.calendar.specs.Gregorian.{day_number}
use Rattle.values.specs.Values.{midnight}
use Rattle.axis.specs.Questions.{checked}
use Rattle.counting.proofs.Counting.{Near, from_range, first_near}
use Rattle.discrete.proofs.Indices.{month_first, month_later}
use Rattle.discrete.proofs.month_at.Goals as goal
use Rattle.discrete.proofs.month_at.Goals.{After-first_date-first}

pub at_midnight-requires : goal.at_midnight-requires
at_midnight-requires c = omega (arith, c.from_day.ensures, from_range c.args.d.axis c.args.d.dated)

pub returns-then-i-eq0 : goal.returns-then-i-eq0
returns-then-i-eq0 c = c.at_midnight.ensures
    ∙ ap (λ (d : ℕ). checked (midnight (pos d))) c.from_day.ensures
    ∙ ap checked (sym (month_first c.args.d.axis c.args.i c.if-i-eq0.true))

near : (c : After-first_date-first) → Near c.first_date-first.result 10000
near c = rw c.first_date-first.ensures (first_near c.args.d.axis c.args.d.dated)

pub overflow_sub-k : goal.overflow_sub-k
overflow_sub-k c = (near (goal.at.overflow_sub-k c).After-first_date-first).month_least

pub overflow_add-k : goal.overflow_add-k
overflow_add-k c = omega (arith, near (goal.at.overflow_add-k c).After-first_date-first, c.requires)

pub overflow_add-first : goal.overflow_add-first
overflow_add-first c = omega (arith, near (goal.at.overflow_add-first c).After-first_date-first, c.requires)

pub month_start-requires : goal.month_start-requires
month_start-requires c =
    (omega (arith, (near (goal.at.month_start-requires c).After-first_date-first).year_least), omega arith, omega arith)

pub returns : goal.returns
returns c = let i = c.args.i in
    c.month_start.ensures
    ∙ ap (λ (t : Date). let k = i + (t.month - 1) in checked (midnight (pos (day_number (t.year + k / 12) (k % 12 + 1) 1))))
    c.first_date-first.ensures
    ∙ ap checked (sym (month_later c.args.d.axis i c.if-i-eq0.false))
