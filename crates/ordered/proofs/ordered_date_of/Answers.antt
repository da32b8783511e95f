-- `ordered::ordered_date_of` meets its contract: the numbers of a date are small. Assumes nothing.
use mathlib.Core.Path.{sym, ◌∙◌}
use native.Mathlib.Omega.{arith}
use Rattle.std.proofs.Common.{rules}
use Rattle.calendar.proofs.Questions.{date_range}
use Rattle.ordered.proofs.ordered_date_of.Goals as goal

pub returns : goal.returns
returns c = let said = c.from.ensures
    (λ t is. let small = date_range _ t (sym c.date_at.ensures ∙ is) in (omega arith, omega arith, omega arith)) in
    search rules
