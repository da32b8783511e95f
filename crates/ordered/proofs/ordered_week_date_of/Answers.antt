-- `ordered::ordered_week_date_of` meets its contract: the numbers of a date are small. Assumes nothing.
use mathlib.Core.Path.{sym, ◌∙◌}
use native.Mathlib.Omega.{arith}
use Rattle.std.proofs.Common.{rules}
use Rattle.weeks.proofs.Questions.{week_range}
use Rattle.ordered.proofs.ordered_week_date_of.Goals as goal

pub returns : goal.returns
returns c = let said = c.from.ensures
    (λ t is. let small = week_range _ t (sym c.week_date_at.ensures ∙ is) in (omega arith, omega arith, omega arith)) in
    search rules
