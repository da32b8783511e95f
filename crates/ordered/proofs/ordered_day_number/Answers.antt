-- `ordered::ordered_day_number` meets its contract. Assumes nothing.
use native.Mathlib.Omega.{arith}
use Rattle.std.proofs.Common.{rules}
use Rattle.calendar.proofs.Questions.{number_range}
use Rattle.ordered.proofs.Counts.{number_fits}
use Rattle.ordered.proofs.ordered_day_number.Goals as goal

pub returns : goal.returns
returns c = let said = c.from.ensures (number_fits _ c.number_of.ensures (λ n e. omega (arith, number_range _ n e))) in
    search rules
