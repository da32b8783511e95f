-- `ordered::ordered_size` meets its contract. Assumes nothing.
use native.Mathlib.Omega.{arith}
use Rattle.std.proofs.Common.{rules}
use Rattle.discrete.specs.Answers.{size_answer}
use Rattle.discrete.proofs.Laws.{size_range}
use Rattle.ordered.proofs.Counts.{number_on}
use Rattle.ordered.proofs.ordered_size.Goals as goal

pub returns : goal.returns
returns c = let said = number_on (size_answer c.axis_of-a.result) c.from.ensures (λ n p. omega (arith, size_range _ n p))
    (search rules) in
    search rules
