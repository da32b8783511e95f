-- `ordered::ordered_segment_size` meets its contract. Assumes nothing.
use native.Mathlib.Omega.{arith}
use Rattle.std.proofs.Common.{rules}
use Rattle.segmented.specs.Answers.{segment_size_answer}
use Rattle.segmented.proofs.Answers.{segment_size_range}
use Rattle.ordered.proofs.Counts.{number_on}
use Rattle.ordered.proofs.ordered_segment_size.Goals as goal

pub returns : goal.returns
returns c = let said = number_on (segment_size_answer c.axis_of-a.result) c.from.ensures
    (λ n p. omega (arith, segment_size_range _ n p))
    (search rules) in
    search rules
