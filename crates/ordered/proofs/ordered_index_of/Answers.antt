-- `ordered::ordered_index_of` meets its contract. Assumes nothing.
use native.Mathlib.Omega.{arith}
use Rattle.std.proofs.Common.{rules}
use Rattle.values.specs.declared.Value.{Value}
use Rattle.discrete.specs.Answers.{index_answer}
use Rattle.discrete.proofs.Laws.{index_most}
use Rattle.ordered.specs.Replies.{index_reply}
use Rattle.ordered.proofs.Counts.{index_on}
use Rattle.ordered.proofs.ordered_index_of.Goals as goal

pub returns : goal.returns
returns c = let v : Value = record { head = c.args.head; tail = c.args.tail } in
    let said = index_on index_reply (index_answer c.axis_of-a.result v) c.from.ensures
    (λ n p. omega (arith, index_most _ v n p))
    (search rules) in
    search rules
