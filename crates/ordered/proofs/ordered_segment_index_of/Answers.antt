-- `ordered::ordered_segment_index_of` meets its contract. Assumes nothing.
use native.Mathlib.Omega.{arith}
use Rattle.std.proofs.Common.{rules}
use Rattle.segmented.specs.declared.Segment.{Segment}
use Rattle.segmented.specs.Answers.{segment_index_answer}
use Rattle.segmented.proofs.Answers.{segment_index_range}
use Rattle.ordered.specs.Replies.{index_reply}
use Rattle.ordered.proofs.Counts.{index_on}
use Rattle.ordered.proofs.ordered_segment_index_of.Goals as goal

pub returns : goal.returns
returns c = let s : Segment = record { case = c.args.segment; head = c.args.head; tail = c.args.tail } in
    let said = index_on index_reply (segment_index_answer c.axis_of-a.result s) c.from.ensures
    (λ n p. omega (arith, segment_index_range _ s n p))
    (search rules) in
    search rules
