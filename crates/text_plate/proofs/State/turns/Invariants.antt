-- `text_plate::State::turns` meets its contract: the turns so far are one turn over the chunk, once there is one.
use lib.ListN.{length}
use Rattle.text_plate.proofs.Output.{Going}
use Rattle.text_plate.proofs.State.turns.Given as goal

abbrev pub invariant-loop-printer : goal.invariant-loop-printer
invariant-loop-printer g l = Going l.fn.self l.chunk l.rest l.self l.fn.printer.out l.printer.out

abbrev pub decreases-loop-printer : goal.decreases-loop-printer
decreases-loop-printer g l = length l.rest
