-- Turns read some of what is left of the chunk.
use Rattle.std.proofs.Common.{length}
use Rattle.plate.proofs.eat.Given as goal

abbrev pub decreases-loop-rest : goal.decreases-loop-rest
decreases-loop-rest g l = length l.rest
