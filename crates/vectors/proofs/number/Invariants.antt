-- Fifteen digits fit.
use Rattle.std.proofs.Common.{◌<◌}
use Rattle.vectors.proofs.number.Given as goal

abbrev pub invariant-loop-b : goal.invariant-loop-b
invariant-loop-b l = l.value < 1000000000000000
