-- `vectors::read_full`: what was read lies within the buffer.
use Rattle.std.proofs.Common.{◌≤◌, length}
use Rattle.vectors.proofs.read_full.Given as goal

abbrev pub invariant-loop : goal.invariant-loop
invariant-loop g l = l.len ≤ length l.buf
