-- Each row counts for one at most, and has a byte.
use Rattle.std.proofs.Common.{length, ◌+◌, ◌≤◌}
use Rattle.vectors.proofs.compare.Given as goal

abbrev pub invariant-loop-rest : goal.invariant-loop-rest
invariant-loop-rest l =
    let most = length l.text in
    (l.all.dates + length l.rest ≤ most) × ((l.all.days + length l.rest ≤ most) × (l.all.differ + length l.rest ≤ most))

abbrev pub decreases-loop-rest : goal.decreases-loop-rest
decreases-loop-rest l = length l.rest
