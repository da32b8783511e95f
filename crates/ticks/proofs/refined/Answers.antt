-- `ticks::refined` meets its contract: the finer axis is accepted too. Assumes nothing.
use Rattle.ticks.proofs.Hints.{has_finer, finer_accepted}
use Rattle.ticks.proofs.refined.Goals as goal

pub invariant_of-result : goal.invariant_of-result
invariant_of-result c = let a = c.args.q.axis in
    let (e, k) = has_finer a c.in-Some.ensures in
    record { accepted = rw k (finer_accepted a e c.args.q.n c.args.q.accepted) }
