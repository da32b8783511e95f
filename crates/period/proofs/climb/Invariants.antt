-- `period::climb` meets its contract: at each turn around the counts no step before it is wide enough, and `unit` is that
-- turn's. Assumes nothing.
use Prim.Native.Nat.{◌-◌, ◌/◌}
use Rattle.period.specs.Ladders.{ladder}
use Rattle.period.proofs.Climbing.{Climbed}
use Rattle.period.proofs.climb.Given as goal

abbrev pub invariant-loop-i : goal.invariant-loop-i
invariant-loop-i l = Climbed l.span l.n (ladder l.l.unit l.l.base l.l.counts.now) l.unit (l.span / l.unit) l.tested 0 l.tested

abbrev pub decreases-loop-i : goal.decreases-loop-i
decreases-loop-i l = 16 - l.tested
