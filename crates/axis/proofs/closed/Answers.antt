-- `axis::closed` meets its contract. Assumes nothing.
use borrow.Author.Rules.{rules}
use mathlib.Core.Path.{◌≡◌, refl}
use mathlib.Core.Bool.{Bool, true, false, not, true≢false}
use mir.Facts.{to_z-of_z}
use Rattle.values.proofs.Values.{InRange}
use Rattle.axis.proofs.ClosedAxes.{kept, shortened, end_fits}
use Rattle.axis.proofs.closed.Goals as goal
use Rattle.axis.proofs.closed.Goals.{Start}

end_range : (c : Start) → InRange c.args.a.end
end_range c = search rules

excluded : (b : Bool) → not b ≡ false → b ≡ true
excluded true e = refl
excluded false e = absurd (true≢false e)

pub returns-then-not-a : goal.returns-then-not-a
returns-then-not-a c = kept c.args.a (search rules)

pub overflow_sub-result : goal.overflow_sub-result
overflow_sub-result c = rw (to_z-of_z (end_range (goal.at.overflow_sub-result c).Start).head) (end_fits c.args.a c.requires)

pub returns : goal.returns
returns c = rw (
  to_z-of_z (end_range (goal.at.returns c).Start).head,
  to_z-of_z (end_fits c.args.a c.requires),
  to_z-of_z (end_range (goal.at.returns c).Start).tail,
) (shortened c.args.a (excluded c.args.a.end_excluded c.if-not-a.false))
