-- `axis::mappable` meets its contract. Assumes nothing.
use borrow.Author.Rules.{rules}
use mathlib.Core.Path.{◌∙◌}
use mir.Facts.{to_z-of_z}
use Rattle.values.proofs.Values.{InRange}
use Rattle.values.specs.Values.{earlier}
use Rattle.values.proofs.Order.{less_is_earlier, same_is_equal}
use Rattle.axis.specs.Questions.{mappable}
use Rattle.axis.proofs.mappable.Goals as goal
use Rattle.axis.proofs.mappable.Goals.{Start}

start_range : (c : Start) → InRange c.args.a.start
start_range c = search rules

end_range : (c : Start) → InRange c.args.a.end
end_range c = search rules

pub returns-then-a : goal.returns-then-a
unfolding mappable earlier
returns-then-a c =
    rw (rw (
      to_z-of_z (start_range (goal.at.returns-then-a c).Start).head,
      to_z-of_z (end_range (goal.at.returns-then-a c).Start).head,
    ) at c.if-a.true)

pub returns : goal.returns
unfolding mappable
returns c = let a = c.args.a in
    rw (
      c.lt.ensures ∙ less_is_earlier a.start a.end,
      c.eq.ensures ∙ same_is_equal c.args.v a.start,
    )
