-- `axis::near_zero` meets its contract. Assumes nothing.
use borrow.Author.Rules.{rules}
use mathlib.Core.Path.{◌∙◌}
use lib.IntN.{pos}
use mir.Facts.{to_z-of_z}
use Rattle.values.proofs.Order.{less_or_same}
use Rattle.values.proofs.Values.{InRange}
use Rattle.axis.proofs.Questions.{near_by_seconds}
use Rattle.axis.proofs.near_zero.Goals as goal
use Rattle.axis.proofs.near_zero.Goals.{Start}

in_range_law : (c : Start) → InRange c.args.v
in_range_law c = search rules

pub returns : goal.returns
returns c = let v = c.args.v in
    rw (
      to_z-of_z (in_range_law (goal.at.returns c).Start).head,
      c.le.ensures ∙ less_or_same v (record { head = pos 4000000000; tail = pos 0 }),
    ) (near_by_seconds v c.requires)
