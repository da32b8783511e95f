-- `axis::in_order` meets its contract. Assumes nothing.
use borrow.Author.Rules.{rules}
use mathlib.Core.Path.{◌≡◌, ◌∙◌}
use mathlib.Core.Bool.{false}
use lib.Signed.{lt_z}
use mir.Facts.{to_z-of_z}
use Rattle.values.proofs.Values.{InRange}
use Rattle.values.proofs.Order.{less_or_same}
use Rattle.axis.proofs.Questions.{heads_apart, heads_not_apart}
use Rattle.axis.proofs.in_order.Goals as goal
use Rattle.axis.proofs.in_order.Goals.{Start}

start_range : (c : Start) → InRange c.args.a.start
start_range c = search rules

end_range : (c : Start) → InRange c.args.a.end
end_range c = search rules

pub returns-then-a : goal.returns-then-a
returns-then-a c =
    heads_apart c.args.a (rw (
      to_z-of_z (start_range (goal.at.returns-then-a c).Start).head,
      to_z-of_z (end_range (goal.at.returns-then-a c).Start).head,
    ) at c.if-a.true)

pub returns : goal.returns
returns c = let a = c.args.a in
    let e : lt_z a.start.head a.end.head ≡ false =
    rw (
      to_z-of_z (start_range (goal.at.returns c).Start).head,
      to_z-of_z (end_range (goal.at.returns c).Start).head,
    ) at c.if-a.false in
    c.le.ensures
    ∙ rw (less_or_same a.start a.end, e) (heads_not_apart a e)
