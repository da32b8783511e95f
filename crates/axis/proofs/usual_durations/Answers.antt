-- `axis::usual_durations` meets its contract. Assumes nothing.
use borrow.Author.Rules.{rules}
use mir.Facts.{to_z-of_z}
use Rattle.values.proofs.Values.{InRange}
use Rattle.axis.proofs.UsualAxes.{spans_usual}
use Rattle.axis.proofs.usual_durations.Goals as goal
use Rattle.axis.proofs.usual_durations.Goals.{Start}

start_range : (c : Start) → InRange c.args.a.start
start_range c = search rules

end_range : (c : Start) → InRange c.args.a.end
end_range c = search rules

pub returns : goal.returns
returns c t d = spans_usual c.args.a d
    (rw (
      c.in_order.ensures,
      to_z-of_z (start_range (goal.at.returns c).Start).head,
      to_z-of_z (end_range (goal.at.returns c).Start).head,
      to_z-of_z (start_range (goal.at.returns c).Start).tail,
      to_z-of_z (end_range (goal.at.returns c).Start).tail,
    ) at t)
