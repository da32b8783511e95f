-- `axis::day_ends` meets its contract. Assumes nothing.
use borrow.Author.Rules.{rules}
use mir.Syntax.{w64}
use mir.Facts.{to_z-of_z}
use Rattle.values.proofs.Values.{InRange}
use Rattle.axis.proofs.UsualAxes.{day_ends_law}
use Rattle.axis.proofs.day_ends.Goals as goal
use Rattle.axis.proofs.day_ends.Goals.{Start}

start_range : (c : Start) → InRange c.args.a.start
start_range c = search rules

end_range : (c : Start) → InRange c.args.a.end
end_range c = search rules

pub returns : goal.returns
returns c = rw (
  c.is_day.ensures,
  c.is_day-2.ensures,
  to_z-of_z (start_range (goal.at.returns c).Start).head,
  to_z-of_z (end_range (goal.at.returns c).Start).head,
  to_z-of_z (start_range (goal.at.returns c).Start).tail,
  to_z-of_z (end_range (goal.at.returns c).Start).tail,
  to_z-of_z {w = w64} {z = c.tail_most-most.result} (search rules),
  c.tail_most-most.ensures,
) (day_ends_law c.args.a c.requires.0 c.requires.1)
