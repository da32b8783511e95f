-- `counting::DateAxis::from_day` meets its contract. Assumes nothing.
use borrow.Author.Rules.{rules}
use native.Mathlib.Omega.{arith}
use mathlib.Core.Path.{◌≡◌, ◌∙◌, ap}
use lib.IntN.{pos}
use mir.Syntax.{w64}
use mir.Val.{SFits}
use mir.Facts.{to_z-of_z}
use Rattle.laws.specs.Numbers.{pos_part}
use Rattle.laws.proofs.Signed.{is_ge}
use Rattle.counting.specs.Counting.{from_day}
use Rattle.counting.proofs.Counting.{starts}
use Rattle.counting.proofs.DateAxis.from_day.Goals as goal
use Rattle.counting.proofs.DateAxis.from_day.Goals.{After-as_count, Start}

tail_fits : (c : Start) → SFits w64 c.args.self.axis.start.tail
tail_fits c = search rules

tail : (c : After-as_count) → c.as_count.result ≡ pos_part c.args.self.axis.start.tail
tail c = c.as_count.ensures ∙ ap pos_part (to_z-of_z (tail_fits (goal.at.After-as_count c).Start))

pub as_count-requires : goal.as_count-requires
as_count-requires c = let v = starts c.args.self.axis c.args.self.dated in
    rw (to_z-of_z (tail_fits (goal.at.as_count-requires c).Start)) (is_ge c.args.self.axis.start.tail (pos 0) (omega arith))

pub date_ceil-requires : goal.date_ceil-requires
date_ceil-requires c = let v = starts c.args.self.axis c.args.self.dated in
    omega (arith, c.start_day.ensures)

pub returns : goal.returns
unfolding from_day
returns c = c.date_ceil.ensures ∙ rw (c.start_day.ensures, tail (goal.at.returns c).After-as_count)
