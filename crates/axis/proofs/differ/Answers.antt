-- `axis::differ` meets its contract. Assumes nothing.
use borrow.Author.Rules.{rules}
use mathlib.Core.Path.{◌∙◌, ap}
use mathlib.Core.Bool.{not}
use mir.Syntax.{w64}
use mir.Val.{SFits}
use Rattle.values.proofs.Order.{tested_equal, apart}
use Rattle.axis.specs.Questions.{differ}
use Rattle.axis.proofs.differ.Goals as goal
use Rattle.axis.proofs.differ.Goals.{Start}

low_fits : (c : Start) → SFits w64 c.args.l.low
low_fits c = search rules

high_fits : (c : Start) → SFits w64 c.args.l.high
high_fits c = search rules

pub returns : goal.returns
unfolding differ
returns c = let l = c.args.l in
    ap not (tested_equal l.low l.high (low_fits (goal.at.returns c).Start) (high_fits (goal.at.returns c).Start))
    ∙ apart l.low l.high
