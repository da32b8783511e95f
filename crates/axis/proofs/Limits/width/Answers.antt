-- `axis::Limits::width` meets its contract. Assumes nothing.
use borrow.Author.Rules.{rules}
use mir.Syntax.{w64}
use mir.Val.{SFits}
use mir.Facts.{to_z-of_z}
use Rattle.laws.proofs.Signed.{read_sub}
use Rattle.axis.proofs.PixelRanges.{limits_are, between_fits}
use Rattle.axis.proofs.Limits.width.Goals as goal
use Rattle.axis.proofs.Limits.width.Goals.{Start}

low_fits : (c : Start) → SFits w64 c.args.self.low
low_fits c = search rules

high_fits : (c : Start) → SFits w64 c.args.self.high
high_fits c = search rules

pub overflow_sub-result : goal.overflow_sub-result
overflow_sub-result c = let (l, h) = limits_are c.args.self c.requires in
    let s = (goal.at.overflow_sub-result c).Start in
    rw (to_z-of_z (high_fits s), to_z-of_z (low_fits s)) (between_fits c.args.self.high c.args.self.low h l)

pub returns : goal.returns
returns c = let (l, h) = limits_are c.args.self c.requires in
    let s = (goal.at.returns c).Start in
    read_sub c.args.self.high c.args.self.low (high_fits s) (low_fits s) (between_fits c.args.self.high c.args.self.low h l)
