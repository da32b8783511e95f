-- `weeks::has_week` meets its contract: a year has 52 weeks or 53. Assumes nothing.
use native.Mathlib.Omega.{arith}
use mathlib.Core.Path.{sym, ◌∙◌}
use Rattle.weeks.specs.Weeks.{weeks_of}
use borrow.Author.Tests.{le-leb}
use Rattle.weeks.proofs.Weeks.{weeks_range}
use Rattle.weeks.proofs.has_week.Goals as goal

pub returns-then-w-le52 : goal.returns-then-w-le52
returns-then-w-le52 c = let k = weeks_range c.args.y c.requires.0 in
    le-leb c.args.w 52 c.if-w-le52.true ∙ sym (le-leb c.args.w (weeks_of c.args.y) (omega arith))
