-- `axis::offset_days` meets its contract. Assumes nothing.
use borrow.Author.Rules.{rules}
use mathlib.Core.Path.{◌∙◌}
use mir.Syntax.{w64}
use mir.Facts.{to_z-of_z}
use Rattle.axis.specs.Axes.{offset_of}
use Rattle.axis.proofs.Axes.{with_value}
use Rattle.axis.proofs.offset_days.Goals as goal

pub whole_days_between-requires : goal.whole_days_between-requires
whole_days_between-requires c = with_value c.args.a c.requires.0 c.args.v c.requires.1

pub returns : goal.returns
unfolding offset_of
returns c = to_z-of_z {w = w64} {z = c.whole_days_between.result} (search rules) ∙ c.whole_days_between.ensures
