-- `axis::span_days` meets its contract. Assumes nothing.
use borrow.Author.Rules.{rules}
use mathlib.Core.Path.{◌∙◌}
use mir.Syntax.{w64}
use mir.Facts.{to_z-of_z}
use Rattle.axis.specs.Axes.{span_of}
use Rattle.axis.proofs.Axes.{both_ends}
use Rattle.axis.proofs.span_days.Goals as goal

pub whole_days_between-requires : goal.whole_days_between-requires
whole_days_between-requires c = both_ends c.args.a c.requires

pub returns : goal.returns
unfolding span_of
returns c = to_z-of_z {w = w64} {z = c.whole_days_between.result} (search rules) ∙ c.whole_days_between.ensures
