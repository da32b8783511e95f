-- `segmented::segment_mappable` meets its contract. Assumes nothing.
use mathlib.Core.Logic.{inl, inr}
use mathlib.Core.Path.{sym, ◌∙◌, ap}
use mathlib.Core.Bool.{◌&&◌}
use lib.Dec.{ltb}
use Rattle.segmented.specs.Segments.{segment_mappable}
use Rattle.segmented.proofs.segment_mappable.Goals as goal

pub returns-in-Exact : goal.returns-in-Exact
unfolding segment_mappable
returns-in-Exact c = (λ i. ltb 0 (c.requires i) && c.mappable.ensures i) ∙ elim c.in-Exact.is [
  | inl e ↦ ap (segment_mappable c.args.a) (sym e)
  | inr e ↦ ap (segment_mappable c.args.a) (sym e)
]

pub returns-in-Last : goal.returns-in-Last
unfolding segment_mappable
returns-in-Last c = ap (ltb 0) c.requires ∙ ap (segment_mappable c.args.a) (sym c.in-Last.is)
