-- `segmented::index_in` meets its contract. Assumes nothing.
use mathlib.Core.Logic.{inl, inr}
use mathlib.Core.Path.{sym, ◌∙◌, ap}
use Rattle.std.specs.Prelude.{Some}
use Rattle.segmented.specs.Answers.{segment_index_in}
use Rattle.segmented.proofs.index_in.Goals as goal

pub returns-in-Exact : goal.returns-in-Exact
unfolding segment_index_in
returns-in-Exact c = c.index_in.ensures ∙ elim c.in-Exact.is [
  | inl e ↦ ap (segment_index_in c.args.d.axis) (sym e)
  | inr e ↦ ap (segment_index_in c.args.d.axis) (sym e)
]

pub returns-in-Last : goal.returns-in-Last
unfolding segment_index_in
returns-in-Last c = ap Some c.size_of.ensures ∙ ap (segment_index_in c.args.d.axis) (sym c.in-Last.is)
