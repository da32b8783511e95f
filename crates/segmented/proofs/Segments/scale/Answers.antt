-- `segmented::Segments::scale` meets its contract. Assumes nothing.
use mathlib.Core.Path.{◌≡◌, sym, subst}
use mathlib.Core.Bool.{true}
use Rattle.axis.specs.declared.Limits.{Limits}
use Rattle.axis.specs.Questions.{pixels}
use Rattle.segmented.proofs.Margins.{inner_pixels}
use Rattle.segmented.proofs.Segments.scale.Goals as goal

pub scale_of-requires : goal.scale_of-requires
scale_of-requires c = (
  c.args.self.real,
  subst (λ (l : Limits). pixels l ≡ true) (sym c.inner.ensures)
      (inner_pixels c.args.self.size c.args.self.limits c.args.self.some c.args.self.page),
)
