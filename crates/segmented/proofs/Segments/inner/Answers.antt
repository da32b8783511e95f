-- `segmented::Segments::inner` meets its contract. Assumes nothing.
use borrow.Author.Rules.{rules}
use mathlib.Core.Path.{◌≡◌, sym, ◌∙◌, ap, subst}
use lib.IntN.{ℤ, ◌-ℤ◌}
use mir.Syntax.{w64}
use mir.Val.{SFits, to_z, of_z}
use mir.Facts.{to_z-of_z}
use Rattle.segmented.specs.Segments.{margin_of, inner}
use Rattle.segmented.proofs.Margins.{inner_fits}
use Rattle.segmented.proofs.Segments.inner.Goals as goal
use Rattle.segmented.proofs.Segments.inner.Goals.{After-margin_of, Start}

low_fits : (s : Start) → SFits w64 s.args.self.limits.low
low_fits s = search rules

high_fits : (s : Start) → SFits w64 s.args.self.limits.high
high_fits s = search rules

high_is : (c : After-margin_of) → to_z w64 (of_z w64 c.args.self.limits.high) -ℤ to_z w64 (of_z w64 c.margin_of.result)
    ≡ c.args.self.limits.high -ℤ margin_of c.args.self.size c.args.self.limits
high_is c =
    λ i. to_z-of_z (high_fits (goal.at.After-margin_of c).Start) i -ℤ (to_z-of_z {w = w64} {z = c.margin_of.result} (search rules)
    ∙ c.margin_of.ensures) i

fits : (c : After-margin_of) → SFits w64 (c.args.self.limits.high -ℤ margin_of c.args.self.size c.args.self.limits)
fits c = inner_fits c.args.self.size c.args.self.limits c.args.self.some c.args.self.page

pub overflow_sub-result : goal.overflow_sub-result
overflow_sub-result c =
    subst (SFits w64) (sym (high_is (goal.at.overflow_sub-result c).After-margin_of))
    (fits (goal.at.overflow_sub-result c).After-margin_of)

pub returns : goal.returns
unfolding inner
returns c = λ i. record {
  low = to_z-of_z (low_fits (goal.at.returns c).Start) i;
  high =
      (ap (λ (z : ℤ). to_z w64 (of_z w64 z)) (high_is (goal.at.returns c).After-margin_of) ∙ to_z-of_z
      (fits (goal.at.returns c).After-margin_of)) i;
}
