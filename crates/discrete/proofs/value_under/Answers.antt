-- `discrete::value_under` meets its contract: kind 4 by unmap_coord, the others by their index. Assumes nothing.
use mathlib.Core.Path.{◌≡◌, refl, ◌∙◌, ap}
use mathlib.Core.Bool.{false}
use lib.IntN.{ℤ}
use mir.Facts.{to_z-of_z}
use Rattle.values.specs.declared.Kind.{Kind}
use Rattle.values.specs.declared.Kind.TheVariants as kind
use Rattle.values.specs.Values.{is_stamp}
use Rattle.axis.specs.Questions.{checked}
use Rattle.unmapping.specs.Unmapping.{unmap_coord}
use Rattle.discrete.specs.Indices.{value_at, index_under}
use Rattle.discrete.specs.Answers.{value_under}
use Rattle.discrete.proofs.value_under.Goals as goal

others : (k : Kind) → (k ≡ kind.Stamp → ⊥) → is_stamp k ≡ false
others kind.Stamp n = absurd (n refl)
others kind.Date n = refl
others kind.Month n = refl
others kind.Year n = refl
others kind.StampMonth n = refl
others kind.StampYear n = refl
others kind.Span n = refl
others kind.Week n = refl
others kind.Unknown n = refl

pub returns-in-Stamp : goal.returns-in-Stamp
unfolding value_under
returns-in-Stamp c = let x = c.args in
    c.unmap_coord.ensures ∙ ap (λ (z : ℤ). checked (unmap_coord x.a x.l z)) (to_z-of_z c.ranges.p) ∙ rw c.in-Stamp.is refl

pub returns-in_default : goal.returns-in_default
unfolding value_under
returns-in_default c = let x = c.args in
    c.unmap_in.ensures ∙ ap (λ (z : ℤ). checked (value_at x.a (index_under x.a x.l z))) (to_z-of_z c.ranges.p)
    ∙ rw (others x.a.kind c.in_default.not-Stamp) refl
