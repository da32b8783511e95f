-- `segmented::beside` meets its contract. Assumes nothing.
use borrow.Author.Rules.{rules}
use mathlib.Core.Path.{◌≡◌, sym, ◌∙◌, ap}
use mathlib.Core.Bool.{true, ◌&&◌}
use lib.IntN.{ℤ, ◌+ℤ◌}
use mir.Syntax.{w64}
use mir.Val.{SFits, to_z, of_z}
use mir.Facts.{to_z-of_z}
use Rattle.asking.specs.declared.Refusal.TheVariants as refusal
use Rattle.axis.specs.Questions.{fits_i32}
use Rattle.segmented.specs.Segments.{half, even, alone, pixel_checked}
use Rattle.segmented.proofs.Pixels.{asked_yes, half_sum_fits, beside_is}
use Rattle.segmented.proofs.beside.Goals as goal
use Rattle.segmented.proofs.beside.Goals.{After-half, In_ok-ask, Start}

left_ok : (c : Start) → SFits w64 c.args.left.pixel
left_ok c = search rules

left_true : (c : In_ok-ask) → fits_i32 c.args.left.pixel ≡ true
left_true c =
    ap fits_i32 (sym (to_z-of_z (left_ok (goal.at.In_ok-ask c).Start))) ∙ sym c.fits_i32.ensures
    ∙ asked_yes refusal.Range c.fits_i32.result tt tt c.in_ok-ask.ensures

abbrev start : After-half → Start
start c = (goal.at.After-half c).Start

half_is : (c : After-half) → to_z w64 (of_z w64 c.half.result) ≡ half (start c).args.margin
half_is c = to_z-of_z {w = w64} {z = c.half.result} (search rules) ∙ c.half.ensures ∙ ap half (to_z-of_z (start c).ranges.margin)

sum_is : (c : After-half) → to_z w64 (of_z w64 (start c).args.left.pixel) +ℤ to_z w64 (of_z w64 c.half.result)
    ≡ (start c).args.left.pixel +ℤ half (start c).args.margin
sum_is c = λ i. to_z-of_z (left_ok (start c)) i +ℤ half_is c i

sum_fits : (c : After-half) → SFits w64 ((start c).args.left.pixel +ℤ half (start c).args.margin)
sum_fits c = let s = start c in
    half_sum_fits s.args.left.pixel s.args.margin (left_true (goal.at.After-half c).In_ok-ask) s.ranges.margin

pub returns : goal.returns
returns c = let s = start (goal.at.returns c).After-half in
    let x = s.args in
    c.asked.ensures
    ∙ (λ i. pixel_checked (alone (record {
      pixel =
          (ap (λ (z : ℤ). to_z w64 (of_z w64 z)) (sum_is (goal.at.returns c).After-half) ∙ to_z-of_z
          (sum_fits (goal.at.returns c).After-half)) i;
      exact = x.left.exact && (c.even.ensures ∙ ap even (to_z-of_z s.ranges.margin)) i;
      lost = x.left.lost;
    })))
    ∙ beside_is x.left x.margin (left_true (goal.at.returns c).In_ok-ask)
