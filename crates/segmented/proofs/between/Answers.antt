-- `segmented::between` meets its contract. Assumes nothing.
use borrow.Author.Rules.{rules}
use mathlib.Core.Path.{◌≡◌, sym, ◌∙◌, ap}
use mathlib.Core.Bool.{true, ◌&&◌, ◌||◌}
use lib.IntN.{ℤ, ◌+ℤ◌}
use mir.Syntax.{w64}
use mir.Val.{SFits, to_z, of_z}
use mir.Facts.{to_z-of_z}
use Rattle.std.specs.Prelude.{Ok, Err}
use Rattle.std.proofs.lemmas.Result.{err_from_is_err_and}
use Rattle.asking.specs.declared.Refusal.TheVariants as refusal
use Rattle.axis.specs.Questions.{fits_i32}
use Rattle.segmented.specs.Segments.{half, even}
use Rattle.segmented.proofs.Pixels.{asked_yes, asked_no, sum_fits, between_sum, between_is}
use Rattle.segmented.proofs.between.Goals as goal
use Rattle.segmented.proofs.between.Goals.{After-fits_i32-3, In_ok-ask, In_ok-ask-2, Start}

left_ok : (c : Start) → SFits w64 c.args.left.pixel
left_ok c = search rules

right_ok : (c : Start) → SFits w64 c.args.right.pixel
right_ok c = search rules

left_true : (c : In_ok-ask) → fits_i32 c.args.left.pixel ≡ true
left_true c =
    ap fits_i32 (sym (to_z-of_z (left_ok (goal.at.In_ok-ask c).Start))) ∙ sym c.fits_i32.ensures
    ∙ asked_yes refusal.Range c.fits_i32.result tt tt c.in_ok-ask.ensures

right_true : (c : In_ok-ask-2) → fits_i32 c.args.right.pixel ≡ true
right_true c =
    ap fits_i32 (sym (to_z-of_z (right_ok (goal.at.In_ok-ask-2 c).Start))) ∙ sym c.fits_i32-2.ensures
    ∙ asked_yes refusal.Range c.fits_i32-2.result tt tt c.in_ok-ask-2.ensures

-- the sum, read back
sum_read : (c : In_ok-ask-2) → let x = c.args in
    to_z w64 (of_z w64 (to_z w64 (of_z w64 x.left.pixel) +ℤ to_z w64 (of_z w64 x.right.pixel))) ≡ x.left.pixel +ℤ x.right.pixel
sum_read c = let x = c.args in
    let p = goal.at.In_ok-ask-2 c in
    ap (λ (z : ℤ). to_z w64 (of_z w64 z)) (λ i. to_z-of_z (left_ok p.Start) i +ℤ to_z-of_z (right_ok p.Start) i)
    ∙ to_z-of_z (sum_fits x.left.pixel x.right.pixel (left_true p.In_ok-ask) (right_true c))

both_fit : (c : After-fits_i32-3) → c.fits_i32-3.result ≡ fits_i32 (c.args.left.pixel +ℤ c.args.right.pixel)
both_fit c = c.fits_i32-3.ensures ∙ ap fits_i32 (sum_read (goal.at.After-fits_i32-3 c).In_ok-ask-2)

pub returns-in_err-ask-3 : goal.returns-in_err-ask-3
returns-in_err-ask-3 c = let x = c.args in
    let p = err_from_is_err_and c.from_residual-in_err-ask-3.result c.from_residual-in_err-ask-3.ensures.1 in
    let no = asked_no refusal.Range _ c.fits_i32-3.result tt c.in_err-ask-3.ensures in
    rw (p.1, p.2) (ap Err no.1
    ∙ between_sum x.left x.right (sym (both_fit (goal.at.returns-in_err-ask-3 c).After-fits_i32-3) ∙ no.0))

pub returns : goal.returns
returns c = let x = c.args in
    let p = goal.at.returns c in
    let sum = sum_read p.In_ok-ask-2 in
    (λ i. Ok (record {
      pixel = (to_z-of_z {w = w64} {z = c.half.result} (search rules) ∙ c.half.ensures ∙ ap half sum) i;
      exact = (x.left.exact && x.right.exact) && (c.even.ensures ∙ ap even sum) i;
      lost = x.left.lost || x.right.lost;
    }))
    ∙ between_is x.left x.right (left_true p.In_ok-ask) (right_true p.In_ok-ask-2)
    (sym (both_fit p.After-fits_i32-3) ∙ asked_yes refusal.Range c.fits_i32-3.result tt tt c.in_ok-ask-3.ensures)
