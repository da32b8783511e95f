-- `mapping::Scale::map_by` meets its contract: the questions of the value, and question 10 of the pixel. Assumes nothing.
use mathlib.Core.Path.{◌≡◌, refl, sym, ◌∙◌, ap}
use mathlib.Core.List.{[], ◌∷◌}
use lib.IntN.{ℤ}
use Rattle.std.specs.Prelude.{Ok}
use Rattle.std.proofs.lemmas.Result.{err_from_is_err_and}
use Rattle.asking.specs.Asking.{ask, asked}
use Rattle.asking.specs.declared.Refusal.TheVariants as refusal
use Rattle.asking.proofs.Asked.{all_pass}
use Rattle.values.specs.declared.Value.{Value}
use Rattle.axis.specs.declared.Axis.{Axis}
use Rattle.axis.specs.declared.Limits.{Limits}
use Rattle.axis.specs.Questions.{fits_i32}
use Rattle.mapping.specs.declared.Hairline.{Hairline}
use Rattle.mapping.specs.Mapping.{map_value_questions, placed, hairline}
use Rattle.mapping.proofs.Answers.{value_refused, range_asked}
use Rattle.mapping.proofs.Scale.map_by.Goals as goal

pub returns-in_err-ask_value : goal.returns-in_err-ask_value
returns-in_err-ask_value c = let x = c.args in
    let a = x.self.axis in
    let l = x.self.limits in
    let p = err_from_is_err_and c.from_residual.result c.from_residual.ensures.1 in
    rw (p.1, p.2) (value_refused a l x.v _ tt (sym c.in_err-ask_value.ensures))

placed_as : (a : Axis) (l : Limits) (v : Value) (h : Hairline) → h ≡ hairline a l v → h.pixel ≡ placed a l v
unfolding hairline
placed_as a l v h e = ap (λ (k : Hairline). k.pixel) e

pub returns : goal.returns
returns c = let x = c.args in
    let a = x.self.axis in
    let l = x.self.limits in
    let e = c.pixel_by.ensures in
    c.asked.ensures ∙ ap (λ (h : Hairline). asked (ask refusal.Range (fits_i32 h.pixel) ∷ []) (Ok h)) e
    ∙ ap (λ (p : ℤ). asked (ask refusal.Range (fits_i32 p) ∷ []) (Ok (hairline a l x.v))) (placed_as a l x.v _ refl)
    ∙ range_asked a l x.v (all_pass (map_value_questions a x.v) tt (sym c.in_ok-ask_value.ensures))
