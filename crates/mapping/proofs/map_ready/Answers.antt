-- `mapping::map_ready` meets its contract. Assumes nothing.
use mathlib.Core.Path.{◌≡◌, sym, ◌∙◌, ap}
use Rattle.std.specs.Prelude.{Result, Ok}
use Rattle.std.proofs.lemmas.Result.{err_from_is_err_and}
use Rattle.asking.specs.Asking.{and_then}
use Rattle.asking.specs.declared.Refusal.{Refusal}
use Rattle.asking.proofs.Asked.{answered_ok}
use Rattle.axis.specs.declared.Axis.{Axis}
use Rattle.axis.specs.declared.Limits.{Limits}
use Rattle.mapping.specs.declared.Scale.{Scale}
use Rattle.mapping.specs.Mapping.{scale_questions, mapped_by}
use Rattle.mapping.proofs.Answers.{scale_refused, by_scale}
use Rattle.mapping.proofs.map_ready.Goals as goal

-- what was asked once, by the axis and the limits
abbrev both : Result Scale Refusal → Result (Axis × Limits) Refusal
both m = and_then m (λ s. Ok (s.axis, s.limits))

pub returns-in_err-m : goal.returns-in_err-m
returns-in_err-m c = λ a l ready. let p = err_from_is_err_and c.from_residual.result c.from_residual.ensures.1 in
    rw (p.1, p.2) (scale_refused a l c.args.v (a, l) _ (sym ready ∙ ap both c.in_err-m.was))

-- what was asked passed, and the scale is that of the axis and the limits
pub returns : goal.returns
returns c = λ a l ready.
    let s = c.in_ok-m.field-0 in
    let (none, is) = answered_ok (scale_questions a l) (Ok (a, l)) (s.axis, s.limits) (sym ready ∙ ap both c.in_ok-m.was) in
    let mine : Axis × Limits = (a, l) in
    let its : Axis × Limits = (s.axis, s.limits) in
    let same : mine ≡ its = cc in
    c.map_by.ensures
    ∙ ap (λ (y : Axis × Limits). mapped_by y.0 y.1 c.args.v) (sym same)
    ∙ by_scale a l c.args.v none
