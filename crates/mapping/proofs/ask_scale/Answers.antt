-- `mapping::ask_scale` meets its contract: a refusal of the axis stands. Assumes nothing.
use mathlib.Core.Path.{sym}
use mathlib.Core.List.{[], ◌∷◌}
use Rattle.std.specs.Prelude.{true, Ok}
use Rattle.std.proofs.lemmas.Result.{err_from_is_err_and}
use Rattle.asking.specs.Asking.{ask}
use Rattle.asking.specs.declared.Refusal.TheVariants as refusal
use Rattle.asking.proofs.Asked.{refused_first}
use Rattle.axis.specs.Questions.{pixels, axis_questions}
use Rattle.mapping.proofs.ask_scale.Goals as goal

pub returns-in_err-ask_axis : goal.returns-in_err-ask_axis
returns-in_err-ask_axis c = let x = c.args in
    let p = err_from_is_err_and c.from_residual.result c.from_residual.ensures.1 in
    rw (p.1, p.2) (refused_first (axis_questions true x.a) (ask refusal.Limits (pixels x.l) ∷ []) tt (Ok tt) _
    (sym c.in_err-ask_axis.ensures))
