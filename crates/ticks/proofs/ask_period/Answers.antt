-- `ticks::ask_period` meets its contract: a refusal of the axis stands. Assumes nothing.
use mathlib.Core.Path.{sym}
use mathlib.Core.List.{[], ◌∷◌}
use Rattle.std.specs.Prelude.{Ok}
use Rattle.std.proofs.lemmas.Result.{err_from_is_err_and}
use Rattle.asking.specs.Asking.{ask}
use Rattle.asking.specs.declared.Refusal.TheVariants as refusal
use Rattle.asking.proofs.Asked.{refused_first}
use Rattle.axis.specs.declared.Hint.TheVariants.{Bold}
use Rattle.axis.specs.Questions.{has_period, hint_on, axis_questions}
use Rattle.ticks.proofs.ask_period.Goals as goal

pub returns-in_err-ask_axis : goal.returns-in_err-ask_axis
returns-in_err-ask_axis c = let x = c.args in
    let p = err_from_is_err_and c.from_residual.result c.from_residual.ensures.1 in
    rw (p.1, p.2) (refused_first (axis_questions (has_period x.a) x.a)
    (ask refusal.Hint (hint_on x.a (Bold x.h)) ∷ []) tt (Ok tt) _
    (sym (rw c.has_period.ensures at c.in_err-ask_axis.ensures)))
