-- `ticks::plan` meets its contract. Assumes nothing.
use mathlib.Core.Path.{◌≡◌, sym}
use mathlib.Core.Bool.{true}
use Rattle.asking.specs.Asking.{passes}
use Rattle.asking.proofs.Asked.{all_pass, refused}
use Rattle.ticks.specs.Answers.{tick_questions}
use Rattle.ticks.proofs.Hints.{closed_passed}
use Rattle.std.specs.Prelude.{Ok}
use Rattle.std.proofs.lemmas.Result.{err_from_is_err_and}
use Rattle.axis.specs.Axes.{closed}
use Rattle.ticks.specs.Plans.{plan_for}
use Rattle.ticks.proofs.plan.Goals as goal
use Rattle.ticks.proofs.plan.Goals.{In_ok-ask_ticks}

none : (c : In_ok-ask_ticks) → passes (tick_questions c.args.a c.args.h) ≡ true
none c = all_pass (tick_questions c.args.a c.args.h) tt (sym c.in_ok-ask_ticks.ensures)

pub axis_for-requires : goal.axis_for-requires
axis_for-requires c = let x = c.args in
    rw c.closed.ensures (closed_passed x.a x.h (none (goal.at.axis_for-requires c).In_ok-ask_ticks))

pub returns-in_err-ask_ticks : goal.returns-in_err-ask_ticks
returns-in_err-ask_ticks c = let x = c.args in
    let p = err_from_is_err_and c.from_residual.result c.from_residual.ensures.1 in
    rw (p.1, p.2) (refused (tick_questions x.a x.h) tt (Ok (plan_for (closed x.a) x.h)) _ (sym c.in_err-ask_ticks.ensures))
