-- `ruled::list` meets its contract. Assumes nothing.
use lib.ListN.{length}
use Rattle.std.proofs.lemmas.Result.{err_from_is_err_and}
use Rattle.ruled.proofs.Answers.{refused_answer}
use Rattle.ruled.proofs.list.Goals as goal

pub returns-in_err-plan-clause-value : goal.returns-in_err-plan-clause-value
returns-in_err-plan-clause-value c = let x = c.args in
    let p = err_from_is_err_and c.from_residual.result c.from_residual.ensures.1 in
    rw (p.1, p.2) (refused_answer x.table.now x.a _ c.in_err-plan.ensures (length x.lent.now))
