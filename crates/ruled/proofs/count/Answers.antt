-- `ruled::count` meets its contract. Assumes nothing.
use Rattle.std.proofs.lemmas.Result.{err_from_is_err_and}
use Rattle.ruled.proofs.Answers.{refused_answer}
use Rattle.ruled.proofs.count.Goals as goal

pub returns-in_err-plan : goal.returns-in_err-plan
returns-in_err-plan c = let x = c.args in
    let p = err_from_is_err_and c.from_residual.result c.from_residual.ensures.1 in
    rw (p.1, p.2) (refused_answer x.table.now x.a _ c.in_err-plan.ensures x.lent_len)
