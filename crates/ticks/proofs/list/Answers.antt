-- `ticks::list` meets its contract. Assumes nothing.
use borrow.Author.Rules.{rules}
use lib.ListN.{length}
use Rattle.ticks.proofs.Answers.{refused_answer}
use Rattle.ticks.proofs.list.Goals as goal

pub returns-in_err-plan-clause-value : goal.returns-in_err-plan-clause-value
returns-in_err-plan-clause-value c = let x = c.args in
    search (rules, refused_answer x.a x.h c.in_err-plan.ensures (length x.lent.now))
