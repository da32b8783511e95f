-- `ticks::count` meets its contract. Assumes nothing.
use borrow.Author.Rules.{rules}
use Rattle.ticks.proofs.Answers.{refused_answer}
use Rattle.ticks.proofs.count.Goals as goal

pub returns-in_err-plan : goal.returns-in_err-plan
returns-in_err-plan c = let x = c.args in search (rules, refused_answer x.a x.h c.in_err-plan.ensures x.lent_len)
