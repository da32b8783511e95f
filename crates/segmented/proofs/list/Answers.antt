-- `segmented::list` meets its contract. Assumes nothing.
use borrow.Author.Rules.{rules}
use mathlib.Core.Path.{sym, ◌∙◌, ap}
use mathlib.Core.Bool.{Bool, cond}
use Rattle.asking.proofs.Asked.{all_pass}
use Rattle.ticks.specs.Answers.{ticks_written}
use Rattle.segmented.proofs.Answers.{stopped}
use Rattle.segmented.specs.Answers.{segment_kind_questions, segment_ticks_answer, segment_ticks_written}
use Rattle.segmented.proofs.list.Goals as goal

pub returns-in_err-ask_kind-clause-value : goal.returns-in_err-ask_kind-clause-value
unfolding segment_ticks_answer
returns-in_err-ask_kind-clause-value c = search rules

pub returns-in_err-ask_kind-clause-after_call : goal.returns-in_err-ask_kind-clause-after_call
unfolding segment_ticks_written
returns-in_err-ask_kind-clause-after_call c = let x = c.args in
    let d = x.lent.now in
    sym (ap (λ (b : Bool). cond b (ticks_written x.a x.h d) d)
    (stopped (segment_kind_questions x.a) tt _ (sym c.in_err-ask_kind.ensures)))

pub returns-clause-value : goal.returns-clause-value
unfolding segment_ticks_answer
returns-clause-value c = search rules

pub returns-clause-after_call : goal.returns-clause-after_call
unfolding segment_ticks_written
returns-clause-after_call c = let x = c.args in
    let d = x.lent.now in
    c.list.ensures.after_call
    ∙ sym (ap (λ (b : Bool). cond b (ticks_written x.a x.h d) d)
    (all_pass (segment_kind_questions x.a) tt (sym c.in_ok-ask_kind.ensures)))
