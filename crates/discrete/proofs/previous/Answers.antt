-- `discrete::previous` meets its contract. Assumes nothing.
use borrow.Author.Rules.{rules}
use mathlib.Core.Path.{refl, ◌∙◌}
use Rattle.asking.proofs.Asked.{passed, refused}
use Rattle.axis.specs.Axes.{closed}
use Rattle.axis.specs.Questions.{checked_if}
use Rattle.discrete.specs.Answers.{value_questions, previous_in, previous_answer}
use Rattle.discrete.proofs.previous.Goals as goal

pub returns-in_err-p : goal.returns-in_err-p
unfolding previous_answer
returns-in_err-p c = let x = c.args in
    let q = c.in_err-p.field-0.0 in
    let e = refused (value_questions x.a x.v) (closed x.a) (checked_if (previous_in (closed x.a) x.v)) q
    (c.in_err-p.ensures.refused q refl) in
    search rules

pub returns : goal.returns
unfolding previous_answer
returns c = let x = c.args in
    let (pass, axis, value) = c.in_ok-p.ensures.passed c.in_ok-p.p refl in
    c.previous_in.ensures ∙ (λ i. checked_if (previous_in (axis i) (value i)))
    ∙ passed (value_questions x.a x.v) (checked_if (previous_in (closed x.a) x.v)) pass
