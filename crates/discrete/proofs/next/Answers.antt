-- `discrete::next` meets its contract. Assumes nothing.
use borrow.Author.Rules.{rules}
use mathlib.Core.Path.{refl, ◌∙◌}
use Rattle.asking.proofs.Asked.{passed, refused}
use Rattle.axis.specs.Axes.{closed}
use Rattle.axis.specs.Questions.{checked_if}
use Rattle.discrete.specs.Answers.{value_questions, next_in, next_answer}
use Rattle.discrete.proofs.next.Goals as goal

pub returns-in_err-p : goal.returns-in_err-p
unfolding next_answer
returns-in_err-p c = let x = c.args in
    let q = c.in_err-p.field-0.0 in
    let e = refused (value_questions x.a x.v) (closed x.a) (checked_if (next_in (closed x.a) x.v)) q
    (c.in_err-p.ensures.refused q refl) in
    search rules

pub returns : goal.returns
unfolding next_answer
returns c = let x = c.args in
    let (pass, axis, value) = c.in_ok-p.ensures.passed c.in_ok-p.p refl in
    c.next_in.ensures ∙ (λ i. checked_if (next_in (axis i) (value i)))
    ∙ passed (value_questions x.a x.v) (checked_if (next_in (closed x.a) x.v)) pass
