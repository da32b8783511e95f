-- `discrete::index_of` meets its contract. Assumes nothing.
use borrow.Author.Rules.{rules}
use mathlib.Core.Path.{refl, ◌∙◌, ap}
use Rattle.std.specs.Prelude.{Ok}
use Rattle.asking.proofs.Asked.{passed, refused}
use Rattle.axis.specs.Axes.{closed}
use Rattle.discrete.specs.Answers.{value_questions, index_in, index_answer}
use Rattle.discrete.proofs.index_of.Goals as goal

pub returns-in_err-p : goal.returns-in_err-p
unfolding index_answer
returns-in_err-p c = let x = c.args in
    let q = c.in_err-p.field-0.0 in
    let e = refused (value_questions x.a x.v) (closed x.a) (Ok (index_in (closed x.a) x.v)) q
    (c.in_err-p.ensures.refused q refl) in
    search rules

pub returns : goal.returns
unfolding index_answer
returns c = let x = c.args in
    let (pass, axis, value) = c.in_ok-p.ensures.passed c.in_ok-p.p refl in
    ap Ok (c.index_in.ensures ∙ (λ i. index_in (axis i) (value i)))
    ∙ passed (value_questions x.a x.v) (Ok (index_in (closed x.a) x.v)) pass
