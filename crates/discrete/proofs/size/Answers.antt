-- `discrete::size` meets its contract. Assumes nothing.
use borrow.Author.Rules.{rules}
use mathlib.Core.Path.{refl, ◌∙◌, ap}
use Rattle.std.specs.Prelude.{Ok}
use Rattle.asking.proofs.Asked.{passed, refused}
use Rattle.axis.specs.Axes.{closed}
use Rattle.counting.specs.Counting.{size_of}
use Rattle.discrete.specs.Answers.{size_questions, size_answer}
use Rattle.discrete.proofs.size.Goals as goal

pub returns-in_err-d : goal.returns-in_err-d
unfolding size_answer
returns-in_err-d c = let a = c.args.a in
    let q = c.in_err-d.field-0.0 in
    let e = refused (size_questions a) (closed a) (Ok (size_of (closed a))) q (c.in_err-d.ensures.refused q refl) in
    search rules

pub returns : goal.returns
unfolding size_answer
returns c = let a = c.args.a in
    let (pass, is) = c.in_ok-d.ensures.passed c.in_ok-d.d refl in
    ap Ok (c.size_of.ensures ∙ ap size_of is) ∙ passed (size_questions a) (Ok (size_of (closed a))) pass
