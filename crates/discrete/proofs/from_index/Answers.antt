-- `discrete::from_index` meets its contract. Assumes nothing.
use borrow.Author.Rules.{rules}
use mathlib.Core.Path.{refl, ◌∙◌}
use mir.Facts.{to_z-of_z}
use Rattle.laws.specs.Numbers.{pos_part}
use Rattle.asking.proofs.Asked.{passed, refused}
use Rattle.axis.specs.Axes.{closed}
use Rattle.axis.specs.Questions.{checked}
use Rattle.discrete.specs.Indices.{value_at}
use Rattle.discrete.specs.Answers.{index_questions, from_index_answer}
use Rattle.discrete.proofs.from_index.Goals as goal

pub returns-in_err-d : goal.returns-in_err-d
unfolding from_index_answer
returns-in_err-d c = let x = c.args in
    let q = c.in_err-d.field-0.0 in
    let e = refused (index_questions x.a x.i) (closed x.a) (checked (value_at (closed x.a) (pos_part x.i))) q
    (rw (to_z-of_z c.ranges.i) at (c.in_err-d.ensures.refused q refl)) in
    search rules

pub value_at-requires : goal.value_at-requires
value_at-requires c = (c.in_ok-d.ensures.passed _ refl).3

pub returns : goal.returns
unfolding from_index_answer
returns c = let x = c.args in
    let (row, axis, count, most) = c.in_ok-d.ensures.passed _ refl in
    let is = rw (to_z-of_z c.ranges.i) at count in
    c.value_at.ensures ∙ (λ j. checked (value_at (axis j) (is j)))
    ∙ passed (index_questions x.a x.i) (checked (value_at (closed x.a) (pos_part x.i))) (rw (to_z-of_z c.ranges.i) at row)
