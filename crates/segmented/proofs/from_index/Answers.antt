-- `segmented::from_index` meets its contract. Assumes nothing.
use borrow.Author.Rules.{rules}
use mathlib.Core.Path.{refl, ◌∙◌}
use mir.Facts.{to_z-of_z}
use Rattle.laws.specs.Numbers.{pos_part}
use Rattle.asking.proofs.Asked.{passed, refused}
use Rattle.axis.specs.Axes.{closed}
use Rattle.discrete.specs.Answers.{index_questions}
use Rattle.segmented.specs.Answers.{segment_at, segment_checked, segment_from_answer}
use Rattle.segmented.proofs.from_index.Goals as goal

pub returns-in_err-d : goal.returns-in_err-d
unfolding segment_from_answer
returns-in_err-d c = let x = c.args in
    let q = c.in_err-d.field-0.0 in
    let e = refused (index_questions x.a x.i) (closed x.a) (segment_checked (segment_at (closed x.a) (pos_part x.i))) q
    (rw (to_z-of_z c.ranges.i) at (c.in_err-d.ensures.refused q refl)) in
    search rules

pub segment_at-requires : goal.segment_at-requires
segment_at-requires c = (c.in_ok-d.ensures.passed _ refl).3

pub returns : goal.returns
unfolding segment_from_answer
returns c = let x = c.args in
    let (row, axis, count, most) = c.in_ok-d.ensures.passed _ refl in
    let is = rw (to_z-of_z c.ranges.i) at count in
    c.segment_at.ensures ∙ (λ j. segment_checked (segment_at (axis j) (is j)))
    ∙ passed (index_questions x.a x.i) (segment_checked (segment_at (closed x.a) (pos_part x.i)))
    (rw (to_z-of_z c.ranges.i) at row)
