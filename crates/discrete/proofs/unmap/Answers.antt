-- `discrete::unmap` meets its contract. Assumes nothing.
use borrow.Author.Rules.{rules}
use mathlib.Core.Path.{◌≡◌, sym, ◌∙◌}
use mathlib.Core.Bool.{true}
use mathlib.Core.List.{List}
use mir.Facts.{to_z-of_z}
use Rattle.asking.specs.declared.Refusal.TheVariants as refusal
use Rattle.asking.specs.Asking.{Question, ask, passes}
use Rattle.asking.proofs.Asked.{all_pass, told, fewer, passed, refused}
use Rattle.axis.specs.Axes.{closed}
use Rattle.axis.specs.Questions.{has_unmap, unmap_pixels, checked, plain_questions}
use Rattle.axis.proofs.ClosedAxes.{plain_passed}
use Rattle.counting.proofs.Counting.{unmap_dated, closed_dated}
use Rattle.unmapping.specs.Unmapping.{Unmappable}
use Rattle.discrete.specs.Answers.{unmap_questions, value_under, unmap_answer}
use Rattle.discrete.proofs.unmap.Goals as goal
use Rattle.discrete.proofs.unmap.Goals.{In_ok-ask_unmap, Start}

abbrev row : Start → List Question
row s = unmap_questions s.args.a s.args.l s.args.p

pub returns-in_err-ask_unmap : goal.returns-in_err-ask_unmap
unfolding unmap_answer
returns-in_err-ask_unmap c = let x = c.args in
    let h = rw (to_z-of_z c.ranges.p) at c.in_err-ask_unmap.ensures in
    let e = refused (row (goal.at.returns-in_err-ask_unmap c).Start) tt (checked (value_under (closed x.a) x.l x.p))
    c.in_err-ask_unmap.field-0.0 (sym h) in
    search rules

pass : (c : In_ok-ask_unmap) → passes (row (goal.at.In_ok-ask_unmap c).Start) ≡ true
pass c = all_pass (row (goal.at.In_ok-ask_unmap c).Start) tt (rw (to_z-of_z c.ranges.p) at (sym c.in_ok-ask_unmap.ensures))

-- the axis by which it counts passed the questions too
unmappable : (c : In_ok-ask_unmap) → let x = c.args in
    Unmappable (closed x.a) x.l x.p
unmappable c = let a = c.args.a in
    let (z, page) = fewer (plain_questions (has_unmap a) a) (ask refusal.Limits (unmap_pixels c.args.l c.args.p)) (pass c) in
    let d = closed_dated a (has_unmap a) (unmap_dated a (told 2 (plain_questions (has_unmap a) a) z)) z in
    record {
      dated = d.dates;
      real = d.real;
      order = told 4 (plain_questions (has_unmap a) (closed a)) (plain_passed a (has_unmap a) z);
      page = page;
    }

pub value_under-requires : goal.value_under-requires
value_under-requires c =
    rw (to_z-of_z c.ranges.p, c.closed.ensures) (unmappable (goal.at.value_under-requires c).In_ok-ask_unmap)

pub returns : goal.returns
unfolding unmap_answer
returns c = let x = c.args in
    c.value_under.ensures
    ∙ (λ j. checked (value_under (c.closed.ensures j) x.l (to_z-of_z c.ranges.p j)))
    ∙ passed (row (goal.at.returns c).Start) (checked (value_under (closed x.a) x.l x.p))
    (pass (goal.at.returns c).In_ok-ask_unmap)
