-- `discrete::values` meets its contract. Assumes nothing.
use borrow.Author.Rules.{rules}
use mathlib.Core.Path.{◌≡◌, refl, sym, ◌∙◌, ap}
use mir.Syntax.{w64}
use mir.Val.{SFits}
use mir.Facts.{to_z-of_z}
use Rattle.std.specs.Prelude.{Option, Result, Ok, Err}
use Rattle.laws.specs.Numbers.{pos_part}
use Rattle.asking.specs.declared.Refusal.{Refusal}
use Rattle.asking.proofs.Asked.{refused, passed}
use Rattle.values.specs.declared.Value.{Value}
use Rattle.axis.specs.Axes.{closed}
use Rattle.axis.specs.Questions.{checked_if}
use Rattle.discrete.specs.Answers.{index_questions, value_in, stepped, values_answer}
use Rattle.discrete.proofs.values.Goals as goal
use Rattle.discrete.proofs.values.Goals.{After-value_in, Start}

place_fits : (c : Start) → SFits w64 c.args.c.place
place_fits c = search rules

-- what is answered behind the questions
abbrev answer : Start → Result (Option Value) Refusal
answer c = checked_if (value_in (closed c.args.a) (pos_part c.args.c.place))

pub returns-in_err-d : goal.returns-in_err-d
unfolding values_answer
returns-in_err-d c = let x = c.args in
    let s = (goal.at.returns-in_err-d c).Start in
    let q = c.in_err-d.field-0.0 in
    let e = ap (stepped x.c) (refused (index_questions x.a x.c.place) (closed x.a) (answer s) q
    (rw (to_z-of_z (place_fits s)) at (c.in_err-d.ensures.refused q refl))) in
    search rules

pub value_in-requires : goal.value_in-requires
value_in-requires c = (c.in_ok-d.ensures.passed _ refl).3

-- a step from the value at the place
step_is : (c : After-value_in) (r : Result (Option Value) Refusal) → c.value_in.result ≡ r →
    stepped c.args.c r ≡ values_answer c.args.a c.args.c
unfolding values_answer
step_is c r e = let x = c.args in
    let s = (goal.at.After-value_in c).Start in
    let (row, axis, count, most) = c.in_ok-d.ensures.passed _ refl in
    let is = rw (to_z-of_z (place_fits s)) at count in
    ap (stepped x.c) (sym e ∙ c.value_in.ensures ∙ (λ j. checked_if (value_in (axis j) (is j)))
    ∙ passed (index_questions x.a x.c.place) (answer s) (rw (to_z-of_z (place_fits s)) at row))

pub returns-in_err-v : goal.returns-in_err-v
returns-in_err-v c =
    let e = step_is (goal.at.returns-in_err-v c).After-value_in (Err c.in_err-v.field-0.0) c.in_err-v.was in search rules

pub returns-in-Some : goal.returns-in-Some
returns-in-Some c =
    let e = step_is (goal.at.returns-in-Some c).After-value_in (Ok c.in_ok-v.field-0) c.in_ok-v.was in
    let next = rw c.in-Some.is at e in
    search rules

pub returns-in-None : goal.returns-in-None
returns-in-None c =
    let e = step_is (goal.at.returns-in-None c).After-value_in (Ok c.in_ok-v.field-0) c.in_ok-v.was in
    rw c.in-None.is at e
