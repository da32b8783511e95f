-- `discrete::value_in` meets its contract. Assumes nothing.
use borrow.Author.Rules.{rules}
use mathlib.Core.Path.{◌≡◌, sym, ◌∙◌, ap}
use native.Mathlib.Omega.{arith}
use Rattle.std.specs.Prelude.{Some}
use Rattle.axis.specs.Questions.{checked_if}
use Rattle.axis.proofs.Checked.{no_value, checked_some, checked_refused}
use Rattle.discrete.specs.Indices.{value_at}
use Rattle.discrete.specs.Answers.{value_in}
use Rattle.discrete.proofs.Answers.{value_none, value_is}
use Rattle.discrete.proofs.value_in.Goals as goal
use Rattle.discrete.proofs.value_in.Goals.{After-value_at}

pub returns-then-size_of-i : goal.returns-then-size_of-i
returns-then-size_of-i c =
    no_value ∙ ap checked_if (sym (value_none c.args.d.axis c.args.i (omega (arith, c.size_of.ensures, c.if-size_of-i.true))))

next : (c : After-value_at) → checked_if (Some (value_at c.args.d.axis c.args.i)) ≡ checked_if (value_in c.args.d.axis c.args.i)
next c = ap checked_if (sym (value_is c.args.d.axis c.args.i (omega (arith, c.size_of.ensures, c.if-size_of-i.false))))

pub returns-in_err-value_at : goal.returns-in_err-value_at
returns-in_err-value_at c = let v = value_at c.args.d.axis c.args.i in
    let e = checked_refused v c.in_err-value_at.field-0.0 (sym c.in_err-value_at.ensures)
    ∙ next (goal.at.returns-in_err-value_at c).After-value_at in
    search rules

pub returns : goal.returns
returns c = let v = value_at c.args.d.axis c.args.i in
    checked_some v c.in_ok-value_at.field-0 (sym c.in_ok-value_at.ensures) ∙ next (goal.at.returns c).After-value_at
