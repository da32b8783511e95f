-- `discrete::neighbour` meets its contract. Assumes nothing.
use borrow.Author.Rules.{rules}
use mathlib.Core.Path.{sym, ◌∙◌, ap}
use native.Mathlib.Omega.{arith}
use Rattle.std.specs.Prelude.{Ok, Err}
use Rattle.axis.specs.Questions.{checked_if}
use Rattle.axis.proofs.Checked.{no_value, checked_some, checked_refused}
use Rattle.discrete.proofs.Answers.{neighbour_before, neighbour_end, neighbour_is}
use Rattle.discrete.proofs.neighbour.Goals as goal

pub returns-then-at-from : goal.returns-then-at-from
returns-then-at-from g c w f = let x = c.args in
    no_value ∙ ap checked_if (sym (neighbour_before x.at x.from x.to w c.if-at-from.true))

pub returns-then-to-at : goal.returns-then-to-at
returns-then-to-at g c w f = let x = c.args in
    no_value ∙ ap checked_if (sym (neighbour_end x.at x.from x.to w c.if-to-at.true))

pub returns-in_err-value : goal.returns-in_err-value
returns-in_err-value g c w f = let x = c.args in
    let q = c.in_err-value.field-0.0 in
    let e = checked_refused w q (sym (f (Err q) c.in_err-value.ensures))
    ∙ ap checked_if
    (sym (neighbour_is x.at x.from x.to w (omega (arith, c.if-at-from.false)) (omega (arith, c.if-to-at.false)))) in
    search rules

pub returns : goal.returns
returns g c w f = let x = c.args in
    checked_some w c.in_ok-value.field-0 (sym (f (Ok c.in_ok-value.field-0) c.in_ok-value.ensures))
    ∙ ap checked_if (sym (neighbour_is x.at x.from x.to w (omega (arith, c.if-at-from.false)) (omega (arith, c.if-to-at.false))))
