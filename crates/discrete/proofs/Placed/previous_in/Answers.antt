-- `discrete::Placed::previous_in` meets its contract. Assumes nothing.
use borrow.Author.Rules.{rules}
use mathlib.Core.Path.{◌≡◌, sym, ◌∙◌, ap}
use native.Mathlib.Omega.{arith}
use Prim.Native.Nat.{◌-◌}
use Rattle.std.specs.Prelude.{Some}
use Rattle.counting.specs.declared.Position.{Position}
use Rattle.counting.specs.Counting.{origin, position}
use Rattle.discrete.specs.Indices.{value_at}
use Rattle.axis.specs.Questions.{checked_if}
use Rattle.counting.proofs.Counting.{position_most}
use Rattle.axis.proofs.Checked.{no_value, checked_some, checked_refused}
use Rattle.discrete.specs.Answers.{previous_in}
use Rattle.discrete.proofs.Answers.{previous_none, previous_is}
use Rattle.discrete.proofs.Placed.previous_in.Goals as goal
use Rattle.discrete.proofs.Placed.previous_in.Goals.{After-position_of-p, After-value_at}

from_is : (c : After-position_of-p) → c.position_of-p.result.from ≡ origin c.args.self.dates.axis
from_is c = ap (λ (x : Position). x.from) c.position_of-p.ensures

at_is : (c : After-position_of-p) → c.position_of-p.result.at ≡ position c.args.self.dates.axis c.args.self.value
at_is c = ap (λ (x : Position). x.at) c.position_of-p.ensures

pub returns-then-p : goal.returns-then-p
returns-then-p c = let x = c.args in
    no_value ∙ ap checked_if (sym (previous_none x.self.dates.axis x.self.value (omega (
      arith,
      from_is (goal.at.returns-then-p c).After-position_of-p,
      at_is (goal.at.returns-then-p c).After-position_of-p,
    ))))

pub value_at-requires : goal.value_at-requires
value_at-requires c =
    omega (
      arith,
      at_is (goal.at.value_at-requires c).After-position_of-p,
      position_most c.args.self.dates.axis c.args.self.dates.dated c.args.self.value c.args.self.on,
    )

before : (c : After-value_at) → let p = c.position_of-p.result in
    checked_if (Some (value_at c.args.self.dates.axis (p.at - p.from - 1)))
    ≡ checked_if (previous_in c.args.self.dates.axis c.args.self.value)
before c = let x = c.args in
    ap checked_if (ap (λ (y : Position). Some (value_at x.self.dates.axis (y.at - y.from - 1))) c.position_of-p.ensures
    ∙ sym (previous_is x.self.dates.axis x.self.value (omega (
      arith,
      from_is (goal.at.After-value_at c).After-position_of-p,
      at_is (goal.at.After-value_at c).After-position_of-p,
    ))))

pub returns-in_err-value_at : goal.returns-in_err-value_at
returns-in_err-value_at c = let p = c.position_of-p.result in
    let e = checked_refused (value_at c.args.self.dates.axis (p.at - p.from - 1)) c.in_err-value_at.field-0.0
    (sym c.in_err-value_at.ensures)
    ∙ before (goal.at.returns-in_err-value_at c).After-value_at in
    search rules

pub returns : goal.returns
returns c = let p = c.position_of-p.result in
    checked_some (value_at c.args.self.dates.axis (p.at - p.from - 1)) c.in_ok-value_at.field-0 (sym c.in_ok-value_at.ensures)
    ∙ before (goal.at.returns c).After-value_at
