-- `discrete::Placed::next_week` meets its contract. Assumes nothing.
use borrow.Author.Rules.{rules}
use mathlib.Core.Path.{◌≡◌, sym, ◌∙◌, ap}
use native.Mathlib.Omega.{arith}
use Prim.Native.Nat.{ℕ, ◌+◌, ◌*◌, ◌≤◌}
use lib.IntN.{pos}
use Rattle.weeks.specs.Weeks.{mondays_to}
use Rattle.values.specs.Values.{midnight}
use Rattle.axis.specs.Questions.{checked_if}
use Rattle.counting.specs.Counting.{position}
use Rattle.counting.proofs.Counting.{on_day, starts, end_value, to_is}
use Rattle.discrete.proofs.Answers.{neighbour_next}
use Rattle.discrete.proofs.Places.{value_day, value_few}
use Rattle.discrete.proofs.Ways.{weeks_origin, weeks_position, weeks_next}
use Rattle.discrete.proofs.Placed.next_week.Goals as goal
use Rattle.discrete.proofs.Placed.next_week.Goals.{After-mondays_to-at}

pub day_on-requires : goal.day_on-requires
day_on-requires c = value_day c.args.self

pub mondays_to-at-requires : goal.mondays_to-at-requires
mondays_to-at-requires c = let p = c.args.self in
    omega (arith, c.day_on.ensures, (on_day p.dates.axis p.dates.dated p.value p.on).head_most)

at_is : (c : After-mondays_to-at) → c.mondays_to-at.result ≡ position c.args.self.dates.axis c.args.self.value
at_is c = c.mondays_to-at.ensures ∙ ap mondays_to c.day_on.ensures
    ∙ sym (weeks_position c.args.self.dates.axis c.requires c.args.self.value)

pub mondays_to-from-requires : goal.mondays_to-from-requires
mondays_to-from-requires c = let p = c.args.self in
    omega (arith, c.start_day.ensures, (starts p.dates.axis p.dates.dated).head_most)

pub mondays_to-to-requires : goal.mondays_to-to-requires
mondays_to-to-requires c = let p = c.args.self in
    omega (arith, c.to_day.ensures ∙ to_is p.dates.axis, (end_value p.dates.axis p.dates.dated).head_most)

pub neighbour-requires : goal.neighbour-requires
neighbour-requires c begun inside =
    let few : c.mondays_to-at.result ≤ 3652059 =
    omega (arith, at_is (goal.at.neighbour-requires c).After-mondays_to-at, value_few c.args.self) in
    search rules

pub returns : goal.returns
returns c = let a = c.args.self.dates.axis in
    let v = c.args.self.value in
    let w = midnight (pos (7 * c.mondays_to-at.result + 1)) in
    let at = at_is (goal.at.returns c).After-mondays_to-at in
    c.neighbour.ensures w (λ r e. search rules)
    ∙ ap checked_if (neighbour_next c.mondays_to-at.result c.mondays_to-from.result c.mondays_to-to.result w a v at
    (c.mondays_to-from.ensures ∙ ap mondays_to c.start_day.ensures ∙ sym (weeks_origin a c.requires))
    (c.mondays_to-to.ensures ∙ ap mondays_to (c.to_day.ensures ∙ to_is a) ∙ sym (weeks_position a c.requires a.end))
    (λ begun. ap (λ (n : ℕ). midnight (pos (7 * n + 1))) at ∙ weeks_next a c.args.self.dates.dated c.requires v begun))
