-- `discrete::Placed::next_month` meets its contract. Assumes nothing.
use borrow.Author.Rules.{rules}
use mathlib.Core.Path.{◌≡◌, sym, ◌∙◌, ap}
use native.Mathlib.Omega.{arith}
use Prim.Native.Nat.{◌+◌, ◌-◌, ◌*◌, ◌/◌, ◌%◌, ◌≤◌}
use lib.IntN.{pos}
use Rattle.calendar.specs.declared.Date.{Date}
use Rattle.calendar.specs.Gregorian.{day_number}
use Rattle.values.specs.Values.{midnight}
use Rattle.axis.specs.Questions.{checked_if}
use Rattle.counting.specs.Counting.{position}
use Rattle.counting.proofs.Counting.{Near, first_near, origin_months, position_months}
use Rattle.discrete.proofs.Answers.{neighbour_next}
use Rattle.discrete.proofs.Places.{value_day, value_near, value_few, end_day, end_near}
use Rattle.discrete.proofs.Ways.{months_next}
use Rattle.discrete.proofs.Placed.next_month.Goals as goal
use Rattle.discrete.proofs.Placed.next_month.Goals.{After-months_from-at}

pub date_on-requires : goal.date_on-requires
date_on-requires c = value_day c.args.self

pub months_from-at-requires : goal.months_from-at-requires
months_from-at-requires c = let n = value_near c.args.self in rw c.date_on.ensures (n.year_most, n.month_most)

pub date_on-requires-2 : goal.date_on-requires-2
date_on-requires-2 c = end_day c.args.self

pub months_from-to-requires : goal.months_from-to-requires
months_from-to-requires c = let n = end_near c.args.self in rw c.date_on-2.ensures (n.year_most, n.month_most)

at_is : (c : After-months_from-at) → c.months_from-at.result ≡ position c.args.self.dates.axis c.args.self.value
at_is c = c.months_from-at.ensures
    ∙ (λ i. 12 * ((c.date_on.ensures i).year - (c.first_date-first.ensures i).year)
    + (c.date_on.ensures i).month)
    ∙ sym (position_months c.args.self.dates.axis c.args.self.value c.requires)

pub neighbour-requires : goal.neighbour-requires
neighbour-requires c begun inside =
    let near : Near c.first_date-first.result 10000 =
    rw c.first_date-first.ensures (first_near c.args.self.dates.axis c.args.self.dates.dated) in
    let few : c.months_from-at.result ≤ 3652059 =
    omega (arith, at_is (goal.at.neighbour-requires c).After-months_from-at, value_few c.args.self) in
    let least = near.year_least in
    let most = near.year_most in
    search rules

pub returns : goal.returns
returns c = let a = c.args.self.dates.axis in
    let v = c.args.self.value in
    let k = c.months_from-at.result in
    let w = midnight (pos (day_number (c.first_date-first.result.year + k / 12) (k % 12 + 1) 1)) in
    let at = at_is (goal.at.returns c).After-months_from-at in
    let from = ap (λ (t : Date). t.month) c.first_date-first.ensures ∙ sym (origin_months a c.requires) in
    let to = c.months_from-to.ensures
    ∙ (λ i. 12 * ((c.date_on-2.ensures i).year - (c.first_date-first.ensures i).year) + (c.date_on-2.ensures i).month)
    ∙ sym (position_months a a.end c.requires) in
    c.neighbour.ensures w (λ r e. search rules)
    ∙ ap checked_if (neighbour_next k c.first_date-first.result.month c.months_from-to.result w a v at from to
    (λ begun. (λ i. midnight (pos (day_number ((c.first_date-first.ensures i).year + at i / 12) (at i % 12 + 1) 1)))
    ∙ months_next a c.args.self.dates.dated c.requires v begun))
