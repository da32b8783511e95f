-- `discrete::Placed::next_year` meets its contract. Assumes nothing.
use borrow.Author.Rules.{rules}
use mathlib.Core.Path.{sym, ◌∙◌, ap}
use Prim.Native.Nat.{ℕ, ◌+◌}
use Rattle.calendar.specs.declared.Date.{Date}
use Rattle.axis.specs.Questions.{checked_if}
use Rattle.discrete.specs.Indices.{january}
use Rattle.discrete.proofs.Answers.{neighbour_next}
use Rattle.discrete.proofs.Places.{value_day, end_day}
use Rattle.discrete.proofs.Ways.{years_origin, years_position, years_next}
use Rattle.discrete.proofs.Placed.next_year.Goals as goal

pub date_on-at-requires : goal.date_on-at-requires
date_on-at-requires c = value_day c.args.self

pub date_on-to-requires : goal.date_on-to-requires
date_on-to-requires c = end_day c.args.self

pub returns : goal.returns
returns c = let a = c.args.self.dates.axis in
    let v = c.args.self.value in
    let w = january a (c.date_on-at.result.year + 1) in
    let at = ap (λ (t : Date). t.year) c.date_on-at.ensures ∙ sym (years_position a c.requires v) in
    let from = ap (λ (t : Date). t.year) c.first_date.ensures ∙ sym (years_origin a c.requires) in
    let to = ap (λ (t : Date). t.year) c.date_on-to.ensures ∙ sym (years_position a c.requires a.end) in
    c.neighbour.ensures w (λ r e. search rules)
    ∙ ap checked_if (neighbour_next c.date_on-at.result.year c.first_date.result.year c.date_on-to.result.year w a v at from to
    (λ begun. ap (λ (n : ℕ). january a (n + 1)) at ∙ years_next a c.requires v begun))
