-- `discrete::Placed::next_day` meets its contract. Assumes nothing.
use borrow.Author.Rules.{rules}
use mathlib.Core.Path.{sym, ◌∙◌, ap}
use Prim.Native.Nat.{ℕ, ◌+◌}
use lib.IntN.{pos}
use Rattle.values.specs.Values.{midnight}
use Rattle.axis.specs.Questions.{checked_if}
use Rattle.counting.proofs.Counting.{to_is}
use Rattle.discrete.proofs.Answers.{neighbour_next}
use Rattle.discrete.proofs.Places.{value_day}
use Rattle.discrete.proofs.Ways.{days_origin, days_position, days_next}
use Rattle.discrete.proofs.Placed.next_day.Goals as goal

pub day_on-at-requires : goal.day_on-at-requires
day_on-at-requires c = value_day c.args.self

pub returns : goal.returns
returns c = let a = c.args.self.dates.axis in
    let v = c.args.self.value in
    let w = midnight (pos (c.day_on-at.result + 1)) in
    let at_is = c.day_on-at.ensures ∙ sym (days_position a c.requires v) in
    let to_end = c.to_day.ensures ∙ to_is a ∙ sym (days_position a c.requires a.end) in
    c.neighbour.ensures w (λ r e. search rules)
    ∙ ap checked_if (neighbour_next c.day_on-at.result c.start_day-from.result c.to_day.result w a v at_is
    (c.start_day-from.ensures ∙ sym (days_origin a c.requires)) to_end
    (λ begun. ap (λ (n : ℕ). midnight (pos (n + 1))) at_is ∙ days_next a c.requires v begun))
