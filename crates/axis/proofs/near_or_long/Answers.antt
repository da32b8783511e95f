-- `axis::near_or_long` meets its contract. Assumes nothing.
use mathlib.Core.Path.{◌≡◌, sym, ◌∙◌, ap}
use mathlib.Core.Bool.{Bool, true, false, not, ◌&&◌}
use lib.IntN.{ℤ}
use Rattle.values.specs.Values.{is_duration}
use Rattle.std.specs.Prelude.{Option, is_some}
use Rattle.axis.specs.Questions.{near_zero}
use Rattle.axis.proofs.Axes.{both_ends}
use Rattle.axis.proofs.Questions.{other_kind, near_ends, far_ends, of_seven}
use Rattle.axis.proofs.near_or_long.Goals as goal
use Rattle.axis.proofs.near_or_long.Goals.{After-is_duration, After-near_zero-2, Else-not-is_duration}

pub returns-then-not-is_duration : goal.returns-then-not-is_duration
returns-then-not-is_duration c =
    other_kind c.args.a (sym c.is_duration.ensures ∙ c.if-not-is_duration.true)

seven : (c : Else-not-is_duration) → is_duration c.args.a.kind ≡ true
seven c = sym c.is_duration.ensures ∙ c.if-not-is_duration.false

pub near_zero-requires : goal.near_zero-requires
near_zero-requires c = let a = c.args.a in
    of_seven a a.start (seven (goal.at.near_zero-requires c).Else-not-is_duration) (both_ends a c.requires.0).first

pub near_zero-requires-2 : goal.near_zero-requires-2
near_zero-requires-2 c = let a = c.args.a in
    of_seven a a.end (seven (goal.at.near_zero-requires-2 c).Else-not-is_duration) (both_ends a c.requires.0).second

-- what the two tests were of
near : (c : After-near_zero-2) → c.near_zero.result && c.near_zero-2.result
    ≡ near_zero c.args.a.start
    && near_zero c.args.a.end
near c = rw (c.near_zero.ensures, c.near_zero-2.ensures)

pub returns-then-near_zero : goal.returns-then-near_zero
returns-then-near_zero c = near_ends c.args.a (sym (near (goal.at.returns-then-near_zero c).After-near_zero-2)
    ∙ c.if-near_zero.true)

turned : (n s : Bool) → s ≡ not n → n ≡ not s
turned true s e = rw e
turned false s e = rw e

pub returns : goal.returns
returns c = turned c.is_none.result _ c.is_none.ensures
    ∙ ap (λ (n : Option ℤ). not (is_some n)) c.span.ensures ∙ far_ends c.args.a
    (seven (goal.at.returns c).Else-not-is_duration) (sym (near (goal.at.returns c).After-near_zero-2)
    ∙ c.if-near_zero.false) c.requires.0 c.requires.1
