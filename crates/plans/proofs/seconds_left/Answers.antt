-- `plans::seconds_left` meets its contract. Assumes nothing.
use borrow.Author.Rules.{rules}
use mathlib.Core.Path.{◌≡◌, ◌∙◌}
use native.Mathlib.Omega.{arith}
use lib.IntN.{◌-ℤ◌}
use mir.Syntax.{w64}
use mir.Val.{SFits, to_z, of_z}
use mir.Facts.{to_z-of_z}
use Rattle.laws.specs.Numbers.{pos_part}
use Rattle.plans.specs.Times.{first_second, seconds_left}
use Rattle.plans.proofs.Spans.{left_fits}
use Rattle.plans.proofs.seconds_left.Goals as goal
use Rattle.plans.proofs.seconds_left.Goals.{After-as_count-whole, Start}

end_fits : (c : Start) → SFits w64 c.args.a.end.head
end_fits c = search rules

tail_fits : (c : Start) → SFits w64 c.args.a.end.tail
tail_fits c = search rules

ends_at : (c : Start) → to_z w64 (of_z w64 c.args.a.end.head) -ℤ to_z w64 (of_z w64 c.args.first)
    ≡ c.args.a.end.head -ℤ first_second c.args.a.start
ends_at c = rw (to_z-of_z (end_fits c), to_z-of_z c.ranges.first, c.requires.1)

counted : (c : After-as_count-whole) → let a = c.args.a in
    c.as_count-whole.result ≡ pos_part (a.end.head -ℤ first_second a.start)
counted c =
    c.as_count-whole.ensures ∙ rw (ends_at (goal.at.After-as_count-whole c).Start, to_z-of_z (left_fits c.args.a c.requires.0))

pub returns-then-a-gt0 : goal.returns-then-a-gt0
unfolding seconds_left
returns-then-a-gt0 c =
    rw (
      counted (goal.at.returns-then-a-gt0 c).After-as_count-whole,
      rw (to_z-of_z (tail_fits (goal.at.returns-then-a-gt0 c).Start)) at c.if-a-gt0.true,
    )

pub returns-else-a-gt0 : goal.returns-else-a-gt0
unfolding seconds_left
returns-else-a-gt0 c =
    rw (
      counted (goal.at.returns-else-a-gt0 c).After-as_count-whole,
      rw (to_z-of_z (tail_fits (goal.at.returns-else-a-gt0 c).Start))
          at c.if-a-gt0.false,
    ) (omega arith)
