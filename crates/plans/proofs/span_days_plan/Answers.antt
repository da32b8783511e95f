-- `plans::span_days_plan` meets its contract. Assumes nothing.
use borrow.Author.Rules.{rules}
use mathlib.Core.Path.{◌≡◌, ◌∙◌}
use lib.IntN.{◌-ℤ◌}
use mir.Syntax.{w64}
use mir.Val.{to_z, of_z}
use mir.Facts.{to_z-of_z}
use Rattle.laws.specs.Numbers.{pos_part}
use Rattle.counting.proofs.Counting.{no_less}
use Rattle.plans.specs.Times.{first_second, span_days_plan}
use Rattle.values.specs.Differences.{days_in}
use Rattle.plans.proofs.Spans.{total_dn, total_range}
use Rattle.plans.proofs.span_days_plan.Goals as goal
use Rattle.plans.proofs.span_days_plan.Goals.{After-as_count, After-days_in-2, After-first_second-first}

first : (c : After-first_second-first) → to_z w64 (of_z w64 c.first_second-first.result)
    ≡ first_second c.args.a.start
first c = to_z-of_z {w = w64} {z = c.first_second-first.result} (search rules)
    ∙ c.first_second-first.ensures

between : (c : After-days_in-2) → let a = c.args.a in
    to_z w64 (of_z w64 c.days_in.result) -ℤ to_z w64 (of_z w64 c.days_in-2.result)
    ≡ days_in a.end -ℤ days_in a.start
between c = let e = to_z-of_z {w = w64} {z = c.days_in.result} (search rules)
    ∙ c.days_in.ensures in
    let s = to_z-of_z {w = w64} {z = c.days_in-2.result} (search rules)
    ∙ c.days_in-2.ensures in
    rw (e, s)

counted : (c : After-as_count) → let a = c.args.a in
    c.as_count.result ≡ pos_part (days_in a.end -ℤ days_in a.start)
counted c =
    c.as_count.ensures ∙ rw (between (goal.at.After-as_count c).After-days_in-2, to_z-of_z (total_range c.args.a c.requires).1)

pub as_count-requires : goal.as_count-requires
as_count-requires c = let a = c.args.a in
    rw (between (goal.at.as_count-requires c).After-days_in-2, to_z-of_z (total_range a c.requires).1)
    (no_less (days_in a.end -ℤ days_in a.start) (total_dn a c.requires))

pub returns : goal.returns
unfolding span_days_plan
returns c =
    c.plan.ensures ∙ rw (
      c.whole_heads.ensures,
      first (goal.at.returns c).After-first_second-first,
      c.seconds_left.ensures,
      c.first_fit-step.ensures,
      counted (goal.at.returns c).After-as_count,
    )
