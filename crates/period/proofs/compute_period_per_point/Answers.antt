-- `period::compute_period_per_point` meets its contract: the first step that is wide enough, on the power's ladder. Assumes
-- nothing.
use mathlib.Core.Path.{◌≡◌, sym, ap, ◌∙◌}
use mathlib.Core.Bool.{false}
use Rattle.std.specs.Prelude.{Some}
use Rattle.period.specs.Periods.{no_period}
use Rattle.period.proofs.Ladders.{chosen_ends}
use Rattle.period.proofs.Periods.{Answers, answers_none, answers, below_day, any_step, days_listed}
use Rattle.period.proofs.compute_period_per_point.Goals as goal
use Rattle.period.proofs.compute_period_per_point.Goals.{After-climb}
use Rattle.period.proofs.compute_period_per_point.Goals.{else-sub_daily-via-then-sub_daily+else-p-ge-DAY}
use Rattle.period.proofs.compute_period_per_point.Goals.{else-sub_daily-via-else-sub_daily}

pub returns-then-p-ge-DAY-clause-nanoseconds : goal.returns-then-p-ge-DAY-clause-nanoseconds
returns-then-p-ge-DAY-clause-nanoseconds c = let a = c.args in
    (answers_none a.span a.n a.sub_daily c.largest_power-p.result c.largest_power-p.ensures
    (days_listed _ _ c.if-p-ge-DAY.true c.if-sub_daily.true)).0

pub returns-then-p-ge-DAY-clause-tested : goal.returns-then-p-ge-DAY-clause-tested
returns-then-p-ge-DAY-clause-tested c = let a = c.args in
    (answers_none a.span a.n a.sub_daily c.largest_power-p.result c.largest_power-p.ensures
    (days_listed _ _ c.if-p-ge-DAY.true c.if-sub_daily.true)).1

pub climb-requires : goal.climb-requires
climb-requires c = let a = c.args in
    rw c.ladder_of.ensures (chosen_ends a.span a.n c.requires.2 c.largest_power-p.result c.largest_power-p.ensures
    c.requires.1 c.requires.0)

-- what the search finds is the answer
found : (c : After-climb) → Answers c.args.span c.args.n c.args.sub_daily (Some c.climb.result.nanoseconds) c.climb.result.tested
found c =
    let a = c.args in
    let some : no_period c.largest_power-p.result a.sub_daily ≡ false = elim c.else-sub_daily.branch [
      | else-sub_daily-via-then-sub_daily+else-p-ge-DAY w ↦ below_day _ _ w.if-p-ge-DAY.false
      | else-sub_daily-via-else-sub_daily w ↦ any_step _ _ w.if-sub_daily.false
    ] in
    let g = answers a.span a.n a.sub_daily c.largest_power-p.result c.largest_power-p.ensures some _
    (sym c.ladder_of.ensures) in
    (ap Some c.climb.ensures.0 ∙ g.0, c.climb.ensures.1 ∙ g.1)

pub returns-clause-nanoseconds : goal.returns-clause-nanoseconds
returns-clause-nanoseconds c = (found (goal.at.returns-clause-nanoseconds c).After-climb).0

pub returns-clause-tested : goal.returns-clause-tested
returns-clause-tested c = (found (goal.at.returns-clause-tested c).After-climb).1
