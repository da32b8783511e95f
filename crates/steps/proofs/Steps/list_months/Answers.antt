-- `steps::Steps::list_months` meets its contract: after i turns lent is i pairs and then what it had. Assumes nothing.
use mathlib.Core.Path.{◌≡◌, ap, ◌∙◌}
use Prim.Native.Nat.{◌^◌, ◌<◌}
use native.Mathlib.Omega.{arith}
use lib.IntN.{pos}
use mir.Syntax.{w64}
use mir.Val.{to_z}
use Rattle.laws.proofs.Signed.{read_count, count_fits}
use Rattle.values.specs.declared.Value.{Value}
use Rattle.steps.specs.Progression.{number_at, month_tick}
use Rattle.steps.proofs.Months.{first_most}
use Rattle.steps.proofs.Places.{month_small}
use Rattle.steps.proofs.Pairs.{none_written, one_more, all_written}
use Rattle.steps.proofs.Steps.list_months.Goals as goal
use Rattle.steps.proofs.Steps.list_months.Goals.{After-first_day-day, In-loop-i}

-- the month of a turn
month : (c : In-loop-i) → number_at c.args.self c.loop-i.i < 120000
month c = month_small c.args.self c.loop-i.i (omega arith) c.requires.0

pub loop-i-init : goal.loop-i-init
loop-i-init c = none_written _ _ _

-- its first day is one of the calendar's
in_calendar : (c : After-first_day-day) → c.first_day-day.result < 2 ^ 63
in_calendar c = omega (arith, first_most _ (month (goal.at.After-first_day-day c).In-loop-i), c.first_day-day.ensures)

pub overflow_cast-day : goal.overflow_cast-day
overflow_cast-day c = count_fits c.first_day-day.result (in_calendar (goal.at.overflow_cast-day c).After-first_day-day)

pub loop-i-preserved : goal.loop-i-preserved
loop-i-preserved c = let l = c.loop-i in
    let going : l.i < c.args.self.count = omega arith in
    let head : to_z w64 c.first_day-day.result ≡ (month_tick (number_at c.args.self l.i)).head =
    read_count c.first_day-day.result (in_calendar (goal.at.loop-i-preserved c).After-first_day-day)
    ∙ ap pos c.first_day-day.ensures in
    let v : Value = record { head = to_z w64 c.first_day-day.result; tail = pos 0 } in
    one_more l.invariant {v = v} going c.requires.1 (λ k. record { head = head k; tail = pos 0 })

pub returns : goal.returns
returns c = all_written c.loop-i.invariant (omega arith)
