-- `steps::Steps::list_months` meets its contract: after i turns lent is i pairs and then what it had. Assumes nothing.
use Rattle.steps.specs.Progression.{month_tick, number_at}
use Rattle.steps.proofs.Pairs.{Written}
use Rattle.steps.proofs.Steps.list_months.Given as goal

abbrev pub invariant-loop-i : goal.invariant-loop-i
invariant-loop-i l = Written (λ i. month_tick (number_at l.self i)) l.self.count l.initial.lent l.lent l.i
