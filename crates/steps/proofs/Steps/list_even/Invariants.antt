-- `steps::Steps::list_even` meets its contract: after i turns lent is i pairs and then what it had, and whole and part are the
-- heads and the rest of the place i. Assumes nothing.
use mathlib.Core.Path.{◌≡◌}
use Prim.Native.Nat.{◌/◌, ◌%◌}
use Rattle.steps.specs.Progression.{even_tick, number_at}
use Rattle.steps.proofs.Pairs.{Written}
use Rattle.steps.proofs.Steps.list_even.Given as goal

abbrev pub invariant-loop-i : goal.invariant-loop-i
invariant-loop-i l =
    Written (λ i. even_tick l.h (number_at l.fn.self i)) l.fn.self.count l.initial.lent l.lent l.i
    × ((l.whole ≡ number_at l.fn.self l.i / l.h.per) × (l.part ≡ number_at l.fn.self l.i % l.h.per))
