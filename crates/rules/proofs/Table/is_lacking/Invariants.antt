-- `rules::Table::is_lacking` meets its contract: every length before the one that is asked has a row. Assumes nothing.
use Prim.Native.Nat.{ℕ, ◌-◌, ◌<◌}
use Rattle.rules.specs.Cover.{rows_of, rows_for}
use Rattle.rules.proofs.Table.is_lacking.Given as goal

abbrev pub invariant-loop-at : goal.invariant-loop-at
invariant-loop-at loop = (l : ℕ) → l < loop.at → 0 < rows_for (rows_of loop.self.rows) l

abbrev pub decreases-loop-at : goal.decreases-loop-at
decreases-loop-at l = 3652059 - l.at
