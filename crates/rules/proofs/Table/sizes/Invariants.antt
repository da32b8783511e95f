-- `rules::Table::sizes` meets its contract: the sizes so far, and those of the rows that are left, are all. Assumes nothing.
use mathlib.Core.Path.{◌≡◌}
use Prim.Native.Nat.{◌+◌, ◌*◌, ◌≤◌}
use lib.ListN.{drop}
use Rattle.rules.specs.Cover.{rows_of}
use Rattle.rules.specs.Table.{sizes}
use Rattle.rules.proofs.Table.sizes.Given as goal

abbrev pub invariant-loop-w : goal.invariant-loop-w
invariant-loop-w l = (l.n ≤ 3652059 * l.w-index)
    × (sizes (rows_of l.self.rows) ≡ l.n + sizes (drop l.w-index (rows_of l.self.rows)))
