-- `ordered::list_ruled` meets its contract. Assumes nothing.
use native.Mathlib.Omega.{arith}
use lib.ListN.{length}
use Rattle.std.proofs.Common.{rules}
use Rattle.ordered.proofs.Counts.{table_on}
use Rattle.ordered.proofs.list_ruled.Goals as goal

pub returns-clause-value : goal.returns-clause-value
returns-clause-value c =
    table_on c.args.a c.args.table.now (length c.args.lent.now) c.from.ensures (omega arith) (search rules)
