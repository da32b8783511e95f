-- `ordered::count_ruled` meets its contract. Assumes nothing.
use native.Mathlib.Omega.{arith}
use Rattle.std.proofs.Common.{rules}
use Rattle.ordered.proofs.Counts.{table_on}
use Rattle.ordered.proofs.count_ruled.Goals as goal

pub returns : goal.returns
returns c = table_on c.args.a c.args.table.now c.args.lent_len c.from.ensures (omega arith) (search rules)
