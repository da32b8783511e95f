-- `ordered::count_ticks` meets its contract. Assumes nothing.
use native.Mathlib.Omega.{arith}
use Rattle.std.proofs.Common.{rules}
use Rattle.ordered.proofs.Counts.{ticks_on}
use Rattle.ordered.proofs.count_ticks.Goals as goal

pub returns : goal.returns
returns c = ticks_on c.args.a c.args.h c.args.lent_len c.from.ensures (omega arith) (search rules)
