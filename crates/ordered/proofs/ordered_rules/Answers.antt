-- `ordered::ordered_rules` meets its contract. Assumes nothing.
use Rattle.std.proofs.Common.{rules}
use Rattle.ordered.proofs.Counts.{number_fits, rows_most}
use Rattle.ordered.proofs.ordered_rules.Goals as goal

pub returns : goal.returns
returns c = let said = c.from.ensures (number_fits _ c.count.ensures (rows_most c.args.table.now)) in search rules
