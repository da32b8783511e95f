-- `ordered::ordered_count_bold` meets its contract. Assumes nothing.
use Rattle.std.proofs.Common.{rules}
use Rattle.ordered.proofs.ordered_count_bold.Goals as goal

pub returns : goal.returns
returns c = let said = c.count_ticks.ensures in
    search rules
