-- `mapping::nudged` meets its contract: what it adds is the definition's. Assumes nothing.
use lib.Ieee.{binary64, add}
use Rattle.mapping.proofs.Placing.{nudge_is}
use Rattle.mapping.proofs.nudged.Goals as goal

pub returns : goal.returns
returns c = λ i. record { x = add binary64 c.args.q.x (nudge_is i); ratio = c.args.q.ratio }
