-- `ordered::ordered_ticks_light` meets its contract. Assumes nothing.
use native.Mathlib.Omega.{arith}
use lib.ListN.{length}
use Rattle.std.proofs.Common.{rules}
use Rattle.axis.specs.declared.Hint.TheVariants.{Light}
use Rattle.ordered.proofs.Counts.{ticks_on}
use Rattle.ordered.proofs.ordered_ticks_light.Goals as goal

pub returns-clause-value : goal.returns-clause-value
returns-clause-value c = let h = Light (record { bold = c.args.bold; n = c.args.n }) in
    let said = ticks_on c.axis_of-a.result h (length c.args.lent.now) c.from.ensures (omega arith) (search rules) in
    search rules

pub returns-clause-after_call : goal.returns-clause-after_call
returns-clause-after_call c = let written = c.list.ensures.after_call in
    search rules
