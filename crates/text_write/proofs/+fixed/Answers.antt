-- `text_write::fixed` meets its contract: the digits before the last one, then that one. Assumes nothing.
use native.Mathlib.Omega.{arith}
use Rattle.text_write.proofs.Writing.{nothing, byte, then, fixed_none, fixed_more}
use Rattle.text_write.proofs.+fixed.Goals as goal

pub returns-then-w-gt0 : goal.returns-then-w-gt0
returns-then-w-gt0 t g c =
    rw (fixed_more _ _ c.if-w-gt0.true) (then _ c.fixed.ensures (byte _ c.push.ensures.items) (omega arith))

pub returns-else-w-gt0 : goal.returns-else-w-gt0
returns-else-w-gt0 t g c = rw (fixed_none _ _ c.if-w-gt0.false) (nothing _ _)
