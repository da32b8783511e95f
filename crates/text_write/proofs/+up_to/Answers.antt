-- `text_write::up_to` meets its contract: the digits before the last one, then that one. Assumes nothing.
use native.Mathlib.Omega.{arith}
use Rattle.text_write.proofs.Writing.{nothing, byte, then, up_to_none, up_to_one, up_to_more}
use Rattle.text_write.proofs.+up_to.Goals as goal

pub returns-then-k-eq0 : goal.returns-then-k-eq0
returns-then-k-eq0 t g c = rw (up_to_none _ _ c.if-k-eq0.true) (nothing _ _)

pub returns-then-n-lt10 : goal.returns-then-n-lt10
returns-then-n-lt10 t g c =
    rw (up_to_one _ _ c.if-k-eq0.false c.if-n-lt10.true)
    (then _ (nothing 0 _) (byte _ c.push.ensures.items) (omega arith))

pub returns : goal.returns
returns t g c =
    rw (up_to_more _ _ c.if-k-eq0.false c.if-n-lt10.false)
    (then _ c.up_to.ensures (byte _ c.push-2.ensures.items) (omega arith))
