-- `text_line::span_value` meets its contract: its numbers, read back from their bits, are themselves. Assumes nothing.
use native.Mathlib.Omega.{arith}
use Rattle.laws.proofs.Signed.{read_count}
use Rattle.text_line.specs.Line.{span_value}
use Rattle.text_line.proofs.span_value.Goals as goal

pub returns-then-p : goal.returns-then-p
unfolding span_value
returns-then-p c = rw c.if-p.true c.below_zero.ensures

pub returns : goal.returns
unfolding span_value
returns c = let p = c.args.p in
    rw (read_count p.seconds (omega arith), read_count p.nano (omega arith), c.if-p.false)
