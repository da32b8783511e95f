-- `text_read::span` meets its contract: with a minus or without, the seconds decide. Assumes nothing.
use Rattle.text_read.specs.Fields.{read_span}
use Rattle.text_read.proofs.Fields.{first_minus}
use Rattle.text_read.proofs.span.Goals as goal

pub returns-in-Some-clause-value : goal.returns-in-Some-clause-value
unfolding read_span
returns-in-Some-clause-value c = let m = rw c.field-f.ensures at c.in-Some.ensures.cases in
    rw (c.seconds.ensures.value, m.1, ← first_minus c.args.s.now, m.0)

pub returns-in-None-clause-value : goal.returns-in-None-clause-value
unfolding read_span
returns-in-None-clause-value c = let m = rw c.field-f.ensures at c.in-None.ensures.cases in
    rw (c.seconds-in-None.ensures.value, c.field-f.ensures, ← first_minus c.args.s.now, m)
