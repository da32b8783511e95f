-- `text_read::date` meets its contract: ten bytes, and the three numbers decide. Assumes nothing.
use borrow.Author.Tests.{eq-eqb, ne_eqb}
use Rattle.text_read.specs.Fields.{read_date}
use Rattle.text_read.proofs.date.Goals as goal

pub returns-then-until-ne10-clause-value : goal.returns-then-until-ne10-clause-value
unfolding read_date
returns-then-until-ne10-clause-value c = rw (← c.until.ensures.value, ne_eqb _ _ c.if-until-ne10.true)

pub returns-clause-value : goal.returns-clause-value
unfolding read_date
returns-clause-value c = let t = eq-eqb _ _ c.if-until-ne10.false in rw (← c.until.ensures.value, t) c.ymd.ensures.value
