-- `text_plate::finished` meets its contract: each answer is one of the definition's. Assumes nothing.
use mathlib.Core.Path.{sym, ◌∙◌}
use native.Mathlib.Omega.{arith}
use Rattle.text_write.proofs.Writing.{within}
use Rattle.text_plate.proofs.Lines.{finished_rows, finished_names, finished_wrong, goes_rows, goes_names}
use Rattle.text_plate.proofs.finished.Goals as goal

pub returns-then-number-gt0-clause-value : goal.returns-then-number-gt0-clause-value
returns-then-number-gt0-clause-value g c = goes_rows _ _ c.if-number-gt0.true

pub returns-then-number-gt0-clause-wrote : goal.returns-then-number-gt0-clause-wrote
returns-then-number-gt0-clause-wrote g c = rw (finished_rows _ _ c.if-number-gt0.true) c.rows.ensures

pub returns-then-named-clause-value : goal.returns-then-named-clause-value
returns-then-named-clause-value g c = c.is_names-named.ensures ∙ goes_names _ _ c.if-number-gt0.false

pub returns-then-named-clause-wrote : goal.returns-then-named-clause-wrote
returns-then-named-clause-wrote g c =
    rw (finished_names _ _ c.if-number-gt0.false (sym c.is_names-named.ensures ∙ c.if-named.true))
    (within (omega arith) c.output_names.ensures)

pub returns-else-named-clause-value : goal.returns-else-named-clause-value
returns-else-named-clause-value g c = c.is_names-named.ensures ∙ goes_names _ _ c.if-number-gt0.false

pub returns-else-named-clause-wrote : goal.returns-else-named-clause-wrote
returns-else-named-clause-wrote g c =
    rw (finished_wrong _ _ c.if-number-gt0.false (sym c.is_names-named.ensures ∙ c.if-named.false))
    (within (omega arith) c.no_names.ensures)
