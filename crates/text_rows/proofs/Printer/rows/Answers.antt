-- `text_rows::Printer::rows` meets its contract: the answer to a line that reads, and to one that does not. Assumes nothing.
use mathlib.Core.Path.{sym, ◌∙◌}
use native.Mathlib.Omega.{arith}
use Rattle.text_write.proofs.Writing.{within}
use Rattle.text_rows.proofs.Lists.{line_read, line_unread}
use Rattle.text_rows.proofs.Printer.rows.Goals as goal

pub returns-in-Some : goal.returns-in-Some
returns-in-Some g c = rw (line_read _ _ _ (sym c.read_line.ensures ∙ c.in-Some.is)) c.request_rows.ensures

pub returns-in-None : goal.returns-in-None
returns-in-None g c = rw (line_unread _ _ (sym c.read_line.ensures ∙ c.in-None.is)) (within (omega arith) c.refusal_row.ensures)
