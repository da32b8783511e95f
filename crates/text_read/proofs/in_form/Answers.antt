-- `text_read::in_form` meets its contract: it counts as std does. Assumes nothing.
use borrow.Author.Rules.{rules}
use mathlib.Core.Path.{◌≡◌}
use lib.Dec.{eqb}
use Rattle.std.specs.List.{count_by}
use Rattle.text_read.specs.Bytes.{space_byte}
use Rattle.text_read.specs.Lines.{in_form}
use Rattle.text_read.proofs.Lines.{occurrences_count}
use Rattle.text_read.proofs.in_form.Goals as goal

pub returns : goal.returns
unfolding in_form
returns c =
    let e : c.count.result ≡ count_by (λ b. eqb b space_byte) c.args.s.now = search rules in
    rw (occurrences_count space_byte c.args.s.now, e)
