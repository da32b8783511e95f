-- `ordered::ordered_unmap` meets its contract. Assumes nothing.
use mathlib.Core.Path.{◌∙◌, ap}
use Rattle.std.proofs.Common.{rules}
use Rattle.ordered.specs.Replies.{value_reply}
use Rattle.ordered.proofs.ordered_unmap.Goals as goal

pub returns : goal.returns
returns c = let said = c.from.ensures ∙ ap value_reply c.unmap.ensures in
    search rules
