-- `ordered::ordered_from_index` meets its contract. Assumes nothing.
use mathlib.Core.Path.{◌∙◌, ap}
use Rattle.std.proofs.Common.{rules}
use Rattle.ordered.specs.Replies.{value_reply}
use Rattle.ordered.proofs.ordered_from_index.Goals as goal

pub returns : goal.returns
returns c = let said = c.from.ensures ∙ ap value_reply c.from_index.ensures in
    search rules
