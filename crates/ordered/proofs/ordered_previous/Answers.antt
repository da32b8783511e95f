-- `ordered::ordered_previous` meets its contract. Assumes nothing.
use mathlib.Core.Path.{◌∙◌, ap}
use Rattle.std.proofs.Common.{rules}
use Rattle.ordered.specs.Replies.{value_if_reply}
use Rattle.ordered.proofs.ordered_previous.Goals as goal

pub returns : goal.returns
returns c = let said = c.from.ensures ∙ ap value_if_reply c.previous.ensures in
    search rules
