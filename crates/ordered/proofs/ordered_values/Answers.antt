-- `ordered::ordered_values` meets its contract. Assumes nothing.
use mathlib.Core.Path.{◌∙◌, ap}
use Rattle.std.proofs.Common.{rules}
use Rattle.ordered.specs.Replies.{step_reply}
use Rattle.ordered.proofs.ordered_values.Goals as goal

pub returns : goal.returns
returns c = let said = c.from.ensures ∙ ap step_reply c.values.ensures in
    search rules
