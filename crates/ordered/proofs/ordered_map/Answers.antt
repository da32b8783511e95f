-- `ordered::ordered_map` meets its contract. Assumes nothing.
use mathlib.Core.Path.{◌∙◌, ap}
use Rattle.std.proofs.Common.{rules}
use Rattle.ordered.specs.Replies.{pixel_reply}
use Rattle.ordered.proofs.ordered_map.Goals as goal

pub returns : goal.returns
returns c = let said = c.from.ensures ∙ ap pixel_reply c.map.ensures in
    search rules
