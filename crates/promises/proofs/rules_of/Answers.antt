-- `promises::rules_of` meets its contract: the theorem, of what the export answers. Assumes nothing.
use mathlib.Core.Path.{sym, subst}
use Rattle.ordered.specs.declared.OrderedNumber.{OrderedNumber}
use Rattle.promises.specs.HouseRules.{TableClaim}
use Rattle.promises.proofs.HouseRules.{rules_judged}
use Rattle.promises.proofs.rules_of.Goals as goal

pub returns : goal.returns
returns c = let t = c.args.table.now in
    subst (λ (r : OrderedNumber). TableClaim t r) (sym c.ordered_rules.ensures) (rules_judged t)
