-- `counting::DateAxis::size_of` meets its contract. Assumes nothing.
use mathlib.Core.Path.{sym, ◌∙◌, ap}
use native.Mathlib.Omega.{arith}
use Prim.Native.Nat.{◌+◌, ◌-◌}
use Rattle.counting.specs.declared.Position.{Position}
use Rattle.counting.proofs.Counting.{end_on, position_most}
use Rattle.counting.proofs.Sizes.{size_is}
use Rattle.counting.proofs.DateAxis.size_of.Goals as goal

pub position_of-p-requires : goal.position_of-p-requires
position_of-p-requires c = end_on c.args.self.axis c.args.self.dated

pub overflow_add-p : goal.overflow_add-p
overflow_add-p c = let d = c.args.self in
    let e = ap (λ (x : Position). x.at) c.position_of-p.ensures in
    omega (arith, e, position_most d.axis d.dated d.axis.end (end_on d.axis d.dated))

pub returns : goal.returns
returns c = c.saturating_sub.ensures ∙ ap (λ (x : Position). x.at + 1 - x.from) c.position_of-p.ensures
    ∙ sym (size_is c.args.self.axis)
