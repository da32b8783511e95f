-- `discrete::unmap_in` meets its contract: an index above the last day's number has no date. Assumes nothing.
use borrow.Author.Rules.{rules}
use mathlib.Core.Path.{◌≡◌, ◌∙◌, ap}
use native.Mathlib.Omega.{arith}
use Prim.Native.Nat.{◌<◌}
use lib.IntN.{ℤ}
use mir.Facts.{to_z-of_z}
use Rattle.axis.proofs.Checked.{out_of_range}
use Rattle.discrete.specs.Indices.{value_at, index_under}
use Rattle.discrete.proofs.Indices.{far}
use Rattle.discrete.proofs.unmap_in.Goals as goal
use Rattle.discrete.proofs.unmap_in.Goals.{After-index_under-i}

under : (c : After-index_under-i) → let x = c.args in c.index_under-i.result ≡ index_under x.d.axis x.l x.p
under c = c.index_under-i.ensures ∙ ap (λ (z : ℤ). index_under c.args.d.axis c.args.l z) (to_z-of_z c.ranges.p)

pub returns-in_err-ask : goal.returns-in_err-ask
returns-in_err-ask c = let i = index_under c.args.d.axis c.args.l c.args.p in
    let above : 3652059 < c.index_under-i.result = search rules in
    let out = out_of_range (value_at c.args.d.axis i)
    (far c.args.d.axis c.args.d.dated i (omega (arith, above, under (goal.at.returns-in_err-ask c).After-index_under-i))) in
    search rules
