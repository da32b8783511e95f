-- `ticks::key_points` meets its contract: what `list` left, up to its count. Assumes nothing.
use mathlib.Core.Path.{◌≡◌, sym}
use Prim.Native.Nat.{◌*◌, ◌≤◌}
use native.Mathlib.Omega.{arith}
use lib.ListN.{length}
use lib.Seq.{length-take-le}
use Rattle.steps.specs.Listing.{count_of}
use Rattle.ticks.proofs.Answers.{in_lent}
use Rattle.ticks.proofs.key_points.Goals as goal

pub slice_bounds-result-end : goal.slice_bounds-result-end
slice_bounds-result-end c = let x = c.args in
    let n : c.unwrap_or-n.result ≡ count_of c.list.result = c.unwrap_or-n.ensures in
    let h : 2 * c.unwrap_or-n.result ≤ length c.list.new.lent =
    rw (n, c.list.ensures.value) (omega (arith, c.list.auto.lent, in_lent x.a x.h x.lent.now)) in
    sym (length-take-le (2 * c.unwrap_or-n.result) c.list.new.lent h)
