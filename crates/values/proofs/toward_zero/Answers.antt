-- `values::toward_zero` meets its contract. Assumes nothing.
use mir.Facts.{to_z-of_z}
use Rattle.std.proofs.Common.{rules, pos, w64, ◌+ℤ◌, ◌-ℤ◌, FitsSigned}
use Rattle.values.proofs.Joining.{kept, lower, higher}
use Rattle.values.proofs.toward_zero.Goals as goal

pub returns-then-heads-tails : goal.returns-then-heads-tails
returns-then-heads-tails c =
    let h = to_z-of_z c.ranges.heads in
    let t = to_z-of_z c.ranges.tails in
    let f : FitsSigned w64 (c.args.heads -ℤ pos 1) = search rules in
    rw (h, to_z-of_z f) (lower c.args.heads c.args.tails (rw (h, t) at c.if-heads-tails.true))

pub returns-then-heads-tails-2 : goal.returns-then-heads-tails-2
returns-then-heads-tails-2 c =
    let h = to_z-of_z c.ranges.heads in
    let t = to_z-of_z c.ranges.tails in
    let f : FitsSigned w64 (c.args.heads +ℤ pos 1) = search rules in
    rw (h, to_z-of_z f) (higher c.args.heads c.args.tails (rw (h, t) at c.if-heads-tails-2.true))

pub returns : goal.returns
returns c =
    let h = to_z-of_z c.ranges.heads in
    let t = to_z-of_z c.ranges.tails in
    rw h (kept c.args.heads c.args.tails (rw (h, t) at c.if-heads-tails.false) (rw (h, t) at c.if-heads-tails-2.false))
