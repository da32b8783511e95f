-- `feed::Line::keep` meets its contract: what there is room for is put behind what was kept. Assumes nothing.
use mathlib.Core.Path.{◌≡◌, ◌∙◌}
use Prim.Native.Nat.{◌+◌, ◌-◌, ◌≤◌, min}
use lib.ListN.{length, take}
use native.Mathlib.Omega.{arith}
use Rattle.std.proofs.Common.{length-take-le}
use Rattle.std.proofs.lemmas.Bool.Decides.{nat_tests}
use Rattle.feed.proofs.Keeping.{kept, put_front, put_rest, put_length}
use Rattle.feed.proofs.Line.keep.Goals as goal
use Rattle.feed.proofs.Line.keep.Goals.{After-copy_from_slice}

-- as many bytes go to the line as there is room for
taken : (c : After-copy_from_slice) → c.min-n.result ≡ min (length c.args.part.now) (121 - c.self.inside.len)
taken c = grind (arith, nat_tests, c.min-n.ensures)

room : (c : After-copy_from_slice) → c.self.inside.len + c.min-n.result ≤ 121
room c = grind (arith, nat_tests, taken c, c.self.invariant.0)

size : (c : After-copy_from_slice) → length c.copy_from_slice.new.self ≡ c.min-n.result
size c = grind (arith, nat_tests, taken c, c.copy_from_slice.ensures.after)

pub invariant_of-self : goal.invariant_of-self
invariant_of-self c =
    let p = (goal.at.invariant_of-self c).After-copy_from_slice in
    let xs = c.self.inside.bytes in
    let all = c.self.invariant.1 in
    (room p, put_length xs _ _ _ (room p) all (size p), put_rest xs _ _ _ (room p) all (size p) c.self.invariant.2)

pub returns : goal.returns
returns c =
    let p = (goal.at.returns c).After-copy_from_slice in
    let i = c.self.inside in
    let h = c.self.invariant in
    let front : length (take i.len i.bytes) ≡ i.len = length-take-le i.len i.bytes (omega (arith, h.0, h.1)) in
    put_front i.bytes _ _ _ (room p) h.1 (size p)
    ∙ rw (c.copy_from_slice.ensures.after, ← c.self.view_is)
    (kept (take i.len i.bytes) c.args.part.now (121 - i.len) _ (omega (arith, front, h.0)) (taken p))
