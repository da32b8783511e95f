-- `discrete::index_at` meets its contract, by the law of the floor. Assumes nothing.
use mathlib.Core.Path.{◌≡◌, sym, ap, ◌∙◌}
use mathlib.Core.Bool.{Bool, true, false, cond}
use Prim.Native.Nat.{◌*◌, ◌/◌, ◌≤◌}
use native.Mathlib.Nat.{mul-le-mul, le_trans, lt_of_le_of_lt}
use lib.Dec.{lit<, lit≤}
use lib.IntN.{pos, nat_abs}
use lib.Ieee.{binary64, unlike}
use lib.Signed.{lt_z}
use mir.Syntax.{w64}
use mir.Val.{to_z, of_z}
use mir.Facts.{to_z-of_z}
use Rattle.floats.proofs.Values.{below_zero}
use Rattle.floats.proofs.Quotients.{ratio_floor}
use Rattle.floats.proofs.Signs.{sign_is}
use Rattle.discrete.specs.Indices.{index_at}
use Rattle.discrete.proofs.Unmapping.{index_whole}
use Rattle.discrete.proofs.index_at.Goals as goal
use Rattle.discrete.proofs.index_at.Goals.{After-unsigned_abs, After-unsigned_abs-2, Start}

law : (c : Start) → index_at c.args.offset c.args.size c.args.width
    ≡ cond (unlike (below_zero c.args.offset) (below_zero c.args.width)) 0
    (nat_abs c.args.offset * c.args.size / nat_abs c.args.width)
law c = index_whole c.args.offset c.args.size c.args.width c.requires.0 c.requires.1 c.requires.2 c.requires.3

-- the test of the signs, as the code reads it
signs : (s : Start) (b : Bool) → unlike (lt_z (to_z w64 (of_z w64 s.args.offset)) (pos 0))
    (lt_z (to_z w64 (of_z w64 s.args.width)) (pos 0)) ≡ b → unlike (below_zero s.args.offset)
    (below_zero s.args.width) ≡ b
signs s b e = rw (to_z-of_z s.ranges.offset, to_z-of_z s.ranges.width, sign_is s.args.offset, sign_is s.args.width) at e

pub returns-then-offset-width : goal.returns-then-offset-width
returns-then-offset-width c = let t = signs (goal.at.returns-then-offset-width c).Start true c.if-offset-width.true in
    sym (law (goal.at.returns-then-offset-width c).Start ∙ ap
    (λ (s : Bool). cond s 0 (nat_abs c.args.offset * c.args.size / nat_abs c.args.width)) t)

-- the magnitudes, as the code hands them on
offset_is : (c : After-unsigned_abs) → c.unsigned_abs.result ≡ nat_abs c.args.offset
offset_is c = c.unsigned_abs.ensures.value ∙ ap nat_abs (to_z-of_z c.ranges.offset)

product : (s : Start) → nat_abs s.args.offset * s.args.size ≤ 65534 * 3652059
product s = mul-le-mul s.requires.0 s.requires.1

width_is : (c : After-unsigned_abs-2) → c.unsigned_abs-2.result ≡ nat_abs c.args.width
width_is c = c.unsigned_abs-2.ensures.value ∙ ap nat_abs (to_z-of_z c.ranges.width)

pub returns : goal.returns
returns c = let n = nat_abs c.args.offset * c.args.size in
    let d = nat_abs c.args.width in
    let t = signs (goal.at.returns c).Start false c.if-offset-width.false in
    c.floor_quotient.ensures
    ∙ (rw (offset_is (goal.at.returns c).After-unsigned_abs, width_is (goal.at.returns c).After-unsigned_abs-2)
    (ratio_floor binary64 n d (lt_of_le_of_lt (product (goal.at.returns c).Start) (lit< tt)) c.requires.3
    (le_trans c.requires.2 (lit≤ tt)))
    ∙ sym (law (goal.at.returns c).Start ∙ ap (λ (b : Bool). cond b 0 (n / d)) t))
