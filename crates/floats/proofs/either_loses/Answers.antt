-- `floats::either_loses` meets its contract. Assumes nothing.
use mathlib.Core.Path.{◌≡◌, sym, ◌∙◌}
use mathlib.Core.Bool.{true, false, ◌&&◌, ◌||◌}
use lib.Bits.{bit_and, and_mask}
use lib.Dec.{eqb, eqb→eq}
use lib.IntN.{ℤ, pos}
use lib.Signed.{le_z, lt_z}
use mir.Syntax.{w64}
use mir.Val.{SFits, to_z, of_z}
use mir.Facts.{to_z-of_z}
use Rattle.laws.proofs.Tests.{both_true, is_true}
use Rattle.floats.specs.Losses.{lost_in}
use Rattle.floats.proofs.Losses.{tens_kept, between_kept}
use Rattle.floats.proofs.either_loses.Goals as goal

neither : (o t : ℤ) → lost_in o ≡ false → lost_in t ≡ false → false ≡ lost_in o || lost_in t
neither o t x y = λ i. sym x i || sym y i

-- ten zeros at the end, as the code reads them
tens : (z : ℤ) → SFits w64 z → eqb (bit_and (of_z w64 z) 1023) 0 ≡ true → lost_in z ≡ false
tens z f e = tens_kept z f (sym (and_mask (of_z w64 z) 10) ∙ eqb→eq _ _ (is_true _ e))

pub returns-then-o-t : goal.returns-then-o-t
returns-then-o-t c = let (x, y) = both_true _ _ c.if-o-t.true in
    neither c.args.o c.args.t (tens c.args.o c.ranges.o x) (tens c.args.t c.ranges.t y)

few : (z : ℤ) → SFits w64 z → le_z (pos 0) (to_z w64 (of_z w64 z)) && lt_z (to_z w64 (of_z w64 z)) (pos 9007199254740992) ≡ true →
    lost_in z ≡ false
few z f e = let (x, y) = both_true _ _ (rw (to_z-of_z f) at e) in between_kept z x y

pub returns-then-o-t-2 : goal.returns-then-o-t-2
returns-then-o-t-2 c = let (x, y) = both_true _ _ c.if-o-t-2.true in
    neither c.args.o c.args.t (few c.args.o c.ranges.o x) (few c.args.t c.ranges.t y)
