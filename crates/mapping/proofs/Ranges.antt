-- A cut float is an i32, and fits with a pixel added; a width is a float exactly, and so are days. Assumes nothing.
use mathlib.Core.Path.{◌≡◌, ◌∙◌, ap}
use mathlib.Core.Bool.{true}
use Prim.Native.Nat.{◌+◌, ◌≤◌, ◌<◌, ◌^◌}
use native.Mathlib.Nat.{lt_of_lt_of_le}
use native.Mathlib.Omega.{arith}
use lib.Dec.{T, lit≤}
use lib.IntN.{ℤ, pos, negsuc, nat_abs, ◌+ℤ◌, ◌-ℤ◌}
use lib.Ieee.{Float, binary64, in_float}
use lib.Ieee.Casts.{to_signed_in}
use mir.Syntax.{w32, w64}
use mir.Val.{SFits, to_z, of_z}
use mir.Facts.{to_z-of_z}
use Rattle.laws.specs.Numbers.{pos_part, neg_part}
use Rattle.laws.proofs.Signed.{add, abs, fits}
use Rattle.floats.proofs.Values.{in_float_law}
use Rattle.axis.specs.declared.Limits.{Limits}
use Rattle.axis.specs.Questions.{is_pixel, pixels}
use Rattle.axis.proofs.Questions.{pixel_range}
use Rattle.axis.proofs.PixelRanges.{limits_are, between_few, between_fits}
use Rattle.mapping.specs.Position.{width}
use Rattle.floats.specs.Rounding.{cut}

pub wider : (z : ℤ) → SFits w32 z → SFits w64 z
wider z h = record { sfits = lt_of_lt_of_le h.sfits (lit≤ tt) }

pub cut_fits : (x : Float) → SFits w32 (cut x)
cut_fits x = record { sfits = to_signed_in 31 x }

up_32 : (z : ℤ) → SFits w32 z → pos_part z < 2 ^ 31
up_32 (pos n) f = f.sfits
up_32 (negsuc n) f = omega arith

dn_32 : (z : ℤ) → SFits w32 z → neg_part z ≤ 2 ^ 31
dn_32 (pos n) f = omega arith
dn_32 (negsuc n) f = omega (arith, f.sfits)

pub sum_fits : (low z : ℤ) → is_pixel low ≡ true → SFits w32 z → SFits w64 (low +ℤ z)
sum_fits low z e f =
    let (a, b) = pixel_range low e in
    fits (low +ℤ z) (pos_part low + pos_part z) (neg_part low + neg_part z) (omega (arith, add low z)) (omega (arith, up_32 z f))
    (omega (arith, dn_32 z f))

-- what `as` asks of a width
pub width_in : (l : Limits) → pixels l ≡ true → T (in_float binary64 (width l))
width_in l e = let (p, q) = limits_are l e in
    in_float_law binary64 (width l) (omega (arith, between_few l.high l.low q p))

-- a width, as the code reads it back
pub width_back : (l : Limits) (w : ℤ) → pixels l ≡ true → w ≡ l.high -ℤ l.low → to_z w64 (of_z w64 w) ≡ width l
width_back l w e is = let (p, q) = limits_are l e in
    ap (λ (z : ℤ). to_z w64 (of_z w64 z)) is ∙ to_z-of_z (between_fits l.high l.low q p)

pub few : (z : ℤ) → (neg_part z ≤ 7305000) × (pos_part z ≤ 7305000) → nat_abs z ≤ 2 ^ 53
few z (a, b) = omega (arith, abs z)
