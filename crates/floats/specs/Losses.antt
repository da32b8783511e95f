-- When a whole number loses something on its way to f64: the float nearest to it is another number. Definitions only.
use Rattle.std.specs.Prelude.{Bool, false, not, ◌&&◌, ◌*◌, eqb, ℤ, pos, nat_abs, Float}
use Rattle.std.specs.Bool.{beq}
use Rattle.std.specs.Int.Signed.{lt_z}
use Rattle.std.specs.Float.{nan, inf, fin, binary64}
use Rattle.std.specs.Float.Ieee.{up, down, of_int}

-- the float is the whole number z: finite, with z's sign, and m * 2 ^ e is as far from 0 as z
unfoldable pub is_whole : Float → ℤ → Bool
is_whole nan z = false
is_whole (inf s) z = false
is_whole (fin s m e) z = beq s (lt_z z (pos 0)) && eqb (m * up e) (nat_abs z * down e)

-- z as f64 is another number than z
unfoldable pub lost_in : ℤ → Bool
lost_in z = not (is_whole (of_int binary64 z) z)
