-- A quotient from its bounds, and its bounds from it. Assumes nothing.
use mathlib.Core.Path.{◌≡◌}
use Prim.Native.Nat.{ℕ, suc, ◌*◌, ◌/◌, ◌≤◌, ◌<◌}
use native.Mathlib.Nat.{le_antisymm, le_of_suc-le-suc, le-div_iff_mul-le, div-lt_iff_lt-mul, div-add-mod', mod-lt}
use native.Mathlib.Omega.{arith}

pub quotient_is : (x y k : ℕ) → 0 < y → k * y ≤ x → x < suc k * y → x / y ≡ k
quotient_is x y k Y a b = le_antisymm (le_of_suc-le-suc ((div-lt_iff_lt-mul Y).1 b)) ((le-div_iff_mul-le Y).1 a)

pub below_next : (x y : ℕ) → 0 < y → x < suc (x / y) * y
below_next x y Y = omega (arith, div-add-mod' x y, mod-lt x Y)
