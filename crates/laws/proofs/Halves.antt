-- A signed number of 64 bits by its halves: the upper one keeps the sign, the lower one has none. Assumes nothing.
use mathlib.Core.Path.{◌≡◌, ap, ◌∙◌}
use Prim.Native.Nat.{ℕ, ◌+◌, ◌*◌, ◌%◌, ◌^◌, ◌≤◌}
use native.Mathlib.Omega.{arith}
use lib.Bits.{bit_and, and_mask}
use lib.IntN.{ℤ, pos, negsuc, nat_abs}
use lib.Signed.{shr_z, mag_shr}
use mir.Syntax.{w64}
use mir.Val.{SFits, to_z, of_z}
use mir.Facts.{to_z-of_z}
use mir.ValLaws.{sfits_le}
use Rattle.laws.specs.Numbers.{pos_part, neg_part}
use Rattle.laws.proofs.Signed.{read_count}

abbrev pub H : ℕ
H = 4294967296

abbrev pub upper : ℤ → ℤ
upper n = shr_z n H

abbrev pub lower : ℤ → ℕ
lower n = of_z w64 n % 2 ^ 32

-- as the code reads them back
pub upper_is : (n : ℤ) → SFits w64 n → to_z w64 (of_z w64 (shr_z (to_z w64 (of_z w64 n)) 4294967296)) ≡ upper n
upper_is n s = rw (to_z-of_z s) (to_z-of_z (sfits_le (mag_shr n H) s))

pub lower_is : (m : ℕ) → to_z w64 (bit_and m 4294967295) ≡ pos (m % 2 ^ 32)
lower_is m = ap (to_z w64) (and_mask m 32) ∙ read_count (m % 2 ^ 32) (omega arith)

pub upper_few : (n : ℤ) → SFits w64 n → nat_abs (upper n) ≤ 2 ^ 31
upper_few (pos a) s = omega (arith, s.sfits)
upper_few (negsuc a) s = omega (arith, s.sfits)

-- the number is both
pub halves : (n : ℤ) → SFits w64 n → pos_part (upper n) * H + lower n + neg_part n ≡ pos_part n + neg_part (upper n) * H
halves (pos a) f = omega arith
halves (negsuc a) f = omega (arith, f.sfits)
