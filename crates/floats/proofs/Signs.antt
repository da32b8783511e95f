-- A signed number's sign and its distance from 0, and back. Assumes nothing.
use mathlib.Core.Path.{◌≡◌, refl, sym, ap, ◌∙◌}
use mathlib.Core.Bool.{true, false≢true}
use Prim.Native.Nat.{ℕ, suc, ◌+◌, ◌-◌, ◌^◌, ◌<◌, ◌≤◌, zero-le}
use native.Mathlib.Omega.{arith}
use lib.IntN.{ℤ, pos, negsuc, neg_ℤ, nat_abs, ◌-ℤ◌, +ℤ_idl}
use lib.Signed.{lt_z}
use mir.Syntax.{w64}
use mir.Val.{SFits, to_z}
use borrow.Author.Tests.{le-ltb}
use Rattle.laws.proofs.Signed.{sub, same, read_count}
use Rattle.floats.proofs.Values.{below_zero}

pub sign_is : (x : ℤ) → lt_z x (pos 0) ≡ below_zero x
sign_is (pos n) = le-ltb n 0 zero-le
sign_is (negsuc n) = refl

pub size_fits : (x : ℤ) → SFits w64 x → nat_abs x ≤ 2 ^ 63
size_fits (pos n) f = omega (arith, f.sfits)
size_fits (negsuc n) f = f.sfits

-- below 0
pub turned : (x : ℤ) → lt_z x (pos 0) ≡ true → (negsuc 0 -ℤ x ≡ pos (nat_abs x - 1)) × (nat_abs x - 1 + 1 ≡ nat_abs x)
turned (pos n) t = absurd (false≢true (sym (sign_is (pos n)) ∙ t))
turned (negsuc n) t = (same (negsuc 0 -ℤ negsuc n) (pos (suc n - 1)) (omega (arith, sub (negsuc 0) (negsuc n))), omega arith)

-- 0 - n, with n read from its bits
pub minus : (n : ℕ) → n < 2 ^ 63 → pos 0 -ℤ to_z w64 n ≡ neg_ℤ (pos n)
minus n h = ap (λ (z : ℤ). pos 0 -ℤ z) (read_count n h) ∙ +ℤ_idl (neg_ℤ (pos n))

-- -1 - n
pub one_more : (n : ℕ) → n < 2 ^ 63 → negsuc 0 -ℤ to_z w64 n ≡ neg_ℤ (pos (suc n))
one_more n h = ap (λ (z : ℤ). negsuc 0 -ℤ z) (read_count n h) ∙ same (negsuc 0 -ℤ pos n) (negsuc n)
    (omega (arith, sub (negsuc 0) (pos n)))
