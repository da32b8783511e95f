-- A signed number of 64 bits rounded to a binary64, by its halves: the upper one times 2 ^ 32 and the lower one are
-- floats exactly, so that their sum rounds once, from the number itself. Assumes nothing.
use mathlib.Core.Path.{◌≡◌, refl, sym, ap, ◌∙◌, subst}
use mathlib.Core.Bool.{Bool, true, false}
use Prim.Native.Nat.{ℕ, suc, ◌+◌, ◌-◌, ◌*◌, ◌/◌, ◌%◌, ◌^◌, ◌≤◌, ◌<◌}
use native.Mathlib.Nat.{mul-one, mul_comm, mul_assoc, add-mul, mul-pos, mul-lt-mul_of_pos_right, le_of_lt}
use native.Mathlib.Nat.{lt_of_lt_of_le}
use native.Mathlib.Omega.{arith}
use lib.Dec.{lit<}
use lib.IntN.{ℤ, pos, negsuc, nat_abs}
use lib.Signed.{shr_z}
use lib.Pow.{pow-add, pow_mono, shl_lt}
use lib.Ieee.{Float, nan, inf, fin, Format, binary64, up, down, round, of_int, of_bits, add, sum, mul}
use lib.Ieee.Exact.{HasValue, round_exact}
use lib.Ieee.Fits.{down_pos}
use lib.Ieee.Scale.{round_same}
use mir.Syntax.{w64}
use mir.Val.{SFits, of_z}
use borrow.Author.Tests.{lt-ltb, le-ltb}
use Rattle.laws.proofs.Halves.{upper_few}
use Rattle.floats.proofs.Values.{mul_val, int_is, int_val, unlike_false, below_zero}

-- ---- a sum of two whole numbers, over a divisor D of both
abbrev Over : Format → Float → Bool → ℕ → Bool → ℕ → Type 0
Over f z s a t b = (D : ℕ) × (0 < D) × (z ≡ sum f s (a * D) t (b * D) D)

-- m / g is a, over the divisor g * h
over : (m a g h : ℕ) → m * 1 ≡ a * g → m * h ≡ a * (g * h)
over m a g h e = ap (λ (z : ℕ). z * h) (sym (mul-one m) ∙ e) ∙ mul_assoc a g h

add_over : (f : Format) (x y : Float) (s t : Bool) (a b : ℕ) → HasValue x s a 1 → HasValue y t b 1 → Over f (add f x y) s a t b
unfolding add
add_over f nan y s t a b h k = absurd h
add_over f (inf u) y s t a b h k = absurd h
add_over f (fin u m e) nan s t a b h k = absurd k
add_over f (fin u m e) (inf v) s t a b h k = absurd k
add_over f (fin u m e) (fin v n d) s t a b h k = (
  down e * down d,
  mul-pos (down_pos e) (down_pos d),
  rw (
    h.0,
    k.0,
    over (m * up e) a (down e) (down d) h.1,
    over (n * up d) b (down d) (down e) k.1,
    mul_comm (down d) (down e),
  ),
)

module _ (f : Format) (a b : ℕ) (z : Float) where
  above : Over f z false a false b → z ≡ round f false (a + b) 1
  unfolding sum
  above (D, P, e) = e ∙ round_same f false (a * D + b * D) D (a + b) 1 P (lit< tt) (omega (arith, add-mul a b D))

  below : b < a → Over f z true a false b → z ≡ round f true (a - b) 1
  unfolding sum
  below l (D, P, e) =
      let t : b * D < a * D = mul-lt-mul_of_pos_right l P in
      let s : b + (a - b) ≡ a = omega arith in
      let r : a * D ≡ b * D + (a - b) * D = ap (λ (z : ℕ). z * D) (sym s) ∙ add-mul b (a - b) D in
      e ∙ rw (le-ltb (a * D) (b * D) (le_of_lt t), lt-ltb (b * D) (a * D) t)
      (round_same f true (a * D - b * D) D (a - b) 1 P (lit< tt) (omega arith))

-- ---- the halves
-- 2 ^ 32 by its bits
abbrev scale : Float
scale = of_bits binary64 0x41f0_0000_0000_0000

scale_val : HasValue scale false (2 ^ 32) 1
unfolding of_bits
scale_val = (refl, refl)

scaled_val : (z : ℤ) → nat_abs z ≤ 2 ^ 31 → HasValue (mul binary64 (of_int binary64 z) scale) (below_zero z) (nat_abs z * 2 ^ 32)
    1
scaled_val z h =
    let s = below_zero z in
    let n = nat_abs z in
    let few : n < 2 ^ 53 = omega arith in
    let room : 53 + 1106 ≤ 1074 + 1024 = omega arith in
    let v = int_val binary64 z (le_of_lt few) in
    let is : mul binary64 (of_int binary64 z) scale ≡ round binary64 s (n * 2 ^ 32) 1 =
    mul_val binary64 (of_int binary64 z) scale s false n 1 (2 ^ 32) 1 (lit< tt) (lit< tt) v scale_val
    ∙ ap (λ (t : Bool). round binary64 t (n * 2 ^ 32) 1) (unlike_false s) in
    subst (λ (x : Float). HasValue x s (n * 2 ^ 32) 1) (sym is)
    (round_exact binary64 s (n * 2 ^ 32) 1 n 1106 (lit< tt) few (lt_of_lt_of_le (shl_lt 53 1106 few) (pow_mono room))
    (mul_assoc n (2 ^ 32) (2 ^ 1074) ∙ ap (λ (p : ℕ). n * p) (sym (pow-add 2 32 1074)) ∙ sym (mul-one (n * 2 ^ 1106))))

lower_val : (n : ℕ) → HasValue (of_int binary64 (pos (n % 2 ^ 32))) false (n % 2 ^ 32) 1
lower_val n = int_val binary64 (pos (n % 2 ^ 32)) (omega arith)

-- THE LAW
pub by_halves : (n : ℤ) → SFits w64 n →
    add binary64 (mul binary64 (of_int binary64 (shr_z n 4294967296)) scale) (of_int binary64 (pos (of_z w64 n % 2 ^ 32)))
    ≡ of_int binary64 n
by_halves (pos a) s =
    let q = a / 4294967296 in
    let join : q * 2 ^ 32 + a % 2 ^ 32 ≡ a = omega arith in
    above binary64 (q * 2 ^ 32) (a % 2 ^ 32) _
    (add_over binary64 _ _ false false _ _ (scaled_val (pos q) (upper_few (pos a) s)) (lower_val a))
    ∙ ap (λ (m : ℕ). round binary64 false m 1) join ∙ sym (int_is binary64 (pos a))
by_halves (negsuc a) s =
    let q = a / 4294967296 in
    let r = (2 ^ 64 - suc a) % 2 ^ 32 in
    let apart : suc q * 2 ^ 32 - r ≡ suc a = omega (arith, s.sfits) in
    below binary64 (suc q * 2 ^ 32) r _ (omega arith)
    (add_over binary64 _ _ true false _ _ (scaled_val (negsuc q) (upper_few (negsuc a) s)) (lower_val (2 ^ 64 - suc a)))
    ∙ ap (λ (m : ℕ). round binary64 true m 1) apart ∙ sym (int_is binary64 (negsuc a))
