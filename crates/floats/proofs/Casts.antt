-- A float's number by its bit pattern, its whole part, and the saturating cast by that whole part and the sign.
-- Assumes nothing.
use mathlib.Core.Path.{◌≡◌, refl, sym, ap, ◌∙◌, subst}
use mathlib.Core.Bool.{Bool, true, false, not, cond, false≢true}
use Prim.Native.Nat.{ℕ, zero, suc, ◌+◌, ◌-◌, ◌*◌, ◌/◌, ◌^◌, ◌≤◌, ◌<◌, min}
use native.Mathlib.Nat.{not-suc-le-zero, add_comm}
use native.Mathlib.Omega.{arith}
use lib.Dec.{T, eqb}
use lib.IntN.{ℤ, pos, neg_ℤ}
use lib.Pow.{pow_pos, pow_mono}
use lib.Ieee.{Float, nan, inf, fin, Format, binary32, binary64, prec, low, hid, ones, up, down, is_nan}
use lib.Ieee.{of_fields, to_signed, to_unsigned, to_bits, nan_bits, fits}
use lib.Ieee.Bits.{of_bits-to_bits, nan_bits_is}
use lib.Ieee.Exact.{HasValue, odd_sign}
use borrow.Author.Tests.{ne_eqb}
use Rattle.floats.specs.Rounding.{abs_f}
use Rattle.floats.proofs.Values.{unsigned_val}

-- ---- the pattern's number
pub digits_val : (f : Format) (s : Bool) (e t : ℕ) → 0 < e → e < ones f →
    HasValue (of_fields f s e t) s ((t + hid f) * 2 ^ (e - 1)) (2 ^ low f)
unfolding of_fields
digits_val f s zero t p l = absurd (not-suc-le-zero p)
digits_val f s (suc k) t p l =
    let d : eqb (suc k) (ones f) ≡ false = ne_eqb (suc k) (ones f) (λ (h : suc k ≡ ones f). omega arith) in
    let b : suc k - 1 ≡ k = omega arith in
    rw (d, b, add_comm t (hid f)) (odd_sign (prec f) s (hid f + t) k (low f))

abs_val : (x : Float) (s : Bool) (a c : ℕ) → HasValue x s a c → HasValue (abs_f x) false a c
unfolding abs_f
abs_val nan s a c h = h
abs_val (inf t) s a c h = h
abs_val (fin t m e) s a c h = (refl, h.1)

pub whole_val : (x : Float) (s : Bool) (a c : ℕ) → 0 < c → HasValue x s a c → to_unsigned 64 (abs_f x) ≡ min (a / c) (2 ^ 64 - 1)
whole_val x s a c C h = unsigned_val 64 (abs_f x) false a c C (abs_val x s a c h)

-- all of the exponent's digits set: infinite
pub infinite : (f : Format) (s : Bool) (t : ℕ) → T (not (is_nan (of_fields f s (ones f) t))) → of_fields f s (ones f) t ≡ inf s
unfolding of_fields is_nan
infinite f s t = go f
  where
    set : (b : Bool) → T (not (is_nan (cond b (inf s) nan))) → cond b (inf s) nan ≡ inf s
    set true u = refl
    set false u = absurd u

    go : (f : Format) → T (not (is_nan (of_fields f s (ones f) t))) → of_fields f s (ones f) t ≡ inf s
    go binary32 = set (eqb t 0)
    go binary64 = set (eqb t 0)

-- what fits stays, and what does not is brought to the end
pub least : (q : ℕ) → q < 2 ^ 64 → min q (2 ^ 64 - 1) ≡ q
least q h = omega arith

pub most : (q : ℕ) → 2 ^ 64 ≤ q → min q (2 ^ 64 - 1) ≡ 2 ^ 64 - 1
most q h = omega arith

-- ---- the cast, by the sign and the whole part
abbrev limited_to : ℕ → Bool → ℕ → ℤ
limited_to most s n = cond s (neg_ℤ (pos (min n (suc most)))) (pos (min n most))

-- nothing is lost by an end of the range at 2 ^ 64 - 1 first
ends_most : (q k : ℕ) → k ≤ 2 ^ 63 → min q (k - 1) ≡ min (min q (2 ^ 64 - 1)) (k - 1)
ends_most q k h = omega arith

ends_least : (q k : ℕ) → 0 < k → k ≤ 2 ^ 63 → min q k ≡ min (min q (2 ^ 64 - 1)) (suc (k - 1))
ends_least q k p h = omega arith

-- an infinity or a finite number with this sign
abbrev pub HasSign : Float → Bool → Type 0
HasSign nan s = ⊥
HasSign (inf t) s = t ≡ s
HasSign (fin t m e) s = t ≡ s

-- by the sign that is written, -0's too
by_sign : (k : ℕ) (x : Float) (s : Bool) → 0 < 2 ^ k → 2 ^ k ≤ 2 ^ 63 → HasSign x s → to_signed k x ≡ limited_to (2 ^ k - 1) s
    (to_unsigned 64 (abs_f x))
unfolding to_signed to_unsigned abs_f
by_sign k nan s K h v = absurd v
by_sign k (inf t) s K h v = rw (← v) (go t)
  where
    most : (m : ℕ) → m ≤ 2 ^ 63 → m - 1 ≡ min (2 ^ 64 - 1) (m - 1)
    most m g = omega arith

    least_of : (m : ℕ) → 0 < m → m ≤ 2 ^ 63 → m ≡ min (2 ^ 64 - 1) (suc (m - 1))
    least_of m p g = omega arith

    go : (t : Bool) → to_signed k (inf t) ≡ limited_to (2 ^ k - 1) t (2 ^ 64 - 1)
    go true = ap (λ (n : ℕ). neg_ℤ (pos n)) (least_of (2 ^ k) K h)
    go false = ap pos (most (2 ^ k) h)
by_sign k (fin t m e) s K h v = rw (← v) (go t)
  where
    go : (t : Bool) → to_signed k (fin t m e) ≡ limited_to (2 ^ k - 1) t (min (m * up e / down e) (2 ^ 64 - 1))
    go true = ap (λ (n : ℕ). neg_ℤ (pos n)) (ends_least (m * up e / down e) (2 ^ k) K h)
    go false = ap pos (ends_most (m * up e / down e) (2 ^ k) h)

pub sign_cast : (k : ℕ) → k ≤ 63 → (x : Float) (s : Bool) → HasSign x s → to_signed k x ≡ limited_to (2 ^ k - 1) s
    (to_unsigned 64 (abs_f x))
sign_cast k K x s v = by_sign k x s (pow_pos k) (pow_mono K) v

-- ---- a NaN, and what has the bits of x
pub is_nan_law : (x : Float) → is_nan x ≡ true → x ≡ nan
unfolding is_nan
is_nan_law nan h = refl
is_nan_law (inf s) h = absurd (false≢true h)
is_nan_law (fin s m e) h = absurd (false≢true h)

pub no_nan : (x : Float) → is_nan x ≡ false → T (not (is_nan x))
no_nan x h = subst (λ (b : Bool). T (not b)) (sym h) tt

pub no_nan_bits : (f : Format) (x : Float) → T (fits f x) → T (not (is_nan x)) → T (not (nan_bits f (to_bits f x)))
no_nan_bits f x h n = subst (λ (b : Bool). T (not b)) (sym (nan_bits_is f (to_bits f x) ∙ ap is_nan (of_bits-to_bits f x h))) n
