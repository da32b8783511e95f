-- A whole number rounded to a binary64 loses nothing just where the float has its value, which is where it has at most 53
-- binary digits from its first to its last that is set. Assumes nothing.
use mathlib.Core.Path.{◌≡◌, refl, sym, ap, ◌∙◌, subst}
use mathlib.Core.Bool.{Bool, true, false, not, cond, ◌&&◌, beq, true≢false, false≢true}
use Prim.Native.Nat.{ℕ, zero, suc, ◌+◌, ◌*◌, ◌/◌, ◌%◌, ◌^◌, ◌≤◌, ◌<◌}
use native.Mathlib.Nat.{le_trans, le_of_eq, lt_of_lt_of_le, lt_of_le_of_lt, lt_irrefl, mul-one, zero-mul, mul_assoc, mul-pos}
use native.Mathlib.Nat.{mul_comm, le-mul_of_pos_right, pow-suc}
use native.Mathlib.Decide.{dec_le}
use native.Mathlib.Omega.{arith}
use lib.Dec.{T, eqb, leb, ltb, lit<, lit≤, ltb→lt}
use lib.IntN.{ℤ, pos, negsuc, nat_abs}
use lib.Signed.{lt_z, le_z}
use lib.Pow.{pow-add, pow_pos, pow_mono, shl_lt}
use lib.Ieee.{Float, nan, inf, fin, binary64, emax, low, up, down, odd, units, round, of_int, fits}
use lib.Ieee.Exact.{HasValue, round_exact}
use lib.Ieee.Fits.{round_is, round-fits, and_l, and_r, down_pos}
use lib.Ieee.Order.{drop, kept}
use lib.Count.{count_trailing_zeros, under}
use borrow.Author.Tests.{eqb-true, eq-eqb, leb-true, leb-false}
use mir.Syntax.{w64}
use mir.Val.{SFits, of_z}
use Rattle.laws.proofs.Signed.{lt_true}
use Rattle.laws.proofs.Tests.{both_true}
use Rattle.floats.specs.Losses.{is_whole, lost_in}
use Rattle.floats.proofs.Values.{below_zero, int_is, int_val}
use Rattle.floats.proofs.Signs.{sign_is, size_fits}

-- ---- the definition, in the terms of lib.Ieee: the float has z's sign and z's value
like : (s t : Bool) → beq s t ≡ true → s ≡ t
like true true e = refl
like true false e = absurd (false≢true e)
like false true e = absurd (false≢true e)
like false false e = refl

alike : (t : Bool) → beq t t ≡ true
alike true = refl
alike false = refl

whole_value : (x : Float) (z : ℤ) → is_whole x z ≡ true → HasValue x (below_zero z) (nat_abs z) 1
unfolding is_whole
whole_value nan z e = absurd (false≢true e)
whole_value (inf s) z e = absurd (false≢true e)
whole_value (fin s m x) z e =
    let b = both_true (beq s (lt_z z (pos 0))) (eqb (m * up x) (nat_abs z * down x)) e in
    (like s (lt_z z (pos 0)) b.0 ∙ sign_is z, mul-one (m * up x) ∙ eqb-true (m * up x) (nat_abs z * down x) b.1)

value_whole : (x : Float) (z : ℤ) → HasValue x (below_zero z) (nat_abs z) 1 → is_whole x z ≡ true
unfolding is_whole
value_whole nan z h = absurd h
value_whole (inf s) z h = absurd h
value_whole (fin s m x) z h = rw (
  h.0 ∙ sym (sign_is z),
  alike (lt_z z (pos 0)),
  eq-eqb (m * up x) (nat_abs z * down x) (sym (mul-one (m * up x)) ∙ h.1),
) refl

-- nothing lost: the float is z; something lost: it is not
kept_value : (z : ℤ) → lost_in z ≡ false → HasValue (of_int binary64 z) (below_zero z) (nat_abs z) 1
unfolding lost_in
kept_value z = go (is_whole (of_int binary64 z) z) refl
  where
    go : (b : Bool) → is_whole (of_int binary64 z) z ≡ b → not b ≡ false → HasValue (of_int binary64 z) (below_zero z) (nat_abs z)
        1
    go true e h = whole_value (of_int binary64 z) z e
    go false e h = absurd (true≢false h)

value_kept : (z : ℤ) → HasValue (of_int binary64 z) (below_zero z) (nat_abs z) 1 → lost_in z ≡ false
unfolding lost_in
value_kept z h = ap not (value_whole (of_int binary64 z) z h)

-- up to 2 ^ 53 nothing is lost
pub small_kept : (z : ℤ) → nat_abs z ≤ 2 ^ 53 → lost_in z ≡ false
small_kept z h = value_kept z (int_val binary64 z h)

-- ---- a number below 0 loses what its size does: the sign stands beside the digits
turned : (q k n : ℕ) → is_whole (units binary64 false q k) (pos (suc n)) ≡ is_whole (units binary64 true q k) (negsuc n)
unfolding is_whole units odd
turned q k n = go (ltb (q * 2 ^ k) (2 ^ (1074 + 1024))) q
  where
    go : (b : Bool) (q : ℕ) → is_whole (cond b (odd 54 false q k 1074) (inf false)) (pos (suc n))
        ≡ is_whole (cond b (odd 54 true q k 1074) (inf true)) (negsuc n)
    go false q = refl
    go true zero = rw (sign_is (pos (suc n))) refl
    go true (suc q) = rw (sign_is (pos (suc n))) refl

pub lost_size : (z : ℤ) → lost_in (pos (nat_abs z)) ≡ lost_in z
unfolding lost_in
lost_size (pos n) = refl
lost_size (negsuc n) =
    let q = kept 53 (suc n * 2 ^ 1074) 1 in
    let k = drop 53 (suc n * 2 ^ 1074) 1 in
    ap (λ (x : Float). not (is_whole x (pos (suc n)))) (int_is binary64 (pos (suc n)) ∙ round_is binary64 false (suc n) 1)
    ∙ ap not (turned q k n)
    ∙ sym (ap (λ (x : Float). not (is_whole x (negsuc n))) (int_is binary64 (negsuc n) ∙ round_is binary64 true (suc n) 1))

-- ---- a float has no more: its whole value is m * 2 ^ a with m of 53 digits
abbrev Digits : ℕ → Type 0
Digits n = (m : ℕ) × (a : ℕ) × (m < 2 ^ 53) × (m * 2 ^ a ≡ n)

digits : (x : Float) (s : Bool) (n : ℕ) → T (fits binary64 x) → HasValue x s n 1 → 0 < n → Digits n
unfolding fits
digits nan s n t h p = absurd h
digits (inf u) s n t h p = absurd h
digits (fin u zero e) s n t h p = absurd (lt_irrefl 0 (subst (λ (x : ℕ). 0 < x)
    (sym h.1 ∙ mul-one (0 * up e) ∙ zero-mul (up e)) (mul-pos p (down_pos e))))
digits (fin u (suc m) e) s n t h p =
    let odd = eqb (suc m % 2) 1 in
    let few = ltb (suc m) (2 ^ 53) in
    let deep = leb (down e) (2 ^ low binary64) in
    let high = ltb (suc m * up e) (2 ^ suc (emax binary64) * down e) in
    go e (ltb→lt (suc m) (2 ^ 53) (and_r odd few (and_l (odd && few) deep (and_l (odd && few && deep) high t))))
    (sym (mul-one (suc m * up e)) ∙ h.1)
  where
    go : (e : ℤ) → suc m < 2 ^ 53 → suc m * up e ≡ n * down e → Digits n
    go (pos a) l v = (suc m, a, l, v ∙ mul-one n)
    go (negsuc a) l v = (
      n,
      0,
      lt_of_le_of_lt (le_trans (le-mul_of_pos_right n (pow_pos (suc a))) (le_of_eq (sym v ∙ mul-one (suc m)))) l,
      mul-one n,
    )

-- ---- 53 digits, and zeros behind these, are enough
pub few_kept : (z : ℤ) (q j : ℕ) → nat_abs z ≡ q * 2 ^ j → q < 2 ^ 53 → j ≤ 64 → lost_in z ≡ false
few_kept z q j e k h =
    value_kept z
    (subst (λ (x : Float). HasValue x (below_zero z) (nat_abs z) 1) (sym (int_is binary64 z))
    (round_exact binary64 (below_zero z) (nat_abs z) 1 q (j + 1074) (lit< tt) k
    (lt_of_lt_of_le (shl_lt 53 (j + 1074) k) (pow_mono room))
    (ap (λ (x : ℕ). x * 2 ^ 1074) e ∙ mul_assoc q (2 ^ j) (2 ^ 1074) ∙ ap (λ (x : ℕ). q * x) (sym (pow-add 2 j 1074))
    ∙ sym (mul-one (q * 2 ^ (j + 1074))))))
  where
    room : 53 + (j + 1074) ≤ 2098
    room = omega arith

-- whole days in nanoseconds: a day is 1318359375 * 2 ^ 16
pub days_kept : (z : ℤ) (d : ℕ) → nat_abs z ≡ d * 86400000000000 → nat_abs z ≤ 2 ^ 63 → lost_in z ≡ false
days_kept z d e h = few_kept z (d * 1318359375) 16 (omega arith) (omega arith) (lit≤ tt)

-- ---- the code's test: n without the zeros at its end is odd
abbrev Odd : ℕ → ℕ → Type 0
Odd n t = (m : ℕ) × (m % 2 ≡ 1) × (m * 2 ^ t ≡ n)

pub odd_part : (k n : ℕ) → 0 < n → n < 2 ^ k → Odd n (count_trailing_zeros k n)
unfolding count_trailing_zeros
odd_part zero n p h = absurd (let x : ⊥ = omega arith in x)
odd_part (suc k) n p h = go (n % 2) refl (λ q. odd_part k (n / 2) q (half h))
  where
    half : n < 2 ^ suc k → n / 2 < 2 ^ k
    half h = omega (arith, pow-suc 2 k)

    twice : (t m : ℕ) → m * 2 ^ t ≡ n / 2 → n % 2 ≡ 0 → m * 2 ^ suc t ≡ n
    twice t m e z = omega (arith, ap (λ (x : ℕ). m * x) (pow-suc 2 t))

    go : (d : ℕ) → n % 2 ≡ d → (0 < n / 2 → Odd (n / 2) (count_trailing_zeros k (n / 2))) → Odd n
        (under d (count_trailing_zeros k (n / 2)))
    go zero e rest =
        let (m, o, is) = rest (omega arith) in
        (m, o, twice (count_trailing_zeros k (n / 2)) m is e)
    go (suc d) e rest = (n, omega arith, mul-one n)

-- so not all of its places are zeros
pub fewer : (n m t : ℕ) → m % 2 ≡ 1 → m * 2 ^ t ≡ n → n < 2 ^ 64 → t < 64
fewer n m t o e h = elim (dec_le 64 t) [
  | no l ↦ omega arith
  | yes l ↦ absurd (lt_irrefl n (lt_of_lt_of_le h (le_trans (pow_mono l)
      (le_trans (le-mul_of_pos_right (2 ^ t) (omega arith)) (le_of_eq (mul_comm (2 ^ t) m ∙ e))))))
]

-- a float's digits are no fewer than those of the odd part
no_fewer : (m q a t : ℕ) → m % 2 ≡ 1 → q * 2 ^ a ≡ m * 2 ^ t → m ≤ q
no_fewer m q zero t o e = le_trans (le-mul_of_pos_right m (pow_pos t)) (le_of_eq (sym e ∙ mul-one q))
no_fewer m q (suc a) zero o e = absurd (two (q * 2 ^ a) (sym (mul-one m) ∙ sym e ∙ twice))
  where
    twice : q * 2 ^ suc a ≡ 2 * (q * 2 ^ a)
    twice = omega (arith, ap (λ (x : ℕ). q * x) (pow-suc 2 a))

    two : (x : ℕ) → m ≡ 2 * x → ⊥
    two x f = omega arith
no_fewer m q (suc a) (suc t) o e = no_fewer m q a t o (halved
    (ap (λ (x : ℕ). q * x) (pow-suc 2 a)) (ap (λ (x : ℕ). m * x) (pow-suc 2 t)))
  where
    halved : q * 2 ^ suc a ≡ q * (2 ^ a * 2) → m * 2 ^ suc t ≡ m * (2 ^ t * 2) → q * 2 ^ a ≡ m * 2 ^ t
    halved x y = omega arith

pub lost_is : (n m t : ℕ) → 0 < n → m % 2 ≡ 1 → m * 2 ^ t ≡ n → t ≤ 64 → leb (2 ^ 53) m ≡ lost_in (pos n)
lost_is n m t p o e h = go (leb (2 ^ 53) m) (lost_in (pos n)) refl refl
  where
    go : (b l : Bool) → leb (2 ^ 53) m ≡ b → lost_in (pos n) ≡ l → b ≡ l
    go true true f g = refl
    go false false f g = refl
    go false true f g = absurd (true≢false (sym g ∙ few_kept (pos n) m t (sym e) (omega (arith, leb-false (2 ^ 53) m f)) h))
    go true false f g =
        let v : HasValue (round binary64 false n 1) false n 1 =
        subst (λ (x : Float). HasValue x false n 1) (int_is binary64 (pos n)) (kept_value (pos n) g) in
        let (q, a, few, is) = digits (round binary64 false n 1) false n (round-fits binary64 false n 1) v p in
        absurd (lt_irrefl q (lt_of_lt_of_le few (le_trans (leb-true (2 ^ 53) m f) (no_fewer m q a t o (is ∙ sym e)))))

-- ten zeros at the end, or no sign and 53 digits
tenths : (z : ℤ) → SFits w64 z → of_z w64 z % 1024 ≡ 0 → nat_abs z ≡ nat_abs z / 1024 * 2 ^ 10
tenths (pos a) f e = omega arith
tenths (negsuc a) f e = omega (arith, f.sfits)

pub tens_kept : (z : ℤ) → SFits w64 z → of_z w64 z % 1024 ≡ 0 → lost_in z ≡ false
tens_kept z f e =
    let q = nat_abs z / 1024 in
    let is = tenths z f e in
    let most = size_fits z f in
    elim (dec_le (2 ^ 53) q) [
      | no h ↦ few_kept z q 10 is (omega arith) (lit≤ tt)
      | yes h ↦ few_kept z 1 63 (omega arith) (lit< tt) (lit≤ tt)
    ]

pub between_kept : (z : ℤ) → le_z (pos 0) z ≡ true → lt_z z (pos 9007199254740992) ≡ true → lost_in z ≡ false
between_kept (pos n) a b = small_kept (pos n) (omega (arith, lt_true (pos n) (pos 9007199254740992) b))
between_kept (negsuc n) a b = absurd (false≢true a)
