-- An f32 rounded to the nearest whole number, by its bit pattern: its size and its sign. A pattern has an exponent e and 23
-- digits t; where e is not 0, the number is (2 ^ 23 + t) * 2 ^ (e - 150). Assumes nothing.
use mathlib.Core.Path.{◌≡◌, refl, sym, ap, ◌∙◌, subst}
use mathlib.Core.Logic.{inl, inr}
use mathlib.Core.Bool.{Bool, true, false, not, cond}
use Prim.Native.Nat.{ℕ, zero, suc, ◌+◌, ◌-◌, ◌*◌, ◌/◌, ◌%◌, ◌^◌, ◌≤◌, ◌<◌, min}
use native.Mathlib.Nat.{le_trans, le_of_eq, lt_of_lt_of_le, lt_of_le_of_lt, mul_assoc, mul-le-mul, mul-one, mul-pos}
use native.Mathlib.Nat.{div-eq_of_lt, div-one, div-le_self, mod-eq_of_lt, eq-or-lt_of_le, eq-zero-or-pos, add-div_right}
use native.Mathlib.Nat.{div-div-eq-div-mul}
use native.Mathlib.Omega.{arith}
use lib.Dec.{T, eqb, ltb, leb, lit<, lit≤}
use lib.Pow.{pow-add, pow_pos, pow_mono, shl_lt}
use lib.Ieee.{Float, nan, inf, fin, Format, binary32, prec, emax, low, hid, ones, top, up, down, is_nan, odd, units, round}
use lib.Ieee.{of_fields, of_bits, to_unsigned, nan_bits}
use lib.Ieee.Bits.{nan_bits_is}
use lib.Ieee.Exact.{HasValue, odd_sign, round_exact}
use lib.Ieee.Back.{round_whole}
use lib.Ieee.Fits.{round_is}
use lib.Ieee.Nearest.{div_same}
use lib.Ieee.Order.{drop, kept}
use Rattle.laws.proofs.Quotients.{quotient_is}
use Rattle.floats.specs.Rounding.{abs_f, half_up, round_f}
use Rattle.floats.proofs.Casts.{digits_val, whole_val, infinite, least, most, HasSign}
use Rattle.floats.proofs.Quotients.{round_of}

-- ---- halves in whole numbers
-- below a half
half_none : (a h : ℕ) → a < h → half_up a (2 * h) ≡ 0
half_none a h l = div-eq_of_lt (go a h l)
  where
    go : (a h : ℕ) → a < h → 2 * a + 2 * h < 2 * (2 * h)
    go a h l = omega arith

-- one digit below 1 is kept, and then dropped
half_digit : (d p k : ℕ) → 0 < p → 0 < k → half_up (d * p) (2 * (k * p)) ≡ (d / k + 1) / 2
half_digit d p k P K =
    div_same (2 * (d * p) + 2 * (k * p)) (2 * (2 * (k * p))) (d + k) (k * 2)
    (mul-pos (lit< tt) (mul-pos (lit< tt) (mul-pos K P))) (mul-pos K (lit< tt)) same
    ∙ sym (div-div-eq-div-mul (d + k) k 2)
    ∙ ap (λ (n : ℕ). n / 2) (add-div_right d K)
  where
    same : (2 * (d * p) + 2 * (k * p)) * (k * 2) ≡ (d + k) * (2 * (2 * (k * p)))
    same = omega arith

half_whole : (n c : ℕ) → 0 < c → half_up (n * c) c ≡ n
half_whole n c C = quotient_is (2 * (n * c) + c) (2 * c) n (mul-pos (lit< tt) C) (omega arith) (omega arith)

-- ---- a float that is a / c, rounded to n, which the format holds
module _ (x : Float) (s : Bool) (a c n : ℕ) (C : 0 < c) (h : HasValue x s a c) (e : half_up a c ≡ n)
    (v : HasValue (round binary32 s n 1) s n 1) where
  rounded : to_unsigned 64 (abs_f (round_f binary32 x)) ≡ min n (2 ^ 64 - 1)
  rounded =
      ap (λ (y : Float). to_unsigned 64 (abs_f y))
      (round_of binary32 s a c a c C C x h (λ (k : ℕ). (
        λ (p : a * 2 < k * c). p,
        λ (p : a * 2 ≡ k * c). p,
        λ (p : k * c < a * 2). p,
      ))
      ∙ ap (λ (k : ℕ). round binary32 s k 1) e)
      ∙ whole_val (round binary32 s n 1) s n 1 (lit< tt) v
      ∙ ap (λ (q : ℕ). min q (2 ^ 64 - 1)) (div-one n)

-- below a half
under_half : (x : Float) (s : Bool) (a : ℕ) → HasValue x s a (2 ^ 149) → a < 2 ^ 148 → to_unsigned 64 (abs_f (round_f binary32 x))
    ≡ 0
under_half x s a h l = rounded x s a (2 ^ 149) 0 (pow_pos 149) h (half_none a (2 ^ 148) l) (round_whole binary32 s 0 (lit≤ tt))

-- all of the exponent's digits set, and no NaN
at_infinity : (s : Bool) (t : ℕ) → T (not (is_nan (of_fields binary32 s 255 t))) →
    to_unsigned 64 (abs_f (round_f binary32 (of_fields binary32 s 255 t))) ≡ 2 ^ 64 - 1
unfolding to_unsigned abs_f round_f
at_infinity s t n = rw (infinite binary32 s t n) refl

module _ (s : Bool) (e t : ℕ) (T23 : t < 2 ^ 23) where
  abbrev d : ℕ
  d = t + 2 ^ 23

  d_hi : d < 2 ^ 24
  d_hi = omega arith

  abbrev size_of_law : ℕ
  size_of_law = to_unsigned 64 (abs_f (round_f binary32 (of_fields binary32 s e t)))

  small : e < 126 → size_of_law ≡ 0
  unfolding of_fields
  small l = elim (eq-zero-or-pos e) [
    | inl z ↦ rw z (under_half (of_fields binary32 s 0 t) s (t * 1) (odd_sign 24 s t 0 149)
        (lt_of_le_of_lt (le_of_eq (mul-one t)) (lt_of_lt_of_le T23 (lit≤ tt))))
    | inr p ↦ under_half (of_fields binary32 s e t) s (d * 2 ^ (e - 1)) (digits_val binary32 s e t p (omega arith))
        (lt_of_lt_of_le (shl_lt 24 (e - 1) d_hi) (pow_mono room))
  ]
    where
      room : 24 + (e - 1) ≤ 148
      room = omega arith

  middle : 126 ≤ e → e < 150 → size_of_law ≡ ((t + 2 ^ 23) / 2 ^ (149 - e) + 1) / 2
  middle a b =
      rounded (of_fields binary32 s e t) s (d * 2 ^ (e - 1)) (2 ^ 149) n (pow_pos 149)
      (digits_val binary32 s e t (omega arith) (omega arith))
      (ap (half_up (d * 2 ^ (e - 1))) places ∙ half_digit d (2 ^ (e - 1)) (2 ^ (149 - e)) (pow_pos (e - 1)) (pow_pos (149 - e)))
      (round_whole binary32 s n (omega (arith, few)))
      ∙ least n (omega (arith, few))
    where
      n : ℕ
      n = (d / 2 ^ (149 - e) + 1) / 2

      few : n ≤ 2 ^ 24
      few = go (d / 2 ^ (149 - e)) (div-le_self d (2 ^ (149 - e)))
        where
          go : (q : ℕ) → q ≤ d → (q + 1) / 2 ≤ 2 ^ 24
          go q l = omega (arith, d_hi)

      all : 1 + (149 - e + (e - 1)) ≡ 149
      all = omega arith

      places : 2 ^ 149 ≡ 2 * (2 ^ (149 - e) * 2 ^ (e - 1))
      places = ap (λ (x : ℕ). 2 ^ x) (sym all) ∙ pow-add 2 1 (149 - e + (e - 1)) ∙ ap (λ (x : ℕ). 2 * x)
          (pow-add 2 (149 - e) (e - 1))

  -- from 2 ^ 23 on it is whole
  whole : 150 ≤ e → e < 255 → size_of_law ≡ min (d * 2 ^ (e - 150)) (2 ^ 64 - 1)
  whole a b =
      rounded (of_fields binary32 s e t) s (d * 2 ^ (e - 1)) (2 ^ 149) (d * 2 ^ (e - 150)) (pow_pos 149)
      (digits_val binary32 s e t (omega arith) b)
      (ap (λ (x : ℕ). half_up x (2 ^ 149)) moved ∙ half_whole (d * 2 ^ (e - 150)) (2 ^ 149) (pow_pos 149))
      (round_exact binary32 s (d * 2 ^ (e - 150)) 1 d (e - 1) (lit< tt) d_hi
      (lt_of_lt_of_le (shl_lt 24 (e - 1) d_hi) (pow_mono room)) (sym moved ∙ sym (mul-one (d * 2 ^ (e - 1)))))
    where
      places : e - 1 ≡ e - 150 + 149
      places = omega arith

      moved : d * 2 ^ (e - 1) ≡ d * 2 ^ (e - 150) * 2 ^ 149
      moved = ap (λ (x : ℕ). d * 2 ^ x) places ∙ ap (λ (x : ℕ). d * x) (pow-add 2 (e - 150) 149)
          ∙ sym (mul_assoc d (2 ^ (e - 150)) (2 ^ 149))

      room : 24 + (e - 1) ≤ 277
      room = omega arith

  large : 150 ≤ e → e < 191 → size_of_law ≡ (t + 2 ^ 23) * 2 ^ (e - 150) % 2 ^ 64
  large a b = whole a (omega arith) ∙ least (d * 2 ^ (e - 150)) under ∙ sym (mod-eq_of_lt under)
    where
      room : 24 + (e - 150) ≤ 64
      room = omega arith

      under : d * 2 ^ (e - 150) < 2 ^ 64
      under = lt_of_lt_of_le (shl_lt 24 (e - 150) d_hi) (pow_mono room)

  -- from 2 ^ 64 on, an infinity too
  beyond : 191 ≤ e → e ≤ 255 → T (not (is_nan (of_fields binary32 s e t))) → size_of_law ≡ 2 ^ 64 - 1
  beyond a b n = elim (eq-or-lt_of_le b) [
    | inl z ↦ rw z (at_infinity s t (rw z at n))
    | inr l ↦ whole (omega arith) l ∙ most (d * 2 ^ (e - 150)) reaches
  ]
    where
      room : 41 ≤ e - 150
      room = omega arith

      up23 : 2 ^ 23 ≤ d
      up23 = omega arith

      reaches : 2 ^ 64 ≤ d * 2 ^ (e - 150)
      reaches = le_trans (le_of_eq (pow-add 2 23 41)) (mul-le-mul up23 (pow_mono room))

-- ---- of the bits of an f32: its exponent and its digits
module _ (b : ℕ) where
  abbrev exponent : ℕ
  exponent = b % 2 ^ 31 / 2 ^ 23

  abbrev digits : ℕ
  digits = b % 2 ^ 23

  pub few : digits < 2 ^ 23
  few = omega arith

  abbrev nearest_whole : ℕ
  nearest_whole = to_unsigned 64 (abs_f (round_f binary32 (of_bits binary32 b)))

  pub round_small : exponent < 126 → nearest_whole ≡ 0
  unfolding of_bits
  round_small = small (leb (2 ^ 31) b) exponent digits few

  pub round_middle : 126 ≤ exponent → exponent < 150 → nearest_whole ≡ ((digits + 2 ^ 23) / 2 ^ (149 - exponent) + 1) / 2
  unfolding of_bits
  round_middle = middle (leb (2 ^ 31) b) exponent digits few

  pub round_large : 150 ≤ exponent → exponent < 191 → nearest_whole ≡ (digits + 2 ^ 23) * 2 ^ (exponent - 150) % 2 ^ 64
  unfolding of_bits
  round_large = large (leb (2 ^ 31) b) exponent digits few

  pub round_beyond : 191 ≤ exponent → T (not (nan_bits binary32 b)) → nearest_whole ≡ 2 ^ 64 - 1
  unfolding of_bits
  round_beyond l n = beyond (leb (2 ^ 31) b) exponent digits few l (omega arith)
      (subst (λ (t : Bool). T (not t)) (nan_bits_is binary32 b) n)

-- ---- the sign stays
odd_has : (d : ℕ) (s : Bool) (q k l : ℕ) → HasSign (odd d s q k l) s
unfolding odd
odd_has d s zero k l = refl
odd_has d s (suc q) k l = refl

units_has : (f : Format) (s : Bool) (q k : ℕ) → HasSign (units f s q k) s
unfolding units
units_has f s q k = go (ltb (q * 2 ^ k) (2 ^ (low f + suc (emax f))))
  where
    go : (b : Bool) → HasSign (cond b (odd (suc (prec f)) s q k (low f)) (inf s)) s
    go true = odd_has (suc (prec f)) s q k (low f)
    go false = refl

round_has : (f : Format) (s : Bool) (a b : ℕ) → HasSign (round f s a b) s
round_has f s a b = subst (λ (x : Float). HasSign x s) (sym (round_is f s a b))
    (units_has f s (kept (prec f) (a * 2 ^ low f) b) (drop (prec f) (a * 2 ^ low f) b))

round_f_has : (f : Format) (x : Float) (s : Bool) → HasSign x s → HasSign (round_f f x) s
unfolding round_f
round_f_has f nan s h = h
round_f_has f (inf t) s h = h
round_f_has f (fin t m e) s h = subst (HasSign (round f t (half_up (m * up e) (down e)) 1)) h
    (round_has f t (half_up (m * up e) (down e)) 1)

fields_has : (f : Format) (s : Bool) (e t : ℕ) → T (not (is_nan (of_fields f s e t))) → HasSign (of_fields f s e t) s
unfolding of_fields is_nan
fields_has f s zero t n = odd_has (prec f) s t 0 (low f)
fields_has f s (suc e) t n = go (eqb (suc e) (ones f)) (eqb t 0) n
  where
    go : (a b : Bool) → T (not (is_nan (cond a (cond b (inf s) nan) (odd (prec f) s (hid f + t) e (low f))))) →
        HasSign (cond a (cond b (inf s) nan) (odd (prec f) s (hid f + t) e (low f))) s
    go true true u = refl
    go true false u = u
    go false b u = odd_has (prec f) s (hid f + t) e (low f)

pub rounds_sign : (f : Format) (b : ℕ) → T (not (is_nan (of_bits f b))) → HasSign (round_f f (of_bits f b)) (leb (top f) b)
unfolding of_bits
rounds_sign f b n = round_f_has f (of_bits f b) (leb (top f) b)
    (fields_has f (leb (top f) b) (b % top f / hid f) (b % hid f) n)
