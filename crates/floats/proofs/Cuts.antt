-- z × o ÷ t as the floats have it, with o at most t: the quotient is near the exact one (`position_near`), and its cut is between
-- whole numbers where these are few (`between`). Assumes nothing.
use mathlib.Core.Path.{◌≡◌, refl, sym, ap, ◌∙◌, subst, subst₂}
use mathlib.Core.Logic.{◌⊎◌, inl, inr}
use mathlib.Core.Bool.{Bool, false}
use Prim.Native.Nat.{ℕ, zero, suc, ◌*◌, ◌/◌, ◌^◌, ◌≤◌, ◌<◌}
use native.Mathlib.Nat.{le_trans, le_of_eq, mul_comm, mul_assoc, mul-le-mul, mul-le-mul_right, mul-le-mul_left, mul-pos}
use native.Mathlib.Nat.{mul-one, mul-zero, zero-mul}
use native.Mathlib.Omega.{arith}
use lib.Dec.{lit<, lit≤}
use lib.IntN.{ℤ, pos, nat_abs}
use lib.Pow.{pow_pos}
use lib.Ieee.{Float, binary64, of_int, mul, div}
use lib.Ieee.Exact.{HasValue}
use lib.Ieee.Scale.{grid, overflow}
use Rattle.floats.specs.Rounding.{with_sign, quotient_of}
use Rattle.floats.proofs.Values.{round_val, unlike_false, below_zero, int_is, int_val}
use Rattle.floats.proofs.Error.{Near, near_by, Large, round_near, round_zero, round_under, product_near, quotient_near}
use Rattle.floats.proofs.Quotients.{cut_quotient}
use Rattle.floats.proofs.FourRoundings.{Rounded, four_near, no_more, no_less}
use Rattle.floats.proofs.NearCuts.{unit, value_cut, within_apart, near_within}

-- ---- near in other words
near_half : (g n : ℕ) → Near (2 ^ 53) g n → n ≤ 2 * g
near_half g n h = omega arith

near_double : (g n : ℕ) → Near (2 ^ 53) g n → g ≤ 2 * n
near_double g n h = omega arith

-- ---- neither too large nor, unless it is 0, too small
module _ (w o t L A B : ℕ) (W : w ≤ 65534) (O : o ≤ t) (T : t ≤ 2 ^ 63) (a : Near (2 ^ 53) A (o * L)) where
  product_most : w * A ≤ 2 ^ 80 * L
  product_most = go (w * A) (o * L) (t * L) (mul-le-mul_right A W) (near_double A (o * L) a) (mul-le-mul_right L O)
      (mul-le-mul_right L T)
    where
      go : (p x y : ℕ) → p ≤ 65534 * A → A ≤ 2 * x → x ≤ y → y ≤ 2 ^ 63 * L → p ≤ 2 ^ 80 * L
      go p x y h i j k = omega arith

  product_least : 0 < w → 0 < o → L ≤ 2 * (w * A)
  product_least P Q = go (o * L) (w * A) (mul-le-mul_right L Q) (near_half A (o * L) a) (mul-le-mul_right A P)
    where
      go : (x p : ℕ) → 1 * L ≤ x → x ≤ 2 * A → 1 * A ≤ p → L ≤ 2 * p
      go x p h i j = omega arith

  module _ (G : ℕ) (b : Near (2 ^ 53) B (t * L)) (g : Near (2 ^ 53) G (w * A)) where
    quotient_most : G ≤ 2 ^ 20 * B
    quotient_most = go (w * A) (o * L) (t * L) (near_double G (w * A) g) (mul-le-mul_right A W) (near_double A (o * L) a)
        (mul-le-mul_right L O) (near_half B (t * L) b)
      where
        go : (p x y : ℕ) → G ≤ 2 * p → p ≤ 65534 * A → A ≤ 2 * x → x ≤ y → y ≤ 2 * B → G ≤ 2 ^ 20 * B
        go p x y h i j k m = omega arith

    quotient_least : L ≤ 2 * (w * A) → B ≤ G * 2 ^ 100
    quotient_least l = go (w * A) (t * L) (near_double B (t * L) b) (mul-le-mul_right L T) l (near_half G (w * A) g)
      where
        go : (p y : ℕ) → B ≤ 2 * y → y ≤ 2 ^ 63 * L → L ≤ 2 * p → p ≤ 2 * G → B ≤ G * 2 ^ 100
        go p y h i j k = omega arith

-- ---- in units of 2 ^ -1074: a whole number as a float, the product and the quotient as they round, and the cut
abbrev as_float : ℕ → ℕ
as_float n = grid binary64 n 1

abbrev product_units : ℕ → ℕ → ℕ
product_units w o = grid binary64 (w * as_float o) (1 * unit)

abbrev pub quotient_units : ℕ → ℕ → ℕ → ℕ
quotient_units w o t = grid binary64 (product_units w o * unit) (as_float t * unit)

abbrev pub cut_of : ℕ → ℕ → ℕ → ℕ
cut_of w o t = quotient_units w o t / unit

float_near : (n : ℕ) → Near (2 ^ 53) (as_float n) (n * unit)
float_near n = subst (λ (x : ℕ). Near (2 ^ 53) x (n * unit)) (mul-one (as_float n)) (round_near binary64 n 1 (lit< tt) (large n))
  where
    large : (n : ℕ) → Large n 1
    large zero = inr refl
    large (suc n) = inl (mul-pos (omega arith) (pow_pos 100))

float_val : (n : ℕ) → n ≤ 2 ^ 63 → HasValue (of_int binary64 (pos n)) false (as_float n) unit
float_val n h =
    subst (λ (x : Float). HasValue x false (as_float n) unit) (sym (int_is binary64 (pos n)))
    (round_val binary64 false n 1
    (round_under binary64 n 1 (2 ^ 63) (lit< tt) (le_trans h (le_of_eq (sym (mul-one (2 ^ 63))))) (lit< tt)
    (subst (λ (x : ℕ). Near (2 ^ 53) x (n * unit)) (sym (mul-one (as_float n))) (float_near n))))

module _ (z : ℤ) (o t : ℕ) (W : nat_abs z ≤ 65534) (Tp : 0 < t) (O : o ≤ t) (T : t ≤ 2 ^ 63) where
  abbrev w : ℕ
  w = nat_abs z

  abbrev s : Bool
  s = below_zero z

  abbrev A : ℕ
  A = as_float o

  abbrev B : ℕ
  B = as_float t

  abbrev G : ℕ
  G = product_units w o

  abbrev H : ℕ
  H = quotient_units w o t

  -- either all is 0, or nothing is near 0
  some : (w * A ≡ 0) ⊎ (unit ≤ 2 * (w * A))
  some = by w o refl refl
    where
      by : (v u : ℕ) → w ≡ v → o ≡ u → (w * A ≡ 0) ⊎ (unit ≤ 2 * (w * A))
      by zero u e f = inl (ap (λ (x : ℕ). x * A) e ∙ zero-mul A)
      by (suc v) zero e f = inl (ap (λ (x : ℕ). w * as_float x) f ∙ ap (λ (x : ℕ). w * x) (round_zero binary64 1 (lit< tt))
          ∙ mul-zero w)
      by (suc v) (suc u) e f = inr (product_least w o t unit A B W O T (float_near o) (omega arith) (omega arith))

  product_large : Large (w * A) (1 * unit)
  product_large = elim some [
    | inl e ↦ inr e
    | inr l ↦ inl (le_trans l (le_trans (le_of_eq (mul_comm 2 (w * A))) (mul-le-mul_left (w * A) (lit≤ tt))))
  ]

  P : Near (2 ^ 53) (G * (1 * unit)) (w * A * unit)
  P = round_near binary64 (w * A) (1 * unit) (pow_pos 1074) product_large

  p : Near (2 ^ 53) G (w * A)
  p = near_by (2 ^ 53) G (w * A) unit (pow_pos 1074) P

  span_some : 0 < B
  span_some = go B (t * unit) (mul-pos Tp (pow_pos 1074)) (near_half B (t * unit) (float_near t))
    where
      go : (b x : ℕ) → 0 < x → x ≤ 2 * b → 0 < b
      go b x h l = omega arith

  quotient_large : Large (G * unit) (B * unit)
  quotient_large =
      elim some [
        | inl e ↦ inr (ap (λ (x : ℕ). grid binary64 x (1 * unit) * unit) e
            ∙ ap (λ (x : ℕ). x * unit) (round_zero binary64 (1 * unit) (pow_pos 1074)) ∙ zero-mul unit)
        | inr l ↦ inl (scaled B G unit (2 ^ 100) (quotient_least w o t unit A B W O T (float_near o) G (float_near t) p l))
      ]
    where
      scaled : (b g u c : ℕ) → b ≤ g * c → b * u ≤ g * u * c
      scaled b g u c h = le_trans (mul-le-mul_right u h) (le_of_eq (order b g u c))
        where
          order : (b g u c : ℕ) → g * c * u ≡ g * u * c
          order b g u c = omega arith

  Q : Near (2 ^ 53) (H * (B * unit)) (G * unit * unit)
  Q = round_near binary64 (G * unit) (B * unit) (mul-pos span_some (pow_pos 1074)) quotient_large

  rounded : Rounded w o t unit A B G H
  rounded =
      record {
        offset = float_near o;
        span = float_near t;
        product = p;
        quotient = near_by (2 ^ 53) (H * B) (G * unit) unit (pow_pos 1074)
            (subst (λ (x : ℕ). Near (2 ^ 53) x (G * unit * unit)) (sym (mul_assoc H B unit)) Q);
      }

  G-under : G < overflow binary64
  G-under = round_under binary64 (w * A) (1 * unit) (2 ^ 80) (pow_pos 1074)
      (product_most w o t unit A B W O T (float_near o)) (lit< tt) P

  H-under : H < overflow binary64
  H-under =
      round_under binary64 (G * unit) (B * unit) (2 ^ 20) (mul-pos span_some (pow_pos 1074))
      (le_trans (mul-le-mul_right unit (quotient_most w o t unit A B W O T (float_near o) G (float_near t) p))
      (le_of_eq (mul_assoc (2 ^ 20) B unit))) (lit< tt) Q

  abbrev product : Float
  product = mul binary64 (of_int binary64 z) (of_int binary64 (pos o))

  product_val : HasValue product s G unit
  product_val =
      subst (λ (b : Bool). HasValue product b G unit) (unlike_false s)
      (product_near binary64 (of_int binary64 z) (of_int binary64 (pos o)) s false w 1 A unit
      (int_val binary64 z (le_trans W (lit≤ tt))) (float_val o (le_trans O T)) (lit< tt) (pow_pos 1074) product_large G-under).0

  abbrev quotient : Float
  quotient = div binary64 product (of_int binary64 (pos t))

  quotient_val : HasValue quotient s H unit
  quotient_val =
      subst (λ (b : Bool). HasValue quotient b H unit) (unlike_false s)
      (quotient_near binary64 product (of_int binary64 (pos t)) s false G unit B unit product_val (float_val t T) (pow_pos 1074)
      span_some quotient_large H-under).0

  -- ---- the quotient, near the exact one
  pub position_val : HasValue (quotient_of (of_int binary64 z) (pos o) (of_int binary64 (pos t))) s H unit
  unfolding quotient_of
  position_val = quotient_val

  pub position_near : Near (2 ^ 50) (H * t) (w * o * unit)
  position_near = subst (λ (x : ℕ). Near (2 ^ 50) (H * t) x) (sym (mul_assoc w o unit))
      (four_near w o t unit A B G H (pow_pos 1074) rounded)

  pub position_few : w * o ≤ 65534 * t
  position_few = mul-le-mul W O

  -- ---- its cut
  pub cut_is : cut_quotient z (pos o) (pos t) ≡ with_sign s (cut_of w o t)
  cut_is = value_cut (quotient_of (of_int binary64 z) (pos o) (of_int binary64 (pos t))) s (w * o) t H position_few position_val
      (within_apart (w * o) t H unit Tp (pow_pos 1074) (near_within (w * o) t H unit position_few position_near))

  -- the product and the span are n and D of units c
  pub between : (n D c : ℕ) → w * o ≡ n * c → t ≡ D * c → 0 < c → n < 2 ^ 50 →
      (cut_of w o t * D ≤ n) × (n ≤ suc (cut_of w o t) * D)
  between n D c e f C l =
      let near = subst₂ (λ (q x : ℕ). Near (2 ^ 50) (H * x) (q * unit)) e f position_near in
      (no_more n D c unit H C (pow_pos 1074) l near, no_less n D c unit H C (pow_pos 1074) l near)
