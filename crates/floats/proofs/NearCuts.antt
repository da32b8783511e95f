-- The cut of a float that is near q / t, with a small number added before it or not: it is within one of the cut of q / t, and
-- where q / t is whole, it is that or one less. Assumes nothing.
use mathlib.Core.Path.{◌≡◌, sym, ap, ◌∙◌, subst}
use mathlib.Core.Bool.{Bool, true, false}
use Prim.Native.Nat.{ℕ, suc, ◌+◌, ◌-◌, ◌*◌, ◌/◌, ◌^◌, ◌≤◌, ◌<◌}
use native.Mathlib.Nat.{le_trans, lt_of_le_of_lt, lt_of_lt_of_le, mul-le-mul_right, mul-pos}
use native.Mathlib.Nat.{le_of_mul-le-mul_right, lt_of_mul-lt-mul_right, div-mul-le_self}
use native.Mathlib.Decide.{dec_le}
use native.Mathlib.Omega.{arith}
use lib.Dec.{lit<, lit≤}
use lib.IntN.{ℤ, pos}
use lib.Pow.{pow_pos}
use lib.Ieee.{Float, nan, inf, fin, binary64, up, down, round, sum, add}
use lib.Ieee.Fits.{down_pos}
use lib.Ieee.Exact.{HasValue}
use lib.Ieee.Scale.{grid, overflow}
use borrow.Author.Tests.{lt-ltb, le-ltb}
use Rattle.laws.proofs.Quotients.{below_next}
use Rattle.floats.specs.Rounding.{with_sign, cut}
use Rattle.floats.proofs.Values.{round_val, signed_val, cut_within}
use Rattle.floats.proofs.Error.{Near, Close, round_close}

-- floats in units of 2 ^ -1074
abbrev pub unit : ℕ
unit = 2 ^ 1074

-- n is a cut with the sign s: less than one above q / t, and less than two below
pub record CutNear (n : ℤ) (s : Bool) (q t : ℕ) : Type 0 where
  pub cut : ℕ
  pub is : n ≡ with_sign s cut
  pub less : cut * t < q + t
  pub more : q < suc (suc cut) * t

-- ---- H / L and q / t are less than one apart
abbrev pub Apart : ℕ → ℕ → ℕ → ℕ → Type 0
Apart q t L H = (H * t < q * L + t * L) × (q * L < H * t + t * L)

module _ (q t L H : ℕ) (Lp : 0 < L) (apart : Apart q t L H) where
  cut_less : H / L * t < q + t
  cut_less = lt_of_mul-lt-mul_right L (go (mul-le-mul_right t (div-mul-le_self H L)) apart.0)
    where
      go : H / L * L * t ≤ H * t → H * t < q * L + t * L → H / L * t * L < (q + t) * L
      go a b = omega arith

  cut_more : q < suc (suc (H / L)) * t
  cut_more = lt_of_mul-lt-mul_right L (go (mul-le-mul_right t (below_next H L Lp)) apart.1)
    where
      go : suc H * t ≤ suc (H / L) * L * t → q * L < H * t + t * L → q * L < suc (suc (H / L)) * t * L
      go a b = omega arith

-- q / t is a position: its cut is far below 2 ^ 31
few_cut : (q t f : ℕ) → q ≤ 65534 * t → f * t < q + t → f < 2 ^ 31
few_cut q t f few l = lt_of_mul-lt-mul_right t (lt_of_lt_of_le (go few l) (mul-le-mul_right t (lit≤ tt)))
  where
    go : q ≤ 65534 * t → f * t < q + t → f * t < 65535 * t
    go a b = omega arith

module _ (x : Float) (s : Bool) (q t H : ℕ) (few : q ≤ 65534 * t) (X : HasValue x s H unit) (apart : Apart q t unit H) where
  pub value_cut : cut x ≡ with_sign s (H / unit)
  value_cut = signed_val 31 x s H unit (pow_pos 1074) X
      ∙ cut_within 31 s (H / unit) (few_cut q t (H / unit) few (cut_less q t unit H (pow_pos 1074) apart))

  pub near_cut : CutNear (cut x) s q t
  near_cut = record {
    cut = H / unit;
    is = value_cut;
    less = cut_less q t unit H (pow_pos 1074) apart;
    more = cut_more q t unit H (pow_pos 1074) apart;
  }

-- ---- a / b is within three quarters of q / t, and rounds to g / U
coarser : (x y b : ℕ) → Close (2 ^ 53) b x y → Close (2 ^ 20) b x y
coarser x y b h = (le_of_mul-le-mul_right (parts x y h.0) (pow_pos 33), le_of_mul-le-mul_right (others h.1) (pow_pos 33))
  where
    parts : (x y : ℕ) → 2 ^ 53 * x ≤ 2 ^ 53 * y + y + 2 ^ 53 * b → 2 ^ 20 * x * 2 ^ 33 ≤ (2 ^ 20 * y + y + 2 ^ 20 * b) * 2 ^ 33
    parts x y l = omega arith

    others : 2 ^ 53 * y ≤ 2 ^ 53 * x + y + 2 ^ 53 * b → 2 ^ 20 * y * 2 ^ 33 ≤ (2 ^ 20 * x + y + 2 ^ 20 * b) * 2 ^ 33
    others l = omega arith

module _ (q t a b U g : ℕ) (Tp : 0 < t) (B : 0 < b) (big : 64 ≤ U) (few : q ≤ 65534 * t)
    (above : 4 * (a * t) ≤ 4 * (q * b) + 3 * (t * b)) (below : 4 * (q * b) ≤ 4 * (a * t) + 3 * (t * b))
    (close : Close (2 ^ 20) b (g * b) (a * U)) where
  rounded_apart : Apart q t U g
  rounded_apart = (
    lt_of_mul-lt-mul_right b (less (mul-le-mul_right t close.0) (mul-le-mul_right U above) (mul-le-mul_right (b * U) few)
        (mul-le-mul_right (t * b) big) (mul-pos (mul-pos Tp B) (le_trans (lit≤ tt) big))),
    lt_of_mul-lt-mul_right b (more (mul-le-mul_right t close.1) (mul-le-mul_right U above) (mul-le-mul_right U below)
        (mul-le-mul_right (b * U) few) (mul-le-mul_right (t * b) big) (mul-pos (mul-pos Tp B) (le_trans (lit≤ tt) big))),
  )
    where
      less : 2 ^ 20 * (g * b) * t ≤ (2 ^ 20 * (a * U) + a * U + 2 ^ 20 * b) * t →
          4 * (a * t) * U ≤ (4 * (q * b) + 3 * (t * b)) * U → q * (b * U) ≤ 65534 * t * (b * U) → 64 * (t * b) ≤ U * (t * b) →
          0 < t * b * U → g * t * b < (q * U + t * U) * b
      less x y z v p = omega arith

      more : 2 ^ 20 * (a * U) * t ≤ (2 ^ 20 * (g * b) + a * U + 2 ^ 20 * b) * t →
          4 * (a * t) * U ≤ (4 * (q * b) + 3 * (t * b)) * U → 4 * (q * b) * U ≤ (4 * (a * t) + 3 * (t * b)) * U →
          q * (b * U) ≤ 65534 * t * (b * U) → 64 * (t * b) ≤ U * (t * b) → 0 < t * b * U → q * U * b < (g * t + t * U) * b
      more x y y' z v p = omega arith

round_cut : (s : Bool) (a b q t : ℕ) → 0 < t → 0 < b → q ≤ 65534 * t → 4 * (a * t) ≤ 4 * (q * b) + 3 * (t * b) →
    4 * (q * b) ≤ 4 * (a * t) + 3 * (t * b) → CutNear (cut (round binary64 s a b)) s q t
round_cut s a b q t Tp B few above below =
    let g = grid binary64 a b in
    let apart = rounded_apart q t a b unit g Tp B (lit≤ tt) few above below
    (coarser (g * b) (a * unit) b (round_close binary64 a b B)) in
    near_cut (round binary64 s a b) s q t g few (round_val binary64 s a b (under g apart.0)) apart
  where
    under : (g : ℕ) → g * t < q * unit + t * unit → g < overflow binary64
    under g l = lt_of_le_of_lt (below_most g unit l (mul-le-mul_right unit few)) (lit< tt)
      where
        below_most : (g U : ℕ) → g * t < q * U + t * U → q * U ≤ 65534 * t * U → g ≤ 65535 * U
        below_most g U x y = le_of_mul-le-mul_right (go x y) Tp
          where
            go : g * t < q * U + t * U → q * U ≤ 65534 * t * U → g * t ≤ 65535 * U * t
            go x y = omega arith

-- ---- A / E is within five eighths of q / t
pub record Within (q t A E : ℕ) : Type 0 where
  pub above : 8 * (A * t) ≤ 8 * (q * E) + 5 * (t * E)
  pub below : 8 * (q * E) ≤ 8 * (A * t) + 5 * (t * E)

pub within_apart : (q t A E : ℕ) → 0 < t → 0 < E → Within q t A E → Apart q t E A
within_apart q t A E Tp Ep w = (less w.above (mul-pos Tp Ep), more w.below (mul-pos Tp Ep))
  where
    less : 8 * (A * t) ≤ 8 * (q * E) + 5 * (t * E) → 0 < t * E → A * t < q * E + t * E
    less a p = omega arith

    more : 8 * (q * E) ≤ 8 * (A * t) + 5 * (t * E) → 0 < t * E → q * E < A * t + t * E
    more a p = omega arith

pub near_within : (q t H U : ℕ) → q ≤ 65534 * t → Near (2 ^ 50) (H * t) (q * U) → Within q t H U
near_within q t H U few n = let l = mul-le-mul_right U few in record { above = high l n.0; below = low l n.1 }
  where
    high : q * U ≤ 65534 * t * U → 2 ^ 50 * (H * t) ≤ 2 ^ 50 * (q * U) + q * U → 8 * (H * t) ≤ 8 * (q * U) + 5 * (t * U)
    high l h = omega arith

    low : q * U ≤ 65534 * t * U → 2 ^ 50 * (q * U) ≤ 2 ^ 50 * (H * t) + q * U → 8 * (q * U) ≤ 8 * (H * t) + 5 * (t * U)
    low l h = omega arith

-- and N / D, which is added to it, at most an eighth
module _ (q t A E N D : ℕ) (Tp : 0 < t) (few : q ≤ 65534 * t) (Ep : 0 < E) (Dp : 0 < D) (w : Within q t A E)
    (eighth : 8 * N ≤ D) where
  part : 8 * N * (t * E) ≤ D * (t * E)
  part = mul-le-mul_right (t * E) eighth

  high : 8 * (A * t) * D ≤ (8 * (q * E) + 5 * (t * E)) * D
  high = mul-le-mul_right D w.above

  low : 8 * (q * E) * D ≤ (8 * (A * t) + 5 * (t * E)) * D
  low = mul-le-mul_right D w.below

  -- of one sign
  plus : CutNear (cut (sum binary64 false (A * D) false (N * E) (E * D))) false q t
  unfolding sum
  plus = round_cut false (A * D + N * E) (E * D) q t Tp (mul-pos Ep Dp) few (up part high) (dn low)
    where
      up : 8 * N * (t * E) ≤ D * (t * E) → 8 * (A * t) * D ≤ (8 * (q * E) + 5 * (t * E)) * D →
          4 * ((A * D + N * E) * t) ≤ 4 * (q * (E * D)) + 3 * (t * (E * D))
      up x y = omega arith

      dn : 8 * (q * E) * D ≤ (8 * (A * t) + 5 * (t * E)) * D →
          4 * (q * (E * D)) ≤ 4 * ((A * D + N * E) * t) + 3 * (t * (E * D))
      dn x = omega arith

  abbrev difference : Float
  difference = sum binary64 true (A * D) false (N * E) (E * D)

  -- of two signs: where the small one is the larger, nothing is left of the cut
  at_zero : (a : ℕ) → a ≤ N * E → cut (round binary64 false a (E * D)) ≡ pos 0
  at_zero a h =
      let c = round_cut false a (E * D) 0 1 (lit< tt) (mul-pos Ep Dp) (omega arith) (up h (mul-le-mul_right E eighth))
      (omega arith) in
      c.is ∙ ap pos (none c.cut c.less)
    where
      up : a ≤ N * E → 8 * N * E ≤ D * E → 4 * (a * 1) ≤ 4 * (0 * (E * D)) + 3 * (1 * (E * D))
      up x y = omega arith

      none : (f : ℕ) → f * 1 < 0 + 1 → f ≡ 0
      none f l = omega arith

  less_is : A * D < N * E → difference ≡ round binary64 false (N * E - A * D) (E * D)
  unfolding sum
  less_is h = rw (lt-ltb (A * D) (N * E) h)

  equal_is : A * D ≡ N * E → difference ≡ round binary64 false (A * D - N * E) (E * D)
  unfolding sum
  equal_is e = rw (le-ltb (A * D) (N * E) (omega arith), le-ltb (N * E) (A * D) (omega arith))

  none_left : A * D ≤ N * E → CutNear (cut difference) true q t
  none_left h = record {
    cut = 0;
    is = elim (dec_le (N * E) (A * D)) [
      | yes e ↦ ap (λ (x : Float). cut x) (equal_is (omega arith)) ∙ at_zero (A * D - N * E) (omega arith)
      | no l ↦ ap (λ (x : Float). cut x) (less_is (omega arith)) ∙ at_zero (N * E - A * D) (omega arith)
    ];
    less = omega (arith, Tp);
    more = last (le_of_mul-le-mul_right (under low part (mul-le-mul_right t h)) (mul-pos Ep Dp));
  }
    where
      under : 8 * (q * E) * D ≤ (8 * (A * t) + 5 * (t * E)) * D → 8 * N * (t * E) ≤ D * (t * E) → A * D * t ≤ N * E * t →
          8 * q * (E * D) ≤ 6 * t * (E * D)
      under x y z = omega arith

      last : 8 * q ≤ 6 * t → q < suc (suc 0) * t
      last x = omega (arith, Tp)

  -- and else the large one is left
  more_is : N * E < A * D → difference ≡ round binary64 true (A * D - N * E) (E * D)
  unfolding sum
  more_is h = rw (le-ltb (A * D) (N * E) (omega arith), lt-ltb (N * E) (A * D) h)

  left : (a : ℕ) → a + N * E ≡ A * D → CutNear (cut (round binary64 true a (E * D))) true q t
  left a e = round_cut true a (E * D) q t Tp (mul-pos Ep Dp) few (up times high) (dn times part low)
    where
      times : (a + N * E) * t ≡ A * D * t
      times = ap (λ (x : ℕ). x * t) e

      up : (a + N * E) * t ≡ A * D * t → 8 * (A * t) * D ≤ (8 * (q * E) + 5 * (t * E)) * D →
          4 * (a * t) ≤ 4 * (q * (E * D)) + 3 * (t * (E * D))
      up e x = omega arith

      dn : (a + N * E) * t ≡ A * D * t → 8 * N * (t * E) ≤ D * (t * E) → 8 * (q * E) * D ≤ (8 * (A * t) + 5 * (t * E)) * D →
          4 * (q * (E * D)) ≤ 4 * (a * t) + 3 * (t * (E * D))
      dn e x y = omega arith

  sum_cut : (s : Bool) → CutNear (cut (sum binary64 s (A * D) false (N * E) (E * D))) s q t
  sum_cut false = plus
  sum_cut true = elim (dec_le (A * D) (N * E)) [
    | yes h ↦ none_left h
    | no h ↦ subst (λ (x : Float). CutNear (cut x) true q t) (sym (more_is (omega arith))) (left (A * D - N * E) (omega arith))
  ]

-- the same of floats: x is H / L, y is b / c
scaled : (q t A E H L : ℕ) → 0 < L → A * L ≡ H * E → Within q t H L → Within q t A E
scaled q t A E H L Lp e w = record {
  above = le_of_mul-le-mul_right (high (ap (λ (x : ℕ). x * t) e) (mul-le-mul_right E w.above)) Lp;
  below = le_of_mul-le-mul_right (low (ap (λ (x : ℕ). x * t) e) (mul-le-mul_right E w.below)) Lp;
}
  where
    high : A * L * t ≡ H * E * t → 8 * (H * t) * E ≤ (8 * (q * L) + 5 * (t * L)) * E →
        8 * (A * t) * L ≤ (8 * (q * E) + 5 * (t * E)) * L
    high x h = omega arith

    low : A * L * t ≡ H * E * t → 8 * (q * L) * E ≤ (8 * (H * t) + 5 * (t * L)) * E →
        8 * (q * E) * L ≤ (8 * (A * t) + 5 * (t * E)) * L
    low x h = omega arith

pub add_cut : (x y : Float) (s : Bool) (q t H L b c : ℕ) → 0 < t → q ≤ 65534 * t → 0 < L → 0 < c → HasValue x s H L →
    HasValue y false b c → 8 * b ≤ c → Within q t H L → CutNear (cut (add binary64 x y)) s q t
unfolding add
add_cut nan y s q t H L b c Tp few Lp Cp X Y eighth w = absurd X
add_cut (inf r) y s q t H L b c Tp few Lp Cp X Y eighth w = absurd X
add_cut (fin r m e) nan s q t H L b c Tp few Lp Cp X Y eighth w = absurd Y
add_cut (fin r m e) (inf u) s q t H L b c Tp few Lp Cp X Y eighth w = absurd Y
add_cut (fin r m e) (fin u n d) s q t H L b c Tp few Lp Cp X Y eighth w =
    let A = m * up e in
    let N = n * up d in
    let small = le_of_mul-le-mul_right (part N Y.1 (mul-le-mul_right (down d) eighth)) Cp in
    subst (λ (v : Bool). CutNear (cut (sum binary64 v (A * down d) u (N * down e) (down e * down d))) s q t) (sym X.0)
    (subst (λ (v : Bool). CutNear (cut (sum binary64 s (A * down d) v (N * down e) (down e * down d))) s q t) (sym Y.0)
    (sum_cut q t A (down e) N (down d) Tp few (down_pos e) (down_pos d) (scaled q t A (down e) H L Lp X.1 w) small s))
  where
    part : (N : ℕ) → N * c ≡ b * down d → 8 * b * down d ≤ c * down d → 8 * N * c ≤ down d * c
    part N e h = omega arith
