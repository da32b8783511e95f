-- What Rust's floor, ceil, round and casts make of a rounded quotient of whole numbers: what they make of the exact
-- one. First of a magnitude with a sign, then of signed numbers as a caller has them. Assumes nothing.
use mathlib.Core.Path.{◌≡◌, refl, sym, ap, ◌∙◌}
use mathlib.Core.Logic.{inl, inr}
use mathlib.Core.Bool.{Bool, true, false, cond}
use Prim.Native.Nat.{ℕ, zero, suc, ◌+◌, ◌-◌, ◌*◌, ◌/◌, ◌^◌, ◌≤◌, ◌<◌, min}
use native.Mathlib.Nat.{le_trans, le_of_eq, le_of_suc-le-suc, lt_of_lt_of_le, lt_of_le_of_lt, eq-or-lt_of_le}
use native.Mathlib.Nat.{mul_right_comm, mul-one, mul-zero, mul-pos, mul-le-mul, mul-le-mul_left, mul-lt-mul_of_pos_right}
use native.Mathlib.Nat.{lt_of_mul-lt-mul_right, le_of_mul-le-mul_right, eq_of_mul-eq-mul_right, div-mul-le_self}
use native.Mathlib.Nat.{div-lt_iff_lt-mul, div-le_self, div-one}
use native.Mathlib.Omega.{arith}
use lib.Dec.{lit<, lit≤}
use lib.IntN.{ℤ, pos, nat_abs}
use lib.Pow.{pow_pos, pow_mono}
use lib.Ieee.{Float, nan, inf, fin, Format, binary32, binary64, prec, low, up, down, unlike, round, of_int, mul, div}
use lib.Ieee.{to_signed, to_unsigned}
use lib.Ieee.Fits.{down_pos, two}
use lib.Ieee.Exact.{HasValue}
use lib.Ieee.Scale.{grid}
use Rattle.laws.proofs.Quotients.{quotient_is, below_next}
use Rattle.floats.specs.Rounding.{with_sign, upward, half_up, floor_f, ceil_f, round_f, quotient_of, cut}
use Rattle.floats.proofs.Values.{signed_val, unsigned_val, cut_signed, cut_within, below_zero, mul_ints}
use Rattle.floats.proofs.Values.{int_is, div_by_int, div_ints, div_zero, unlike_false}
use Rattle.floats.proofs.Order.{quotient_val, below, equal, above}

-- ---- N / D stands to each c / d as a / b does
abbrev Like : ℕ → ℕ → ℕ → ℕ → ℕ → Type 0
Like d a b N D = (c : ℕ) → (a * d < c * b → N * d < c * D) × (a * d ≡ c * b → N * d ≡ c * D) × (c * b < a * d → c * D < N * d)

like_ge : (d a b N D c : ℕ) → Like d a b N D → c * b ≤ a * d → c * D ≤ N * d
like_ge d a b N D c l h = elim (eq-or-lt_of_le h) [ inl e ↦ le_of_eq (sym ((l c).1 (sym e))) | inr k ↦ under ((l c).2 k) ]
  where
    under : c * D < N * d → c * D ≤ N * d
    under x = omega arith

like_le : (d a b N D c : ℕ) → Like d a b N D → a * d ≤ c * b → N * d ≤ c * D
like_le d a b N D c l h = elim (eq-or-lt_of_le h) [ inl e ↦ le_of_eq ((l c).1 e) | inr k ↦ under ((l c).0 k) ]
  where
    under : N * d < c * D → N * d ≤ c * D
    under x = omega arith

module _ (a b N D : ℕ) (B : 0 < b) (Dp : 0 < D) where
  same_floor : Like 1 a b N D → N / D ≡ a / b
  same_floor l =
      quotient_is N D (a / b) Dp
      (one (like_ge 1 a b N D (a / b) l (le_trans (div-mul-le_self a b) (le_of_eq (sym (mul-one a))))))
      (lt_of_le_of_lt (le_of_eq (sym (mul-one N)))
      ((l (suc (a / b))).0 (lt_of_le_of_lt (le_of_eq (mul-one a)) (below_next a b B))))
    where
      one : a / b * D ≤ N * 1 → a / b * D ≤ N
      one h = le_trans h (le_of_eq (mul-one N))

  same_upward : Like 1 a b N D → upward N D ≡ upward a b
  same_upward l = go (upward a b) (div-mul-le_self (a + (b - 1)) b) (below_next (a + (b - 1)) b B)
    where
      ends : (k : ℕ) → k * D ≤ N + (D - 1) → N * 1 ≤ k * D → upward N D ≡ k
      ends k x y = quotient_is (N + (D - 1)) D k Dp x (omega arith)

      go : (k : ℕ) → k * b ≤ a + (b - 1) → a + (b - 1) < suc k * b → upward N D ≡ k
      go zero x y = ends zero (omega arith) (like_le 1 a b N D zero l (omega arith))
      go (suc j) x y =
          let low : j * D < N * 1 = (l j).2 (omega arith) in
          ends (suc j) (omega arith) (like_le 1 a b N D (suc j) l (omega arith))

  same_half : Like 2 a b N D → half_up N D ≡ half_up a b
  same_half l = go (half_up a b) (div-mul-le_self (2 * a + b) (2 * b)) (below_next (2 * a + b) (2 * b) (mul-pos (lit< tt) B))
    where
      go : (k : ℕ) → k * (2 * b) ≤ 2 * a + b → 2 * a + b < suc k * (2 * b) → half_up N D ≡ k
      go zero x y =
          let hi : N * 2 < 1 * D = (l 1).0 (omega arith) in
          quotient_is (2 * N + D) (2 * D) zero (mul-pos (lit< tt) Dp) (omega arith) (omega arith)
      go (suc j) x y =
          let low : suc (2 * j) * D ≤ N * 2 = like_ge 2 a b N D (suc (2 * j)) l (omega arith) in
          let hi : N * 2 < suc (2 * suc j) * D = (l (suc (2 * suc j))).0 (omega arith) in
          quotient_is (2 * N + D) (2 * D) (suc j) (mul-pos (lit< tt) Dp) (omega arith) (omega arith)

-- ---- a float that is g / L has g / L's place
move : (d a b g L N D : ℕ) → 0 < L → 0 < D → N * L ≡ g * D → Like d a b g L → Like d a b N D
move d a b g L N D Lp Dp e l c = (
  λ (h : a * d < c * b). lt_of_mul-lt-mul_right L (left (mul-lt-mul_of_pos_right ((l c).0 h) Dp)),
  λ (h : a * d ≡ c * b). eq_of_mul-eq-mul_right L Lp (N * d) (c * D) (turn ∙ ap (λ (x : ℕ). x * D) ((l c).1 h)
      ∙ mul_right_comm c L D),
  λ (h : c * b < a * d). lt_of_mul-lt-mul_right L (right (mul-lt-mul_of_pos_right ((l c).2 h) Dp)),
)
  where
    turn : N * d * L ≡ g * d * D
    turn = mul_right_comm N d L ∙ ap (λ (x : ℕ). x * d) e ∙ mul_right_comm g D d

    left : g * d * D < c * L * D → N * d * L < c * D * L
    left h = lt_of_le_of_lt (le_of_eq turn) (lt_of_lt_of_le h (le_of_eq (mul_right_comm c L D)))

    right : c * L * D < g * d * D → c * D * L < N * d * L
    right h = lt_of_le_of_lt (le_of_eq (mul_right_comm c D L)) (lt_of_lt_of_le h (le_of_eq (sym turn)))

-- ---- floor, ceil and round of a float x that is g / L, where that is like a / b
module _ (f : Format) (s : Bool) (a b g L : ℕ) (B : 0 < b) (Lp : 0 < L) where
  at_place : (d : ℕ) (m : ℕ) (e : ℤ) → m * up e * L ≡ g * down e → Like d a b g L → Like d a b (m * up e) (down e)
  at_place d m e v l = move d a b g L (m * up e) (down e) Lp (down_pos e) v l

  floor_of : (x : Float) → HasValue x s g L → Like 1 a b g L → floor_f f x ≡ round f s (cond s (upward a b) (a / b)) 1
  unfolding floor_f
  floor_of nan h l = absurd h
  floor_of (inf t) h l = absurd h
  floor_of (fin t m e) h l =
      let k : Like 1 a b (m * up e) (down e) = at_place 1 m e h.1 l in
      ap (λ (z : Bool). round f z (cond z (upward (m * up e) (down e)) (m * up e / down e)) 1) h.0
      ∙ ap (λ (n : ℕ). round f s (cond s n (m * up e / down e)) 1) (same_upward a b (m * up e) (down e) B (down_pos e) k)
      ∙ ap (λ (n : ℕ). round f s (cond s (upward a b) n) 1) (same_floor a b (m * up e) (down e) B (down_pos e) k)

  ceil_of : (x : Float) → HasValue x s g L → Like 1 a b g L → ceil_f f x ≡ round f s (cond s (a / b) (upward a b)) 1
  unfolding ceil_f
  ceil_of nan h l = absurd h
  ceil_of (inf t) h l = absurd h
  ceil_of (fin t m e) h l =
      let k : Like 1 a b (m * up e) (down e) = at_place 1 m e h.1 l in
      ap (λ (z : Bool). round f z (cond z (m * up e / down e) (upward (m * up e) (down e))) 1) h.0
      ∙ ap (λ (n : ℕ). round f s (cond s (m * up e / down e) n) 1) (same_upward a b (m * up e) (down e) B (down_pos e) k)
      ∙ ap (λ (n : ℕ). round f s (cond s n (upward a b)) 1) (same_floor a b (m * up e) (down e) B (down_pos e) k)

  pub round_of : (x : Float) → HasValue x s g L → Like 2 a b g L → round_f f x ≡ round f s (half_up a b) 1
  unfolding round_f
  round_of nan h l = absurd h
  round_of (inf t) h l = absurd h
  round_of (fin t m e) h l =
      ap (λ (z : Bool). round f z (half_up (m * up e) (down e)) 1) h.0
      ∙ ap (λ (n : ℕ). round f s n 1) (same_half a b (m * up e) (down e) B (down_pos e) (at_place 2 m e h.1 l))

-- ---- THE LAWS, of a quotient of whole numbers with the sign s: a below 2 ^ prec, b at most 2 ^ 100
module _ (f : Format) (s : Bool) (a b : ℕ) (B : 0 < b) (b-small : b ≤ 2 ^ 100) (small : a < 2 ^ prec f) where
  value : HasValue (round f s a b) s (grid f a b) (2 ^ low f)
  value = quotient_val f a b B b-small s small

  whole_like : Like 1 a b (grid f a b) (2 ^ low f)
  whole_like c = let k = lt_of_le_of_lt (le_of_eq (mul-one a)) small in
      (below f a b c 0 B b-small (lit≤ tt) k, equal f a b c 0 B b-small (lit≤ tt) k, above f a b c 0 B b-small (lit≤ tt) k)

  half_like : a * 2 < 2 ^ prec f → Like 2 a b (grid f a b) (2 ^ low f)
  half_like h c = (
    below f a b c 1 B b-small (lit≤ tt) h,
    equal f a b c 1 B b-small (lit≤ tt) h,
    above f a b c 1 B b-small
        (lit≤ tt) h,
  )

  same_cut : grid f a b / 2 ^ low f ≡ a / b
  same_cut = same_floor a b (grid f a b) (2 ^ low f) B (pow_pos (low f)) whole_like

  pub floor_exact : floor_f f (round f s a b) ≡ round f s (cond s (upward a b) (a / b)) 1
  floor_exact = floor_of f s a b (grid f a b) (2 ^ low f) B (pow_pos (low f)) (round f s a b) value whole_like

  pub ceil_exact : ceil_f f (round f s a b) ≡ round f s (cond s (a / b) (upward a b)) 1
  ceil_exact = ceil_of f s a b (grid f a b) (2 ^ low f) B (pow_pos (low f)) (round f s a b) value whole_like

  pub round_half_exact : a * 2 < 2 ^ prec f → round_f f (round f s a b) ≡ round f s (half_up a b) 1
  round_half_exact h = round_of f s a b (grid f a b) (2 ^ low f) B (pow_pos (low f)) (round f s a b) value (half_like h)

  pub cut_exact : (h : ℕ) → to_signed h (round f s a b) ≡ cut_signed h s (a / b)
  cut_exact h = signed_val h (round f s a b) s (grid f a b) (2 ^ low f) (pow_pos (low f)) value ∙ ap (cut_signed h s) same_cut

  unsigned_exact : (w : ℕ) → to_unsigned w (round f s a b) ≡ cond s 0 (min (a / b) (2 ^ w - 1))
  unsigned_exact w = unsigned_val w (round f s a b) s (grid f a b) (2 ^ low f) (pow_pos (low f)) value
      ∙ ap (λ (q : ℕ). cond s 0 (min q (2 ^ w - 1))) same_cut

-- ---- a float that is the whole number k, cut
whole_unsigned : (f : Format) (s : Bool) (k : ℕ) → k < 2 ^ prec f → to_unsigned 64 (round f s k 1) ≡ cond s 0 k
whole_unsigned f s k h = unsigned_exact f s k 1 (lit< tt) (lit≤ tt) h 64 ∙ ap (λ (n : ℕ). cond s 0 (min n (2 ^ 64 - 1)))
    (div-one k) ∙ ap (cond s 0) (go k (lt_of_lt_of_le h (pow_mono (fit f))))
  where
    go : (k : ℕ) → k < 2 ^ 64 → min k (2 ^ 64 - 1) ≡ k
    go k r = omega arith

    fit : (f : Format) → prec f ≤ 64
    fit binary32 = lit≤ tt
    fit binary64 = lit≤ tt

whole_signed : (f : Format) (s : Bool) (k h : ℕ) → k < 2 ^ prec f → k < 2 ^ h → to_signed h (round f s k 1) ≡ with_sign s k
whole_signed f s k h r l = cut_exact f s k 1 (lit< tt) (lit≤ tt) r h ∙ ap (cut_signed h s) (div-one k) ∙ cut_within h s k l

few : (f : Format) → prec f ≤ 100
few binary32 = lit≤ tt
few binary64 = lit≤ tt

-- neither rounding up nor to the nearest leaves a's range
upward_le : (a b : ℕ) → 0 < b → upward a b ≤ a
upward_le a b B = le_of_suc-le-suc ((div-lt_iff_lt-mul B).1 (go (mul-le-mul_left a B)))
  where
    go : a * 1 ≤ a * b → a + (b - 1) < suc a * b
    go h = omega arith

pub half_up_le : (a b : ℕ) → 0 < b → half_up a b ≤ a
half_up_le a b B = le_of_suc-le-suc ((div-lt_iff_lt-mul (mul-pos (lit< tt) B)).1 (go (mul-le-mul_left a B)))
  where
    go : a * 1 ≤ a * b → 2 * a + b < suc a * (2 * b)
    go h = omega arith

-- ---- floor and ceil as usize
module _ (f : Format) (s : Bool) (a b : ℕ) (B : 0 < b) (b-small : b ≤ 2 ^ 100) (small : a < 2 ^ prec f) where
  floor_cut : to_unsigned 64 (floor_f f (round f s a b)) ≡ cond s 0 (a / b)
  floor_cut = ap (to_unsigned 64) (floor_exact f s a b B b-small small) ∙ whole_unsigned f s (cond s (upward a b) (a / b))
      (lt_of_le_of_lt (most s) small) ∙ drop s
    where
      most : (s : Bool) → cond s (upward a b) (a / b) ≤ a
      most true = upward_le a b B
      most false = div-le_self a b

      drop : (s : Bool) → cond s 0 (cond s (upward a b) (a / b)) ≡ cond s 0 (a / b)
      drop true = refl
      drop false = refl

  ceil_cut : to_unsigned 64 (ceil_f f (round f s a b)) ≡ cond s 0 (upward a b)
  ceil_cut = ap (to_unsigned 64) (ceil_exact f s a b B b-small small) ∙ whole_unsigned f s (cond s (a / b) (upward a b))
      (lt_of_le_of_lt (most s) small) ∙ drop s
    where
      most : (s : Bool) → cond s (a / b) (upward a b) ≤ a
      most true = div-le_self a b
      most false = upward_le a b B

      drop : (s : Bool) → cond s 0 (cond s (a / b) (upward a b)) ≡ cond s 0 (upward a b)
      drop true = refl
      drop false = refl

  -- round, cut to a signed type
  module _ (half : a * 2 < 2 ^ prec f) where
    fewer : half_up a b < 2 ^ prec f
    fewer = go (2 ^ prec f) (half_up a b) (pow_mono (two f)) (half_up_le a b B) half
      where
        go : (P k : ℕ) → 4 ≤ P → k ≤ a → a * 2 < P → k < P
        go P k p q r = omega arith

    round_signed : (h : ℕ) → half_up a b < 2 ^ h → to_signed h (round_f f (round f s a b)) ≡ with_sign s (half_up a b)
    round_signed h l = ap (to_signed h) (round_half_exact f s a b B b-small small half) ∙ whole_signed f s (half_up a b) h fewer l

-- ---- signed numbers y * z / w
module _ (f : Format) (y z w : ℤ) (Y : nat_abs y ≤ 2 ^ prec f) (Z : nat_abs z ≤ 2 ^ prec f)
    (small : nat_abs y * nat_abs z < 2 ^ prec f) (W : nat_abs w ≤ 2 ^ prec f) (Wp : 0 < nat_abs w) where
  one_round : div f (mul f (of_int f y) (of_int f z)) (of_int f w)
      ≡ round f (unlike (unlike (below_zero y) (below_zero z)) (below_zero w)) (nat_abs y * nat_abs z) (nat_abs w)
  one_round =
      ap (λ (x : Float). div f x (of_int f w)) (mul_ints f y z Y Z)
      ∙ div_by_int f (unlike (below_zero y) (below_zero z)) (nat_abs y * nat_abs z) w (under small) W Wp
    where
      under : nat_abs y * nat_abs z < 2 ^ prec f → nat_abs y * nat_abs z ≤ 2 ^ prec f
      under h = omega arith

  w_small : nat_abs w ≤ 2 ^ 100
  w_small = le_trans W (pow_mono (few f))

  -- the floor as usize, 0 below 0
  pub scaled_floor : to_unsigned 64 (floor_f f (div f (mul f (of_int f y) (of_int f z)) (of_int f w)))
      ≡ cond (unlike (unlike (below_zero y) (below_zero z)) (below_zero w)) 0 (nat_abs y * nat_abs z / nat_abs w)
  scaled_floor = ap (λ (x : Float). to_unsigned 64 (floor_f f x)) one_round
      ∙ floor_cut f (unlike (unlike (below_zero y) (below_zero z)) (below_zero w)) (nat_abs y * nat_abs z) (nat_abs w)
      Wp w_small small

-- the quotient of whole numbers, cut
abbrev pub cut_quotient : ℤ → ℤ → ℤ → ℤ
cut_quotient y z w = cut (quotient_of (of_int binary64 y) z (of_int binary64 w))

-- a product below 2 ^ 53 is a float, so the one rounding that is left crosses no whole number
pub cut_few : (z : ℤ) (o t : ℕ) → nat_abs z ≤ 65534 → o ≤ t → 0 < t → t ≤ 2 ^ 32 →
    cut_quotient z (pos o) (pos t) ≡ with_sign (below_zero z) (nat_abs z * o / t)
unfolding quotient_of
cut_few z o t Z O Tp T =
    let w = nat_abs z in
    let s = below_zero z in
    let few : w * o < 2 ^ 53 = lt_of_le_of_lt (mul-le-mul Z (le_trans O T)) (lit< tt) in
    let most : w * o / t ≤ 65534 = le_of_mul-le-mul_right (le_trans (div-mul-le_self (w * o) t) (mul-le-mul Z O)) Tp in
    ap (to_signed 31) (one_round binary64 z (pos o) (pos t) (omega arith) (omega arith) few (omega arith) Tp)
    ∙ ap (λ (b : Bool). to_signed 31 (round binary64 b (w * o) t)) (unlike_false (unlike s false) ∙ unlike_false s)
    ∙ cut_exact binary64 s (w * o) t Tp (omega arith) few 31
    ∙ cut_within 31 s (w * o / t) (omega arith)

-- ---- 0 ÷ 0
zero_is : (s : Bool) → round binary64 s 0 1 ≡ fin s 0 (pos 0)
unfolding round
zero_is s = refl

pub zero_by_zero : (z : ℤ) → nat_abs z ≤ 65534 → quotient_of (of_int binary64 z) (pos 0) (of_int binary64 (pos 0)) ≡ nan
unfolding quotient_of div
zero_by_zero z W =
    let s = unlike (below_zero z) false in
    ap (λ (x : Float). div binary64 x (of_int binary64 (pos 0))) (mul_ints binary64 z (pos 0) (le_trans W (lit≤ tt)) (lit≤ tt)
    ∙ ap (λ (n : ℕ). round binary64 s n 1) (mul-zero (nat_abs z)) ∙ zero_is s)
    ∙ ap (div binary64 (fin s 0 (pos 0))) (int_is binary64 (pos 0) ∙ zero_is false)

-- ---- a signed y by a count d, rounded to the nearest and cut to a signed type
pub ratio_round : (f : Format) (y : ℤ) (d h : ℕ) → nat_abs y * 2 < 2 ^ prec f → 0 < d → d ≤ 2 ^ prec f →
    half_up (nat_abs y) d < 2 ^ h
    → to_signed h (round_f f (div f (of_int f y) (of_int f (pos d)))) ≡ with_sign (below_zero y) (half_up (nat_abs y) d)
ratio_round f y d h half D d_small l =
    let small : nat_abs y < 2 ^ prec f = omega arith in
    ap (λ (x : Float). to_signed h (round_f f x)) (div_ints f y (pos d) (omega arith) d_small D)
    ∙ ap (λ (s : Bool). to_signed h (round_f f (round f s (nat_abs y) d))) (unlike_false (below_zero y))
    ∙ round_signed f (below_zero y) (nat_abs y) d D (le_trans d_small (pow_mono (few f))) small half h l

-- ---- counts n / d
module _ (f : Format) (n d : ℕ) (small : n < 2 ^ prec f) (D : 0 < d) (d_small : d ≤ 2 ^ prec f) where
  one_ratio : div f (of_int f (pos n)) (of_int f (pos d)) ≡ round f false n d
  one_ratio = div_ints f (pos n) (pos d) (omega arith) d_small D

  pub ratio_floor : to_unsigned 64 (floor_f f (div f (of_int f (pos n)) (of_int f (pos d)))) ≡ n / d
  ratio_floor = ap (λ (x : Float). to_unsigned 64 (floor_f f x)) one_ratio ∙ floor_cut f false n d D
      (le_trans d_small (pow_mono (few f))) small

  pub ratio_ceil : to_unsigned 64 (ceil_f f (div f (of_int f (pos n)) (of_int f (pos d)))) ≡ upward n d
  ratio_ceil = ap (λ (x : Float). to_unsigned 64 (ceil_f f x)) one_ratio ∙ ceil_cut f false n d D
      (le_trans d_small (pow_mono (few f))) small

-- by 0 the quotient is an infinity, and its cast the largest number
pub ceil_by_zero : (f : Format) (n : ℕ) → 0 < n → n ≤ 2 ^ prec f →
    to_unsigned 64 (ceil_f f (div f (of_int f (pos n)) (of_int f (pos 0)))) ≡ 2 ^ 64 - 1
unfolding ceil_f to_unsigned
ceil_by_zero f n N h = ap (λ (x : Float). to_unsigned 64 (ceil_f f x)) (div_zero f (pos n) N h)
