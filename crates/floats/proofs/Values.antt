-- Products, quotients and cuts by the fractions that the floats equal: `HasValue x s a c` says that x is a / c with the
-- sign s. A product or a quotient is one `round` of the exact fraction. Assumes nothing.
use mathlib.Core.Path.{◌≡◌, refl, sym, ap, ◌∙◌, subst}
use mathlib.Core.Bool.{Bool, true, false, not, cond}
use Prim.Native.Nat.{ℕ, zero, suc, ◌-◌, ◌*◌, ◌/◌, ◌^◌, ◌≤◌, ◌<◌, min}
use native.Mathlib.Nat.{lt_irrefl, mul-one, mul_comm, mul_assoc, mul_left_comm, mul_right_comm, mul-pos}
use native.Mathlib.Nat.{mul-mul-mul_comm, eq_of_mul-eq-mul_right}
use native.Mathlib.Omega.{arith}
use lib.Dec.{T, eqb, eqb-suc-zero, lit<, le→leb, lt→ltb}
use lib.IntN.{ℤ, pos, negsuc, neg_ℤ, nat_abs}
use lib.Ieee.{Float, nan, inf, fin, Format, binary32, binary64, prec, low, up, down, unlike, round, of_int, mul, div}
use lib.Ieee.{to_signed, to_unsigned, in_float}
use lib.Ieee.Fits.{round_is, down_pos, up_pos}
use lib.Ieee.Exact.{HasValue, units_val}
use lib.Ieee.Back.{round_whole}
use lib.Ieee.Nearest.{div_same}
use lib.Ieee.Order.{drop, kept}
use lib.Ieee.Scale.{grid, overflow, round_same}
use lib.Ieee.Bits.{cond_no}
use lib.Ieee.Positive.{first_pos}
use Rattle.floats.specs.Rounding.{with_sign}

-- ---- one rounding: `grid f a c` is a / c rounded, in units of 2 ^ -low
pub round_val : (f : Format) (s : Bool) (a c : ℕ) → grid f a c < overflow f → HasValue (round f s a c) s (grid f a c) (2 ^ low f)
round_val f s a c h =
    subst (λ (z : Float). HasValue z s (grid f a c) (2 ^ low f)) (sym (round_is f s a c))
    (units_val f s (kept (prec f) (a * 2 ^ low f) c) (drop (prec f) (a * 2 ^ low f) c) h)

pub mul_val : (f : Format) (x y : Float) (s t : Bool) (a c b d : ℕ) → 0 < c → 0 < d → HasValue x s a c → HasValue y t b d →
    mul f x y ≡ round f (unlike s t) (a * b) (c * d)
unfolding mul
mul_val f nan y s t a c b d C D h k = absurd h
mul_val f (inf u) y s t a c b d C D h k = absurd h
mul_val f (fin u m e) nan s t a c b d C D h k = absurd k
mul_val f (fin u m e) (inf v) s t a c b d C D h k = absurd k
mul_val f (fin u m e) (fin v n g) s t a c b d C D h k =
    ap (λ (z : Bool). round f (unlike z v) (m * up e * (n * up g)) (down e * down g)) h.0
    ∙ ap (λ (z : Bool). round f (unlike s z) (m * up e * (n * up g)) (down e * down g)) k.0
    ∙ round_same f (unlike s t) (m * up e * (n * up g)) (down e * down g) (a * b) (c * d) (mul-pos (down_pos e) (down_pos g))
    (mul-pos C D)
    (mul-mul-mul_comm (m * up e) (n * up g) c d ∙ ap (λ (z : ℕ). z * (n * up g * d)) h.1 ∙ ap (λ (z : ℕ). a * down e * z)
    k.1 ∙ mul-mul-mul_comm a (down e) b (down g))

not_zero : (n : ℕ) → 0 < n → T (not (eqb n 0))
not_zero zero h = absurd (lt_irrefl 0 h)
not_zero (suc n) h = subst (λ (b : Bool). T (not b)) (sym (eqb-suc-zero n)) tt

-- a float that is b / d above 0 has digits
some_digits : (n u d b g : ℕ) → n * u * d ≡ b * g → 0 < b → 0 < g → 0 < n
some_digits n u d b g e B G = first_pos n u (first_pos (n * u) d (subst (λ (z : ℕ). 0 < z) (sym e) (mul-pos B G)))

pub div_val : (f : Format) (x y : Float) (s t : Bool) (a c b d : ℕ) → 0 < c → 0 < b → HasValue x s a c → HasValue y t b d →
    div f x y ≡ round f (unlike s t) (a * d) (b * c)
unfolding div
div_val f nan y s t a c b d C B h k = absurd h
div_val f (inf u) y s t a c b d C B h k = absurd h
div_val f (fin u m e) nan s t a c b d C B h k = absurd k
div_val f (fin u m e) (inf v) s t a c b d C B h k = absurd k
div_val f (fin u m e) (fin v n g) s t a c b d C B h k =
    let N : 0 < n = some_digits n (up g) d b (down g) k.1 B (down_pos g) in
    cond_no (eqb n 0) _ _ (not_zero n N)
    ∙ ap (λ (z : Bool). round f (unlike z v) (m * up e * down g) (n * up g * down e)) h.0
    ∙ ap (λ (z : Bool). round f (unlike s z) (m * up e * down g) (n * up g * down e)) k.0
    ∙ round_same f (unlike s t) (m * up e * down g) (n * up g * down e) (a * d) (b * c)
    (mul-pos (mul-pos N (up_pos g)) (down_pos e)) (mul-pos B C)
    (cross (m * up e) (n * up g) (down e) (down g) h.1 k.1)
  where
    -- x c = a y and z d = b w give (x w) (b c) = (a d) (z y)
    cross : (x z y w : ℕ) → x * c ≡ a * y → z * d ≡ b * w → x * w * (b * c) ≡ a * d * (z * y)
    cross x z y w p q =
        let first : x * w * (b * c) ≡ x * c * (b * w) = simp (mul_assoc, mul_comm, mul_left_comm) in
        let last : a * y * (z * d) ≡ a * d * (z * y) = simp (mul_assoc, mul_comm, mul_left_comm) in
        first ∙ ap (λ (v : ℕ). v * (b * w)) p ∙ ap (λ (v : ℕ). a * y * v) (sym q) ∙ last

-- ---- two fractions of one float
pub one_size : (x : Float) (s : Bool) (a c b d : ℕ) → HasValue x s a c → HasValue x s b d → a * d ≡ b * c
one_size nan s a c b d h k = absurd h
one_size (inf t) s a c b d h k = absurd h
one_size (fin t m e) s a c b d h k =
    eq_of_mul-eq-mul_right (down e) (down_pos e) (a * d) (b * c)
    (mul_right_comm a d (down e) ∙ ap (λ (z : ℕ). z * d) (sym h.1) ∙ mul_right_comm (m * up e) c d ∙ ap (λ (z : ℕ). z * c)
    k.1 ∙ mul_right_comm b (down e) c)

-- ---- the casts cut
abbrev pub cut_signed : ℕ → Bool → ℕ → ℤ
cut_signed h s q = cond s (neg_ℤ (pos (min q (2 ^ h)))) (pos (min q (2 ^ h - 1)))

pub signed_val : (h : ℕ) (x : Float) (s : Bool) (a c : ℕ) → 0 < c → HasValue x s a c → to_signed h x ≡ cut_signed h s (a / c)
unfolding to_signed
signed_val h nan s a c C v = absurd v
signed_val h (inf u) s a c C v = absurd v
signed_val h (fin u m e) s a c C v = ap (λ (z : Bool). cut_signed h z (m * up e / down e)) v.0 ∙ ap (cut_signed h s)
    (div_same (m * up e) (down e) a c (down_pos e) C v.1)

pub unsigned_val : (w : ℕ) (x : Float) (s : Bool) (a c : ℕ) → 0 < c → HasValue x s a c →
    to_unsigned w x ≡ cond s 0 (min (a / c) (2 ^ w - 1))
unfolding to_unsigned
unsigned_val w nan s a c C v = absurd v
unsigned_val w (inf u) s a c C v = absurd v
unsigned_val w (fin u m e) s a c C v =
    ap (λ (z : Bool). cond z 0 (min (m * up e / down e) (2 ^ w - 1))) v.0
    ∙ ap (λ (q : ℕ). cond s 0 (min q (2 ^ w - 1))) (div_same (m * up e) (down e) a c (down_pos e) C v.1)

-- within the range nothing is brought to an end of it
pub cut_within : (h : ℕ) (s : Bool) (q : ℕ) → q < 2 ^ h → cut_signed h s q ≡ with_sign s q
cut_within h true q l = let e : min q (2 ^ h) ≡ q = omega arith in ap (λ (k : ℕ). neg_ℤ (pos k)) e
cut_within h false q l = let e : min q (2 ^ h - 1) ≡ q = omega arith in ap pos e

-- ---- whole numbers
abbrev pub below_zero : ℤ → Bool
below_zero (pos n) = false
below_zero (negsuc n) = true

pub int_is : (f : Format) (z : ℤ) → of_int f z ≡ round f (below_zero z) (nat_abs z) 1
unfolding of_int
int_is f (pos n) = refl
int_is f (negsuc n) = refl

pub int_val : (f : Format) (z : ℤ) → nat_abs z ≤ 2 ^ prec f → HasValue (of_int f z) (below_zero z) (nat_abs z) 1
int_val f z h = subst (λ (x : Float). HasValue x (below_zero z) (nat_abs z) 1) (sym (int_is f z))
    (round_whole f (below_zero z) (nat_abs z) h)

-- a cast to a float loses nothing
pub in_float_law : (f : Format) (z : ℤ) → nat_abs z ≤ 2 ^ prec f → T (in_float f z)
unfolding in_float
in_float_law f (pos n) h = le→leb n (2 ^ prec f) h
in_float_law f (negsuc n) h = lt→ltb n (2 ^ prec f) h

pub mul_ints : (f : Format) (y z : ℤ) → nat_abs y ≤ 2 ^ prec f → nat_abs z ≤ 2 ^ prec f → mul f (of_int f y) (of_int f z)
    ≡ round f (unlike (below_zero y) (below_zero z)) (nat_abs y * nat_abs z) 1
mul_ints f y z h k = mul_val f (of_int f y) (of_int f z) (below_zero y) (below_zero z) (nat_abs y) 1 (nat_abs z) 1 (lit< tt)
    (lit< tt) (int_val f y h) (int_val f z k)

pub div_by_int : (f : Format) (s : Bool) (a : ℕ) (z : ℤ) → a ≤ 2 ^ prec f → nat_abs z ≤ 2 ^ prec f → 0 < nat_abs z →
    div f (round f s a 1) (of_int f z) ≡ round f (unlike s (below_zero z)) a (nat_abs z)
div_by_int f s a z h k p =
    div_val f (round f s a 1) (of_int f z) s (below_zero z) a 1 (nat_abs z) 1 (lit< tt) p (round_whole f s a h) (int_val f z k)
    ∙ ap (λ (n : ℕ). round f (unlike s (below_zero z)) n (nat_abs z * 1)) (mul-one a)
    ∙ ap (round f (unlike s (below_zero z)) a) (mul-one (nat_abs z))

pub div_ints : (f : Format) (y z : ℤ) → nat_abs y ≤ 2 ^ prec f → nat_abs z ≤ 2 ^ prec f → 0 < nat_abs z →
    div f (of_int f y) (of_int f z) ≡ round f (unlike (below_zero y) (below_zero z)) (nat_abs y) (nat_abs z)
div_ints f y z h k p = ap (λ (x : Float). div f x (of_int f z)) (int_is f y) ∙ div_by_int f (below_zero y) (nat_abs y) z h k p

-- a quotient by +0 is an infinity
by_zero : (f : Format) (x : Float) (s : Bool) (a : ℕ) → 0 < a → HasValue x s a 1 → div f x (fin false 0 (pos 0))
    ≡ inf (unlike s false)
unfolding div
by_zero f nan s a A h = absurd h
by_zero f (inf u) s a A h = absurd h
by_zero f (fin u m e) s a A h = cond_no (eqb m 0) _ _ (not_zero m (some_digits m (up e) 1 a (down e) h.1 A (down_pos e)))
    ∙ ap (λ (z : Bool). inf (unlike z false)) h.0

zero_is : (f : Format) → of_int f (pos 0) ≡ fin false 0 (pos 0)
unfolding of_int round
zero_is binary32 = refl
zero_is binary64 = refl

pub div_zero : (f : Format) (z : ℤ) → 0 < nat_abs z → nat_abs z ≤ 2 ^ prec f → div f (of_int f z) (of_int f (pos 0))
    ≡ inf (unlike (below_zero z) false)
div_zero f z p h = ap (div f (of_int f z)) (zero_is f) ∙ by_zero f (of_int f z) (below_zero z) (nat_abs z) p (int_val f z h)

pub unlike_false : (s : Bool) → unlike s false ≡ s
unlike_false true = refl
unlike_false false = refl
