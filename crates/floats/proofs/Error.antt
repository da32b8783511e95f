-- How far one rounding moves a fraction: by half a unit of the last place, at most one part in 2 ^ prec of it.
-- In whole numbers: a / b rounds to grid / 2 ^ low, so grid * b is compared with a * 2 ^ low. Assumes nothing.
use mathlib.Core.Path.{◌≡◌, refl, sym, ap, ◌∙◌, subst}
use mathlib.Core.Logic.{◌⊎◌, inl, inr}
use mathlib.Core.Bool.{Bool, not}
use Prim.Native.Nat.{ℕ, zero, suc, ◌+◌, ◌-◌, ◌*◌, ◌/◌, ◌%◌, ◌^◌, ◌≤◌, ◌<◌, compare, Ordering}
use native.Mathlib.Nat.{le_trans, le_of_eq, lt_of_le_of_lt, mul_assoc, mul_comm, mul_left_comm, mul-le-mul_right}
use native.Mathlib.Nat.{mul-le-mul_left, le_of_mul-le-mul_right, mul-pos, zero-mul, mod-lt, div-add-mod'}
use native.Mathlib.Nat.{le-div_iff_mul-le}
use native.Mathlib.Decide.{dec_le}
use native.Mathlib.Omega.{arith}
use lib.Dec.{T, is_le, compare_is_eq, lit≤, leb→le, nleb→lt, eqb→eq}
use lib.Pow.{pow-add, pow_pos}
use lib.Ieee.{Float, Format, binary32, binary64, prec, low, size, nearest, unlike, mul, div}
use lib.Ieee.Digits.{size_reaches}
use lib.Ieee.Fits.{two, two-le_pos}
use lib.Ieee.Exact.{HasValue}
use lib.Ieee.Nearest.{closest}
use lib.Ieee.Order.{drop, kept}
use lib.Ieee.Scale.{grid, overflow, normal_of_fraction}
use Rattle.floats.proofs.Values.{round_val, mul_val, div_val}

-- ---- the multiple z * u of a unit u that is nearest to n: within half a unit of n
abbrev Half : ℕ → ℕ → ℕ → Type 0
Half n u z = (2 * (z * u) ≤ 2 * n + u) × (2 * n ≤ 2 * (z * u) + u)

at_tie : (n u q r t : ℕ) → t < 2 → q * u + r ≡ n → r * 2 ≡ u → Half n u (q + t)
at_tie n u q r zero h e p = omega arith
at_tie n u q r (suc zero) h e p = omega arith
at_tie n u q r (suc (suc t)) h e p = omega arith

by_rest : (n u q r : ℕ) (o : Ordering) → q * u + r ≡ n → r < u → (T (is_le o) → r * 2 ≤ u) → (T (not (is_le o)) → u < r * 2) →
    (T (compare_is_eq o) → r * 2 ≡ u) → Half n u (nearest q o)
by_rest n u q r Ordering.lt e l le gt eq = omega (arith, le tt)
by_rest n u q r Ordering.eq e l le gt eq = at_tie n u q r (q % 2) (omega arith) e (eq tt)
by_rest n u q r Ordering.gt e l le gt eq = omega (arith, gt tt)

closest_half : (n u : ℕ) → 0 < u → Half n u (closest n u)
closest_half n u U =
    by_rest n u (n / u) (n % u) (compare (n % u * 2) u) (div-add-mod' n u) (mod-lt n U) (leb→le (n % u * 2) u)
    (nleb→lt (n % u * 2) u) (eqb→eq (n % u * 2) u)

-- ---- so within one part in 2 * K of n, where K units are n at most
abbrev pub Near : ℕ → ℕ → ℕ → Type 0
Near P g n = (P * g ≤ P * n + n) × (P * n ≤ P * g + n)

near_of : (K n u z : ℕ) → K * u ≤ n → Half n u z → Near (2 * K) (z * u) n
near_of K n u z h t = (above (mul-le-mul_left K t.0), below (mul-le-mul_left K t.1))
  where
    above : K * (2 * (z * u)) ≤ K * (2 * n + u) → 2 * K * (z * u) ≤ 2 * K * n + n
    above a = omega arith

    below : K * (2 * n) ≤ K * (2 * (z * u) + u) → 2 * K * n ≤ 2 * K * (z * u) + n
    below a = omega arith

-- without a common factor
pub near_by : (P g n u : ℕ) → 0 < u → Near P (g * u) (n * u) → Near P g n
near_by P g n u U h = (le_of_mul-le-mul_right (above h.0) U, le_of_mul-le-mul_right (below h.1) U)
  where
    above : P * (g * u) ≤ P * (n * u) + n * u → P * g * u ≤ (P * n + n) * u
    above x = omega arith

    below : P * (n * u) ≤ P * (g * u) + n * u → P * n * u ≤ (P * g + n) * u
    below x = omega arith

leaves_room : (z p : ℕ) → 0 < p → p ≤ z → p - 1 + (z - p) < z
leaves_room z p P h = omega arith

-- in the normal range a unit, den * 2 ^ drop, is one part in 2 ^ (prec - 1) at most
unit_small : (p n den : ℕ) → 0 < p → 0 < den → p ≤ size (n / den) → 2 ^ (p - 1) * (den * 2 ^ drop p n den) ≤ n
unit_small p n den P D h =
    let k = drop p n den in
    let a : 2 ^ (p - 1) * 2 ^ k ≤ n / den =
    le_trans (le_of_eq (sym (pow-add 2 (p - 1) k)))
    (size_reaches (n / den) (p - 1 + k) (leaves_room (size (n / den)) p P h)) in
    le_trans (le_of_eq (ap (λ (x : ℕ). 2 ^ (p - 1) * x) (mul_comm den (2 ^ k)) ∙ sym (mul_assoc (2 ^ (p - 1)) (2 ^ k) den)))
    ((le-div_iff_mul-le D).0 a)

-- half of 2 ^ prec
abbrev half : Format → ℕ
half f = 2 ^ (prec f - 1)

twice_half : (f : Format) → 2 * half f ≡ 2 ^ prec f
twice_half binary32 = refl
twice_half binary64 = refl

regroup : (z p d : ℕ) → z * p * d ≡ z * (d * p)
regroup z p d = mul_assoc z p d ∙ ap (λ (x : ℕ). z * x) (mul_comm p d)

near_normal : (f : Format) (a b : ℕ) → 0 < b → prec f ≤ size (a * 2 ^ low f / b) →
    Near (2 * half f) (grid f a b * b) (a * 2 ^ low f)
near_normal f a b B h =
    let n = a * 2 ^ low f in
    let k = drop (prec f) n b in
    subst (λ (x : ℕ). Near (2 * half f) x n) (sym (regroup (kept (prec f) n b) (2 ^ k) b))
    (near_of (half f) n (b * 2 ^ k) (kept (prec f) n b) (unit_small (prec f) n b (two-le_pos (prec f) (two f)) B h)
    (closest_half n (b * 2 ^ k) (mul-pos B (pow_pos k))))

-- from 1 / 2 ^ 100 on every fraction is in the normal range of both formats
normal : (f : Format) (a b : ℕ) → 0 < b → b ≤ a * 2 ^ 100 → prec f ≤ size (a * 2 ^ low f / b)
normal f a b B h =
    normal_of_fraction f a b B
    (le_trans (mul-le-mul_left (half f) h) (le_trans (le_of_eq (mul_left_comm (half f) a (2 ^ 100)))
    (mul-le-mul_left a (room f))))
  where
    room : (f : Format) → half f * 2 ^ 100 ≤ 2 ^ low f
    room binary32 = lit≤ tt
    room binary64 = lit≤ tt

-- ---- 0 stays
none : (z u : ℕ) → 0 < u → 2 * (z * u) ≤ 2 * 0 + u → z ≡ 0
none zero u U h = refl
none (suc z) u U h = omega arith

pub round_zero : (f : Format) (b : ℕ) → 0 < b → grid f 0 b ≡ 0
round_zero f b B =
    let k = drop (prec f) 0 b in
    ap (λ (n : ℕ). kept (prec f) n b * 2 ^ drop (prec f) n b) (zero-mul (2 ^ low f))
    ∙ ap (λ (z : ℕ). z * 2 ^ k) (none (closest 0 (b * 2 ^ k)) (b * 2 ^ k) (mul-pos B (pow_pos k))
    (closest_half 0 (b * 2 ^ k) (mul-pos B (pow_pos k))).0)
    ∙ zero-mul (2 ^ k)

-- ---- THE LAW: a fraction that is 0, or 1 / 2 ^ 100 at least, is moved by one part in 2 ^ prec at most
abbrev pub Large : ℕ → ℕ → Type 0
Large a b = (b ≤ a * 2 ^ 100) ⊎ (a ≡ 0)

pub round_near : (f : Format) (a b : ℕ) → 0 < b → Large a b → Near (2 ^ prec f) (grid f a b * b) (a * 2 ^ low f)
round_near f a b B (inl h) = subst (λ (P : ℕ). Near P (grid f a b * b) (a * 2 ^ low f)) (twice_half f)
    (near_normal f a b B (normal f a b B h))
round_near f a b B (inr e) =
    subst (λ (x : ℕ). Near (2 ^ prec f) (grid f x b * b) (x * 2 ^ low f)) (sym e)
    (subst (λ (g : ℕ). Near (2 ^ prec f) (g * b) (0 * 2 ^ low f)) (sym (round_zero f b B)) (go (2 ^ prec f) (2 ^ low f)))
  where
    go : (P l : ℕ) → Near P (0 * b) (0 * l)
    go P l = omega arith

-- and any fraction by that and a unit: 2 ^ -low, which is b here
abbrev pub Close : ℕ → ℕ → ℕ → ℕ → Type 0
Close P b g n = (P * g ≤ P * n + n + P * b) × (P * n ≤ P * g + n + P * b)

pub round_close : (f : Format) (a b : ℕ) → 0 < b → Close (2 ^ prec f) b (grid f a b * b) (a * 2 ^ low f)
round_close f a b B =
    elim (dec_le (prec f) (size (a * 2 ^ low f / b))) [
      | yes h ↦ subst (λ (P : ℕ). Close P b (grid f a b * b) (a * 2 ^ low f)) (twice_half f)
          (weaker (2 * half f) (grid f a b * b) (a * 2 ^ low f) (near_normal f a b B h))
      | no h ↦ by_unit (2 ^ prec f) (kept (prec f) (a * 2 ^ low f) b) (a * 2 ^ low f) (drop (prec f) (a * 2 ^ low f) b)
          (none_dropped (size (a * 2 ^ low f / b)) (prec f) h)
          (closest_half (a * 2 ^ low f) (b * 2 ^ drop (prec f) (a * 2 ^ low f) b) (mul-pos B (pow_pos _)))
    ]
  where
    weaker : (P g n : ℕ) → Near P g n → Close P b g n
    weaker P g n h = omega arith

    none_dropped : (z p : ℕ) → ¬ (p ≤ z) → z - p ≡ 0
    none_dropped z p h = omega arith

    by_unit : (P z n k : ℕ) → k ≡ 0 → Half n (b * 2 ^ k) z → Close P b (z * 2 ^ k * b) n
    by_unit P z n k e h = subst (λ (x : ℕ). Half n (b * 2 ^ x) z → Close P b (z * 2 ^ x * b) n) (sym e) whole h
      where
        whole : Half n (b * 2 ^ 0) z → Close P b (z * 2 ^ 0 * b) n
        whole x = (above (mul-le-mul_left P x.0), below (mul-le-mul_left P x.1))
          where
            above : P * (2 * (z * (b * 1))) ≤ P * (2 * n + b * 1) → P * (z * 1 * b) ≤ P * n + n + P * b
            above y = omega arith

            below : P * (2 * n) ≤ P * (2 * (z * (b * 1)) + b * 1) → P * n ≤ P * (z * 1 * b) + n + P * b
            below y = omega arith

-- what is near n is at most twice n
pub near_twice : (P g n : ℕ) → 0 < P → P * g ≤ P * n + n → g ≤ 2 * n
near_twice P g n p h = le_of_mul-le-mul_right (go (mul-le-mul_left n p)) p
  where
    go : n * 1 ≤ n * P → g * P ≤ 2 * n * P
    go x = omega arith

-- a fraction that is at most B rounds to a finite value, B far below overflow
pub round_under : (f : Format) (a b B : ℕ) → 0 < b → a ≤ B * b → B * 2 ^ (1 + low f) < overflow f →
    Near (2 ^ prec f) (grid f a b * b) (a * 2 ^ low f) → grid f a b < overflow f
round_under f a b B Bp h l n =
    lt_of_le_of_lt
    (le_of_mul-le-mul_right
    (le_trans (near_twice (2 ^ prec f) (grid f a b * b) (a * 2 ^ low f) (pow_pos (prec f)) n.0)
    (le_trans (mul-le-mul_left 2 (mul-le-mul_right (2 ^ low f) h))
    (le_of_eq (order (2 ^ low f) ∙ ap (λ (x : ℕ). B * x * b) (sym (pow-add 2 1 (low f)))))))
    Bp)
    l
  where
    order : (l : ℕ) → 2 * (B * b * l) ≡ B * (2 * l) * b
    order l = omega arith

-- ---- a product and a quotient: what each is in units of 2 ^ -low, within one part in 2 ^ prec of the exact one
module _ (f : Format) (x y : Float) (s t : Bool) (a c b d : ℕ) (X : HasValue x s a c) (Y : HasValue y t b d) (C : 0 < c) where
  pub product_near : 0 < d → Large (a * b) (c * d) → grid f (a * b) (c * d) < overflow f
      → HasValue (mul f x y) (unlike s t) (grid f (a * b) (c * d)) (2 ^ low f) × Near (2 ^ prec f)
      (grid f (a * b) (c * d) * (c * d)) (a * b * 2 ^ low f)
  product_near D h l = (
    subst (λ (z : Float). HasValue z (unlike s t) (grid f (a * b) (c * d)) (2 ^ low f))
        (sym (mul_val f x y s t a c b d C D X Y)) (round_val f (unlike s t) (a * b) (c * d) l),
    round_near f (a * b) (c * d) (mul-pos C D) h,
  )

  pub quotient_near : 0 < b → Large (a * d) (b * c) → grid f (a * d) (b * c) < overflow f
      → HasValue (div f x y) (unlike s t) (grid f (a * d) (b * c)) (2 ^ low f) × Near (2 ^ prec f)
      (grid f (a * d) (b * c) * (b * c)) (a * d * 2 ^ low f)
  quotient_near B h l = (
    subst (λ (z : Float). HasValue z (unlike s t) (grid f (a * d) (b * c)) (2 ^ low f))
        (sym (div_val f x y s t a c b d C B X Y)) (round_val f (unlike s t) (a * d) (b * c) l),
    round_near f (a * d) (b * c) (mul-pos B C) h,
  )
