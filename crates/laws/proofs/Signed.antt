-- Signed numbers for `omega`: a ℤ z is `pos_part z - neg_part z`, two naturals of which one is 0. Each law says one
-- operation or test in sums of these, which `omega` reads: hand it the law at its arguments. Assumes nothing.
use mathlib.Core.Path.{◌≡◌, refl, sym, ◌∙◌, ap}
use mathlib.Core.Bool.{Bool, true, false, cond}
use mathlib.Core.Logic.{◌⊎◌, inl, inr}
use Prim.Native.Nat.{ℕ, zero, suc, ◌+◌, ◌*◌, ◌-◌, ◌/◌, ◌^◌, ◌<◌, ◌≤◌}
use native.Mathlib.Nat.{zero-mul, zero-div, div-le_self}
use native.Mathlib.Omega.{arith}
use lib.Dec.{ltb}
use lib.IntN.{ℤ, pos, negsuc, neg_ℤ, nat_abs, ◌+ℤ◌, ◌-ℤ◌, ◌*ℤ◌}
use lib.Signed.{mag, mag_rem, lt_z, le_z, quot_z, rem_z}
use mir.Syntax.{w64}
use mir.Val.{SFits, of_z, to_z}
use mir.Facts.{to_z-of_z}
use mir.ValLaws.{sfits_le, to_z_pos}
use Rattle.laws.specs.Numbers.{minus, equal, as_u64, pos_part, neg_part}
use borrow.Author.Tests.{ltb-true, ltb-false, leb-true, leb-false, lt-ltb, le-ltb, le-leb}
use Rattle.laws.proofs.Tests.{both_true}

-- ---- tests
pub lt_true : (a b : ℤ) → lt_z a b ≡ true → pos_part a + neg_part b < pos_part b + neg_part a
lt_true (pos a) (pos b) e = omega (arith, ltb-true a b e)
lt_true (pos a) (negsuc b) e = let z : ◌≡◌ {A = ℕ} 0 1 = cc in omega arith
lt_true (negsuc a) (pos b) e = omega arith
lt_true (negsuc a) (negsuc b) e = omega (arith, ltb-true b a e)

pub lt_false : (a b : ℤ) → lt_z a b ≡ false → pos_part b + neg_part a ≤ pos_part a + neg_part b
lt_false (pos a) (pos b) e = omega (arith, ltb-false a b e)
lt_false (pos a) (negsuc b) e = omega arith
lt_false (negsuc a) (pos b) e = let z : ◌≡◌ {A = ℕ} 0 1 = cc in omega arith
lt_false (negsuc a) (negsuc b) e = omega (arith, ltb-false b a e)

pub le_true : (a b : ℤ) → le_z a b ≡ true → pos_part a + neg_part b ≤ pos_part b + neg_part a
le_true (pos a) (pos b) e = omega (arith, leb-true a b e)
le_true (pos a) (negsuc b) e = let z : ◌≡◌ {A = ℕ} 0 1 = cc in omega arith
le_true (negsuc a) (pos b) e = omega arith
le_true (negsuc a) (negsuc b) e = omega (arith, leb-true b a e)

pub le_false : (a b : ℤ) → le_z a b ≡ false → pos_part b + neg_part a < pos_part a + neg_part b
le_false (pos a) (pos b) e = omega (arith, leb-false a b e)
le_false (pos a) (negsuc b) e = omega arith
le_false (negsuc a) (pos b) e = let z : ◌≡◌ {A = ℕ} 0 1 = cc in omega arith
le_false (negsuc a) (negsuc b) e = omega (arith, leb-false b a e)

-- the other way: a test's value from the numbers
pub is_lt : (a b : ℤ) → pos_part a + neg_part b < pos_part b + neg_part a → lt_z a b ≡ true
is_lt (pos a) (pos b) h = lt-ltb a b (omega arith)
is_lt (pos a) (negsuc b) h = absurd (let z : ⊥ = omega arith in z)
is_lt (negsuc a) (pos b) h = refl
is_lt (negsuc a) (negsuc b) h = lt-ltb b a (omega arith)

pub is_ge : (a b : ℤ) → pos_part b + neg_part a ≤ pos_part a + neg_part b → lt_z a b ≡ false
is_ge (pos a) (pos b) h = le-ltb a b (omega arith)
is_ge (pos a) (negsuc b) h = refl
is_ge (negsuc a) (pos b) h = absurd (let z : ⊥ = omega arith in z)
is_ge (negsuc a) (negsuc b) h = le-ltb b a (omega arith)

-- ---- operations
sub_nat : (a b : ℕ) (t : Bool) → ltb a b ≡ t →
    (pos_part (cond t (negsuc (b - suc a)) (pos (a - b))) + b ≡ a + neg_part (cond t (negsuc (b - suc a)) (pos (a - b))))
sub_nat a b true e = omega (arith, ltb-true a b e)
sub_nat a b false e = omega (arith, ltb-false a b e)

pub add : (a b : ℤ) → pos_part (a +ℤ b) + (neg_part a + neg_part b) ≡ (pos_part a + pos_part b) + neg_part (a +ℤ b)
add (pos a) (pos b) = omega arith
add (pos a) (negsuc b) = omega (arith, sub_nat a (suc b) (ltb a (suc b)) refl)
add (negsuc a) (pos b) = omega (arith, sub_nat b (suc a) (ltb b (suc a)) refl)
add (negsuc a) (negsuc b) = omega arith

pub neg_up : (a : ℤ) → pos_part (neg_ℤ a) ≡ neg_part a
neg_up (pos zero) = refl
neg_up (pos (suc n)) = refl
neg_up (negsuc n) = refl

pub neg_dn : (a : ℤ) → neg_part (neg_ℤ a) ≡ pos_part a
neg_dn (pos zero) = refl
neg_dn (pos (suc n)) = refl
neg_dn (negsuc n) = refl

pub sub : (a b : ℤ) → pos_part (a -ℤ b) + (neg_part a + pos_part b) ≡ (pos_part a + neg_part b) + neg_part (a -ℤ b)
sub a b = omega (arith, add a (neg_ℤ b), neg_up b, neg_dn b)

pub mul_up : (a : ℤ) (k : ℕ) → pos_part (a *ℤ pos k) ≡ pos_part a * k
mul_up (pos a) k = refl
mul_up (negsuc a) k = neg_up (pos (suc a * k)) ∙ sym (zero-mul k)

pub mul_dn : (a : ℤ) (k : ℕ) → neg_part (a *ℤ pos k) ≡ neg_part a * k
mul_dn (pos a) k = sym (zero-mul k)
mul_dn (negsuc a) k = neg_dn (pos (suc a * k))

-- of two signed numbers
pub mul : (a b : ℤ) → pos_part (a *ℤ b) + (pos_part a * neg_part b + neg_part a * pos_part b)
    ≡ pos_part a * pos_part b + neg_part a * neg_part b + neg_part (a *ℤ b)
mul a (pos b) = omega (arith, mul_up a b, mul_dn a b)
mul (pos a) (negsuc b) = omega (arith, neg_up (pos (a * suc b)), neg_dn (pos (a * suc b)))
mul (negsuc a) (negsuc b) = omega arith

-- division by a positive number goes toward zero, and the remainder has the dividend's sign: each side by itself
pub quot_up : (a : ℤ) (k : ℕ) → pos_part (quot_z a (pos k)) ≡ pos_part a / k
quot_up (pos a) k = refl
quot_up (negsuc a) k = neg_up (pos (suc a / k)) ∙ sym (zero-div k)

pub quot_dn : (a : ℤ) (k : ℕ) → neg_part (quot_z a (pos k)) ≡ neg_part a / k
quot_dn (pos a) k = sym (zero-div k)
quot_dn (negsuc a) k = neg_dn (pos (suc a / k))

-- ---- ranges, and equality
pub as_u64_law : (z : ℤ) → neg_part z ≡ 0 → as_u64 z ≡ pos_part z
as_u64_law (pos n) e = refl
as_u64_law (negsuc n) e = absurd (let w : ⊥ = omega arith in w)

pub one_is_zero : (z : ℤ) → (pos_part z ≡ 0) ⊎ (neg_part z ≡ 0)
one_is_zero (pos n) = inr refl
one_is_zero (negsuc n) = inl refl

-- how far from 0
pub abs : (z : ℤ) → nat_abs z ≡ pos_part z + neg_part z
abs (pos n) = omega arith
abs (negsuc n) = omega arith

pub up_fits : (z : ℤ) → SFits w64 z → pos_part z < 2 ^ 63
up_fits (pos n) f = f.sfits
up_fits (negsuc n) f = omega arith

pub dn_fits : (z : ℤ) → SFits w64 z → neg_part z ≤ 2 ^ 63
dn_fits (pos n) f = omega arith
dn_fits (negsuc n) f = omega (arith, f.sfits)

mag_by : (z : ℤ) → pos_part z < 2 ^ 63 → neg_part z ≤ 2 ^ 63 → mag z < 2 ^ 63
mag_by (pos n) h k = h
mag_by (negsuc n) h k = omega arith

-- z is p - n, and that lies in the range of an i64
pub fits : (z : ℤ) (p n : ℕ) → pos_part z + n ≡ p + neg_part z → p < 2 ^ 63 + n → n ≤ 2 ^ 63 + p → SFits w64 z
fits (pos k) p n e h l = record { sfits = mag_by (pos k) (omega arith) (omega arith) }
fits (negsuc k) p n e h l = record { sfits = mag_by (negsuc k) (omega arith) (omega arith) }

pub same : (a b : ℤ) → pos_part a + neg_part b ≡ pos_part b + neg_part a → a ≡ b
same (pos a) (pos b) e = ap pos (omega arith)
same (pos a) (negsuc b) e = absurd (let z : ⊥ = omega arith in z)
same (negsuc a) (pos b) e = absurd (let z : ⊥ = omega arith in z)
same (negsuc a) (negsuc b) e = ap negsuc (omega arith)

-- a number that is not below 0, and one that is not above it
-- the test of it
pub equal_true : (a b : ℤ) → equal a b ≡ true → a ≡ b
equal_true a b e = let (l, m) = both_true (le_z b a) (le_z a b) e in same a b (omega (arith, le_true b a l, le_true a b m))

pub true_equal : (a b : ℤ) → a ≡ b → equal a b ≡ true
true_equal a b e = rw e (rw (itself b) refl)
  where
    itself : (z : ℤ) → le_z z z ≡ true
    itself (pos n) = le-leb n n (omega arith)
    itself (negsuc n) = le-leb n n (omega arith)

pub pos_up : (z : ℤ) → neg_part z ≡ 0 → pos (pos_part z) ≡ z
pos_up z e = same (pos (pos_part z)) z (omega arith)

pub minus_dn : (z : ℤ) → pos_part z ≡ 0 → minus (neg_part z) ≡ z
minus_dn z e = same (minus (neg_part z)) z (omega (arith, neg_up (pos (neg_part z)), neg_dn (pos (neg_part z))))

-- n below 0, also as code takes it from 0
module _ (n : ℕ) where
  pub minus_parts : (pos_part (minus n) ≡ 0) × (neg_part (minus n) ≡ n)
  minus_parts = (neg_up (pos n), neg_dn (pos n))

  pub from_zero : pos 0 -ℤ pos n ≡ minus n
  from_zero = same (pos 0 -ℤ pos n) (minus n) (omega (arith, sub (pos 0) (pos n), minus_parts))

  pub neg_fits : n < 2 ^ 63 → SFits w64 (pos 0 -ℤ pos n)
  neg_fits h = fits (pos 0 -ℤ pos n) 0 n (omega (arith, sub (pos 0) (pos n))) (omega arith) (omega arith)

-- ---- what division and casts ask
-- a quotient by a positive number lies in the range, and so does a remainder
pub quot_fits : (x d : ℤ) → SFits w64 x → lt_z d (pos 1) ≡ false → SFits w64 (quot_z x d)
quot_fits x (pos k) f e =
    fits (quot_z x (pos k)) (pos_part x / k) (neg_part x / k) (ap (λ (n : ℕ). n + neg_part x / k) (quot_up x k)
    ∙ ap (λ (n : ℕ). pos_part x / k + n)
    (sym (quot_dn x k)))
    (omega (arith, up_fits x f, div-le_self (pos_part x) k)) (omega (arith, dn_fits x f, div-le_self (neg_part x) k))
quot_fits x (negsuc k) f e = let z : ◌≡◌ {A = ℕ} 0 1 = cc in absurd (let w : ⊥ = omega arith in w)

pub rem_fits : (x d : ℤ) → SFits w64 x → SFits w64 (rem_z x d)
rem_fits x d f = sfits_le (mag_rem x d) f

-- a count below 2^63 is a signed number, and its bits are read back as that count
pub count_fits : (n : ℕ) → n < 2 ^ 63 → SFits w64 (pos n)
count_fits n h = record { sfits = h }

pub read_count : (n : ℕ) → n < 2 ^ 63 → to_z w64 n ≡ pos n
read_count n h = to_z_pos w64 n h

-- A signed local is read back from its bits: the same number. By their bare names in `omega`'s list these serve every
-- local whose `SFits` is in reach
pub read_up : {z : ℤ} → SFits w64 z → pos_part (to_z w64 (of_z w64 z)) ≡ pos_part z
read_up f = ap pos_part (to_z-of_z f)

pub read_dn : {z : ℤ} → SFits w64 z → neg_part (to_z w64 (of_z w64 z)) ≡ neg_part z
read_dn f = ap neg_part (to_z-of_z f)

-- a difference of two numbers, as the code reads it back
pub read_sub : (x y : ℤ) → SFits w64 x → SFits w64 y → SFits w64 (x -ℤ y) →
    to_z w64 (of_z w64 (to_z w64 (of_z w64 x) -ℤ to_z w64 (of_z w64 y))) ≡ x -ℤ y
read_sub x y f g h = rw (to_z-of_z f, to_z-of_z g) (to_z-of_z h)

pub ruleset signed = (lt_true, lt_false, le_true, le_false, read_up, read_dn, arith)
