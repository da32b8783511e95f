-- Tests of signed numbers, from and to facts that `omega` reads. Assumes nothing.
use mathlib.Core.Path.{◌≡◌, refl, sym}
use mathlib.Core.Logic.{◌⊎◌, inl, inr}
use mathlib.Core.Bool.{Bool, true, false, ◌&&◌, ◌||◌}
use Prim.Native.Nat.{ℕ, zero, suc, ◌+◌, ◌≤◌, ◌<◌}
use native.Mathlib.Omega.{arith}
use lib.IntN.{ℤ, pos, negsuc}
use lib.Signed.{le_z}
use borrow.Author.Tests.{le-leb, lt-leb}
use Rattle.laws.specs.Numbers.{within, pos_part, neg_part}
use Rattle.laws.proofs.Signed.{le_true}
use Rattle.laws.proofs.Tests.{both_true}

-- a test's value from the numbers
pub is_le : (a b : ℤ) → pos_part a + neg_part b ≤ pos_part b + neg_part a → le_z a b ≡ true
is_le (pos a) (pos b) h = le-leb a b (omega arith)
is_le (pos a) (negsuc b) h = absurd (let z : ⊥ = omega arith in z)
is_le (negsuc a) (pos b) h = refl
is_le (negsuc a) (negsuc b) h = le-leb b a (omega arith)

pub is_gt : (a b : ℤ) → pos_part b + neg_part a < pos_part a + neg_part b → le_z a b ≡ false
is_gt (pos a) (pos b) h = lt-leb a b (omega arith)
is_gt (pos a) (negsuc b) h = refl
is_gt (negsuc a) (pos b) h = absurd (let z : ⊥ = omega arith in z)
is_gt (negsuc a) (negsuc b) h = lt-leb b a (omega arith)

pub within_true : (l x h : ℤ) → within l x h ≡ true → (pos_part l + neg_part x ≤ pos_part x + neg_part l)
    × (pos_part x + neg_part h ≤ pos_part h + neg_part x)
within_true l x h e = let (p, q) = both_true (le_z l x) (le_z x h) e in (le_true l x p, le_true x h q)

pub is_within : (l x h : ℤ) → pos_part l + neg_part x ≤ pos_part x + neg_part l →
    pos_part x + neg_part h ≤ pos_part h + neg_part x → within l x h ≡ true
is_within l x h a b = rw (is_le l x a, is_le x h b)

pub not_below : (z : ℤ) → neg_part z ≤ pos_part z → neg_part z ≡ 0
not_below (pos n) h = refl
not_below (negsuc n) h = absurd (let w : ⊥ = omega arith in w)

pub not_above : (z : ℤ) → pos_part z ≤ neg_part z → pos_part z ≡ 0
not_above (pos zero) h = refl
not_above (pos (suc n)) h = absurd (let w : ⊥ = omega arith in w)
not_above (negsuc n) h = refl

-- a range of the whole number is one of each part
pub bounded : (z : ℤ) (l m : ℕ) → neg_part z ≤ l + pos_part z → pos_part z ≤ m + neg_part z → (neg_part z ≤ l) × (pos_part z ≤ m)
bounded (pos n) l m a b = (omega arith, omega arith)
bounded (negsuc n) l m a b = (omega arith, omega arith)

pub either_true : (a b : Bool) → a || b ≡ true → (a ≡ true) ⊎ (b ≡ true)
either_true true b e = inl refl
either_true false b e = inr e

pub not_both : (a b : Bool) → a && b ≡ false → (a ≡ false) ⊎ (b ≡ false)
not_both true b e = inr e
not_both false b e = inl refl

-- tests that hold together and fail together
pub agree : (a b : Bool) → (a ≡ true → b ≡ true) → (a ≡ false → b ≡ false) → a ≡ b
agree true b f g = sym (f refl)
agree false b f g = sym (g refl)

pub or_true : (b : Bool) → b || true ≡ true
or_true true = refl
or_true false = refl

pub or_false : (b : Bool) → b || false ≡ b
or_false true = refl
or_false false = refl
