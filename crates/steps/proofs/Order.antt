-- The order of ticks, and that the ticks of a progression grow with its numbers. Assumes nothing.
use mathlib.Core.Path.{◌≡◌, ap, ◌∙◌, subst}
use mathlib.Core.Logic.{◌⊎◌, inl, inr}
use Prim.Native.Nat.{ℕ, ◌+◌, ◌*◌, ◌/◌, ◌%◌, ◌≤◌, ◌<◌}
use native.Mathlib.Nat.{eq-or-lt_of_le, div-add-mod', div-mul-le_self, le-div_iff_mul-le}
use native.Mathlib.Decide.{dec_le}
use native.Mathlib.Omega.{arith}
use lib.IntN.{ℤ, pos, ◌+ℤ◌}
use lib.Signed.{◌<ℤ◌, lt_z, lt_z_yes}
use Rattle.laws.specs.Numbers.{pos_part, neg_part}
use Rattle.laws.specs.Units.{per_second}
use Rattle.laws.proofs.Signed.{add, is_lt, lt_true}
use Rattle.laws.proofs.Tests.{holds, is_true}
use Rattle.steps.specs.declared.Heads.{Heads}
use Rattle.steps.specs.declared.Numbering.{Numbering}
use Rattle.steps.specs.declared.Numbering.TheVariants as numbering
use Rattle.steps.specs.declared.Steps.{Steps}
use Rattle.values.specs.declared.Value.{Value}
use Rattle.steps.specs.Progression.{even_tick, tick_by, tick_of_number}
use Rattle.steps.specs.Promise.{Later, by_head, by_tail, whole_second}
use Rattle.steps.proofs.Months.{first_days}

-- ---- a smaller number, for `omega`
pub smaller : (a b : ℤ) → pos_part a + neg_part b < pos_part b + neg_part a → a <ℤ b
smaller a b h = lt_z_yes (is_true (lt_z a b) (is_lt a b h))

pub is_smaller : {a b : ℤ} → a <ℤ b → pos_part a + neg_part b < pos_part b + neg_part a
is_smaller {a} {b} h = lt_true a b (holds (lt_z a b) h.lt)

-- what is not smaller is at least as large
pub at_least : (x y : ℤ) → (x <ℤ y → ⊥) → pos_part y + neg_part x ≤ pos_part x + neg_part y
at_least x y n =
    elim (dec_le (pos_part y + neg_part x) (pos_part x + neg_part y)) [
      | yes l ↦ l
      | no l ↦ absurd (n (smaller x y (omega arith)))
    ]

-- ---- the order
-- of two ticks at most one is the later
asym : {a b : Value} → Later a b → Later b a → ⊥
asym (by_head p) (by_head q) = omega (arith, is_smaller p, is_smaller q)
asym (by_head p) (by_tail q r) = omega (arith, is_smaller p, ap pos_part q, ap neg_part q)
asym (by_tail p q) (by_head r) = omega (arith, is_smaller r, ap pos_part p, ap neg_part p)
asym (by_tail p q) (by_tail r t) = omega (arith, is_smaller q, is_smaller t)

-- and none is later than itself
pub irrefl : {a : Value} → Later a a → ⊥
irrefl l = asym l l

-- what is later than a later tick is later
pub trans : {a b c : Value} → Later a b → Later b c → Later a c
trans {a} {b} {c} (by_head p) (by_head q) = by_head (smaller a.head c.head (omega (arith, is_smaller p, is_smaller q)))
trans {a} {b} {c} (by_head p) (by_tail q r) =
    by_head (smaller a.head c.head (omega (arith, is_smaller p, ap pos_part q, ap neg_part q)))
trans {a} {b} {c} (by_tail p q) (by_head r) =
    by_head (smaller a.head c.head (omega (arith, is_smaller r, ap pos_part p, ap neg_part p)))
trans {a} {b} {c} (by_tail p q) (by_tail r t) =
    by_tail (p ∙ r) (smaller a.tail c.tail (omega (arith, is_smaller q, is_smaller t)))

-- ---- the whole second in which a span starts
-- what is not before the start is not before it
pub not_before_second : (t start : Value) → neg_part start.tail ≡ 0 → (Later t start → ⊥) → Later t (whole_second start) → ⊥
not_before_second t start z n (by_head p) = n (by_head p)
not_before_second t start z n (by_tail p q) =
    n (by_tail p (smaller t.tail start.tail
    (omega (arith, is_smaller q, div-mul-le_self (pos_part start.tail) per_second))))

-- ---- progressions
parts : (x y per : ℕ) → 0 < per → x < y → (x / per < y / per) ⊎ ((x / per ≡ y / per) × (x % per < y % per))
parts x y per p h =
    let a : x / per * per ≤ y = omega (arith, div-mul-le_self x per) in
    let b : x / per ≤ y / per = (le-div_iff_mul-le p).1 a in
    elim (eq-or-lt_of_le b) [
      | inl e ↦ inr (e, omega (arith, div-add-mod' x per, div-add-mod' y per, ap (λ (q : ℕ). q * per) e))
      | inr q ↦ inl q
    ]

even_later : (n : Heads) (x y : ℕ) → 0 < n.per → x < y → Later (even_tick n x) (even_tick n y)
even_later n x y p h =
    elim (parts x y n.per p h) [
      | inl q ↦ by_head (smaller _ _ (omega (arith, add n.base (pos (x / n.per)), add n.base (pos (y / n.per)))))
      | inr q ↦ by_tail (ap (λ (m : ℕ). n.base +ℤ pos m) q.0) (smaller _ _ (omega (arith, q.1)))
    ]

-- how many numbers make a head
abbrev pub per_of : Numbering → ℕ
per_of numbering.Months = 1
per_of (numbering.Even h) = h.per

-- a larger number is a later tick
pub later : (s : Steps) (x y : ℕ) → 0 < per_of s.numbering → x < y → Later (tick_of_number s x) (tick_of_number s y)
later s x y p h = go s.numbering p
  where
    go : (n : Numbering) → 0 < per_of n → Later (tick_by n x) (tick_by n y)
    go numbering.Months q = by_head (smaller _ _ (omega (arith, first_days x y h)))
    go (numbering.Even n) q = even_later n x y q h

-- and one that is no smaller is no earlier
pub not_earlier : (s : Steps) (x y : ℕ) → 0 < per_of s.numbering → x ≤ y → Later (tick_of_number s y) (tick_of_number s x) → ⊥
not_earlier s x y p h l =
    elim (eq-or-lt_of_le h) [
      | inl e ↦ irrefl (subst (λ (z : ℕ). Later (tick_of_number s y) (tick_of_number s z)) e l)
      | inr q ↦ asym l (later s x y p q)
    ]
