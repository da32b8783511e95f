-- Heads and tails as one number: its parts, its order, and its whole heads. Assumes nothing.
use mathlib.Core.Path.{◌≡◌, refl, sym, ◌∙◌, ap}
use mathlib.Core.Logic.{◌⊎◌, inl, inr}
use mathlib.Core.Bool.{true, false, ◌&&◌}
use Prim.Native.Nat.{ℕ, ◌+◌, ◌*◌, ◌/◌, ◌≤◌, ◌<◌}
use native.Mathlib.Nat.{zero-mul, zero-div, mul-le-mul_right, div-eq_of_lt-le}
use native.Mathlib.Omega.{arith}
use lib.IntN.{ℤ, pos, negsuc, ◌+ℤ◌, ◌-ℤ◌, ◌*ℤ◌}
use lib.Signed.{lt_z, le_z, quot_z}
use mir.Syntax.{w64}
use mir.Val.{SFits}
use Rattle.laws.specs.Numbers.{pos_part, neg_part}
use Rattle.laws.proofs.Signed.{lt_true, lt_false, le_true, le_false, add, sub, mul_up, mul_dn, quot_up, quot_dn}
use Rattle.laws.proofs.Signed.{abs, fits, same}
use Rattle.laws.proofs.Tests.{both_true, either_false, and_true}
use Rattle.values.specs.declared.Value.{Value}
use Rattle.values.specs.Values.{earlier}
use Rattle.values.specs.Differences.{Cut}
use Rattle.values.proofs.Numbers.{not_below, not_above, either_true, not_both}

-- ---- products and sums with a numeral
module _ (h t : ℤ) (k : ℕ) where
  pub joint : pos_part (h *ℤ pos k +ℤ t) + (neg_part h * k + neg_part t) ≡ pos_part h * k + pos_part t + neg_part
      (h *ℤ pos k +ℤ t)
  joint = omega (arith, add (h *ℤ pos k) t, mul_up h k, mul_dn h k)

pub one_less : (h : ℤ) → pos_part h ≤ 631152000000 → neg_part h ≤ 631152000000 → SFits w64 (h -ℤ pos 1)
one_less h a b = fits (h -ℤ pos 1) (pos_part h) (neg_part h + 1) (omega (arith, sub h (pos 1))) (omega arith) (omega arith)

-- ---- the order of two numbers: by their heads, then by their tails
-- a is before b, or, where s is 0, not after it
abbrev pub Before : Value → Value → ℕ → Type 0
Before a b s = (pos_part a.head + neg_part b.head < pos_part b.head + neg_part a.head)
    ⊎ ((pos_part a.head + neg_part b.head ≤ pos_part b.head + neg_part a.head)
    × (pos_part a.tail + neg_part b.tail + s ≤ pos_part b.tail + neg_part a.tail))

pub is_earlier : (a b : Value) → earlier a b ≡ true → Before a b 1
unfolding earlier
is_earlier a b e = elim (either_true (lt_z a.head b.head) (le_z a.head b.head && lt_z a.tail b.tail) e) [
  | inl x ↦ inl (lt_true a.head b.head x)
  | inr y ↦ (let (x, z) = both_true (le_z a.head b.head) (lt_z a.tail b.tail) y in
      inr (le_true a.head b.head x, omega (arith, lt_true a.tail b.tail z)))
]

pub not_earlier : (a b : Value) → earlier b a ≡ false → Before a b 0
unfolding earlier
not_earlier a b e =
    let (x, y) = either_false (lt_z b.head a.head) (le_z b.head a.head && lt_z b.tail a.tail) e in
    elim (not_both (le_z b.head a.head) (lt_z b.tail a.tail) y) [
      | inl w ↦ inl (le_false b.head a.head w)
      | inr w ↦ inr (lt_false b.head a.head x, omega (arith, lt_false b.tail a.tail w))
    ]

-- heads and tails as one number
abbrev pub total : ℤ → Value → ℤ
total u v = v.head *ℤ u +ℤ v.tail

-- it is that of the numbers, where tails of unequal heads are less than a head apart
pub order : (a b : Value) (k s : ℕ) → s ≤ 1 → Before a b s →
    (pos_part a.head + neg_part b.head < pos_part b.head + neg_part a.head →
    pos_part a.tail + neg_part b.tail < k + pos_part b.tail + neg_part a.tail) →
    pos_part (total (pos k) a) + neg_part (total (pos k) b) + s ≤ pos_part (total (pos k) b) + neg_part (total (pos k) a)
order a b k s l (inl x) f =
    let m : (pos_part a.head + neg_part b.head + 1) * k ≤ (pos_part b.head + neg_part a.head) * k =
    mul-le-mul_right k (omega arith) in
    omega (arith, f x, joint a.head a.tail k, joint b.head b.tail k)
order a b k s l (inr (x, y)) f =
    omega (arith, mul-le-mul_right k x, joint a.head a.tail k, joint b.head b.tail k)

-- ---- the whole heads, cut toward zero: of a number between one count of heads and the next, away from 0
up_whole : (x h : ℤ) (k : ℕ) → neg_part h ≡ 0 → pos_part h * k + neg_part x ≤ pos_part x →
    pos_part x < pos_part h * k + k + neg_part x → quot_z x (pos k) ≡ h
up_whole x h k n a b =
    let z : neg_part x ≡ 0 = not_below x (omega arith) in
    let up : pos_part x / k ≡ pos_part h = div-eq_of_lt-le k (omega arith) (omega arith) in
    let dn : neg_part x / k ≡ 0 = rw z (zero-div k) in
    same (quot_z x (pos k)) h (omega (arith, quot_up x k, quot_dn x k))

dn_whole : (x h : ℤ) (k : ℕ) → pos_part h ≡ 0 → neg_part h * k + pos_part x ≤ neg_part x →
    neg_part x < neg_part h * k + k + pos_part x → quot_z x (pos k) ≡ h
dn_whole x h k p a b =
    let z : pos_part x ≡ 0 = not_above x (omega arith) in
    let dn : neg_part x / k ≡ neg_part h = div-eq_of_lt-le k (omega arith) (omega arith) in
    let up : pos_part x / k ≡ 0 = rw z (zero-div k) in
    same (quot_z x (pos k)) h (omega (arith, quot_up x k, quot_dn x k))

-- the tails go the same way, or one of both is 0
pub kept : (h t : ℤ) → lt_z (pos 0) h && lt_z t (pos 0) ≡ false → lt_z h (pos 0) && lt_z (pos 0) t ≡ false → Cut h t h
kept (pos h) (pos t) e f k l = up_whole (pos h *ℤ pos k +ℤ pos t) (pos h) k refl (omega arith) (omega arith)
kept (pos h) (negsuc t) e f k l =
    let z = lt_false (pos 0) (pos h) (sym (and_true (lt_z (pos 0) (pos h))) ∙ e) in
    let y : h * k ≡ 0 = ap (λ (n : ℕ). n * k) (let w : h ≡ 0 = omega arith in w) ∙ zero-mul k in
    let j = joint (pos h) (negsuc t) k in
    dn_whole (pos h *ℤ pos k +ℤ negsuc t) (pos h) k (omega arith) (omega arith) (omega arith)
kept (negsuc h) (pos t) e f k l =
    let z = lt_false (pos 0) (pos t) f in
    let j = joint (negsuc h) (pos t) k in
    dn_whole (negsuc h *ℤ pos k +ℤ pos t) (negsuc h) k refl (omega arith) (omega arith)
kept (negsuc h) (negsuc t) e f k l =
    let j = joint (negsuc h) (negsuc t) k in
    dn_whole (negsuc h *ℤ pos k +ℤ negsuc t) (negsuc h) k refl (omega arith) (omega arith)

-- one head goes to the tails
pub lower : (h t : ℤ) → lt_z (pos 0) h && lt_z t (pos 0) ≡ true → Cut h t (h -ℤ pos 1)
lower h t e k l =
    let (a, b) = both_true (lt_z (pos 0) h) (lt_z t (pos 0)) e in
    let x = lt_true (pos 0) h a in
    let y = lt_true t (pos 0) b in
    let s = sub h (pos 1) in
    let n : neg_part h ≡ 0 = not_below h (omega arith) in
    let m : neg_part (h -ℤ pos 1) ≡ 0 = not_below (h -ℤ pos 1) (omega arith) in
    let z : neg_part h * k ≡ 0 = ap (λ (i : ℕ). i * k) n ∙ zero-mul k in
    let d : pos_part h * k ≡ (pos_part (h -ℤ pos 1) + 1) * k = ap (λ (i : ℕ). i * k) (omega arith) in
    let j = joint h t k in
    up_whole (h *ℤ pos k +ℤ t) (h -ℤ pos 1) k m (omega (arith, abs t)) (omega (arith, abs t))

pub higher : (h t : ℤ) → lt_z h (pos 0) && lt_z (pos 0) t ≡ true → Cut h t (h +ℤ pos 1)
higher h t e k l =
    let (a, b) = both_true (lt_z h (pos 0)) (lt_z (pos 0) t) e in
    let x = lt_true h (pos 0) a in
    let y = lt_true (pos 0) t b in
    let s = add h (pos 1) in
    let n : pos_part h ≡ 0 = not_above h (omega arith) in
    let m : pos_part (h +ℤ pos 1) ≡ 0 = not_above (h +ℤ pos 1) (omega arith) in
    let z : pos_part h * k ≡ 0 = ap (λ (i : ℕ). i * k) n ∙ zero-mul k in
    let d : neg_part h * k ≡ (neg_part (h +ℤ pos 1) + 1) * k = ap (λ (i : ℕ). i * k) (omega arith) in
    let j = joint h t k in
    dn_whole (h *ℤ pos k +ℤ t) (h +ℤ pos 1) k m (omega (arith, abs t)) (omega (arith, abs t))
