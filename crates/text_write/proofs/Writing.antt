-- A byte behind a text, and a number's text by its digits. Assumes nothing.
use mathlib.Core.Path.{◌≡◌, refl, sym, ◌∙◌}
use mathlib.Core.List.{List, [], ◌∷◌, ◌++◌, append_assoc, append-nil}
use Prim.Native.Nat.{ℕ, zero, suc, ◌+◌, ◌-◌, ◌/◌, ◌<◌, ◌≤◌}
use native.Mathlib.Omega.{arith}
use lib.ListN.{length-append}
use borrow.Author.Tests.{lt-ltb, le-ltb}
use Rattle.arrayvec.specs.ArrayVec.{ArrayVec}
use Rattle.text_write.specs.Texts.{Wrote, digit, fixed_text, up_to_text}

pub nothing : (k : ℕ) (x : ArrayVec ℕ) → Wrote k [] x x
nothing k x = record { behind = sym (append-nil x.items); most = omega arith }

-- the same text
pub same_text : {k : ℕ} {a b : List ℕ} {x y : ArrayVec ℕ} → a ≡ b → Wrote k a x y → Wrote k b x y
same_text e w = rw (← e) w

-- at most k bytes
pub within : {j k : ℕ} {a : List ℕ} {x y : ArrayVec ℕ} → j ≤ k → Wrote j a x y → Wrote k a x y
within l w = record { behind = w.behind; most = omega (arith, w.most) }

-- one byte
pub byte : {x y : ArrayVec ℕ} (b : ℕ) → y.items ≡ x.items ++ (b ∷ []) → Wrote 1 (b ∷ []) x y
byte {x} b e = record { behind = e; most = omega (arith, rw (← e) at (length-append x.items (b ∷ []))) }

-- a text and then a text
pub then : {i j : ℕ} {a b : List ℕ} {x y z : ArrayVec ℕ} (k : ℕ) → Wrote i a x y → Wrote j b y z → i + j ≤ k →
    Wrote k (a ++ b) x z
then {i} {j} {a} {b} {x} k v w l = record {
  behind = w.behind ∙ rw v.behind (append_assoc x.items a b);
  most = omega (arith, v.most, w.most);
}

-- ---- digits
pub fixed_none : (w n : ℕ) → w ≤ 0 → fixed_text w n ≡ []
unfolding fixed_text
fixed_none zero n e = refl
fixed_none (suc w) n e = absurd (let z : ⊥ = omega arith in z)

pub fixed_more : (w n : ℕ) → 0 < w → fixed_text w n ≡ fixed_text (w - 1) (n / 10) ++ (digit n ∷ [])
unfolding fixed_text
fixed_more zero n h = absurd (let z : ⊥ = omega arith in z)
fixed_more (suc w) n h = let e : suc w - 1 ≡ w = omega arith in rw e

pub up_to_none : (k n : ℕ) → k ≡ 0 → up_to_text k n ≡ []
unfolding up_to_text
up_to_none zero n e = refl
up_to_none (suc k) n e = absurd (let z : ⊥ = omega arith in z)

pub up_to_one : (k n : ℕ) → (k ≡ 0 → ⊥) → n < 10 → up_to_text k n ≡ digit n ∷ []
unfolding up_to_text
up_to_one zero n h l = absurd (h refl)
up_to_one (suc k) n h l = rw (lt-ltb _ _ l)

pub up_to_more : (k n : ℕ) → (k ≡ 0 → ⊥) → 10 ≤ n → up_to_text k n ≡ up_to_text (k - 1) (n / 10) ++ (digit n ∷ [])
unfolding up_to_text
up_to_more zero n h l = absurd (h refl)
up_to_more (suc k) n h l = let e : suc k - 1 ≡ k = omega arith in rw (le-ltb n 10 l, e)
