-- A rule for each number below n, from one test that the checker computes: of a table's entries, or of a formula.
-- `all test n` is the test of all of them, and `at` reads the rule of one. Assumes nothing.
use mathlib.Core.Path.{◌≡◌, sym, subst}
use mathlib.Core.Logic.{inl, inr}
use mathlib.Core.Bool.{Bool, true, false, not, ◌&&◌, ◌||◌}
use Prim.Native.Nat.{ℕ, zero, suc, ◌<◌}
use native.Mathlib.Nat.{eq-or-lt_of_le, le_of_suc-le-suc, not-suc-le-zero}
use lib.Dec.{T}
use lib.Ieee.Fits.{and_l, and_r}

unfoldable pub all : (ℕ → Bool) → ℕ → Bool
all p zero = true
all p (suc n) = p n && all p n

pub at : (p : ℕ → Bool) (n : ℕ) → T (all p n) → (k : ℕ) → k < n → T (p k)
unfolding all
at p zero t k h = absurd (not-suc-le-zero h)
at p (suc n) t k h =
    elim (eq-or-lt_of_le (le_of_suc-le-suc h)) [
      | inl e ↦ subst (λ (x : ℕ). T (p x)) (sym e) (and_l (p n) (all p n) t)
      | inr l ↦ at p n (and_r (p n) (all p n) t) k l
    ]

-- a rule that is asked only where b holds
pub meant : (b a : Bool) → b ≡ true → T (not b || a) → T a
meant true a p t = t
meant false a p t = absurd (subst (λ (x : Bool). T x) (sym p) tt)
