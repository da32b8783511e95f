-- What a loop that fills a Vec leaves, as the values of its places. Assumes nothing.
use mathlib.Core.Path.{◌≡◌, refl}
use mathlib.Core.Bool.{Bool, true, false}
use mathlib.Core.List.{[], ◌∷◌, ◌++◌, append-nil}
use lib.Seq.{append_snoc}
use Prim.Native.Nat.{ℕ, zero, suc, ◌+◌, ◌<◌}
use native.Mathlib.Omega.{arith}
use Rattle.values.specs.declared.Value.{Value}
use Rattle.steps.specs.Progression.{values_of}
use Rattle.keypoints.specs.Loops.{for_to, while}

pub values_same : (f g : ℕ → Value) (n : ℕ) → ((i : ℕ) → i < n → f i ≡ g i) → values_of f n ≡ values_of g n
values_same f g zero e = refl
values_same f g (suc n) e = rw (values_same f g n (λ i h. e i (omega arith)), e n (omega arith))

-- ---- `for`
pub for_is : (last : ℕ) (at : ℕ → Value) → for_to last at ≡ values_of at (suc last)
for_is zero at = refl
for_is (suc last) at = rw (for_is last at)

-- ---- `while`, whose i-th state is `state i`, and which ends by its test
module _ {S : Type 0} (test : S → Bool) (at : S → Value) (next : S → S) (state : ℕ → S) (f : ℕ → Value) (count : ℕ)
    (goes : (i : ℕ) → i < count → test (state i) ≡ true)
    (ends : test (state count) ≡ false)
    (tick : (i : ℕ) → i < count → at (state i) ≡ f i)
    (step : (i : ℕ) → i < count → next (state i) ≡ state (suc i)) where
  more : (turns i : ℕ) → i < count → while (suc turns) test at next (state i) ≡ f i ∷ while turns test at next (state (suc i))
  unfolding while
  more turns i h = rw (goes i h, tick i h, step i h)

  none : (turns : ℕ) → while turns test at next (state count) ≡ []
  unfolding while
  none zero = refl
  none (suc turns) = rw ends

  from : (left i turns : ℕ) → i + left ≡ count → left < turns →
      values_of f i ++ while turns test at next (state i) ≡ values_of f count
  from zero i turns e h = let q : i ≡ count = omega arith in rw (q, none turns) (append-nil (values_of f count))
  from (suc left) i zero e h = absurd (let z : ⊥ = omega arith in z)
  from (suc left) i (suc turns) e h =
      let b : i < count = omega arith in
      let rest = while turns test at next (state (suc i)) in
      rw (more turns i b, ← append_snoc (values_of f i) (f i) rest)
      (from left (suc i) turns (omega arith) (omega arith))

  -- any number of turns above the count gives the same list
  pub while_is : (turns : ℕ) → count < turns → while turns test at next (state 0) ≡ values_of f count
  while_is turns h = from count 0 turns (omega arith) h
