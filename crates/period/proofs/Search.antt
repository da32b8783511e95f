-- The first number that passes a test, and a loop that looks for it. Assumes nothing.
use mathlib.Core.Path.{◌≡◌, refl, sym, ◌∙◌}
use mathlib.Core.Bool.{Bool, true, false, cond}
use mathlib.Core.Logic.{inl, inr}
use Prim.Native.Nat.{ℕ, zero, suc, ◌+◌, ◌-◌, ◌≤◌, ◌<◌}
use native.Mathlib.Nat.{le_refl, eq-or-lt_of_le}
use native.Mathlib.Omega.{arith}
use lib.Dec.{T}
use Rattle.period.specs.Ladders.{first_from}

here : (test : ℕ → Bool) (more i : ℕ) → test i ≡ true → first_from test more i ≡ i
unfolding first_from
here test zero i e = refl
here test (suc more) i e = rw e refl

later : (test : ℕ → Bool) (more i : ℕ) → test i ≡ false → first_from test (suc more) i ≡ first_from test more (suc i)
unfolding first_from
later test more i e = rw e refl

last : (test : ℕ → Bool) (i : ℕ) → first_from test 0 i ≡ i
unfolding first_from
last test i = refl

pub in_reach : (test : ℕ → Bool) (more i : ℕ) → (i ≤ first_from test more i) × (first_from test more i ≤ i + more)
unfolding first_from
in_reach test zero i = (le_refl i, omega arith)
in_reach test (suc more) i = go (test i) (in_reach test more (suc i))
  where
    go : (b : Bool) → (suc i ≤ first_from test more (suc i)) × (first_from test more (suc i) ≤ suc i + more)
        → (i ≤ cond b i (first_from test more (suc i))) × (cond b i (first_from test more (suc i)) ≤ i + suc more)
    go true h = (le_refl i, omega arith)
    go false h = (omega arith, omega arith)

-- where some number b in reach passes, the first one does, and is no later
abbrev Passes : (ℕ → Bool) → ℕ → ℕ → Type 0
Passes test b i = T (test i) × (i ≤ b)

pub passes : (test : ℕ → Bool) (more i b : ℕ) → i ≤ b → b ≤ i + more → T (test b) → Passes test b (first_from test more i)
unfolding first_from
passes test zero i b h k t = let e : b ≡ i = omega arith in (rw e at t, h)
passes test (suc more) i b h k t = go (test i) refl (λ l. passes test more (suc i) b l (omega arith) t)
  where
    go : (c : Bool) → test i ≡ c → (suc i ≤ b → Passes test b (first_from test more (suc i))) →
        Passes test b (cond c i (first_from test more (suc i)))
    go true e later = (rw e tt, h)
    go false e later = elim (eq-or-lt_of_le h) [ inl p ↦ absurd (rw (← p, e) at t) | inr l ↦ later l ]

-- ---- a loop has come to i: no number before it passes
pub record Come (test : ℕ → Bool) (most i : ℕ) : Type 0 where
  pub within : i ≤ most
  pub rest : first_from test (most - i) i ≡ first_from test most 0

module _ {test : ℕ → Bool} {most : ℕ} where
  pub come_first : Come test most 0
  come_first = let e : most - 0 ≡ most = omega arith in record { within = omega arith; rest = rw e refl }

  module _ {i : ℕ} (w : Come test most i) where
    pub come_before : i ≤ first_from test most 0
    come_before = rw w.rest at (in_reach test (most - i) i).0

    pub come_here : test i ≡ true → i ≡ first_from test most 0
    come_here e = sym (here test (most - i) i e) ∙ w.rest

    come_last : most ≤ i → i ≡ first_from test most 0
    come_last h = let e : most - i ≡ 0 = omega arith in sym (last test i) ∙ (rw e at w.rest)

    pub come_next : i < most → test i ≡ false → Come test most (suc i)
    come_next h e =
        let d : most - i ≡ suc (most - suc i) = omega arith in
        record { within = h; rest = sym (later test (most - suc i) i e) ∙ (rw d at w.rest) }

    -- where the one that is found passes, a failure is not the last
    pub come_more : T (test (first_from test most 0)) → test i ≡ false → i < most
    come_more t e = elim (eq-or-lt_of_le w.within) [ inl p ↦ absurd (rw (← come_last (omega arith), e) at t) | inr l ↦ l ]
