-- The first of 1, 2, 5, 10, 20, .. that fits: its search, and that it gives at most n + 1 ticks. Assumes nothing.
use mathlib.Core.Path.{◌≡◌, refl, ap, ◌∙◌}
use mathlib.Core.Bool.{Bool, true, false, cond}
use mathlib.Core.List.{List, [], ◌∷◌}
use Prim.Native.Nat.{ℕ, zero, suc, ◌+◌, ◌*◌, ◌/◌, ◌≤◌, ◌<◌, zero-le, suc-le-suc}
use native.Mathlib.Nat.{div-eq_of_lt, div-lt_iff_lt-mul}
use native.Mathlib.Omega.{arith}
use lib.Dec.{ltb, leb, ltb→lt, leb→le, le→leb, lit≤}
use borrow.Author.Tests.{le-leb, lt-leb}
use Rattle.std.specs.Prelude.{Option, Some, unwrap_or}
use Rattle.std.specs.List.{find}
use Rattle.laws.proofs.Tables.{all, at}
use Rattle.period.specs.Ladders.{step_at, first_from, decimal_ladder, rare, first_fit}
use Rattle.period.proofs.Search.{Come, come_here, come_next, in_reach, passes}

-- the 22 steps are above 0 and 10 ^ 7 at most, by one computed test each
pub step_above : (i : ℕ) → i < 22 → 0 < step_at (decimal_ladder 1) i
unfolding all
step_above i h = ltb→lt 0 (step_at (decimal_ladder 1) i) (at (λ (i : ℕ). ltb 0 (step_at (decimal_ladder 1) i)) 22 tt i h)

step_most : (i : ℕ) → i < 22 → step_at (decimal_ladder 1) i ≤ 10000000
unfolding all
step_most i h =
    leb→le (step_at (decimal_ladder 1) i) 10000000 (at (λ (i : ℕ). leb (step_at (decimal_ladder 1) i) 10000000) 22 tt i h)

fit_is : (total n : ℕ) → step_at (decimal_ladder 1) (first_from (rare total n) 21 0) ≡ first_fit total n
unfolding first_fit
fit_is total n = refl

-- ---- a search that has come to i, step by step
module _ (total n : ℕ) {i : ℕ} (w : Come (rare total n) 21 i) where
  pub fit_here : total / step_at (decimal_ladder 1) i ≤ n → step_at (decimal_ladder 1) i ≡ first_fit total n
  fit_here h = ap (step_at (decimal_ladder 1)) (come_here w (le-leb (total / step_at (decimal_ladder 1) i) n h)) ∙ fit_is total n

  pub fit_next : i < 21 → n < total / step_at (decimal_ladder 1) i → Come (rare total n) 21 (suc i)
  fit_next k h = come_next w k (lt-leb (total / step_at (decimal_ladder 1) i) n h)

-- ---- the search in the list of the first 21 steps
-- k steps from step i on
abbrev pub steps_from : ℕ → ℕ → List ℕ
steps_from zero i = []
steps_from (suc k) i = step_at (decimal_ladder 1) i ∷ steps_from k (suc i)

module _ (total n : ℕ) where
  abbrev fitting : List ℕ → Option ℕ
  fitting l = find (λ (x : ℕ). leb (total / x) n) l

  first_step : (k i : ℕ) → unwrap_or (fitting (steps_from k i)) (step_at (decimal_ladder 1) (i + k))
      ≡ step_at (decimal_ladder 1) (first_from (rare total n) k i)
  unfolding first_from
  first_step zero i = let e : i + 0 ≡ i = omega arith in ap (step_at (decimal_ladder 1)) e
  first_step (suc k) i = go (fitting (steps_from k (suc i))) (rare total n i) (first_step k (suc i))
    where
      go : (later : Option ℕ) (b : Bool) → unwrap_or later (step_at (decimal_ladder 1) (suc i + k))
          ≡ step_at (decimal_ladder 1) (first_from (rare total n) k (suc i)) →
          unwrap_or (cond b (Some (step_at (decimal_ladder 1) i)) later) (step_at (decimal_ladder 1) (i + suc k))
          ≡ step_at (decimal_ladder 1) (cond b i (first_from (rare total n) k (suc i)))
      go later true h = refl
      go later false h = let e : i + suc k ≡ suc i + k = omega arith in rw e h

  pub fit_found : unwrap_or (fitting (steps_from 21 0)) 10000000 ≡ first_fit total n
  fit_found = first_step 21 0 ∙ fit_is total n

-- ---- what it promises
module _ (total n : ℕ) where
  place : first_from (rare total n) 21 0 < 22
  place = suc-le-suc (in_reach (rare total n) 21 0).1

  pub fit_above : 0 < first_fit total n
  fit_above = rw (fit_is total n) at (step_above (first_from (rare total n) 21 0) place)

  pub fit_most : first_fit total n ≤ 10000000
  fit_most = rw (fit_is total n) at (step_most (first_from (rare total n) 21 0) place)

  module _ (h : total < 10000000) where
    fit_few : total / first_fit total n ≤ n
    fit_few =
        let t = passes (rare total n) 21 0 21 zero-le (lit≤ tt) (le→leb (total / 10000000) n (omega (arith, div-eq_of_lt h))) in
        rw (fit_is total n) at (leb→le (total / step_at (decimal_ladder 1) (first_from (rare total n) 21 0)) n t.0)

    pub fit_room : total < (n + 1) * first_fit total n
    fit_room = (div-lt_iff_lt-mul fit_above).0 (omega (arith, fit_few))
