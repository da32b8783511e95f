-- The step of a list of days: as the code's tests find it, and that it keeps the hint. Assumes nothing.
use mathlib.Core.Path.{◌≡◌, refl, sym}
use mathlib.Core.Bool.{false, ◌&&◌}
use mathlib.Core.Logic.{inl, inr}
use Prim.Native.Nat.{ℕ, zero, suc, ◌+◌, ◌-◌, ◌*◌, ◌/◌, ◌≤◌, ◌<◌, min}
use native.Mathlib.Nat.{div-lt_iff_lt-mul, le-div_iff_mul-le, lt-div-mul-add, not-suc-le-zero}
use native.Mathlib.Omega.{arith}
use lib.Dec.{ltb, leb, eqb}
use lib.Ieee.{binary64}
use borrow.Author.Tests.{ltb-false, leb-true, leb-false, eqb-true, eqb-false}
use Rattle.laws.proofs.Tests.{both_true}
use Rattle.floats.specs.Rounding.{upward, ceil_of}
use Rattle.floats.proofs.Quotients.{ratio_ceil, ceil_by_zero}
use Rattle.values.proofs.Numbers.{not_both}
use Rattle.steps.specs.Progression.{fitting}
use Rattle.steps.proofs.Fitting.{few_steps}
use Rattle.steps.proofs.Demand.{Kept}
use Rattle.counting.proofs.Counting.{from_range, to_range}
use Rattle.plans.specs.Days.{date_step}
use Rattle.plans.proofs.Cases.{choose}

-- ---- the weeks of a step
upward_most : (w n : ℕ) → 0 < n → upward w n < w + 1
upward_most w zero h = absurd (not-suc-le-zero h)
upward_most w (suc m) h = (div-lt_iff_lt-mul h).1 (omega arith)

min_left : (x y : ℕ) → x ≤ y → min x y ≡ x
min_left x y h = omega arith

module _ (w n : ℕ) (small : w < 4000000) where
  exact : 0 < n → n < w → ceil_of w n ≡ upward w n
  unfolding ceil_of
  exact p h = ratio_ceil binary64 w n (omega arith) p (omega arith)

  pub weeks_none : 0 < w → n ≡ 0 → w + 1 ≡ min (ceil_of w n) (w + 1)
  unfolding ceil_of
  weeks_none h e = rw (e, ceil_by_zero binary64 w h (omega arith)) (omega arith)

  pub weeks_some : 0 < n → n < w → ceil_of w n ≡ min (ceil_of w n) (w + 1)
  weeks_some p h = rw (exact p h) (sym (min_left (upward w n) (w + 1) (omega (arith, upward_most w n p))))

-- the step is above 0, and n + 1 steps are beyond the weeks
room_up : (w n : ℕ) → 0 < n → 0 < w → (0 < upward w n) × (w ≤ upward w n * n)
room_up w zero p h = absurd (not-suc-le-zero p)
room_up w (suc m) p h =
    let q : 1 * suc m ≤ w + m = omega arith in
    let e : suc m - 1 ≡ m = omega arith in
    rw e ((le-div_iff_mul-le p).1 q, omega (arith, lt-div-mul-add {a = w + m} p))

weeks_room : (w n : ℕ) → w < 4000000 → n < w → (0 < min (ceil_of w n) (w + 1)) × (w + 1 ≤ (n + 1) * min (ceil_of w n) (w + 1))
weeks_room w zero s h = rw (← weeks_none w 0 s h refl) (omega arith, omega arith)
weeks_room w (suc m) s h =
    let n : ℕ = suc m in
    let p : 0 < suc m = omega arith in
    let r = room_up w (suc m) p (omega arith) in
    rw (← weeks_some w (suc m) s p h, exact w (suc m) s p h) (r.0, omega arith)

-- ---- the step
module _ (d n : ℕ) where
  -- it keeps the hint
  abbrev Wide : ℕ → Type 0
  Wide k = (0 < k) × (d + 1 ≤ (n + 1) * k) × (k ≤ d + 7)

  few_weeks : n < d / 7 → d < 4000000 → Wide (7 * min (ceil_of (d / 7) n) (d / 7 + 1))
  few_weeks h s =
      let (p, q) = weeks_room (d / 7) n (omega arith) h in
      (omega arith, omega arith, omega arith)

  more : ltb 0 (d / 7) && leb (d / 7) n ≡ false → (d / 7 ≡ 0 → ⊥) → n < d / 7
  more e f =
      elim (not_both (ltb 0 (d / 7)) (leb (d / 7) n) e) [
        | inl x ↦ absurd (f (omega (arith, ltb-false 0 (d / 7) x)))
        | inr x ↦ leb-false (d / 7) n x
      ]

  pub step_wide : d < 4000000 → Wide (date_step d n)
  unfolding date_step
  step_wide s =
      choose Wide (ltb 0 d && leb d n)
      (λ e. (omega arith, omega (arith, leb-true d n (both_true (ltb 0 d) (leb d n) e).1), omega arith))
      (λ _. choose Wide (ltb 0 (d / 7) && leb (d / 7) n)
      (λ e. (omega arith, omega (arith, leb-true (d / 7) n (both_true (ltb 0 (d / 7)) (leb (d / 7) n) e).1), omega arith))
      (λ e. choose Wide (eqb (d / 7) 0)
      (λ f. (omega arith, omega (arith, eqb-true (d / 7) 0 f), omega arith))
      (λ f. few_weeks (more e (eqb-false (d / 7) 0 f)) s)))

  pub days_kept : d < 4000000 → Kept (date_step d n) (fitting (d + 1) (date_step d n)) n (d + 1)
  days_kept s = let (p, q, r) = step_wide s in record { stride = p; all = refl; few = few_steps (d + 1) (date_step d n) n p q }

-- what a plan of days knows of an axis and of its step
pub ruleset days_of_axis = (from_range, to_range, step_wide)

-- the weeks of a step, by the code's test
pub ruleset weeks_at_most = (weeks_none, weeks_some)
