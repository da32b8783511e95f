-- The step of a list of Mondays keeps the hint. Assumes nothing.
use mathlib.Core.Path.{refl}
use Prim.Native.Nat.{ℕ, ◌+◌, ◌-◌, ◌*◌, ◌/◌, ◌≤◌, ◌<◌}
use native.Mathlib.Nat.{div-le_self, div-lt_iff_lt-mul}
use native.Mathlib.Omega.{arith}
use Rattle.steps.specs.Progression.{fitting}
use Rattle.steps.proofs.Fitting.{few_steps}
use Rattle.steps.proofs.Demand.{Kept}
use Rattle.counting.proofs.Counting.{from_range, to_range}
use Rattle.weeks.proofs.Mondays.{first_monday_law}
use Rattle.plans.specs.Weeks.{week_step}

-- n + 1 steps reach past c Mondays, and a step is at most c + 1 of them
pub week_room : (c n : ℕ) → (0 < week_step c n) × (c ≤ (n + 1) * week_step c n) × (week_step c n ≤ c + 1)
unfolding week_step
week_room c n =
    let q : ℕ = (c - 1) / (n + 1) in
    let p : 0 < n + 1 = omega arith in
    let l : q < q + 1 = omega arith in
    let r : c - 1 < (q + 1) * (n + 1) = (div-lt_iff_lt-mul p).0 l in
    (omega arith, omega arith, omega (arith, div-le_self (c - 1) (n + 1)))

-- from the Monday f to the day e
module _ (f e n : ℕ) where
  abbrev mondays : ℕ
  mondays = (e + 7 - f) / 7

  abbrev stride : ℕ
  stride = 7 * week_step mondays n

  pub week_wide : (0 < stride) × (e + 1 - f ≤ (n + 1) * stride) × (stride ≤ e + 14)
  week_wide = let (p, q, r) = week_room mondays n in (omega arith, omega arith, omega arith)

  pub weeks_kept : Kept stride (fitting (e + 1 - f) stride) n (e + 1 - f)
  weeks_kept = let (p, q, r) = week_wide in record { stride = p; all = refl; few = few_steps (e + 1 - f) stride n p q }

-- what a plan of weeks knows
pub ruleset weeks_of_axis = (from_range, to_range, first_monday_law, week_room)
