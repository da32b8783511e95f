-- Demand 3 of every list of every kind and both hints, over what the exports cite: `promises` makes it one claim.
-- Assumes nothing.
use mathlib.Core.Path.{◌≡◌, subst}
use mathlib.Core.Bool.{true}
use mathlib.Core.List.{List}
use Prim.Native.Nat.{ℕ, ◌*◌}
use lib.IntN.{ℤ}
use lib.ListN.{length, take}
use Rattle.std.specs.Prelude.{Ok}
use Rattle.asking.specs.Asking.{passes}
use Rattle.asking.proofs.Asked.{answered_ok}
use Rattle.values.specs.declared.Value.{Value}
use Rattle.axis.specs.declared.Axis.{Axis}
use Rattle.axis.specs.declared.Hint.{Hint}
use Rattle.axis.specs.Axes.{closed, last}
use Rattle.axis.proofs.ClosedAxes.{same_start}
use Rattle.steps.specs.Progression.{ticks, Sound}
use Rattle.steps.specs.Listing.{numbers, listed_of}
use Rattle.steps.specs.Promise.{Fine}
use Rattle.steps.proofs.Demand.{none_fine, front_fine, read_fine}
use Rattle.plans.proofs.Cases.{choose}
use Rattle.plans.proofs.Promise.{Good, plan_good}
use Rattle.keypoints.specs.Hints.{limit, key_points_for}
use Rattle.ticks.specs.Answers.{tick_questions, ticks_of, ticks_answer, ticks_written, ticks_handed}
use Rattle.ticks.specs.Plans.{axis_for, plan_for}
use Rattle.ticks.proofs.Hints.{listing_accepted, listing_ends, closed_passed}
use Rattle.ticks.proofs.KeyPoints.{plan_same}

module _ (a : Axis) (h : Hint) (z : passes (tick_questions a h) ≡ true) where
  good : Good (axis_for a h) (limit h) (plan_for a h)
  good = plan_good (axis_for a h) (limit h) (listing_accepted a h z)

  -- the plan is in the ranges in which it is listed
  pub plan_sound : Sound (plan_for a h)
  plan_sound = good.sound

  -- at most N + 1 ticks, each later than the one before, none after the end, none before the whole second of the start
  pub key_points_fine : Fine (limit h) a.start a.end (numbers (key_points_for a h))
  key_points_fine =
      let (s, e) = listing_ends a h in
      let l = numbers (ticks (plan_for a h)) in
      rw (plan_same a h z) (subst (λ (v : Value). Fine (limit h) v a.end l) s
      (subst (λ (v : Value). Fine (limit h) (axis_for a h).start v l) e good.fine))

-- the same of an axis whose end may be excluded: none after the last value that belongs to it
pub ticks_fine : (a : Axis) (h : Hint) → passes (tick_questions a h) ≡ true →
    Fine (limit h) a.start (last a) (numbers (ticks_of a h))
unfolding ticks_of
ticks_fine a h z =
    subst (λ (v : Value). Fine (limit h) v (last a) (numbers (key_points_for (closed a) h))) (same_start a)
    (key_points_fine (closed a) h (closed_passed a h z))

-- the ticks that are read from the lent numbers after an accepted call
pub list_fine : (a : Axis) (h : Hint) (d : List ℤ) (c : ℕ) → ticks_answer a h (length d) ≡ Ok c →
    Fine (limit h) a.start (last a) (take (2 * c) (ticks_written a h d))
unfolding ticks_answer ticks_written
list_fine a h d c e =
    let (z, f) = answered_ok (tick_questions a h) (listed_of (ticks_of a h) (length d)) c e in
    rw z (read_fine (ticks_of a h) d (limit h) c a.start (last a) (ticks_fine a h z) f)

-- the part that is handed back, which is empty after a refused call
pub handed_fine : (a : Axis) (h : Hint) (k : ℕ) → Fine (limit h) a.start (last a) (ticks_handed a h k)
unfolding ticks_handed
handed_fine a h k = choose (λ (l : List ℤ). Fine (limit h) a.start (last a) l) (passes (tick_questions a h))
    (λ z. front_fine (ticks_of a h) k (limit h) a.start (last a) (ticks_fine a h z))
    (λ _. none_fine (limit h) a.start (last a))
