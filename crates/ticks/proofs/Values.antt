-- Every tick of a list is a value of the axis's kind, with any hint; with a bold hint only kinds 4 and 7 list ticks with a
-- tail. Assumes nothing.
use mathlib.Core.Path.{◌≡◌, sym, ◌∙◌, ap}
use mathlib.Core.Bool.{true, false}
use Prim.Native.Nat.{ℕ, ◌*◌, ◌<◌}
use lib.IntN.{pos}
use lib.ListN.{length}
use Rattle.asking.specs.Asking.{passes}
use Rattle.laws.specs.Numbers.{pos_part}
use Rattle.values.specs.Values.{is_value}
use Rattle.axis.specs.declared.Axis.{Axis}
use Rattle.axis.specs.declared.BoldPoints.{BoldPoints}
use Rattle.axis.specs.declared.Hint.{Hint}
use Rattle.axis.specs.declared.Hint.TheVariants.{Bold}
use Rattle.axis.specs.Axes.{closed}
use Rattle.axis.specs.Questions.{has_period}
use Rattle.axis.proofs.ClosedAxes.{same_kind}
use Rattle.steps.specs.Progression.{ticks}
use Rattle.steps.specs.Listing.{numbers}
use Rattle.steps.specs.Promise.{nth}
use Rattle.plans.proofs.Values as plan
use Rattle.keypoints.specs.Hints.{limit}
use Rattle.ticks.specs.Answers.{tick_questions, ticks_of}
use Rattle.ticks.specs.Plans.{axis_for, plan_for}
use Rattle.ticks.proofs.Hints.{accepted, listing_accepted, listing_value, closed_passed}
use Rattle.ticks.proofs.KeyPoints.{ticks_same}

-- each tick is what question 3 asks of the ends
pub tick_value : (a : Axis) (h : Hint) → passes (tick_questions a h) ≡ true → (i : ℕ) → 2 * i < length (numbers (ticks_of a h)) →
    is_value a.kind (nth (numbers (ticks_of a h)) i) ≡ true
tick_value a h z = rw (ticks_same a h z) (λ i l.
    let v = nth (numbers (ticks (plan_for (closed a) h))) i in
    ap (λ k. is_value k v) (sym (same_kind a))
    ∙ sym (listing_value (closed a) h v)
    ∙ plan.is_value_law (axis_for (closed a) h) (limit h) (listing_accepted (closed a) h (closed_passed a h z)) i l)

-- only kinds 4 and 7 list times: elsewhere no tick has a tail
pub no_tail : (a : Axis) (h : BoldPoints) → passes (tick_questions a (Bold h)) ≡ true → has_period a ≡ false → (i : ℕ) →
    2 * i < length (numbers (ticks_of a (Bold h))) → (nth (numbers (ticks_of a (Bold h))) i).tail ≡ pos 0
unfolding has_period
no_tail a h z e = rw (ticks_same a (Bold h) z)
    (λ i l. plan.no_tail (closed a) (pos_part h.n) (accepted (closed a) (Bold h) (closed_passed a (Bold h) z)) i l
    (rw (same_kind a) e))
