-- What a call answers and leaves on an axis, where the axis and the other arguments are read back from their bits.
-- Assumes nothing.
use mathlib.Core.Path.{◌≡◌, ◌∙◌}
use mathlib.Core.List.{List}
use Prim.Native.Nat.{ℕ}
use lib.IntN.{ℤ}
use lib.ListN.{length}
use Rattle.std.specs.Prelude.{Result}
use Rattle.asking.specs.declared.Refusal.{Refusal}
use Rattle.values.specs.declared.Value.{Value}
use Rattle.axis.specs.declared.Axis.{Axis}
use Rattle.axis.specs.declared.BoldPoints.{BoldPoints}
use Rattle.axis.specs.declared.Hint.{Hint}
use Rattle.axis.specs.declared.Limits.{Limits}
use Rattle.mapping.specs.Mapping.{mapped}
use Rattle.ticks.specs.Answers.{period_answer}
use Rattle.ordered.specs.declared.OrderedNumber.{OrderedNumber}
use Rattle.ordered.specs.declared.OrderedPeriod.{OrderedPeriod}
use Rattle.ordered.specs.declared.OrderedPixel.{OrderedPixel}
use Rattle.ordered.specs.Replies.{number_reply, period_reply, pixel_reply}
use Rattle.promises.specs.Demand.{FineList}

-- a list, of either kind
module _ (answer : Axis → Hint → ℕ → Result ℕ Refusal) (written : Axis → Hint → List ℤ → List ℤ) where
  pub list_read : (a : Axis) (k : Hint) (d : List ℤ) {x : Axis} {h : Hint} {r : OrderedNumber} {l : List ℤ} →
      r ≡ number_reply (answer x h (length d)) → l ≡ written x h d → x ≡ a → h ≡ k →
      (r ≡ number_reply (answer a k (length d))) × (l ≡ written a k d)
  list_read a k d e w p q = (
    e ∙ (λ i. number_reply (answer (p i) (q i) (length d))),
    w ∙ (λ i. written (p i) (q i) d),
  )

  -- so it is fine where each list of these is
  pub list_called : ((a : Axis) (h : Hint) (d : List ℤ) → FineList a h (number_reply (answer a h (length d))) (written a h d)) →
      (a : Axis) (k : Hint) (d : List ℤ) {x : Axis} {h : Hint} {r : OrderedNumber} {l : List ℤ} →
      r ≡ number_reply (answer x h (length d)) → l ≡ written x h d → x ≡ a → h ≡ k →
      FineList a k r l
  list_called fine a k d e w p q = let (u, v) = list_read a k d e w p q in rw (u, v) (fine a k d)

pub period_read : (a : Axis) (k : BoldPoints) {x : Axis} {h : BoldPoints} {r : OrderedPeriod} →
    r ≡ period_reply (period_answer x h) → x ≡ a → h ≡ k → r ≡ period_reply (period_answer a k)
period_read a k e p q = e ∙ (λ i. period_reply (period_answer (p i) (q i)))

pub pixel_read : (a : Axis) (l : Limits) (v : Value) {x : Axis} {m : Limits} {w : Value} {r : OrderedPixel} →
    r ≡ pixel_reply (mapped x m w) → x ≡ a → m ≡ l → w ≡ v → r ≡ pixel_reply (mapped a l v)
pixel_read a l v e p q s = e ∙ (λ i. pixel_reply (mapped (p i) (q i) (s i)))
