-- What listing and counting ticks answer, what the lent numbers hold after it, and the period, refused calls too. The lists
-- and the period are those of crate keypoints, which has them as the Rust does. Definitions only.
use Rattle.std.specs.Prelude.{true, not, cond, List, [], ◌∷◌, ◌++◌, ℕ, ℤ, Option, Result, Ok}
use Rattle.asking.specs.declared.Refusal.{Refusal}
use Rattle.asking.specs.declared.Refusal.TheVariants as refusal
use Rattle.asking.specs.Asking.{Question, ask, asked, passes}
use Rattle.laws.specs.Numbers.{pos_part}
use Rattle.values.specs.declared.Value.{Value}
use Rattle.values.specs.Values.{is_duration}
use Rattle.axis.specs.declared.Axis.{Axis}
use Rattle.axis.specs.declared.BoldPoints.{BoldPoints}
use Rattle.axis.specs.declared.Hint.{Hint}
use Rattle.axis.specs.declared.Hint.TheVariants.{Bold}
use Rattle.axis.specs.Axes.{closed}
use Rattle.axis.specs.Questions.{axis_questions, has_period, hint_on}
use Rattle.steps.specs.Listing.{listed_of, lent_after, front}
use Rattle.keypoints.specs.Times.{period_on}
use Rattle.keypoints.specs.Hints.{turns_for, key_points_for}

-- ---- the questions before the list's length is known; then the list asks for room in the lent numbers
abbrev pub tick_questions : Axis → Hint → List Question
tick_questions a h = axis_questions true a ++ (ask refusal.Hint (hint_on a h) ∷ [])

-- the ticks of an axis for a hint: those of the axis that ends a day earlier, where the end is excluded
unfoldable pub ticks_of : Axis → Hint → List Value
ticks_of a h = key_points_for (closed a) h

-- the count of ticks, or a refusal
unfoldable pub ticks_answer : Axis → Hint → ℕ → Result ℕ Refusal
ticks_answer a h k = asked (tick_questions a h) (listed_of (ticks_of a h) k)

-- all lent numbers after the call
unfoldable pub ticks_written : Axis → Hint → List ℤ → List ℤ
ticks_written a h d = cond (passes (tick_questions a h)) (lent_after (ticks_of a h) d) d

-- the part that is handed back
unfoldable pub ticks_handed : Axis → Hint → ℕ → List ℤ
ticks_handed a h k = cond (passes (tick_questions a h)) (front (ticks_of a h) k) []

-- ---- the period of kinds 4 and 7
abbrev pub period_questions : Axis → BoldPoints → List Question
period_questions a h = axis_questions (has_period a) a ++ (ask refusal.Hint (hint_on a (Bold h)) ∷ [])

-- `compute_period_per_point` of an axis, none where days are listed: only below a day on kind 4
unfoldable pub period_answer : Axis → BoldPoints → Result (Option ℕ) Refusal
period_answer a h =
    let n = pos_part h.n in
    asked (period_questions a h) (Ok (period_on (turns_for n) a n (not (is_duration a.kind))))
