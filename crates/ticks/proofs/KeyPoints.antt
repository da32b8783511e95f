-- The list of a plan is the Rust's list, for both hints; and so is the period. Assumes nothing.
use mathlib.Core.Path.{◌≡◌, refl, sym, ap, ◌∙◌}
use mathlib.Core.Bool.{Bool, true, false, cond, true≢false, not, ◌||◌}
use mathlib.Core.List.{List}
use Prim.Native.Nat.{ℕ, ◌*◌, ◌≤◌, ◌<◌}
use native.Mathlib.Decide.{dec_le}
use native.Mathlib.Omega.{arith}
use lib.Dec.{leb}
use borrow.Author.Tests.{le-leb, lt-leb}
use Rattle.std.specs.Prelude.{⊤, Ok, Err}
use Rattle.asking.specs.declared.Refusal.{Refusal}
use Rattle.asking.specs.Asking.{asked, passes}
use Rattle.asking.proofs.Asked.{passed, refused}
use Rattle.laws.specs.Numbers.{pos_part}
use Rattle.values.specs.declared.Kind.{Kind}
use Rattle.values.specs.declared.Kind.TheVariants as kind
use Rattle.values.specs.declared.Value.{Value}
use Rattle.values.specs.Values.{is_duration}
use Rattle.axis.specs.declared.Axis.{Axis}
use Rattle.axis.specs.declared.BoldPoints.{BoldPoints}
use Rattle.axis.specs.declared.Hint.{Hint}
use Rattle.axis.specs.declared.Hint.TheVariants.{Bold, Light}
use Rattle.axis.specs.Axes.{closed}
use Rattle.counting.specs.Counting.{counts_months, counts_years, monthly, yearly, size_of}
use Rattle.steps.specs.Progression.{ticks}
use Rattle.plans.specs.Times.{period_in}
use Rattle.keypoints.specs.Times.{period_on}
use Rattle.keypoints.specs.KeyPoints.{key_points}
use Rattle.keypoints.specs.Hints.{limit, finer_kind, finer, monthly_light, yearly_light, light_key_points, key_points_in}
use Rattle.keypoints.specs.Hints.{turns_for, key_points_for}
use Rattle.keypoints.proofs.KeyPoints.{period_on_law, key_points_same}
use Rattle.ticks.specs.Answers.{tick_questions, ticks_of, period_questions, period_answer}
use Rattle.ticks.specs.Plans.{refined, axis_for, plan_for}
use Rattle.ticks.proofs.Hints.{stays_fine, stays_coarse, goes_finer, listing_accepted, closed_passed}
use Rattle.ticks.proofs.Hints.{period_accepted}

-- ---- the finer kinds: of months none is finer still, and years go to months
month_finer : (a : Axis) → monthly a ≡ true → monthly (finer a) || yearly (finer a) ≡ false
unfolding monthly yearly
month_finer a e = go a.kind e
  where
    go : (k : Kind) → counts_months k ≡ true → counts_months (finer_kind k) || counts_years (finer_kind k) ≡ false
    go kind.Date e = refl
    go kind.Month e = refl
    go kind.Year e = absurd (true≢false (sym e))
    go kind.Stamp e = refl
    go kind.StampMonth e = refl
    go kind.StampYear e = absurd (true≢false (sym e))
    go kind.Span e = refl
    go kind.Week e = refl
    go kind.Unknown e = refl

year_finer : (a : Axis) → yearly a ≡ true → monthly (finer a) ≡ true
unfolding monthly yearly
year_finer a e = go a.kind e
  where
    go : (k : Kind) → counts_years k ≡ true → counts_months (finer_kind k) ≡ true
    go kind.Date e = e
    go kind.Month e = absurd (true≢false (sym e))
    go kind.Year e = refl
    go kind.Stamp e = e
    go kind.StampMonth e = absurd (true≢false (sym e))
    go kind.StampYear e = refl
    go kind.Span e = e
    go kind.Week e = e
    go kind.Unknown e = e

-- ---- the axis that lists
module _ (turns b n : ℕ) where
  abbrev listed : Axis → List Value
  listed x = key_points turns x n

  -- by the size, as the Rust asks it
  by_size : (a : Axis) (fine : List Value) → (monthly a || yearly a ≡ true) → fine ≡ listed (refined b (finer a)) →
      cond (leb (size_of a) (b * 2)) fine (listed a) ≡ listed (refined b (refined b a))
  by_size a fine c e =
      elim (dec_le (size_of a) (b * 2)) [
        | yes l ↦ rw (le-leb (size_of a) (b * 2) l) (e ∙ ap (λ (x : Axis). listed (refined b x)) (goes_finer a b c (omega arith)))
        | no l ↦
            let more : b * 2 < size_of a = omega arith in
            let s = stays_coarse a b (omega arith) in
            rw (lt-leb (size_of a) (b * 2) more) (ap listed (s ∙ ap (refined b) s))
      ]

  month_lists : (a : Axis) → monthly a ≡ true → monthly_light turns a b n ≡ listed (refined b (refined b a))
  unfolding monthly_light
  month_lists a m = by_size a (listed (finer a)) (rw m) (ap listed (stays_fine (finer a) b (month_finer a m)))

  -- refining months twice is no more than once
  month_once : (a : Axis) → monthly a ≡ true → refined b (refined b a) ≡ refined b a
  month_once a m =
      elim (dec_le (size_of a) (b * 2)) [
        | yes l ↦
            let e = goes_finer a b (rw m) (omega arith) in
            rw (← e) (sym (stays_fine (finer a) b (month_finer a m)))
        | no l ↦ let e = stays_coarse a b (omega arith) in ap (refined b) (sym e)
      ]

  light_lists : (a : Axis) → light_key_points turns a b n ≡ listed (refined b (refined b a))
  unfolding light_key_points yearly_light
  light_lists a = go (monthly a) (yearly a) refl refl
    where
      go : (m y : Bool) → monthly a ≡ m → yearly a ≡ y →
          cond m (monthly_light turns a b n)
          (cond y (cond (leb (size_of a) (b * 2)) (monthly_light turns (finer a) b n) (listed a)) (listed a))
          ≡ listed (refined b (refined b a))
      go true y e f = month_lists a e
      go false true e f =
          let m = year_finer a f in
          by_size a (monthly_light turns (finer a) b n) (rw (e, f)) (month_lists (finer a) m ∙ ap listed (month_once (finer a) m))
      go false false e f = let s = stays_fine a b (rw (e, f)) in ap listed (s ∙ ap (refined b) s)

lists : (turns : ℕ) (a : Axis) (h : Hint) → key_points_in turns a h ≡ key_points turns (axis_for a h) (limit h)
lists turns a (Bold h) = refl
lists turns a (Light h) = light_lists turns (pos_part h.bold) (pos_part h.n) a

-- ---- the laws, of what the questions accept: for any number of turns from N + 30 on
pub plan_in : (turns : ℕ) (a : Axis) (h : Hint) → passes (tick_questions a h) ≡ true → turns_for (limit h) ≤ turns →
    key_points_in turns a h ≡ ticks (plan_for a h)
plan_in turns a h z t = lists turns a h ∙ key_points_same turns (limit h) (axis_for a h) (listing_accepted a h z) t

-- the bound on the turns is never reached: more of them give the same list
pub turns_enough : (turns : ℕ) (a : Axis) (h : Hint) → passes (tick_questions a h) ≡ true → turns_for (limit h) ≤ turns →
    key_points_in turns a h ≡ key_points_for a h
unfolding key_points_for
turns_enough turns a h z t = plan_in turns a h z t ∙ sym (plan_in (turns_for (limit h)) a h z (omega arith))

pub plan_same : (a : Axis) (h : Hint) → passes (tick_questions a h) ≡ true → key_points_for a h ≡ ticks (plan_for a h)
unfolding key_points_for
plan_same a h z = plan_in (turns_for (limit h)) a h z (omega arith)

-- the list of the plan that the code makes
pub ticks_same : (a : Axis) (h : Hint) → passes (tick_questions a h) ≡ true → ticks_of a h ≡ ticks (plan_for (closed a) h)
unfolding ticks_of
ticks_same a h z = plan_same (closed a) h (closed_passed a h z)

pub period_is : (a : Axis) (h : BoldPoints) → passes (period_questions a h) ≡ true →
    period_on (turns_for (pos_part h.n)) a (pos_part h.n) (not (is_duration a.kind))
    ≡ period_in a (pos_part h.n)
period_is a h z =
    let (q, some, _) = period_accepted a h z in
    period_on_law (turns_for (pos_part h.n)) (pos_part h.n) a q (omega arith) some

-- ---- the period that is answered
pub period_answered : (a : Axis) (h : BoldPoints) → passes (period_questions a h) ≡ true →
    Ok (period_in a (pos_part h.n)) ≡ period_answer a h
unfolding period_answer
period_answered a h z = ap Ok (sym (period_is a h z)) ∙ passed (period_questions a h) _ z

pub period_refused : (a : Axis) (h : BoldPoints) (u : ⊤) (q : Refusal) → Err q ≡ asked (period_questions a h) (Ok u) →
    Err q ≡ period_answer a h
unfolding period_answer
period_refused a h u q e = refused (period_questions a h) u _ q (sym e)
