-- What a plan answers and writes, and what a list hands back: the front part that its answer counts. Assumes nothing.
use mathlib.Core.Path.{◌≡◌, refl, sym, ◌∙◌, ap}
use mathlib.Core.Bool.{Bool, true, false, cond, ◌&&◌}
use mathlib.Core.List.{List, [], ◌∷◌}
use Prim.Native.Nat.{ℕ, ◌*◌, ◌≤◌}
use native.Mathlib.Omega.{arith}
use lib.IntN.{ℤ}
use lib.ListN.{length, take}
use Rattle.std.specs.Prelude.{Result, Ok, Err}
use Rattle.asking.specs.declared.Refusal.{Refusal}
use Rattle.asking.specs.Asking.{Question, asked, passes}
use Rattle.asking.proofs.Asked.{passed, refused, answered_ok}
use Rattle.axis.specs.declared.Axis.{Axis}
use Rattle.axis.specs.declared.Hint.{Hint}
use Rattle.axis.specs.Axes.{closed}
use Rattle.steps.specs.declared.Steps.{Steps}
use Rattle.steps.specs.Progression.{ticks, Sound}
use Rattle.steps.specs.Listing.{listed_of, lent_after, front, count_of}
use Rattle.steps.proofs.Fronts.{within_lent, front_is, length_after}
use Rattle.ticks.specs.Answers.{tick_questions, ticks_of, ticks_answer, ticks_written, ticks_handed}
use Rattle.ticks.specs.Plans.{plan_for}
use Rattle.ticks.proofs.Hints.{closed_passed}
use Rattle.ticks.proofs.KeyPoints.{ticks_same}
use Rattle.ticks.proofs.Promise.{plan_sound}

-- ---- by whether a row of questions passes
pub by_row : {A : Type 0} (row : List Question) (a : Result A Refusal) (P : Bool → Result A Refusal → Type 0) → P true a →
    ((q : Refusal) → P false (Err q)) → P (passes row) (asked row a)
by_row [] a P yes-too no-too = yes-too
by_row {A} (q ∷ row) a P yes-too no-too = go q.yes (by_row row a P yes-too no-too)
  where
    go : (b : Bool) → P (passes row) (asked row a) → P (b && passes row) (cond b (asked row a) (Err q.refusal))
    go true h = h
    go false h = no-too q.refusal

-- ---- a plan that was made for an axis and a hint
module _ (a : Axis) (h : Hint) {s : Steps} (f : Ok s ≡ asked (tick_questions a h) (Ok (plan_for (closed a) h))) where
  made : (passes (tick_questions a h) ≡ true) × (plan_for (closed a) h ≡ s)
  made =
      let (z, e) = answered_ok (tick_questions a h) (Ok (plan_for (closed a) h)) s (sym f) in
      let p : plan_for (closed a) h ≡ s = cc in
      (z, p)

  pub made_sound : Sound s
  made_sound = rw made.1 at (plan_sound (closed a) h (closed_passed a h made.0))

  listed : ticks s ≡ ticks_of a h
  listed = ap ticks (sym made.1) ∙ sym (ticks_same a h made.0)

  pub made_answer : (k : ℕ) → listed_of (ticks s) k ≡ ticks_answer a h k
  unfolding ticks_answer
  made_answer k = ap (λ l. listed_of l k) listed ∙ passed (tick_questions a h) (listed_of (ticks_of a h) k) made.0

  pub made_written : (d : List ℤ) → lent_after (ticks s) d ≡ ticks_written a h d
  unfolding ticks_written
  made_written d = ap (λ l. lent_after l d) listed ∙ rw made.0

-- ---- no plan, since a question refuses
module _ (a : Axis) (h : Hint) {q : Refusal} (f : Err q ≡ asked (tick_questions a h) (Ok (plan_for (closed a) h))) where
  pub refused_answer : (k : ℕ) → Err q ≡ ticks_answer a h k
  unfolding ticks_answer
  refused_answer k =
      refused (tick_questions a h) (plan_for (closed a) h) (listed_of (ticks_of a h) k) q (sym f)

  pub refused_written : (d : List ℤ) → d ≡ ticks_written a h d
  unfolding ticks_written
  refused_written d =
      by_row (tick_questions a h) (Ok (plan_for (closed a) h))
      (λ (b : Bool) (r : Result Steps Refusal). Err q ≡ r → d ≡ cond b (lent_after (ticks_of a h) d) d)
      (λ e. absurd (let z : ⊥ = cc in z)) (λ _ _. refl) f

module _ (a : Axis) (h : Hint) (d : List ℤ) where
  abbrev answer : Result ℕ Refusal
  answer = listed_of (ticks_of a h) (length d)

  -- it is no longer than the lent numbers
  pub in_lent : 2 * count_of (ticks_answer a h (length d)) ≤ length d
  unfolding ticks_answer
  in_lent = by_row (tick_questions a h) answer (λ (b : Bool) (r : Result ℕ Refusal). 2 * count_of r ≤ length d)
      (within_lent (ticks_of a h) d) (λ _. omega arith)

  pub handed_is : take (2 * count_of (ticks_answer a h (length d))) (ticks_written a h d) ≡ ticks_handed a h (length d)
  unfolding ticks_answer ticks_written ticks_handed
  handed_is =
      by_row (tick_questions a h) answer
      (λ (b : Bool) (r : Result ℕ Refusal).
      take (2 * count_of r) (cond b (lent_after (ticks_of a h) d) d) ≡ cond b (front (ticks_of a h) (length d)) [])
      (front_is (ticks_of a h) d) (λ _. refl)

  -- and there are as many lent numbers as before
  pub written_length : length (ticks_written a h d) ≡ length d
  unfolding ticks_written
  written_length =
      by_row (tick_questions a h) answer
      (λ (b : Bool) (r : Result ℕ Refusal). length (cond b (lent_after (ticks_of a h) d) d) ≡ length d)
      (length_after (ticks_of a h) d) (λ _. refl)

-- what a count, a list and the part that is handed back rest on
pub ruleset counting = (made_answer, refused_answer)

pub ruleset listing = (made_sound, made_answer, made_written, refused_answer, refused_written)

pub ruleset handing = (in_lent, handed_is)
