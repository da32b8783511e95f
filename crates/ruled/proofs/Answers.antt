-- What the questions of a ruled call tell where none refuses, and what its plan answers and writes. Assumes nothing.
use mathlib.Core.Path.{◌≡◌, refl, sym, ap, ◌∙◌}
use mathlib.Core.Bool.{Bool, true, false, cond}
use mathlib.Core.List.{List}
use Prim.Native.Nat.{ℕ, ◌*◌, ◌≤◌}
use native.Mathlib.Omega.{arith}
use lib.IntN.{ℤ}
use lib.ListN.{length}
use Rattle.std.specs.Prelude.{⊤, Some, Result, Ok, Err}
use Rattle.asking.specs.declared.Refusal.{Refusal}
use Rattle.asking.specs.Asking.{passes}
use Rattle.asking.proofs.Asked.{told, passes_append, passed, refused}
use Rattle.laws.proofs.Tests.{both_true}
use Rattle.values.specs.Values.{is_duration}
use Rattle.values.proofs.Values.{dates_no_duration}
use Rattle.axis.specs.declared.Axis.{Axis}
use Rattle.axis.specs.Axes.{closed}
use Rattle.axis.specs.Questions.{ends, plain_questions}
use Rattle.counting.specs.Counting.{Dated}
use Rattle.counting.proofs.Counting.{closed_dated, from_range, to_range}
use Rattle.steps.specs.declared.Steps.{Steps}
use Rattle.steps.specs.Progression.{ticks, Sound}
use Rattle.steps.specs.Listing.{listed_of, lent_after, count_of}
use Rattle.steps.proofs.Fronts.{within_lent, length_after}
use Rattle.ticks.proofs.Answers.{by_row}
use Rattle.rules.specs.declared.Row.{Row}
use Rattle.rules.specs.Rows.{InRange}
use Rattle.rules.specs.Table.{rows_in, table_questions}
use Rattle.rules.proofs.Judged.{row_found}
use Rattle.ruled.specs.Answers.{has_rules, ruled_questions, length_of, row_on, ticks_by, ruled_on, ruled_answer, ruled_written}
use Rattle.ruled.specs.Plans.{ruled_plan, RuledFor}
use Rattle.ruled.proofs.Ruled.{ruled_same, ruled_sound}

-- ---- an axis and a table that are not refused
module _ (table : List ℕ) (a : Axis) where
  -- the rows of questions, one by one
  pub of_two : passes (ruled_questions table a) ≡ true →
      (passes (table_questions table) ≡ true) × (passes (plain_questions (has_rules a) a) ≡ true)
  of_two z =
      both_true (passes (table_questions table)) (passes (plain_questions (has_rules a) a))
      (sym (passes_append (table_questions table) (plain_questions (has_rules a) a)) ∙ z)

  module _ (z : passes (ruled_questions table a) ≡ true) where
    pub real : ends a ≡ true
    real = told 3 (plain_questions (has_rules a) a) (of_two z).1

    dates : is_duration a.kind ≡ false
    unfolding has_rules
    dates = dates_no_duration a.kind (told 2 (plain_questions (has_rules a) a) (of_two z).1)

    pub dated : Dated (closed a)
    dated = closed_dated a (has_rules a) dates (of_two z).1

    -- the row for its length is found, and in range
    pub row_fine : (w : Row) × (row_on (rows_in table) (closed a) ≡ Some w) × InRange w
    row_fine =
        row_found table (sym (passed (table_questions table) (Ok tt) (of_two z).0)) (length_of (closed a))
        (omega (arith, from_range (closed a) dated, to_range (closed a) dated))

    module _ {w : Row} (f : row_on (rows_in table) (closed a) ≡ Some w) where
      fine : InRange w
      fine = let (v, e, r) = row_fine in let s : v ≡ w = cc in rw s at r

      pub same : ruled_on table a ≡ ticks (ruled_plan w.unit w.step (closed a))
      unfolding ruled_on
      same = ap (λ o. ticks_by o (closed a)) f ∙ ruled_same w.unit w.step (closed a) dated fine.step

      sound : Sound (ruled_plan w.unit w.step (closed a))
      sound = ruled_sound w.unit w.step (closed a) dated fine.step fine.short

-- ---- a plan that was made for a table and an axis
module _ (table : List ℕ) (a : Axis) (p : Steps) (f : RuledFor table a (Ok p)) where
  pub made_sound : Sound p
  made_sound = let (w, e, q) = f.1 in rw q (sound table a f.0 e)

  listed : ticks p ≡ ruled_on table a
  listed = let (w, e, q) = f.1 in ap ticks q ∙ sym (same table a f.0 e)

  pub made_answer : (k : ℕ) → listed_of (ticks p) k ≡ ruled_answer table a k
  unfolding ruled_answer
  made_answer k =
      ap (λ l. listed_of l k) listed ∙ passed (ruled_questions table a) (listed_of (ruled_on table a) k) f.0

  pub made_written : (d : List ℤ) → lent_after (ticks p) d ≡ ruled_written table a d
  unfolding ruled_written
  made_written d = ap (λ l. lent_after l d) listed ∙ rw f.0

-- ---- no plan, since a question refuses
module _ (table : List ℕ) (a : Axis) (q : Refusal) (f : RuledFor table a (Err q)) where
  pub refused_answer : (k : ℕ) → Err q ≡ ruled_answer table a k
  unfolding ruled_answer
  refused_answer k = refused (ruled_questions table a) tt (listed_of (ruled_on table a) k) q f

  pub refused_written : (d : List ℤ) → d ≡ ruled_written table a d
  unfolding ruled_written
  refused_written d =
      by_row {A = ⊤} (ruled_questions table a) (Ok tt)
      (λ (b : Bool) (r : Result ⊤ Refusal). r ≡ Err q → d ≡ cond b (lent_after (ruled_on table a) d) d)
      (λ e. absurd (let z : ⊥ = cc in z)) (λ _ _. refl) f

-- ---- the lent numbers
module _ (table : List ℕ) (a : Axis) (d : List ℤ) where
  -- the list is no longer than they are
  pub in_lent : 2 * count_of (ruled_answer table a (length d)) ≤ length d
  unfolding ruled_answer
  in_lent =
      by_row (ruled_questions table a) (listed_of (ruled_on table a) (length d))
      (λ (b : Bool) (r : Result ℕ Refusal). 2 * count_of r ≤ length d) (within_lent (ruled_on table a) d) (λ _. omega arith)

  -- and there are as many as before
  pub written_length : length (ruled_written table a d) ≡ length d
  unfolding ruled_written
  written_length =
      by_row (ruled_questions table a) (listed_of (ruled_on table a) (length d))
      (λ (b : Bool) (r : Result ℕ Refusal). length (cond b (lent_after (ruled_on table a) d) d) ≡ length d)
      (length_after (ruled_on table a) d) (λ _. refl)

-- what listing knows of the plan
pub ruleset listing = (made_sound, made_answer, made_written, refused_written)
