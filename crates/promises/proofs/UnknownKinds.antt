-- On an axis of no kind each call answers 1, and changes no lent number; house rules ask the table before. Assumes nothing.
use mathlib.Core.Path.{◌≡◌, ap, ◌∙◌}
use mathlib.Core.Bool.{false}
use mathlib.Core.List.{List, []}
use Prim.Native.Nat.{ℕ}
use lib.IntN.{ℤ}
use Rattle.std.specs.Prelude.{Err}
use Rattle.asking.specs.declared.Refusal.TheVariants as refusal
use Rattle.asking.specs.Asking.{asked}
use Rattle.asking.proofs.Asked.{asked_append, passes_append}
use Rattle.laws.proofs.Tests.{and_false}
use Rattle.values.specs.declared.Value.{Value}
use Rattle.axis.specs.declared.Axis.{Axis}
use Rattle.axis.specs.declared.Hint.{Hint}
use Rattle.axis.specs.declared.Limits.{Limits}
use Rattle.axis.specs.Questions.{known, plain_questions}
use Rattle.mapping.specs.Mapping.{mapped}
use Rattle.ticks.specs.Answers.{ticks_answer, ticks_written, ticks_handed}
use Rattle.segmented.specs.Answers.{segment_ticks_answer, segment_ticks_written}
use Rattle.rules.specs.Table.{table_questions}
use Rattle.steps.specs.Listing.{listed_of, lent_after}
use Rattle.ruled.specs.Answers.{has_rules, ruled_on, ruled_answer, ruled_written}

module _ (a : Axis) (none : known a ≡ false) where
  pub ticks_refused : (h : Hint) (k : ℕ) → ticks_answer a h k ≡ Err refusal.Kind
  unfolding ticks_answer
  ticks_refused h k = rw none

  pub ticks_kept : (h : Hint) (d : List ℤ) → ticks_written a h d ≡ d
  unfolding ticks_written
  ticks_kept h d = rw none

  pub none_handed : (h : Hint) (k : ℕ) → ticks_handed a h k ≡ []
  unfolding ticks_handed
  none_handed h k = rw none

  pub segment_ticks_refused : (h : Hint) (k : ℕ) → segment_ticks_answer a h k ≡ Err refusal.Kind
  unfolding segment_ticks_answer
  segment_ticks_refused h k = rw none

  pub segment_ticks_kept : (h : Hint) (d : List ℤ) → segment_ticks_written a h d ≡ d
  unfolding segment_ticks_written
  segment_ticks_kept h d = rw none

  pub map_refused : (l : Limits) (v : Value) → mapped a l v ≡ Err refusal.Kind
  unfolding mapped
  map_refused l v = rw none

  -- the table's refusal, if there is one, stands before it
  pub ruled_refused : (t : List ℕ) (k : ℕ) → ruled_answer t a k ≡ asked (table_questions t) (Err refusal.Kind)
  unfolding ruled_answer
  ruled_refused t k =
      asked_append (table_questions t) (plain_questions (has_rules a) a) (listed_of (ruled_on t a) k) ∙ rw none

  pub ruled_kept : (t : List ℕ) (d : List ℤ) → ruled_written t a d ≡ d
  unfolding ruled_written
  ruled_kept t d = rw (passes_append (table_questions t) (plain_questions (has_rules a) a), none, and_false)
