-- A list's fractions and lines, one more for each tick; that every tick of a list that is handed back has a text and its
-- room; and the answer to a line by its cases. Assumes nothing.
use mathlib.Core.Path.{◌≡◌, refl, sym, ◌∙◌}
use mathlib.Core.Bool.{true, false}
use mathlib.Core.List.{List, [], ◌++◌}
use Prim.Native.Nat.{ℕ, ◌+◌, ◌*◌, ◌/◌, ◌≤◌}
use native.Mathlib.Numerals.{add-one}
use native.Mathlib.Omega.{arith}
use lib.IntN.{ℤ}
use lib.ListN.{length}
use borrow.Author.Tests.{le-leb}
use Rattle.std.specs.Prelude.{⊤, Some, None, Ok, Err}
use Rattle.asking.specs.declared.Refusal.{Refusal}
use Rattle.asking.specs.declared.Refusal.TheVariants as refusal
use Rattle.asking.specs.Asking.{asked, passes}
use Rattle.asking.proofs.Asked.{refused, passed}
use Rattle.laws.specs.Numbers.{pos_part}
use Rattle.axis.specs.declared.Axis.{Axis}
use Rattle.axis.specs.declared.BoldPoints.{BoldPoints}
use Rattle.axis.specs.declared.Limits.{Limits}
use Rattle.steps.specs.Listing.{numbers, listed_of}
use Rattle.steps.proofs.Pairs.{length_numbers}
use Rattle.plans.specs.Plans.{Accepted}
use Rattle.axis.specs.declared.Hint.TheVariants.{Bold}
use Rattle.ticks.specs.Answers.{tick_questions, ticks_of, ticks_answer, ticks_handed}
use Rattle.ticks.proofs.Hints.{accepted}
use Rattle.ticks.proofs.Promise.{ticks_fine}
use Rattle.ticks.proofs.Values.{tick_value}
use Rattle.text_line.specs.declared.Request.{Request}
use Rattle.text_line.specs.Line.{read_line}
use Rattle.text_write.specs.Rows.{refusal_text}
use Rattle.text_rows.specs.Answers.{fraction_before, tick_row, ticks_text, Printable, list_text}
use Rattle.text_rows.specs.Answers.{request_text, rows_of}

-- ---- the fractions of a list, and its lines, tick by tick
module _ (list : List ℤ) where
  pub no_fraction : fraction_before list 0 ≡ false
  unfolding fraction_before
  no_fraction = refl

module _ (number : ℕ) (a : Axis) (l : Limits) (list : List ℤ) where
  pub no_ticks : ticks_text number a l list 0 ≡ []
  unfolding ticks_text
  no_ticks = refl

  pub one_more : (k : ℕ) → ticks_text number a l list (k + 1) ≡ ticks_text number a l list k ++ tick_row number a l list k
  unfolding ticks_text
  one_more k = rw (add-one k)

-- ---- a list that is handed back
module _ (a : Axis) (h : BoldPoints) (z : passes (tick_questions a (Bold h)) ≡ true) where
  fine_axis : Accepted a (pos_part h.n)
  fine_axis = accepted a (Bold h) z

  -- at most 4,097 ticks, so 8,194 numbers have room for them
  room : 2 * length (ticks_of a (Bold h)) ≤ 8194
  room = omega (arith, (ticks_fine a (Bold h) z).few, length_numbers (ticks_of a (Bold h)), fine_axis.most)

  pub has_list : ticks_answer a (Bold h) 8194 ≡ Ok (length (ticks_of a (Bold h)))
  unfolding ticks_answer
  has_list =
      let l = ticks_of a (Bold h) in
      sym (passed (tick_questions a (Bold h)) (listed_of l 8194) z) ∙ rw (le-leb (2 * length l) 8194 room)

  pub handed : ticks_handed a (Bold h) 8194 ≡ numbers (ticks_of a (Bold h))
  unfolding ticks_handed
  handed = rw (z, le-leb (2 * length (ticks_of a (Bold h))) 8194 room)

  -- of 75 bytes at most
  pub few : 75 * (length (ticks_handed a (Bold h) 8194) / 2) ≤ 307275
  few = rw handed (omega (arith, (ticks_fine a (Bold h) z).few, fine_axis.most))

  pub printable : Printable a.kind (ticks_handed a (Bold h) 8194)
  printable = rw handed (λ i k. tick_value a (Bold h) z i (omega arith))

-- ---- the lines that answer a request, and a line
module _ (number : ℕ) (q : Request) where
  pub request_refused : (u : ⊤) (r : Refusal) → asked (tick_questions q.axis (Bold q.hint)) (Ok u) ≡ Err r →
      request_text number q ≡ refusal_text number r
  unfolding request_text ticks_answer
  request_refused u r e =
      rw (← refused (tick_questions q.axis (Bold q.hint)) u (listed_of (ticks_of q.axis (Bold q.hint)) 8194) r e)

  pub request_listed : passes (tick_questions q.axis (Bold q.hint)) ≡ true → request_text number q
      ≡ list_text number q.axis q.limits (ticks_handed q.axis (Bold q.hint) 8194)
  unfolding request_text
  request_listed z = rw (has_list q.axis q.hint z)

module _ (number : ℕ) (s : List ℕ) where
  pub line_read : (q : Request) → read_line s ≡ Some q → rows_of number s ≡ request_text number q
  unfolding rows_of
  line_read q e = rw e

  pub line_unread : read_line s ≡ None → rows_of number s ≡ refusal_text number refusal.Table
  unfolding rows_of
  line_unread e = rw e
