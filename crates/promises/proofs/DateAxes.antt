-- An axis of kind 1 between two days in order passes the questions of a list. Assumes nothing.
use mathlib.Core.Path.{◌≡◌}
use mathlib.Core.Bool.{true}
use Prim.Native.Nat.{ℕ, ◌≤◌}
use native.Mathlib.Omega.{arith}
use lib.Dec.{leb}
use lib.IntN.{pos}
use borrow.Author.Tests.{le-leb, le-ltb}
use Rattle.asking.specs.Asking.{passes}
use Rattle.laws.proofs.Tests.{and_false}
use Rattle.values.specs.declared.Kind.TheVariants as kind
use Rattle.values.specs.Values.{is_value, earlier, midnight}
use Rattle.axis.specs.declared.Axis.{Axis}
use Rattle.axis.specs.declared.BoldPoints.{BoldPoints}
use Rattle.axis.specs.declared.Hint.TheVariants.{Bold}
use Rattle.axis.specs.Questions.{ends, in_order, excludable, near_or_long, is_count, hint_on, bold_hint}
use Rattle.ticks.specs.Answers.{tick_questions}
use Rattle.promises.specs.Examples.{axis_from}

module _ (s e : ℕ) (first : 1 ≤ s) (order : s ≤ e) (last : e ≤ 3652059) where
  abbrev a : Axis
  a = axis_from kind.Date (midnight (pos s)) (midnight (pos e))

  real : ends a ≡ true
  unfolding ends is_value
  real =
      let x = le-leb s 3652059 (omega arith) in
      let y = le-leb 1 e (omega arith) in
      rw (le-leb 1 s first, x, y, le-leb e 3652059 last)

  in_order_law : in_order a ≡ true
  unfolding in_order earlier
  in_order_law = rw (le-ltb e s order, and_false (leb e s))

  hint : (h : BoldPoints) → is_count h.n ≡ true → hint_on a (Bold h) ≡ true
  unfolding bold_hint
  hint h c = rw c

  pub dates_accepted : (h : BoldPoints) → is_count h.n ≡ true → passes (tick_questions a (Bold h)) ≡ true
  unfolding excludable near_or_long
  dates_accepted h c = rw (real, in_order_law, hint h c)
