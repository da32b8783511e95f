-- `text_read::triple` meets its contract. Assumes nothing.
use borrow.Author.Tests.{eq-eqb, ne_eqb}
use mathlib.Core.Path.{◌≡◌}
use Prim.Native.Nat.{◌+◌, ◌-◌}
use native.Mathlib.Omega.{arith}
use Rattle.text_read.specs.Fields.{triple_of}
use Rattle.text_read.proofs.triple.Goals as goal
use Rattle.text_read.proofs.triple.Goals.{then-s-w-via-then-s-w, then-s-w-via-else-s-w+then-s-w-2}

pub returns-then-s-w-clause-value : goal.returns-then-s-w-clause-value
unfolding triple_of
returns-then-s-w-clause-value c = elim c.then-s-w.branch [
  | then-s-w-via-then-s-w w ↦ rw (ne_eqb _ _ w.if-s-w.true)
  | then-s-w-via-else-s-w+then-s-w-2 w ↦ rw (eq-eqb _ _ w.if-s-w.false, ne_eqb _ _ w.if-s-w-2.true)
]

pub returns-in_err-a-clause-value : goal.returns-in_err-a-clause-value
unfolding triple_of
returns-in_err-a-clause-value c =
    rw (c.from_residual.ensures, eq-eqb _ _ c.if-s-w.false, eq-eqb _ _ c.if-s-w-2.false, ← c.digits.ensures.value, c.in_err-a.was)

pub returns-in_err-b-clause-value : goal.returns-in_err-b-clause-value
unfolding triple_of
returns-in_err-b-clause-value c = let w = c.args.w in
    let two : (w + 3) - (w + 1) ≡ 2 = omega arith in
    let b = rw two at c.digits-2.ensures.value in
    rw (
      c.from_residual-in_err-b.ensures,
      eq-eqb _ _ c.if-s-w.false,
      eq-eqb _ _ c.if-s-w-2.false,
      ← c.digits.ensures.value,
      c.in_ok-a.was,
      ← b,
      c.in_err-b.was,
    )

pub returns-in_err-c-clause-value : goal.returns-in_err-c-clause-value
unfolding triple_of
returns-in_err-c-clause-value c = let w = c.args.w in
    let two : (w + 3) - (w + 1) ≡ 2 = omega arith in
    let b = rw two at c.digits-2.ensures.value in
    let two-more : (w + 6) - (w + 4) ≡ 2 = omega arith in
    let d = rw two-more at c.digits-3.ensures.value in
    rw (
      c.from_residual-in_err-c.ensures,
      eq-eqb _ _ c.if-s-w.false,
      eq-eqb _ _ c.if-s-w-2.false,
      ← c.digits.ensures.value,
      c.in_ok-a.was,
      ← b,
      c.in_ok-b.was,
      ← d,
      c.in_err-c.was,
    )

pub returns-clause-value : goal.returns-clause-value
unfolding triple_of
returns-clause-value c = let w = c.args.w in
    let two : (w + 3) - (w + 1) ≡ 2 = omega arith in
    let b = rw two at c.digits-2.ensures.value in
    let two-more : (w + 6) - (w + 4) ≡ 2 = omega arith in
    let d = rw two-more at c.digits-3.ensures.value in
    rw (
      eq-eqb _ _ c.if-s-w.false,
      eq-eqb _ _ c.if-s-w-2.false,
      ← c.digits.ensures.value,
      c.in_ok-a.was,
      ← b,
      c.in_ok-b.was,
      ← d,
      c.in_ok-c.was,
    )
