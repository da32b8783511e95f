-- `text_read::digits` meets its contract: n is the value of the digits before b, and what is left decides. Assumes nothing.
use borrow.Author.Rules.{rules}
use mathlib.Core.Path.{◌≡◌, sym, ◌∙◌}
use mathlib.Core.Bool.{true}
use Prim.Native.Nat.{◌^◌, ◌≤◌, ◌<◌}
use native.Mathlib.Omega.{arith}
use lib.ListN.{length, get_or}
use Rattle.text_read.specs.Bytes.{zero_byte, nine_byte}
use Rattle.text_read.specs.Fields.{is_digit}
use Rattle.text_read.proofs.Fields.{digit_on, digit_not, digits_end, digits_start, digits_refused, grow, below, digit_value}
use Rattle.text_read.proofs.digits.Goals as goal
use Rattle.text_read.proofs.digits.Goals.{Else-not-is_ascii_digit}

pub returns-then-s-eq0-clause-value : goal.returns-then-s-eq0-clause-value
returns-then-s-eq0-clause-value c = sym (digits_refused _ c.then-s-eq0.either)

pub loop-b-init : goal.loop-b-init
loop-b-init c = (search rules, digits_start _ (omega arith) (omega arith))

pub returns-then-not-is_ascii_digit-clause-value : goal.returns-then-not-is_ascii_digit-clause-value
returns-then-not-is_ascii_digit-clause-value c = let e = sym c.is_ascii_digit.ensures.value ∙ c.if-not-is_ascii_digit.true in
    sym (c.loop-b.invariant.1 ∙ digit_not _ _ c.loop-b-test.true _ e)

-- the byte, which was a digit
digit : (c : Else-not-is_ascii_digit) → let b = get_or c.args.s.now c.loop-b.b-index 0 in
    (is_digit b ≡ true) × ((zero_byte ≤ b) × (b ≤ nine_byte))
digit c = let e = sym c.is_ascii_digit.ensures.value ∙ c.if-not-is_ascii_digit.false in (e, digit_value _ e)

few : (c : Else-not-is_ascii_digit) → c.loop-b.n < 10 ^ 12
few c = let l = c.loop-b in below l.n l.b-index l.invariant.0 (omega arith)

pub overflow_mul-n : goal.overflow_mul-n
overflow_mul-n c = omega (arith, few (goal.at.overflow_mul-n c).Else-not-is_ascii_digit)

pub overflow_add-n : goal.overflow_add-n
overflow_add-n c =
    omega (
      arith,
      (digit (goal.at.overflow_add-n c).Else-not-is_ascii_digit).1,
      few (goal.at.overflow_add-n c).Else-not-is_ascii_digit,
      c.from.ensures,
    )

pub loop-b-preserved : goal.loop-b-preserved
loop-b-preserved c = let l = c.loop-b in
    let d = digit (goal.at.loop-b-preserved c).Else-not-is_ascii_digit in
    rw c.from.ensures (
      grow _ _ _ l.invariant.0 (omega (arith, d.1)),
      l.invariant.1 ∙ digit_on _ _ c.loop-b-test.true _ d.0,
    )

pub returns-clause-value : goal.returns-clause-value
returns-clause-value c = let l = c.loop-b in
    sym (l.invariant.1 ∙ digits_end l.n _ l.b-index c.loop-b-test.false)

pub returns-clause-digits : goal.returns-clause-digits
returns-clause-digits c = let l = c.loop-b in
    let s = c.args.s.now in
    let all : l.b-index ≡ length s = omega arith in (below _ _ l.invariant.0 (omega arith), rw (← all) l.invariant.0)
