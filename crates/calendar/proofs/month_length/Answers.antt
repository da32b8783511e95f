-- `calendar::month_length` meets its contract. Assumes nothing.
use borrow.Author.Tests.{ne_eqb}
use native.Mathlib.Nat.{add-zero}
use native.Mathlib.Omega.{arith}
use Rattle.calendar.specs.Gregorian.{month_length}
use Rattle.calendar.proofs.Formulas.{leap_day_le}
use Rattle.calendar.proofs.month_length.Goals as goal

pub overflow_add-result : goal.overflow_add-result
overflow_add-result c = omega (arith, leap_day_le c.args.y)

pub returns-then-m-eq2 : goal.returns-then-m-eq2
unfolding month_length
returns-then-m-eq2 c = rw (c.if-m-eq2.true, c.leap_day.ensures)

pub returns : goal.returns
unfolding month_length
returns c = simp (ne_eqb _ _ c.if-m-eq2.false, c.from.ensures, add-zero)
