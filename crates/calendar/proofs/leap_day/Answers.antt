-- `calendar::leap_day` meets its contract: each return rewrites the definition by the tests that led there. Assumes nothing.
use borrow.Author.Tests.{eq-eqb, ne_eqb}
use Rattle.calendar.specs.Gregorian.{leap_day}
use Rattle.calendar.proofs.leap_day.Goals as goal

pub returns-then-y-ne0 : goal.returns-then-y-ne0
unfolding leap_day
returns-then-y-ne0 c = simp (ne_eqb _ _ c.if-y-ne0.true)

pub returns-then-y-ne0-2 : goal.returns-then-y-ne0-2
unfolding leap_day
returns-then-y-ne0-2 c = simp (eq-eqb _ _ c.if-y-ne0.false, ne_eqb _ _ c.if-y-ne0-2.true)

pub returns-then-y-eq0 : goal.returns-then-y-eq0
unfolding leap_day
returns-then-y-eq0 c = simp (eq-eqb _ _ c.if-y-ne0.false, eq-eqb _ _ c.if-y-ne0-2.false, eq-eqb _ _ c.if-y-eq0.true)

pub returns-else-y-eq0 : goal.returns-else-y-eq0
unfolding leap_day
returns-else-y-eq0 c = simp (eq-eqb _ _ c.if-y-ne0.false, eq-eqb _ _ c.if-y-ne0-2.false, ne_eqb _ _ c.if-y-eq0.false)
