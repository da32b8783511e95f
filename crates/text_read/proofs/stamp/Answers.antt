-- `text_read::stamp` meets its contract: 19 bytes and a T, and the numbers of the date, the time and the fraction decide.
-- Assumes nothing.
use borrow.Author.Tests.{eq-eqb, ne_eqb, lt-ltb, le-ltb}
use Rattle.text_read.specs.Fields.{read_stamp}
use Rattle.text_read.proofs.Fields.{drop_take}
use Rattle.text_read.proofs.stamp.Goals as goal
use Rattle.text_read.proofs.stamp.Goals.{then-k-lt19-via-then-k-lt19, then-k-lt19-via-else-k-lt19+then-s-ne84}

pub returns-then-k-lt19-clause-value : goal.returns-then-k-lt19-clause-value
unfolding read_stamp
returns-then-k-lt19-clause-value c = elim c.then-k-lt19.branch [
  | then-k-lt19-via-then-k-lt19 w ↦ rw (← c.until-k.ensures.value, lt-ltb _ _ w.if-k-lt19.true)
  | then-k-lt19-via-else-k-lt19+then-s-ne84 w ↦
      rw (← c.until-k.ensures.value, le-ltb _ 19 w.if-k-lt19.false, ne_eqb _ _ w.if-s-ne84.true)
]

pub returns-in_err-date-clause-value : goal.returns-in_err-date-clause-value
unfolding read_stamp
returns-in_err-date-clause-value c =
    rw (
      c.from_residual.ensures,
      ← c.until-k.ensures.value,
      le-ltb _ 19 c.if-k-lt19.false,
      eq-eqb _ _ c.if-s-ne84.false,
      ← c.ymd.ensures.value,
      c.in_err-date.was,
    )

pub returns-in_err-hour-clause-value : goal.returns-in_err-hour-clause-value
unfolding read_stamp
returns-in_err-hour-clause-value c =
    rw (
      c.from_residual-in_err-hour.ensures,
      ← c.until-k.ensures.value,
      le-ltb _ 19 c.if-k-lt19.false,
      eq-eqb _ _ c.if-s-ne84.false,
      ← c.ymd.ensures.value,
      c.in_ok-date.was,
      ← c.triple.ensures.value,
      c.in_err-hour.was,
    )

pub returns-in_err-nano-clause-value : goal.returns-in_err-nano-clause-value
unfolding read_stamp
returns-in_err-nano-clause-value c =
    rw (
      c.from_residual-in_err-nano.ensures,
      ← c.until-k.ensures.value,
      le-ltb _ 19 c.if-k-lt19.false,
      eq-eqb _ _ c.if-s-ne84.false,
      ← c.ymd.ensures.value,
      c.in_ok-date.was,
      ← c.triple.ensures.value,
      c.in_ok-hour.was,
      drop_take,
      ← c.fraction.ensures.value,
      c.in_err-nano.was,
    )

pub returns-clause-value : goal.returns-clause-value
unfolding read_stamp
returns-clause-value c =
    rw (
      ← c.until-k.ensures.value,
      le-ltb _ 19 c.if-k-lt19.false,
      eq-eqb _ _ c.if-s-ne84.false,
      ← c.ymd.ensures.value,
      c.in_ok-date.was,
      ← c.triple.ensures.value,
      c.in_ok-hour.was,
      drop_take,
      ← c.fraction.ensures.value,
      c.in_ok-nano.was,
    )
