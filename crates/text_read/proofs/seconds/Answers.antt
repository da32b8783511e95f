-- `text_read::seconds` meets its contract: the digits before the point and the fraction behind them decide.
-- Assumes nothing.
use Rattle.text_read.specs.Fields.{seconds_of}
use Rattle.text_read.proofs.seconds.Goals as goal

pub returns-in_err-seconds-clause-value : goal.returns-in_err-seconds-clause-value
unfolding seconds_of
returns-in_err-seconds-clause-value c = let n = rw (c.split_at.ensures.front, c.until.ensures.value) at c.digits.ensures.value in
    rw (c.from_residual.ensures, ← n, c.in_err-seconds.was)

pub returns-in_err-nano-clause-value : goal.returns-in_err-nano-clause-value
unfolding seconds_of
returns-in_err-nano-clause-value c = let n = rw (c.split_at.ensures.front, c.until.ensures.value) at c.digits.ensures.value in
    let q = rw (c.split_at.ensures.back, c.until.ensures.value) at c.fraction.ensures.value in
    rw (c.from_residual-in_err-nano.ensures, ← n, c.in_ok-seconds.was, ← q, c.in_err-nano.was)

pub returns-clause-value : goal.returns-clause-value
unfolding seconds_of
returns-clause-value c = let n = rw (c.split_at.ensures.front, c.until.ensures.value) at c.digits.ensures.value in
    let q = rw (c.split_at.ensures.back, c.until.ensures.value) at c.fraction.ensures.value in
    rw (← n, c.in_ok-seconds.was, ← q, c.in_ok-nano.was)
