-- `axis::tail_most` meets its contract. Assumes nothing.
use mathlib.Core.Path.{sym, ◌∙◌}
use Rattle.axis.proofs.tail_most.Goals as goal

pub returns-then-over_dates : goal.returns-then-over_dates
returns-then-over_dates c = rw (sym c.over_dates.ensures ∙ c.if-over_dates.true)

pub returns-else-over_dates : goal.returns-else-over_dates
returns-else-over_dates c = rw (sym c.over_dates.ensures ∙ c.if-over_dates.false)
