-- `steps::whole_month` meets its contract. Assumes nothing.
use mathlib.Core.Path.{◌≡◌, ◌∙◌, ap}
use native.Mathlib.Omega.{arith}
use borrow.Author.Tests.{lt-ltb, le-ltb}
use Rattle.calendar.specs.declared.Date.{Date}
use Rattle.calendar.specs.Gregorian.{date_of}
use Rattle.steps.specs.Months.{month_number, month_of, whole_month}
use Rattle.steps.proofs.Months.{date_ranges, in_month}
use Rattle.steps.proofs.whole_month.Goals as goal
use Rattle.steps.proofs.whole_month.Goals.{After-month_number-m}

pub month_number-m-requires : goal.month_number-m-requires
month_number-m-requires c = rw c.date_of-d.ensures (date_ranges c.args.day c.requires.0 c.requires.1)

month : (c : After-month_number-m) → c.month_number-m.result ≡ month_of c.args.day
unfolding month_of
month c = c.month_number-m.ensures ∙ ap (λ (t : Date). month_number t.year t.month) c.date_of-d.ensures

pub overflow_add-result : goal.overflow_add-result
overflow_add-result c =
    omega (
      arith,
      month (goal.at.overflow_add-result c).After-month_number-m,
      (in_month c.args.day c.requires.0 c.requires.1).known,
    )

pub returns-then-d-gt1 : goal.returns-then-d-gt1
unfolding whole_month
returns-then-d-gt1 c = rw (
  month (goal.at.returns-then-d-gt1 c).After-month_number-m,
  lt-ltb 1 (date_of c.args.day).day
      (rw c.date_of-d.ensures at c.if-d-gt1.true),
)

pub returns-else-d-gt1 : goal.returns-else-d-gt1
unfolding whole_month
returns-else-d-gt1 c = rw (
  month (goal.at.returns-else-d-gt1 c).After-month_number-m,
  le-ltb 1 (date_of c.args.day).day
      (rw c.date_of-d.ensures at c.if-d-gt1.false),
) (omega arith)
