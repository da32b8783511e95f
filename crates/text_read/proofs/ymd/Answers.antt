-- `text_read::ymd` meets its contract: the numbers, read back from their bits, are themselves. Assumes nothing.
use native.Mathlib.Omega.{arith}
use Rattle.laws.proofs.Signed.{read_count}
use Rattle.text_read.proofs.ymd.Goals as goal

pub returns-in_err-year-clause-value : goal.returns-in_err-year-clause-value
returns-in_err-year-clause-value c = rw (c.from_residual.ensures, ← c.triple.ensures.value, c.in_err-year.was)

pub returns-clause-value : goal.returns-clause-value
returns-clause-value c = let (y, m, d) = c.in_ok-year.ensures.typed_three in
    rw (
      read_count c.in_ok-year.year (omega arith),
      read_count c.in_ok-year.month (omega arith),
      read_count c.in_ok-year.day (omega arith),
      ← c.triple.ensures.value,
      c.in_ok-year.was,
    )

pub returns-clause-typed_date : goal.returns-clause-typed_date
returns-clause-typed_date c = let (y, m, d) = c.in_ok-year.ensures.typed_three in
    rw (
      read_count c.in_ok-year.year (omega arith),
      read_count c.in_ok-year.month (omega arith),
      read_count c.in_ok-year.day (omega arith),
    ) (record { year = y; month = m; day = d })
