-- `text_line::on_day` meets its contract: the numbers of a day, read back from their bits, are themselves. Assumes nothing.
use mathlib.Core.Path.{sym, ◌∙◌}
use Prim.Native.Nat.{◌≤◌, ◌<◌, ◌^◌}
use native.Mathlib.Omega.{arith}
use Rattle.laws.proofs.Signed.{count_fits, read_count}
use Rattle.calendar.specs.Questions.{last_day}
use Rattle.calendar.proofs.Questions.{number_range}
use Rattle.text_line.specs.Line.{on_day}
use Rattle.text_line.proofs.on_day.Goals as goal
use Rattle.text_line.proofs.on_day.Goals.{In-Ok}

pub returns-in-Err : goal.returns-in-Err
unfolding on_day
returns-in-Err c = rw (← c.number_of.ensures, c.in-Err.is)

-- the answer's number is a day's
day_most : (c : In-Ok) → c.in-Ok.n ≤ last_day
day_most c = number_range _ c.in-Ok.n (sym c.number_of.ensures ∙ c.in-Ok.is)

pub returns-in-Ok : goal.returns-in-Ok
unfolding on_day
returns-in-Ok c = let nano = c.args.nano in
    let short : nano < 2 ^ 63 = omega arith in
    rw (
      read_count c.in-Ok.n (omega (arith, day_most (goal.at.returns-in-Ok c).In-Ok)),
      read_count nano short,
      ← c.number_of.ensures,
      c.in-Ok.is,
    )

pub overflow_cast-result : goal.overflow_cast-result
overflow_cast-result c = count_fits _ (omega (arith, day_most (goal.at.overflow_cast-result c).In-Ok))
