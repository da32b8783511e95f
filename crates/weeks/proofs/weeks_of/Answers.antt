-- `weeks::weeks_of` meets its contract, by the law of a year's Thursdays. Assumes nothing.
use native.Mathlib.Omega.{arith}
use Rattle.calendar.proofs.Formulas.{leap_day_le}
use Rattle.weeks.proofs.Weeks.{weeks_is}
use Rattle.weeks.proofs.weeks_of.Goals as goal

pub overflow_add-result-2 : goal.overflow_add-result-2
overflow_add-result-2 c = omega (arith, c.leap_day.ensures, leap_day_le c.args.y)

pub returns : goal.returns
returns c = let (t, m) = c.third-t.ensures in
    let l = c.leap_day.ensures in
    rw (t, l) (omega (arith, weeks_is c.args.y c.requires.0))
