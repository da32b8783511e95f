-- `weeks::week_day` meets its contract: week 1 has the first Thursday. Assumes nothing.
use native.Mathlib.Omega.{arith}
use Rattle.weeks.proofs.Weeks.{weeks_range, week_day_is}
use Rattle.weeks.proofs.week_day.Goals as goal

pub overflow_add-result : goal.overflow_add-result
overflow_add-result c = let k = c.requires.0 in omega (arith, k.last, weeks_range _ k.year, c.third.ensures.1)

pub overflow_mul-result : goal.overflow_mul-result
overflow_mul-result c = let k = c.requires.0 in omega (arith, k.last, weeks_range _ k.year, c.third.ensures.1)

pub overflow_add-result-2 : goal.overflow_add-result-2
overflow_add-result-2 c = let k = c.requires.0 in omega (arith, k.last, k.within, weeks_range _ k.year, c.third.ensures.1)

pub returns : goal.returns
returns c = let x = c.args in
    let k = c.requires.0 in
    rw c.third.ensures.0 (omega (arith, k.week, week_day_is x.y x.w x.d k.week k.day))
