-- `calendar::day_number` meets its contract, by the law of the days since March. Assumes nothing.
use native.Mathlib.Omega.{arith}
use lib.Dec.{ltb}
use Rattle.calendar.proofs.Formulas.{flag_le, number_is, month_length_le}
use Rattle.calendar.proofs.day_number.Goals as goal

pub overflow_add-result-5 : goal.overflow_add-result-5
overflow_add-result-5 c = omega (arith, flag_le (ltb c.args.m 3), month_length_le c.args.y c.args.m c.requires.0.last)

pub returns : goal.returns
returns c = omega (arith, number_is c.args.y c.args.m c.args.d c.requires.0 c.requires.1)
