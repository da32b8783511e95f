-- `weeks::third` meets its contract: 1 January is a real date. Assumes nothing.
use mathlib.Core.Path.{◌≡◌}
use Prim.Native.Nat.{◌+◌, ◌-◌, ◌≤◌}
use native.Mathlib.Omega.{arith}
use Rattle.calendar.specs.Gregorian.{years}
use Rattle.weeks.proofs.Weeks.{january, january_real, january_most}
use Rattle.weeks.proofs.third.Goals as goal
use Rattle.weeks.proofs.third.Goals.{After-day_number}

pub day_number-requires : goal.day_number-requires
day_number-requires c = (january_real c.args.y c.requires.0, omega arith)

third_is : (c : After-day_number) → let y = c.args.y in
    (c.day_number.result + 2 ≡ years (y - 1) + 3) × (c.day_number.result + 2 ≤ 3652061)
third_is c = let e = c.day_number.ensures in
    let f = january c.args.y in
    (omega arith, omega (arith, january_most c.args.y c.requires.0 c.requires.1))

pub overflow_add-result : goal.overflow_add-result
overflow_add-result c = omega (arith, third_is c)

pub returns : goal.returns
returns c = third_is c
