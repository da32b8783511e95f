-- `discrete::year_at` meets its contract. Assumes nothing.
use mathlib.Core.Path.{◌≡◌, ap}
use native.Mathlib.Omega.{arith}
use Rattle.calendar.specs.declared.Date.{Date}
use Rattle.counting.specs.Counting.{first_date}
use Rattle.counting.proofs.Counting.{first_near}
use Rattle.discrete.proofs.year_at.Goals as goal
use Rattle.discrete.proofs.year_at.Goals.{After-first_date-first}

year_is : (c : After-first_date-first) → c.first_date-first.result.year ≡ (first_date c.args.d.axis).year
year_is c = ap (λ (t : Date). t.year) c.first_date-first.ensures

pub overflow_add-first : goal.overflow_add-first
overflow_add-first c =
    omega (
      arith,
      year_is (goal.at.overflow_add-first c).After-first_date-first,
      (first_near c.args.d.axis c.args.d.dated).year_most,
      c.requires,
    )

pub january-requires : goal.january-requires
january-requires c =
    omega (
      arith,
      year_is (goal.at.january-requires c).After-first_date-first,
      (first_near c.args.d.axis c.args.d.dated).year_least,
    )
