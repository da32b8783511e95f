-- `discrete::Placed::next_in` meets its contract. Assumes nothing.
use Rattle.counting.proofs.Counting.{in_months, in_years}
use Rattle.discrete.proofs.Ways.{in_daily}
use Rattle.discrete.proofs.Placed.next_in.Goals as goal

pub next_month-requires : goal.next_month-requires
next_month-requires c = in_months c.args.self.dates.axis c.in-Month.is

pub next_year-requires : goal.next_year-requires
next_year-requires c = (in_years c.args.self.dates.axis c.in-Year.is).1

pub next_day-requires : goal.next_day-requires
next_day-requires c = in_daily c.args.self.dates.axis c.in-Date.is
