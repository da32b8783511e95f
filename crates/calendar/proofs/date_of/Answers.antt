-- `calendar::date_of` meets its contract, by the laws of the March year and of its months. Assumes nothing.
use Rattle.calendar.proofs.Formulas.{date_is}
use Rattle.calendar.proofs.Dates.{the_date}
use Rattle.calendar.proofs.date_of.Goals as goal

pub returns : goal.returns
returns c = let (r, e) = date_is c.args.n c.requires.0 c.requires.1 in
    rw c.from-j.ensures (the_date c.args.n _ c.requires.0 r e)
