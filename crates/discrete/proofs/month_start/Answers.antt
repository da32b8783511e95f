-- `discrete::month_start` meets its contract: beyond the year 9999 no day is one of question 3. Assumes nothing.
use borrow.Author.Rules.{rules}
use Prim.Native.Nat.{◌<◌}
use lib.IntN.{pos}
use Rattle.calendar.specs.Gregorian.{day_number}
use Rattle.values.specs.Values.{midnight}
use Rattle.calendar.proofs.Dates.{a_first}
use Rattle.counting.proofs.Dates.{first_least, first_beyond}
use Rattle.calendar.proofs.Questions.{day_beyond}
use Rattle.axis.proofs.Checked.{out_of_range}
use Rattle.discrete.proofs.month_start.Goals as goal

pub returns-in_err-ask : goal.returns-in_err-ask
returns-in_err-ask c = let y = c.args.year in
    let m = c.args.month in
    let late : 9999 < y = search rules in
    let out = out_of_range (midnight (pos (day_number y m 1)))
    (day_beyond (day_number y m 1) (first_beyond y m c.requires.0 c.requires.1 c.requires.2 late)) in
    search rules

pub day_number-requires : goal.day_number-requires
day_number-requires c = (a_first c.args.year c.args.month c.requires.0 c.requires.1 c.requires.2, search rules)

pub at_midnight-requires : goal.at_midnight-requires
at_midnight-requires c = rw c.day_number.ensures (first_least c.args.year c.args.month c.requires.0 c.requires.1 c.requires.2)
