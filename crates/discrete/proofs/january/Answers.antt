-- `discrete::january` meets its contract. Assumes nothing.
use borrow.Author.Rules.{rules}
use mathlib.Core.Path.{sym, ◌∙◌, ap}
use native.Mathlib.Omega.{arith}
use Prim.Native.Nat.{ℕ, ◌<◌}
use lib.IntN.{pos}
use Rattle.calendar.specs.Gregorian.{day_number}
use Rattle.values.specs.Values.{midnight}
use Rattle.axis.specs.Questions.{checked}
use Rattle.calendar.proofs.Dates.{a_first}
use Rattle.counting.proofs.Dates.{first_beyond}
use Rattle.counting.proofs.Counting.{starts, is_day_law}
use Rattle.discrete.proofs.Indices.{january_start, january_later}
use Rattle.calendar.proofs.Questions.{day_beyond}
use Rattle.axis.proofs.Checked.{in_range_law, out_of_range}
use Rattle.discrete.proofs.january.Goals as goal

pub returns-in_err-ask : goal.returns-in_err-ask
returns-in_err-ask c = let a = c.args.d.axis in
    let y = c.args.year in
    let above : 9999 < y = search rules in
    let late : 3652059 < day_number y 1 1 = first_beyond y 1 (omega arith) (omega arith) (omega arith) above in
    let out = out_of_range (midnight (pos (day_number y 1 1))) (day_beyond (day_number y 1 1) late)
    ∙ ap checked (sym (january_later a y (omega (arith, (starts a c.args.d.dated).head_most)))) in
    search rules

pub day_number-day-requires : goal.day_number-day-requires
day_number-day-requires c = (a_first c.args.year 1 c.requires (omega arith) (omega arith), search rules)

pub returns-then-day-start_day : goal.returns-then-day-start_day
returns-then-day-start_day c = let a = c.args.d.axis in
    in_range_law a.start (is_day_law a.start (starts a c.args.d.dated))
    ∙ ap checked
    (sym (january_start a c.args.year (omega (
      arith,
      c.start_day.ensures,
      c.day_number-day.ensures,
    ))))

pub returns : goal.returns
returns c = let a = c.args.d.axis in
    c.at_midnight.ensures
    ∙ ap (λ (k : ℕ). checked (midnight (pos k))) c.day_number-day.ensures
    ∙ ap checked
    (sym (january_later a c.args.year (omega (arith, c.start_day.ensures, c.day_number-day.ensures))))
