-- `calendar::number_in_ranges` meets its contract. Assumes nothing.
use borrow.Author.Rules.{rules}
use mathlib.Core.Path.{◌≡◌, sym, ◌∙◌, ap}
use mathlib.Core.Bool.{true}
use native.Mathlib.Omega.{arith}
use lib.Dec.{leb}
use lib.IntN.{pos}
use Rattle.calendar.specs.Questions.{is_date, number_of}
use Rattle.calendar.specs.declared.Ymd.{Ymd}
use Rattle.calendar.proofs.Questions.{ranges, in_month, is_real}
use Rattle.calendar.proofs.number_in_ranges.Goals as goal
use Rattle.calendar.proofs.number_in_ranges.Goals.{After-month_length, In_ok-ask, Start}

abbrev given : Start → Ymd
given c = record { year = pos c.args.y; month = pos c.args.m; day = pos c.args.d }

pub month_length-requires : goal.month_length-requires
month_length-requires c = let k = ranges (given c) c.requires in (k.month_first, k.month_last)

asked : (c : After-month_length) → is_date (pos c.args.y) (pos c.args.m) (pos c.args.d) ≡ leb c.args.d c.month_length.result
asked c = in_month (given c.before) c.requires ∙ ap (leb c.args.d) (sym c.month_length.ensures)

pub returns-in_err-ask : goal.returns-in_err-ask
unfolding number_of
returns-in_err-ask c = let same = asked (goal.at.returns-in_err-ask c).After-month_length in search rules

passed : (c : In_ok-ask) → leb c.args.d c.month_length.result ≡ true
passed c = search rules

pub day_number-requires : goal.day_number-requires
day_number-requires c =
    let g = given (goal.at.day_number-requires c).Start in
    let within = ap (leb c.args.d) (sym c.month_length.ensures) ∙ passed c in
    (is_real g c.requires within, omega (arith, (ranges g c.requires).year_last))

pub returns : goal.returns
unfolding number_of
returns c =
    let p = goal.at.returns c in
    simp (asked p.After-month_length ∙ passed p.In_ok-ask, c.day_number.ensures)
