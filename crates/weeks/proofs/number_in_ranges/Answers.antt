-- `weeks::number_in_ranges` meets its contract. Assumes nothing.
use borrow.Author.Rules.{rules}
use mathlib.Core.Path.{◌≡◌, sym, ◌∙◌}
use mathlib.Core.Bool.{true}
use lib.IntN.{pos}
use Rattle.weeks.specs.declared.Ywd.{Ywd}
use Rattle.weeks.specs.Weeks.{week_day}
use Rattle.weeks.specs.Questions.{is_week_date, not_behind, week_day_number}
use Rattle.weeks.proofs.Questions.{ranges, is_in_weeks}
use Rattle.weeks.proofs.number_in_ranges.Goals as goal
use Rattle.weeks.proofs.number_in_ranges.Goals.{After-has_week, In_ok-ask, In_ok-ask-2, Start}

abbrev given : Start → Ywd
given c = record { year = pos c.args.y; week = pos c.args.w; weekday = pos c.args.d }

pub has_week-requires : goal.has_week-requires
has_week-requires c = let k = ranges (given c) c.requires in (k.year_first, k.year_last)

asked : (c : After-has_week) → is_week_date (given c.before) ≡ c.has_week.result
asked c = (ranges (given c.before) c.requires).asks ∙ sym c.has_week.ensures

pub returns-in_err-ask : goal.returns-in_err-ask
unfolding week_day_number
returns-in_err-ask c = let same = asked (goal.at.returns-in_err-ask c).After-has_week in search rules

answered : (c : In_ok-ask) → c.has_week.result ≡ true
answered c = search rules

pub week_day-n-requires : goal.week_day-n-requires
week_day-n-requires c = let p = goal.at.week_day-n-requires c in
    is_in_weeks (given p.Start) (asked p.After-has_week ∙ answered p.In_ok-ask)

pub returns-in_err-ask-2 : goal.returns-in_err-ask-2
unfolding week_day_number
returns-in_err-ask-2 c = let p = goal.at.returns-in_err-ask-2 c in
    let is = asked p.After-has_week ∙ answered p.In_ok-ask in
    search rules

inside : (c : In_ok-ask-2) → let x = c.args in not_behind (week_day x.y x.w x.d) ≡ true
inside c = search rules

pub returns : goal.returns
unfolding week_day_number
returns c = let p = goal.at.returns c in
    simp (asked p.After-has_week ∙ answered p.In_ok-ask, inside p.In_ok-ask-2, c.week_day-n.ensures)
