-- `weeks::week_day_number` meets its contract: three numbers in their ranges are their counts. Assumes nothing.
use borrow.Author.Rules.{rules}
use mathlib.Core.Path.{◌≡◌, ◌∙◌, ap}
use mathlib.Core.Bool.{true}
use lib.IntN.{pos}
use Rattle.weeks.specs.Questions.{in_ranges, week_day_number}
use Rattle.calendar.proofs.Questions.{counts_from_0, same_count}
use Rattle.weeks.proofs.Questions.{out_of_ranges, Ranges, ranges}
use Rattle.weeks.proofs.week_day_number.Goals as goal
use Rattle.weeks.proofs.week_day_number.Goals.{After-as_count-3, In_ok-ask}

pub returns-in_err-ask : goal.returns-in_err-ask
unfolding week_day_number
returns-in_err-ask c = let out = out_of_ranges c.args.t in search rules

passed : (c : In_ok-ask) → in_ranges c.args.t ≡ true
passed c = search rules

fine : (c : In_ok-ask) → Ranges c.args.t
fine c = ranges c.args.t (passed c)

pub as_count-requires : goal.as_count-requires
as_count-requires c =
    counts_from_0 c.args.t.year (search rules) (fine (goal.at.as_count-requires c).In_ok-ask).year_count

pub as_count-requires-2 : goal.as_count-requires-2
as_count-requires-2 c =
    counts_from_0 c.args.t.week (search rules) (fine (goal.at.as_count-requires-2 c).In_ok-ask).week_count

pub as_count-requires-3 : goal.as_count-requires-3
as_count-requires-3 c =
    counts_from_0 c.args.t.weekday (search rules) (fine (goal.at.as_count-requires-3 c).In_ok-ask).weekday_count

counted : (c : After-as_count-3) → record {
  year = pos c.as_count.result;
  week = pos c.as_count-2.result;
  weekday = pos c.as_count-3.result;
} ≡ c.args.t
counted c = let k = fine c.before.before.before.before.before.before in
    let t = c.args.t in
    let p = same_count t.year _ (search rules) k.year_is c.as_count.ensures in
    let q = same_count t.week _ (search rules) k.week_is c.as_count-2.ensures in
    let r = same_count t.weekday _ (search rules) k.weekday_is c.as_count-3.ensures in
    λ i. record { year = p i; week = q i; weekday = r i }

pub number_in_ranges-requires : goal.number_in_ranges-requires
number_in_ranges-requires c = ap in_ranges (counted c) ∙ passed c.before.before.before.before.before.before

pub returns : goal.returns
returns c = c.number_in_ranges.ensures ∙ ap week_day_number (counted c.before)
