-- `weeks::week_date_at` meets its contract. Assumes nothing.
use borrow.Author.Rules.{rules}
use mathlib.Core.Path.{◌≡◌}
use mathlib.Core.Bool.{true}
use mir.Facts.{to_z-of_z}
use Rattle.laws.specs.Numbers.{pos_part}
use Rattle.calendar.specs.Questions.{is_day}
use Rattle.weeks.specs.Questions.{week_date_at}
use Rattle.weeks.proofs.week_date_at.Goals as goal
use Rattle.weeks.proofs.week_date_at.Goals.{After-as_count, In_ok-ask}

pub returns-in_err-ask : goal.returns-in_err-ask
unfolding week_date_at
returns-in_err-ask c = search rules

fine : (c : In_ok-ask) → is_day c.args.n ≡ true
fine c = search rules

counted : (c : After-as_count) → c.as_count.result ≡ pos_part c.args.n
counted c = rw (to_z-of_z c.ranges.n) at c.as_count.ensures

pub returns : goal.returns
unfolding week_date_at
returns c = simp (fine c.before.before, c.week_date.ensures, counted c.before)
