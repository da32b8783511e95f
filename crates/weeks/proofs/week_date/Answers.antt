-- `weeks::week_date` meets its contract. Assumes nothing.
use mathlib.Core.Path.{◌≡◌, sym, ◌∙◌, ap}
use Prim.Native.Nat.{ℕ, ◌+◌, ◌-◌, ◌*◌, ◌/◌}
use Rattle.calendar.specs.Gregorian.{years}
use Rattle.weeks.specs.Weeks.{week_year, week_date_of}
use Rattle.weeks.proofs.Weeks.{week_year_is, week_by_days, weekday_is}
use Rattle.weeks.proofs.week_date.Goals as goal
use Rattle.weeks.proofs.week_date.Goals.{After-year_day-t}

-- the Thursday's year
year_of : (c : After-year_day-t) → c.year_day-t.result.year ≡ week_year c.args.n
year_of c = c.year_day-t.ensures.0 ∙ sym (week_year_is c.args.n c.requires.0)

pub returns : goal.returns
unfolding week_date_of
returns c = let n = c.args.n in
    let h = c.requires.0 in
    let d = c.year_day-t.result.day in
    let e : years (week_year n - 1) + d + 1 ≡ 7 * ((n - 1) / 7) + 4 =
    ap (λ (y : ℕ). years (y - 1) + d + 1) (sym (year_of c.before)) ∙ c.year_day-t.ensures.1 in
    let y = year_of c.before in
    let w = week_by_days n d h e in
    let x = sym (weekday_is n h) in
    λ i. record { year = y i; week = w i; weekday = x i }
