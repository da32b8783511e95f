-- `counting::DateAxis::position_of` meets its contract: days, months, years or weeks, as the kind counts. Assumes nothing.
use mathlib.Core.Path.{sym, ◌∙◌, ap}
use Prim.Native.Nat.{◌+◌, ◌-◌, ◌*◌}
use native.Mathlib.Omega.{arith}
use Rattle.calendar.specs.declared.Date.{Date}
use Rattle.weeks.specs.Weeks.{mondays_to}
use Rattle.counting.specs.Counting.{first_date}
use Rattle.counting.proofs.Counting.{Near, on_day, starts, on_near, in_months, in_years, in_weeks, in_days}
use Rattle.counting.proofs.Counting.{origin_months, origin_years, origin_weeks, origin_days}
use Rattle.counting.proofs.Counting.{position_months, position_years, position_weeks, position_days}
use Rattle.counting.proofs.DateAxis.position_of.Goals as goal
use Rattle.counting.proofs.DateAxis.position_of.Goals.{After-date_on}

near : (c : After-date_on) → Near c.date_on.result 9999
near c = rw c.date_on.ensures (on_near c.args.self.axis c.args.self.dated c.args.v c.requires)

pub months_from-requires : goal.months_from-requires
months_from-requires c = let n = near (goal.at.months_from-requires c).After-date_on in (n.year_most, n.month_most)

pub mondays_to-requires : goal.mondays_to-requires
mondays_to-requires c = omega (arith, c.start_day.ensures, (starts c.args.self.axis c.args.self.dated).head_most)

pub mondays_to-requires-in-Week : goal.mondays_to-requires-in-Week
mondays_to-requires-in-Week c =
    omega (arith, c.day_on.ensures, (on_day c.args.self.axis c.args.self.dated c.args.v c.requires).head_most)

pub returns-in-Month : goal.returns-in-Month
returns-in-Month c = let a = c.args.self.axis in
    let m = in_months a c.in-Month.is in
    let p = ap (λ (t : Date). t.month) c.first_date-first.ensures ∙ sym (origin_months a m) in
    let q = c.months_from.ensures
    ∙ ap (λ (t : Date). 12 * (c.date_on.result.year - t.year) + c.date_on.result.month) c.first_date-first.ensures
    ∙ ap (λ (t : Date). 12 * (t.year - (first_date a).year) + t.month) c.date_on.ensures
    ∙ sym (position_months a c.args.v m) in
    λ i. record { from = p i; at = q i }

pub returns-in-Year : goal.returns-in-Year
returns-in-Year c = let a = c.args.self.axis in
    let (m, y) = in_years a c.in-Year.is in
    let p = ap (λ (d : Date). d.year) c.first_date.ensures ∙ sym (origin_years a m y) in
    let q = ap (λ (d : Date). d.year) c.date_on-in-Year.ensures ∙ sym (position_years a c.args.v m y) in
    λ i. record { from = p i; at = q i }

pub returns-in-Week : goal.returns-in-Week
returns-in-Week c = let a = c.args.self.axis in
    let (m, y, w) = in_weeks a c.in-Week.is in
    let p = c.mondays_to.ensures ∙ ap mondays_to c.start_day.ensures ∙ sym (origin_weeks a m y w) in
    let q = c.mondays_to-in-Week.ensures ∙ ap mondays_to c.day_on.ensures ∙ sym (position_weeks a c.args.v m y w) in
    λ i. record { from = p i; at = q i }

pub returns-in-Date : goal.returns-in-Date
returns-in-Date c = let a = c.args.self.axis in
    let (m, y, w) = in_days a c.in-Date.is in
    let p = c.start_day-in-Date.ensures ∙ sym (origin_days a m y w) in
    let q = c.day_on-in-Date.ensures ∙ sym (position_days a c.args.v m y w) in
    λ i. record { from = p i; at = q i }
