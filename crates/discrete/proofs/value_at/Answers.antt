-- `discrete::value_at` meets its contract, by what the kind counts. Assumes nothing.
use mathlib.Core.Path.{sym, ◌∙◌, ap}
use native.Mathlib.Omega.{arith}
use Prim.Native.Nat.{ℕ, ◌+◌}
use lib.IntN.{pos}
use Rattle.values.specs.Values.{midnight}
use Rattle.axis.specs.Questions.{checked}
use Rattle.counting.proofs.Counting.{starts, in_months, in_years, in_weeks, in_days}
use Rattle.discrete.proofs.Indices.{value_months, value_years, value_weeks, value_days}
use Rattle.discrete.proofs.value_at.Goals as goal

pub returns-in-Month : goal.returns-in-Month
returns-in-Month c = let x = c.args in
    c.month_at.ensures ∙ ap checked (sym (value_months x.d.axis x.i (in_months x.d.axis c.in-Month.is)))

pub returns-in-Year : goal.returns-in-Year
returns-in-Year c = let x = c.args in
    let (m, y) = in_years x.d.axis c.in-Year.is in
    c.year_at.ensures ∙ ap checked (sym (value_years x.d.axis x.i m y))

pub returns-in-Week : goal.returns-in-Week
returns-in-Week c = let x = c.args in
    let (m, y, w) = in_weeks x.d.axis c.in-Week.is in
    c.week_at.ensures ∙ ap checked (sym (value_weeks x.d.axis x.i m y w))

pub at_midnight-requires : goal.at_midnight-requires
at_midnight-requires c = omega (arith, c.start_day.ensures, (starts c.args.d.axis c.args.d.dated).head_least)

pub returns-in-Date : goal.returns-in-Date
returns-in-Date c = let x = c.args in
    let (m, y, w) = in_days x.d.axis c.in-Date.is in
    c.at_midnight.ensures
    ∙ ap (λ (k : ℕ). checked (midnight (pos (k + x.i)))) c.start_day.ensures
    ∙ ap checked (sym (value_days x.d.axis x.i m y w))
