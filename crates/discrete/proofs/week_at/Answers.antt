-- `discrete::week_at` meets its contract: index 0 is the start, and the others are Mondays. Assumes nothing.
use mathlib.Core.Path.{sym, ◌∙◌, ap}
use native.Mathlib.Omega.{arith}
use Prim.Native.Nat.{ℕ, ◌+◌, ◌*◌, ◌≤◌}
use lib.IntN.{pos}
use Rattle.weeks.specs.Weeks.{monday}
use Rattle.weeks.proofs.Mondays.{monday_is}
use Rattle.values.specs.Values.{midnight}
use Rattle.axis.specs.Questions.{checked}
use Rattle.axis.proofs.Checked.{in_range_law}
use Rattle.counting.proofs.Counting.{starts, is_day_law}
use Rattle.discrete.proofs.Indices.{week_first, week_later}
use Rattle.discrete.proofs.week_at.Goals as goal
use Rattle.discrete.proofs.week_at.Goals.{After-start_day}

pub returns-then-i-eq0 : goal.returns-then-i-eq0
returns-then-i-eq0 c = let a = c.args.d.axis in
    in_range_law a.start (is_day_law a.start (starts a c.args.d.dated))
    ∙ ap checked (sym (week_first a c.args.i c.if-i-eq0.true))

-- the day of the start
day_range : (c : After-start_day) → (1 ≤ c.start_day.result) × (c.start_day.result ≤ 3652059)
day_range c = let v = starts c.args.d.axis c.args.d.dated in
    (omega (arith, c.start_day.ensures, v.head_least), omega (arith, c.start_day.ensures, v.head_most))

pub monday-requires : goal.monday-requires
monday-requires c = (day_range (goal.at.monday-requires c).After-start_day).0

pub overflow_add-monday : goal.overflow_add-monday
overflow_add-monday c =
    let (l, h) = day_range (goal.at.overflow_add-monday c).After-start_day in
    omega (arith, c.requires, c.monday.ensures, monday_is c.start_day.result l, h)

pub at_midnight-requires : goal.at_midnight-requires
at_midnight-requires c =
    let (l, h) = day_range (goal.at.at_midnight-requires c).After-start_day in
    omega (arith, c.monday.ensures, monday_is c.start_day.result l, l)

pub returns : goal.returns
returns c = let a = c.args.d.axis in
    let i = c.args.i in
    c.at_midnight.ensures
    ∙ ap (λ (k : ℕ). checked (midnight (pos (k + 7 * i)))) (c.monday.ensures ∙ ap monday c.start_day.ensures)
    ∙ ap checked (sym (week_later a i c.if-i-eq0.false))
