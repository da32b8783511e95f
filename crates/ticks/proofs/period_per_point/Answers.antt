-- `ticks::period_per_point` meets its contract. Assumes nothing.
use borrow.Author.Rules.{rules}
use mathlib.Core.Path.{◌≡◌, sym, ◌∙◌, ap}
use mathlib.Core.Bool.{true}
use mir.Syntax.{w64}
use mir.Val.{SFits}
use mir.Facts.{to_z-of_z}
use Rattle.std.specs.Prelude.{Ok}
use Rattle.asking.specs.Asking.{passes}
use Rattle.asking.proofs.Asked.{all_pass}
use Rattle.laws.specs.Numbers.{pos_part}
use Rattle.counting.proofs.Counting.{no_less}
use Rattle.plans.specs.Times.{period_in}
use Rattle.ticks.specs.Answers.{period_questions}
use Rattle.ticks.proofs.Hints.{period_accepted}
use Rattle.ticks.proofs.KeyPoints.{period_answered, period_refused}
use Rattle.ticks.proofs.period_per_point.Goals as goal
use Rattle.ticks.proofs.period_per_point.Goals.{After-as_count, In_ok-ask_period, Start}

limit_fits : (c : Start) → SFits w64 c.args.h.n
limit_fits c = search rules

none : (c : In_ok-ask_period) → passes (period_questions c.args.a c.args.h) ≡ true
none c = all_pass (period_questions c.args.a c.args.h) tt (sym c.in_ok-ask_period.ensures)

counted : (c : After-as_count) → c.as_count.result ≡ pos_part c.args.h.n
counted c = c.as_count.ensures ∙ ap pos_part (to_z-of_z (limit_fits (goal.at.After-as_count c).Start))

pub returns-in_err-ask_period : goal.returns-in_err-ask_period
returns-in_err-ask_period c = search (rules, period_refused c.args.a c.args.h tt _ c.in_err-ask_period.ensures)

pub as_count-requires : goal.as_count-requires
as_count-requires c =
    rw (to_z-of_z (limit_fits (goal.at.as_count-requires c).Start))
    (no_less c.args.h.n (period_accepted c.args.a c.args.h (none (goal.at.as_count-requires c).In_ok-ask_period)).2)

pub invariant_of-q : goal.invariant_of-q
invariant_of-q c = let x = c.args in
    let (q, k, d) = period_accepted x.a x.h (none (goal.at.invariant_of-q c).In_ok-ask_period) in
    record { accepted = rw (counted (goal.at.invariant_of-q c).After-as_count) q }

pub period-requires : goal.period-requires
period-requires c = let x = c.args in
    let (q, k, d) = period_accepted x.a x.h (none (goal.at.period-requires c).In_ok-ask_period) in
    rw (counted (goal.at.period-requires c).After-as_count) k

pub returns : goal.returns
returns c = let x = c.args in
    ap Ok (c.period.ensures ∙ ap (period_in x.a) (counted (goal.at.returns c).After-as_count))
    ∙ period_answered x.a x.h (none (goal.at.returns c).In_ok-ask_period)
