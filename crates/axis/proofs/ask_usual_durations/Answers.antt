-- `axis::ask_usual_durations` meets its contract. Assumes nothing.
use Rattle.laws.proofs.Tests.{both_true}
use Rattle.values.proofs.Values.{duration_is_kind}
use Rattle.axis.specs.Axes.{span_of}
use Rattle.axis.specs.Questions.{excludable, near_or_long, near_zero}
use Rattle.axis.proofs.ask_usual_durations.Goals as goal

pub returns-then-has-usual_durations : goal.returns-then-has-usual_durations
unfolding excludable near_or_long near_zero span_of
returns-then-has-usual_durations c = let (h, t) = both_true c.args.has c.usual_durations.result c.if-has-usual_durations.true in
    let (e, o, n) = c.usual_durations.ensures t c.requires in
    rw (duration_is_kind c.args.a.kind c.requires, h, e, o, c.if-a.false, n)
