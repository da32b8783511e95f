-- `ordered::ordered_period_per_point` meets its contract. Assumes nothing.
use Rattle.std.proofs.Common.{rules}
use Rattle.axis.specs.declared.BoldPoints.{BoldPoints}
use Rattle.ticks.specs.Answers.{period_answer}
use Rattle.ordered.specs.Replies.{period_reply}
use Rattle.ordered.proofs.Counts.{index_on, period_most}
use Rattle.ordered.proofs.ordered_period_per_point.Goals as goal

pub returns : goal.returns
returns c = let h : BoldPoints = record { n = c.args.n } in
    let said = index_on period_reply (period_answer c.axis_of-a.result h) c.from.ensures (λ n. period_most _ h n)
    (search rules) in
    search rules
