-- `promises::key_points` meets its contract: the theorem, of the part that is handed back. Assumes nothing.
use mathlib.Core.Path.{◌≡◌, sym, subst, ap, ◌∙◌}
use lib.ListN.{length}
use Rattle.axis.specs.declared.Axis.{Axis}
use Rattle.axis.specs.Axes.{axis_of}
use Rattle.axis.proofs.Axes.{axis_read}
use Rattle.ticks.specs.Answers.{ticks_handed}
use Rattle.ticks.proofs.Promise.{handed_fine}
use Rattle.promises.specs.Demand.{FinePart}
use Rattle.promises.proofs.UnknownKinds.{none_handed}
use Rattle.promises.proofs.key_points.Goals as goal
use Rattle.promises.proofs.key_points.Goals.{After-key_points}

abbrev axis : After-key_points → Axis
axis c = let x = c.args in axis_of x.kind x.start_head x.start_tail x.end_head x.end_tail x.end_excluded

handed : (c : After-key_points) → c.key_points.result.now ≡ ticks_handed (axis c) c.args.h (length c.args.lent.now)
handed c = let f = c.ranges in
    c.key_points.ensures.value
    ∙ ap (λ (a : Axis). ticks_handed a c.args.h (length c.args.lent.now))
    (c.axis_of-a.ensures ∙ axis_read f.kind f.start_head f.start_tail f.end_head f.end_tail f.end_excluded)

pub returns-clause-handed : goal.returns-clause-handed
returns-clause-handed c = let p = (goal.at.returns-clause-handed c).After-key_points in
    subst (FinePart (axis p) c.args.h) (sym (handed p)) (handed_fine (axis p) c.args.h (length c.args.lent.now))

pub returns-clause-refused : goal.returns-clause-refused
returns-clause-refused c = λ none. let p = (goal.at.returns-clause-refused c).After-key_points in
    handed p ∙ none_handed (axis p) none c.args.h (length c.args.lent.now)
