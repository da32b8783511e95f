-- `promises::ticks_light` meets its contract: the theorem, of what the export answers and leaves. Assumes nothing.
use mathlib.Core.Path.{◌∙◌, ap}
use lib.ListN.{length}
use Rattle.axis.specs.declared.Hint.TheVariants.{Light}
use Rattle.axis.specs.Axes.{axis_of}
use Rattle.axis.proofs.Axes.{axis_read}
use Rattle.ticks.specs.Answers.{ticks_answer, ticks_written}
use Rattle.ordered.specs.Replies.{number_reply}
use Rattle.ordered.proofs.Axes.{light_read}
use Rattle.promises.proofs.Demand.{ticks_fine}
use Rattle.promises.proofs.Calls.{list_read, list_called}
use Rattle.promises.proofs.UnknownKinds.{ticks_refused, ticks_kept}
use Rattle.promises.proofs.ticks_light.Goals as goal

pub returns-clause-listed : goal.returns-clause-listed
returns-clause-listed c = let x = c.args in
    let f = c.ranges in
    let a = axis_of x.kind x.start_head x.start_tail x.end_head x.end_tail x.end_excluded in
    let axis = axis_read f.kind f.start_head f.start_tail f.end_head f.end_tail f.end_excluded in
    let is = c.ordered_ticks_light.ensures in
    list_called ticks_answer ticks_written ticks_fine a (Light (record { bold = x.bold; n = x.n })) x.lent.now
    is.value is.after_call axis (light_read f.bold f.n)

pub returns-clause-refused : goal.returns-clause-refused
returns-clause-refused c = λ none. let x = c.args in
    let f = c.ranges in
    let a = axis_of x.kind x.start_head x.start_tail x.end_head x.end_tail x.end_excluded in
    let axis = axis_read f.kind f.start_head f.start_tail f.end_head f.end_tail f.end_excluded in
    let h = Light (record { bold = x.bold; n = x.n }) in
    let is = c.ordered_ticks_light.ensures in
    let (r, l) =
    list_read ticks_answer ticks_written a h x.lent.now is.value is.after_call axis (light_read f.bold f.n) in
    (r ∙ ap number_reply (ticks_refused a none h (length x.lent.now)), l ∙ ticks_kept a none h x.lent.now)
