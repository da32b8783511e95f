-- `promises::lists_light` meets its contract: the theorem, of what the three calls answer and leave. Assumes nothing.
use mathlib.Core.Bool.{false}
use Rattle.std.proofs.Common.{rules}
use Rattle.values.specs.Values.{numbered}
use Rattle.axis.specs.declared.Hint.{Hint}
use Rattle.axis.specs.declared.Hint.TheVariants.{Bold, Light}
use Rattle.axis.specs.declared.BoldPoints.{BoldPoints}
use Rattle.axis.specs.Axes.{axis_of}
use Rattle.axis.proofs.Axes.{axis_read}
use Rattle.ticks.specs.Answers.{ticks_answer, ticks_written}
use Rattle.keypoints.specs.AsDates.{date_times}
use Rattle.ordered.proofs.Axes.{bold_read, light_read}
use Rattle.promises.specs.OneList.{days}
use Rattle.promises.proofs.Calls.{list_read, period_read}
use Rattle.promises.proofs.OneList.{lists_as}
use Rattle.promises.proofs.lists_light.Goals as goal

pub returns : goal.returns
unfolding numbered
returns c = let x = c.args in
    let f = c.ranges in
    let a = axis_of x.kind x.start_head x.start_tail x.end_head x.end_tail x.end_excluded in
    let axis = axis_read f.kind f.start_head f.start_tail f.end_head f.end_tail f.end_excluded in
    let b : BoldPoints = record { n = x.n } in
    let h : Hint = Light (record { bold = x.bold; n = x.n }) in
    let list = c.ordered_ticks_light.ensures in
    let beside = c.ordered_ticks_bold.ensures in
    lists_as a h x.from x.to x.lent.now x.beside.now _ _ _
    (period_read (date_times a) b c.ordered_period_per_point.ensures (search rules) (search rules))
    (list_read ticks_answer ticks_written a h x.lent.now list.value list.after_call axis (light_read f.bold f.n))
    (list_read ticks_answer ticks_written (days x.from x.to false) (Bold b) x.beside.now beside.value beside.after_call
    (search rules)
    (bold_read f.n))
