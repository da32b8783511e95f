-- `promises::map_value` meets its contract: the theorems, of what the mapping answers. Assumes nothing.
use mathlib.Core.Path.{◌∙◌, ap}
use Rattle.std.proofs.Common.{rules}
use Rattle.values.specs.declared.Value.{Value}
use Rattle.axis.specs.declared.Limits.{Limits}
use Rattle.axis.specs.Axes.{axis_of}
use Rattle.axis.proofs.Axes.{axis_read}
use Rattle.ordered.specs.Replies.{pixel_reply}
use Rattle.promises.proofs.Calls.{pixel_read}
use Rattle.promises.proofs.UnknownKinds.{map_refused}
use Rattle.promises.proofs.HowFarOff.{off_of, off_as}
use Rattle.promises.proofs.Hairlines.{drawn_of, drawn_as}
use Rattle.promises.proofs.map_value.Goals as goal

pub returns-clause-off : goal.returns-clause-off
returns-clause-off c = let x = c.args in
    let f = c.ranges in
    let a = axis_of x.kind x.start_head x.start_tail x.end_head x.end_tail x.end_excluded in
    let axis = axis_read f.kind f.start_head f.start_tail f.end_head f.end_tail f.end_excluded in
    let l : Limits = record { low = x.low; high = x.high } in
    let v : Value = record { head = x.head; tail = x.tail } in
    off_as a l v (pixel_read a l v c.ordered_map.ensures axis (search rules) (search rules)) (off_of a l v)

pub returns-clause-drawn : goal.returns-clause-drawn
returns-clause-drawn c = let x = c.args in
    let f = c.ranges in
    let a = axis_of x.kind x.start_head x.start_tail x.end_head x.end_tail x.end_excluded in
    let axis = axis_read f.kind f.start_head f.start_tail f.end_head f.end_tail f.end_excluded in
    let l : Limits = record { low = x.low; high = x.high } in
    let v : Value = record { head = x.head; tail = x.tail } in
    drawn_as a l v (pixel_read a l v c.ordered_map.ensures axis (search rules) (search rules)) (drawn_of a l v)

pub returns-clause-refused : goal.returns-clause-refused
returns-clause-refused c = λ none. let x = c.args in
    let f = c.ranges in
    let a = axis_of x.kind x.start_head x.start_tail x.end_head x.end_tail x.end_excluded in
    let axis = axis_read f.kind f.start_head f.start_tail f.end_head f.end_tail f.end_excluded in
    let l : Limits = record { low = x.low; high = x.high } in
    let v : Value = record { head = x.head; tail = x.tail } in
    pixel_read a l v c.ordered_map.ensures axis (search rules) (search rules) ∙ ap pixel_reply (map_refused a none l v)
