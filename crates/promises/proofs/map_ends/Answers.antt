-- `promises::map_ends` meets its contract: the theorems, of what the mappings answer. Assumes nothing.
use mathlib.Core.Path.{◌∙◌, ap}
use Rattle.std.proofs.Common.{rules}
use Rattle.axis.specs.declared.Limits.{Limits}
use Rattle.axis.specs.Axes.{axis_of}
use Rattle.axis.proofs.Axes.{axis_read}
use Rattle.ordered.specs.Replies.{pixel_reply}
use Rattle.promises.proofs.Calls.{pixel_read}
use Rattle.promises.proofs.UnknownKinds.{map_refused}
use Rattle.promises.proofs.HowFarOff.{at_ends, ends_as}
use Rattle.promises.proofs.Hairlines.{ends_of, drawn_ends_as}
use Rattle.promises.proofs.map_ends.Goals as goal

pub returns-clause-off : goal.returns-clause-off
returns-clause-off c = let x = c.args in
    let f = c.ranges in
    let a = axis_of x.kind x.start_head x.start_tail x.end_head x.end_tail x.end_excluded in
    let axis = axis_read f.kind f.start_head f.start_tail f.end_head f.end_tail f.end_excluded in
    let l : Limits = record { low = x.low; high = x.high } in
    ends_as a l
    (pixel_read a l a.start c.ordered_map.ensures axis (search rules) (search rules))
    (pixel_read a l a.end c.ordered_map-2.ensures axis (search rules) (search rules))
    (at_ends a l)

pub returns-clause-drawn : goal.returns-clause-drawn
returns-clause-drawn c = let x = c.args in
    let f = c.ranges in
    let a = axis_of x.kind x.start_head x.start_tail x.end_head x.end_tail x.end_excluded in
    let axis = axis_read f.kind f.start_head f.start_tail f.end_head f.end_tail f.end_excluded in
    let l : Limits = record { low = x.low; high = x.high } in
    drawn_ends_as a l
    (pixel_read a l a.start c.ordered_map.ensures axis (search rules) (search rules))
    (pixel_read a l a.end c.ordered_map-2.ensures axis (search rules) (search rules))
    (ends_of a l)

pub returns-clause-refused : goal.returns-clause-refused
returns-clause-refused c = λ none. let x = c.args in
    let f = c.ranges in
    let a = axis_of x.kind x.start_head x.start_tail x.end_head x.end_tail x.end_excluded in
    let axis = axis_read f.kind f.start_head f.start_tail f.end_head f.end_tail f.end_excluded in
    let l : Limits = record { low = x.low; high = x.high } in (
      pixel_read a l a.start c.ordered_map.ensures axis (search rules) (search rules)
          ∙ ap pixel_reply (map_refused a none l a.start),
      pixel_read a l a.end c.ordered_map-2.ensures axis (search rules) (search rules)
          ∙ ap pixel_reply (map_refused a none l a.end),
    )
