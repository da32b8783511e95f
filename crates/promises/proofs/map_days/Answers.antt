-- `promises::map_days` meets its contract: the theorem, of what the mappings answer. Assumes nothing.
use mathlib.Core.Path.{◌∙◌, ap}
use Rattle.std.proofs.Common.{rules}
use Rattle.values.specs.Values.{midnight}
use Rattle.axis.specs.declared.Limits.{Limits}
use Rattle.axis.specs.Axes.{axis_of}
use Rattle.axis.proofs.Axes.{axis_read}
use Rattle.ordered.specs.Replies.{pixel_reply}
use Rattle.promises.proofs.Demand.{days_apart, pixels_as}
use Rattle.promises.proofs.Calls.{pixel_read}
use Rattle.promises.proofs.UnknownKinds.{map_refused}
use Rattle.promises.proofs.map_days.Goals as goal

pub returns-clause-apart : goal.returns-clause-apart
returns-clause-apart c = let x = c.args in
    let f = c.ranges in
    let a = axis_of x.kind x.start_head x.start_tail x.end_head x.end_tail x.end_excluded in
    let axis = axis_read f.kind f.start_head f.start_tail f.end_head f.end_tail f.end_excluded in
    let l : Limits = record { low = x.low; high = x.high } in
    pixels_as a l x.first x.second
    (pixel_read a l (midnight x.first) c.ordered_map.ensures axis (search rules) (search rules))
    (pixel_read a l (midnight x.second) c.ordered_map-2.ensures axis (search rules) (search rules))
    (days_apart a l x.first x.second)

pub returns-clause-refused : goal.returns-clause-refused
returns-clause-refused c = λ none. let x = c.args in
    let f = c.ranges in
    let a = axis_of x.kind x.start_head x.start_tail x.end_head x.end_tail x.end_excluded in
    let axis = axis_read f.kind f.start_head f.start_tail f.end_head f.end_tail f.end_excluded in
    let l : Limits = record { low = x.low; high = x.high } in (
      pixel_read a l (midnight x.first) c.ordered_map.ensures axis (search rules) (search rules)
          ∙ ap pixel_reply (map_refused a none l (midnight x.first)),
      pixel_read a l (midnight x.second) c.ordered_map-2.ensures axis (search rules) (search rules)
          ∙ ap pixel_reply (map_refused a none l (midnight x.second)),
    )
