-- `promises::ticks_ruled` meets its contract: the theorem, of what the export answers and leaves. Assumes nothing.
use mathlib.Core.Path.{◌∙◌, ap}
use lib.ListN.{length}
use Rattle.axis.specs.Axes.{axis_of}
use Rattle.axis.proofs.Axes.{axis_read}
use Rattle.ruled.specs.Answers.{ruled_answer, ruled_written}
use Rattle.ordered.specs.Replies.{number_reply}
use Rattle.promises.proofs.HouseRules.{ruled_as}
use Rattle.promises.proofs.UnknownKinds.{ruled_refused, ruled_kept}
use Rattle.promises.proofs.ticks_ruled.Goals as goal

pub returns-clause-listed : goal.returns-clause-listed
returns-clause-listed c = let x = c.args in
    let f = c.ranges in
    let a = axis_of x.kind x.start_head x.start_tail x.end_head x.end_tail x.end_excluded in
    let axis = axis_read f.kind f.start_head f.start_tail f.end_head f.end_tail f.end_excluded in
    let t = x.table.now in
    let d = x.lent.now in
    let is = c.ordered_ticks_ruled.ensures in
    ruled_as t a d (is.value ∙ (λ i. number_reply (ruled_answer t (axis i) (length d))))
    (is.after_call ∙ (λ i. ruled_written t (axis i) d))

pub returns-clause-refused : goal.returns-clause-refused
returns-clause-refused c = λ none. let x = c.args in
    let f = c.ranges in
    let a = axis_of x.kind x.start_head x.start_tail x.end_head x.end_tail x.end_excluded in
    let axis = axis_read f.kind f.start_head f.start_tail f.end_head f.end_tail f.end_excluded in
    let t = x.table.now in
    let d = x.lent.now in
    let is = c.ordered_ticks_ruled.ensures in (
      is.value ∙ (λ i. number_reply (ruled_answer t (axis i) (length d)))
          ∙ ap number_reply (ruled_refused a none t (length d)),
      is.after_call ∙ (λ i. ruled_written t (axis i) d) ∙ ruled_kept a none t d,
    )
