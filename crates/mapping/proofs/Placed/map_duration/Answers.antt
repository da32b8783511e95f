-- `mapping::Placed::map_duration` meets its contract: each branch is one of the definition's. Assumes nothing.
use borrow.Author.Rules.{rules}
use mathlib.Core.Path.{◌≡◌, ◌∙◌, ap}
use Rattle.std.specs.Prelude.{None}
use mathlib.Core.Bool.{true, ◌&&◌}
use mir.Syntax.{w64}
use mir.Val.{SFits}
use mir.Facts.{to_z-of_z}
use Rattle.values.proofs.Fits.{answer_none, answer_some}
use Rattle.axis.specs.Axes.{offset_of}
use Rattle.mapping.specs.Hairlines.{in_nanoseconds, hairline_at}
use Rattle.mapping.specs.Mapping.{nudged, hairline_from}
use Rattle.mapping.proofs.Placing.{duration_near, duration_high, duration_far}
use Rattle.mapping.proofs.Hairlines.{span_none, span_some, nanos_are, near_from, days_from, nothing_from, far_days}
use Rattle.mapping.proofs.Placed.map_duration.Goals as goal

pub returns-in_default : goal.returns-in_default
returns-in_default c = let x = c.args in
    let a = x.self.scale.axis in
    let l = x.self.scale.limits in
    let none = span_none x.self.scale.ready c.in_default.is in
    let far = far_days a x.self.value none in
    ap (hairline_from l) (c.nudged.ensures ∙ ap nudged c.in_days.ensures)
    ∙ days_from a l x.self.value _ far.0 far.1 x.self.scale.ready.real x.self.on
    ∙ ap (hairline_at a l x.self.value) (duration_far a l x.self.value none)

pub returns-in_default-offset : goal.returns-in_default-offset
returns-in_default-offset c = let x = c.args in
    let a = x.self.scale.axis in
    let l = x.self.scale.limits in
    let s = span_some x.self.scale.ready c.in-Some.span c.in-Some.is in
    let none = answer_none (offset_of a x.self.value) c.offset.result c.offset.ensures c.in_default-offset.is in
    (λ i. hairline_from l (record { x = x.self.scale.ready.wide i; ratio = None }))
    ∙ nothing_from a l x.self.value x.self.scale.ready.on_page (λ i. s.0 i && none i) (λ i. c.requires i && s.0 i)
    ∙ ap (hairline_at a l x.self.value) (duration_high a l x.self.value s.0 none)

pub returns : goal.returns
returns c = let x = c.args in
    let a = x.self.scale.axis in
    let l = x.self.scale.limits in
    let s = span_some x.self.scale.ready c.in-Some.span c.in-Some.is in
    let o = answer_some (offset_of a x.self.value) c.offset.result c.offset.ensures c.in-Some-offset.offset c.in-Some-offset.is in
    let of : SFits w64 c.in-Some-offset.offset = search rules in
    let near : in_nanoseconds a x.self.value ≡ true = λ i. s.0 i && o.0 i in
    ap (hairline_from l) (c.nudged-2.ensures ∙ ap nudged (c.in_nanos.ensures
    ∙ nanos_are x.self.scale.ready x.self.value _ c.in-Some.span (to_z-of_z of ∙ o.1) s.1))
    ∙ near_from a l x.self.value _ near
    ∙ ap (hairline_at a l x.self.value) (duration_near a l x.self.value s.0 o.0)
