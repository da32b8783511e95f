-- `mapping::Placed::map_coord` meets its contract: each branch is one of the definition's. Assumes nothing.
use borrow.Author.Rules.{rules}
use mathlib.Core.Path.{◌≡◌, ◌∙◌, ap}
use mathlib.Core.Bool.{Bool, ◌&&◌, true}
use mir.Syntax.{w64}
use mir.Val.{SFits}
use mir.Facts.{to_z-of_z}
use Rattle.values.specs.Differences.{fits_i64}
use Rattle.values.proofs.Fits.{answer_none, answer_some}
use Rattle.axis.specs.Axes.{span_of, offset_of}
use Rattle.mapping.specs.Hairlines.{in_nanoseconds, hairline_at}
use Rattle.mapping.specs.Mapping.{hairline_from}
use Rattle.mapping.proofs.Placing.{coord_near, coord_far}
use Rattle.mapping.proofs.Hairlines.{span_none, span_some, nanos_are, near_from, days_from, days_of}
use Rattle.mapping.proofs.Placed.map_coord.Goals as goal
use Rattle.laws.proofs.Tests.{and_false}

pub returns-in_default : goal.returns-in_default
returns-in_default c = let x = c.args in
    let a = x.self.scale.axis in
    let l = x.self.scale.limits in
    let far = ap (λ (b : Bool). b && fits_i64 (offset_of a x.self.value)) (span_none x.self.scale.ready c.in_default.is) in
    ap (hairline_from l) c.in_days.ensures
    ∙ days_from a l x.self.value _ far (days_of a c.requires) x.self.scale.ready.real x.self.on
    ∙ ap (hairline_at a l x.self.value) (coord_far a l x.self.value far)

pub returns-in-None : goal.returns-in-None
returns-in-None c = let x = c.args in
    let a = x.self.scale.axis in
    let l = x.self.scale.limits in
    let none = answer_none (offset_of a x.self.value) c.offset.result c.offset.ensures c.in-None.is in
    let far = ap (λ (b : Bool). fits_i64 (span_of a) && b) none ∙ and_false (fits_i64 (span_of a)) in
    ap (hairline_from l) c.in_days-in-None.ensures
    ∙ days_from a l x.self.value _ far (days_of a c.requires) x.self.scale.ready.real x.self.on
    ∙ ap (hairline_at a l x.self.value) (coord_far a l x.self.value far)

pub returns-in-Some-offset : goal.returns-in-Some-offset
returns-in-Some-offset c = let x = c.args in
    let a = x.self.scale.axis in
    let l = x.self.scale.limits in
    let s = span_some x.self.scale.ready c.in-Some.span c.in-Some.is in
    let o = answer_some (offset_of a x.self.value) c.offset.result c.offset.ensures c.in-Some-offset.offset c.in-Some-offset.is in
    let of : SFits w64 c.in-Some-offset.offset = search rules in
    let near : in_nanoseconds a x.self.value ≡ true = λ i. s.0 i && o.0 i in
    ap (hairline_from l) (c.in_nanos.ensures
    ∙ nanos_are x.self.scale.ready x.self.value _ c.in-Some.span (to_z-of_z of ∙ o.1) s.1)
    ∙ near_from a l x.self.value _ near
    ∙ ap (hairline_at a l x.self.value) (coord_near a l x.self.value near)
