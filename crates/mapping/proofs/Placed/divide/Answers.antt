-- `mapping::Placed::divide` meets its contract: the kind decides between the two mappings. Assumes nothing.
use mathlib.Core.Path.{◌≡◌, sym, ◌∙◌, ap}
use mathlib.Core.Bool.{Bool, true, false, cond}
use Rattle.values.specs.declared.Value.{Value}
use Rattle.values.specs.Values.{is_duration}
use Rattle.axis.specs.declared.Axis.{Axis}
use Rattle.axis.specs.declared.Limits.{Limits}
use Rattle.mapping.specs.Hairlines.{hairline_at}
use Rattle.mapping.specs.Mapping.{map_coord, map_duration, placed, hairline}
use Rattle.mapping.proofs.Placed.divide.Goals as goal

is_placed : (a : Axis) (l : Limits) (v : Value) (b : Bool) → is_duration a.kind ≡ b →
    hairline_at a l v (cond b (map_duration a l v) (map_coord a l v)) ≡ hairline a l v
unfolding hairline placed
is_placed a l v b k = ap (λ (d : Bool). hairline_at a l v (cond d (map_duration a l v) (map_coord a l v))) (sym k)

pub returns-then-is_duration : goal.returns-then-is_duration
returns-then-is_duration c = let x = c.args.self in
    let is = sym c.is_duration.ensures ∙ c.if-is_duration.true in
    c.map_duration.ensures ∙ is_placed x.scale.axis x.scale.limits x.value true is

pub returns : goal.returns
returns c = let x = c.args.self in
    let is = sym c.is_duration.ensures ∙ c.if-is_duration.false in
    c.map_coord.ensures ∙ is_placed x.scale.axis x.scale.limits x.value false is
