-- `mapping::quotient` meets its contract: it is the definition. Assumes nothing.
use mathlib.Core.Path.{◌∙◌, ap}
use lib.Ieee.{Float, binary64, of_int, mul, div}
use mir.Facts.{to_z-of_z}
use Rattle.floats.specs.Rounding.{quotient_of}
use Rattle.mapping.proofs.quotient.Goals as goal

pub returns : goal.returns
unfolding quotient_of
returns c = ap (λ (x : Float). div binary64 (mul binary64 c.args.width x) c.args.total)
    (c.from_i64.ensures ∙ ap (of_int binary64) (to_z-of_z c.ranges.offset))
