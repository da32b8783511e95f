-- `discrete::Placed::index_in` meets its contract. Assumes nothing.
use mathlib.Core.Path.{◌≡◌, ap, ◌∙◌}
use native.Mathlib.Omega.{arith}
use Prim.Native.Nat.{ℕ, ◌-◌, ◌≤◌, ◌<◌}
use Rattle.std.specs.Prelude.{Option, Some, None, SomeIff}
use Rattle.values.specs.declared.Value.{Value}
use Rattle.axis.specs.declared.Axis.{Axis}
use Rattle.counting.specs.declared.Position.{Position}
use Rattle.counting.specs.Counting.{origin, position}
use Rattle.discrete.specs.Answers.{index_in}
use Rattle.discrete.proofs.Answers.{index_none, index_is}
use Rattle.discrete.proofs.Placed.index_in.Goals as goal
use Rattle.discrete.proofs.Placed.index_in.Goals.{After-position_of-p}

from_is : (c : After-position_of-p) → c.position_of-p.result.from ≡ origin c.args.self.dates.axis
from_is c = ap (λ (x : Position). x.from) c.position_of-p.ensures

at_is : (c : After-position_of-p) → c.position_of-p.result.at ≡ position c.args.self.dates.axis c.args.self.value
at_is c = ap (λ (x : Position). x.at) c.position_of-p.ensures

-- a difference that is there, or not
by_difference : (a : Axis) (v : Value) (r : Option ℕ) (m n : ℕ) → m ≡ origin a → n ≡ position a v → SomeIff r (m ≤ n) (n - m) →
    r ≡ index_in a v
by_difference a v None m n e f h = index_none a v (let z : n < m = omega (arith, h) in omega (arith, z, e, f))
by_difference a v (Some i) m n e f (l, d) =
    let z : i ≡ position a v - origin a = omega (arith, d, e, f) in
    ap Some z ∙ index_is a v (omega (arith, l, e, f))

pub returns : goal.returns
returns c = let p = (goal.at.returns c).After-position_of-p in
    by_difference c.args.self.dates.axis c.args.self.value c.checked_sub.result _ _ (from_is p) (at_is p) c.checked_sub.ensures
