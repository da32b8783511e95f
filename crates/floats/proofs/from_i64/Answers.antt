-- `floats::from_i64` meets its contract, by the law of the halves. Assumes nothing.
use mir.Syntax.{w64}
use mir.Val.{of_z}
use Rattle.laws.proofs.Halves.{upper_is, lower_is}
use Rattle.floats.proofs.Halves.{by_halves}
use Rattle.floats.proofs.from_i64.Goals as goal

pub returns : goal.returns
returns c = let n = c.args.n in
    let f = c.ranges.n in rw (upper_is n f, lower_is (of_z w64 n)) (by_halves n f)
