-- `segmented::segment_at` meets its contract. Assumes nothing.
use mathlib.Core.Path.{sym, ◌∙◌, ap}
use Prim.Native.Nat.{ℕ}
use native.Mathlib.Omega.{arith}
use lib.Dec.{eqb}
use Rattle.std.specs.Prelude.{Ok}
use Rattle.std.specs.Bool.{then_some}
use Rattle.std.proofs.lemmas.Result.{err_from_is_err_and}
use Rattle.segmented.specs.declared.SegmentValue.TheVariants.{Last}
use Rattle.segmented.proofs.Answers.{segment_value, segment_refused, segment_past}
use Rattle.segmented.proofs.segment_at.Goals as goal

pub returns-in_err-v : goal.returns-in_err-v
returns-in_err-v c = let x = c.args in
    let p = err_from_is_err_and c.from_residual.result c.from_residual.ensures.1 in
    rw (p.1, p.2) (segment_refused x.d.axis x.i _ (omega (arith, c.size_of-size.ensures)) (sym c.in_err-v.ensures))

pub returns-then-i-size : goal.returns-then-i-size
returns-then-i-size c = let x = c.args in
    segment_value x.d.axis x.i c.in_ok-v.v (omega (arith, c.size_of-size.ensures)) (sym c.in_ok-v.ensures)

pub returns : goal.returns
returns c = let x = c.args in
    ap Ok (c.then_some.ensures ∙ ap (λ (n : ℕ). then_some (eqb x.i n) Last) c.size_of-size.ensures)
    ∙ segment_past x.d.axis x.i (omega (arith, c.size_of-size.ensures))
