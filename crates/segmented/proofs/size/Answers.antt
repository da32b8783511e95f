-- `segmented::size` meets its contract. Assumes nothing.
use mathlib.Core.Path.{◌≡◌, sym, ◌∙◌, ap}
use native.Mathlib.Omega.{arith}
use Prim.Native.Nat.{ℕ, ◌+◌}
use Rattle.std.specs.Prelude.{Ok}
use Rattle.std.proofs.lemmas.Result.{err_from_is_err_and}
use Rattle.asking.proofs.Asked.{answered_ok, passed, refused}
use Rattle.axis.specs.Axes.{closed}
use Rattle.counting.specs.Counting.{size_of}
use Rattle.discrete.specs.Answers.{size_questions, size_answer}
use Rattle.discrete.proofs.Laws.{size_range}
use Rattle.segmented.specs.Segments.{segments}
use Rattle.segmented.specs.Answers.{segment_size_answer}
use Rattle.segmented.proofs.size.Goals as goal

pub returns-in_err-size : goal.returns-in_err-size
unfolding segment_size_answer size_answer
returns-in_err-size c = let a = c.args.a in
    let p = err_from_is_err_and c.from_residual.result c.from_residual.ensures.1 in
    rw (p.1, p.2) (refused (size_questions a) (size_of (closed a)) (Ok (segments a + 1)) _ (sym c.in_err-size.ensures))

pub overflow_add-result : goal.overflow_add-result
overflow_add-result c = omega (arith, size_range c.args.a c.in_ok-size.field-0 (sym c.in_ok-size.ensures))

pub returns : goal.returns
unfolding segment_size_answer size_answer
returns c = let a = c.args.a in
    let (none, is) = answered_ok (size_questions a) (Ok (size_of (closed a))) c.in_ok-size.field-0 (sym c.in_ok-size.ensures) in
    let z : size_of (closed a) ≡ c.in_ok-size.field-0 = cc in
    ap (λ (n : ℕ). Ok (n + 1)) (sym z) ∙ passed (size_questions a) (Ok (segments a + 1)) none
