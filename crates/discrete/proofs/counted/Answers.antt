-- `discrete::counted` meets its contract. Assumes nothing.
use mathlib.Core.Path.{◌≡◌, sym, ◌∙◌, ap}
use mathlib.Core.Bool.{true}
use Rattle.asking.specs.Asking.{passes}
use Rattle.asking.proofs.Asked.{all_pass, refused}
use Rattle.axis.specs.Questions.{plain_questions}
use Rattle.counting.proofs.Counting.{index_dated}
use Rattle.discrete.specs.Answers.{size_questions}
use Rattle.discrete.proofs.Answers.{counted}
use Rattle.std.specs.Prelude.{Ok, Err}
use Rattle.std.proofs.lemmas.Result.{err_from_is_err_and}
use Rattle.axis.specs.Axes.{closed}
use Rattle.discrete.proofs.counted.Goals as goal
use Rattle.discrete.proofs.counted.Goals.{In_ok-ask_plain}

pub ask_plain-requires : goal.ask_plain-requires
ask_plain-requires c t = index_dated c.args.a (sym c.has_index.ensures ∙ t)

pass : (c : In_ok-ask_plain) → passes (size_questions c.args.a) ≡ true
pass c = rw c.has_index.ensures at
    (all_pass (plain_questions c.has_index.result c.args.a) tt (sym c.ask_plain.ensures ∙ c.in_ok-ask_plain.was))

pub invariant_of-result : goal.invariant_of-result
invariant_of-result c = record {
  dated = rw c.closed.ensures (counted c.args.a (pass (goal.at.invariant_of-result c).In_ok-ask_plain));
}

pub returns-in_err-ask_plain-clause-refused : goal.returns-in_err-ask_plain-clause-refused
returns-in_err-ask_plain-clause-refused c = λ q is. let a = c.args.a in
    let p = err_from_is_err_and c.from_residual.result c.from_residual.ensures.1 in
    let same : p.0 ≡ q = cc in
    sym (refused (size_questions a) tt (Ok (closed a)) _ (sym (rw c.has_index.ensures at c.in_err-ask_plain.ensures)))
    ∙ ap Err (sym p.2 ∙ same)
