-- `discrete::counted_for` meets its contract. Assumes nothing.
use mathlib.Core.Path.{refl, sym, ◌∙◌, ◌≡◌, ap}
use mathlib.Core.List.{[], ◌∷◌}
use Rattle.asking.specs.declared.Refusal.TheVariants as refusal
use Rattle.asking.specs.Asking.{ask}
use Rattle.asking.proofs.Asked.{all_pass, told, refused_first}
use Rattle.counting.proofs.Counting.{value_on_law}
use Rattle.std.specs.Prelude.{Ok, Err}
use Rattle.std.proofs.lemmas.Result.{err_from_is_err_and}
use Rattle.axis.specs.Axes.{closed}
use Rattle.axis.specs.Questions.{value_on}
use Rattle.discrete.specs.Answers.{size_questions}
use Rattle.discrete.proofs.counted_for.Goals as goal

pub invariant_of-result : goal.invariant_of-result
invariant_of-result c = let row = ask refusal.Value c.value_on.result ∷ [] in
    let pass = all_pass row tt (sym c.ask.ensures ∙ c.in_ok-ask.was) in
    record {
      on = rw (c.in_ok-dates.ensures.passed c.in_ok-dates.dates refl).1
          (value_on_law c.args.a c.args.v ∙ sym c.value_on.ensures ∙ told 8 row pass);
    }

pub returns-in_err-dates-clause-refused : goal.returns-in_err-dates-clause-refused
returns-in_err-dates-clause-refused c = λ q is. let x = c.args in
    let p = err_from_is_err_and c.from_residual.result c.from_residual.ensures.1 in
    let same : p.0 ≡ q = cc in
    sym (refused_first (size_questions x.a) (ask refusal.Value (value_on x.a x.v) ∷ []) (closed x.a) (Ok (closed x.a)) _
    (c.counted.ensures.refused _ c.in_err-dates.was))
    ∙ ap Err (sym p.2 ∙ same)
