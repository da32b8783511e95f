-- `discrete::counted_at` meets its contract. Assumes nothing.
use mathlib.Core.Path.{◌≡◌, refl, sym, ◌∙◌, subst, ap}
use mathlib.Core.Bool.{true}
use mathlib.Core.List.{[], ◌∷◌}
use Prim.Native.Nat.{ℕ, ◌≤◌}
use native.Mathlib.Omega.{arith}
use mir.Facts.{to_z-of_z}
use Rattle.std.specs.Prelude.{Ok, Err}
use Rattle.laws.specs.Numbers.{pos_part}
use Rattle.asking.specs.declared.Refusal.TheVariants as refusal
use Rattle.asking.specs.Asking.{ask, passes}
use Rattle.asking.proofs.Asked.{all_pass, told, passed_first, refused, refused_first}
use Rattle.calendar.specs.Questions.{last_day}
use Rattle.axis.specs.Axes.{closed}
use Rattle.axis.specs.Questions.{is_index}
use Rattle.counting.specs.declared.DateAxis.{DateAxis}
use Rattle.discrete.specs.Answers.{size_questions, index_questions}
use Rattle.discrete.proofs.Answers.{index_asked}
use Rattle.std.proofs.lemmas.Result.{err_from_is_err_and}
use Rattle.discrete.proofs.counted_at.Goals as goal

pub returns-clause-passed : goal.returns-clause-passed
returns-clause-passed c x e = let a = c.args.a in
    let i = c.args.i in
    let (pass, is) = c.in_ok-dates.ensures.passed c.in_ok-dates.dates refl in
    let row = ask refusal.Value c.is_index.result ∷ [] in
    let yes : is_index i ≡ true =
    rw (to_z-of_z c.ranges.i) at (sym c.is_index.ensures ∙ told 8 row (all_pass row tt (sym c.ask.ensures ∙ c.in_ok-ask.was))) in
    let k = index_asked a i (pos_part i)
    (sym (passed_first (size_questions a) (ask refusal.Value (is_index i) ∷ []) (Ok (pos_part i)) pass) ∙ rw yes refl) in
    let count = rw (to_z-of_z c.ranges.i) at c.as_count.ensures in
    let z : (c.in_ok-dates.dates, c.as_count.result) ≡ x = cc in
    subst (λ (y : DateAxis × ℕ). (passes (index_questions a i) ≡ true) × (y.0.axis ≡ closed a) × (y.1 ≡ pos_part i)
    × (y.1 ≤ last_day)) z (k.row, is, count, omega (arith, count, k.most))

pub returns-in_err-dates-clause-refused : goal.returns-in_err-dates-clause-refused
returns-in_err-dates-clause-refused c = λ q is. let x = c.args in
    let p = err_from_is_err_and c.from_residual.result c.from_residual.ensures.1 in
    let same : p.0 ≡ q = cc in
    sym (refused_first (size_questions x.a) (ask refusal.Value (is_index x.i) ∷ []) (closed x.a) (Ok (closed x.a)) _
    (c.counted.ensures.refused _ c.in_err-dates.was))
    ∙ ap Err (sym p.2 ∙ same)

pub returns-in_err-ask-clause-refused : goal.returns-in_err-ask-clause-refused
returns-in_err-ask-clause-refused c = λ q is. let x = c.args in
    let p = err_from_is_err_and c.from_residual-in_err-ask.result c.from_residual-in_err-ask.ensures.1 in
    let same : p.0 ≡ q = cc in
    let (pass, _) = c.in_ok-dates.ensures.passed c.in_ok-dates.dates refl in
    let row = ask refusal.Value (is_index x.i) ∷ [] in
    sym (passed_first (size_questions x.a) row (Ok (closed x.a)) pass)
    ∙ sym (refused row tt (Ok (closed x.a)) _ (sym (rw (c.is_index.ensures, to_z-of_z c.ranges.i) at c.in_err-ask.ensures)))
    ∙ ap Err (sym p.2 ∙ same)
