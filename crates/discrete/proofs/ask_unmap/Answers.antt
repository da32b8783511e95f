-- `discrete::ask_unmap` meets its contract. Assumes nothing.
use mathlib.Core.Path.{sym, ◌∙◌}
use Rattle.counting.proofs.Counting.{unmap_dated}
use mathlib.Core.List.{[], ◌∷◌}
use Rattle.std.specs.Prelude.{Ok}
use Rattle.std.proofs.lemmas.Result.{err_from_is_err_and}
use Rattle.asking.specs.Asking.{ask}
use Rattle.asking.specs.declared.Refusal.TheVariants as refusal
use Rattle.asking.proofs.Asked.{refused_first}
use Rattle.axis.specs.Questions.{has_unmap, unmap_pixels, plain_questions}
use Rattle.discrete.proofs.ask_unmap.Goals as goal

pub ask_plain-requires : goal.ask_plain-requires
ask_plain-requires c t = unmap_dated c.args.a (sym c.has_unmap.ensures ∙ t)

pub returns-in_err-ask_plain : goal.returns-in_err-ask_plain
returns-in_err-ask_plain c = let x = c.args in
    let p = err_from_is_err_and c.from_residual.result c.from_residual.ensures.1 in
    rw (p.1, p.2) (refused_first (plain_questions (has_unmap x.a) x.a)
    (ask refusal.Limits (unmap_pixels x.l x.p) ∷ []) tt (Ok tt) _
    (sym (rw c.has_unmap.ensures at c.in_err-ask_plain.ensures)))
