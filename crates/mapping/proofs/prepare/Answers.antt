-- `mapping::prepare` meets its contract. Assumes nothing.
use mathlib.Core.Path.{sym}
use Rattle.std.specs.Prelude.{Ok}
use Rattle.std.proofs.lemmas.Result.{err_from_is_err_and}
use Rattle.asking.proofs.Asked.{refused}
use Rattle.mapping.specs.Mapping.{scale_questions}
use Rattle.mapping.proofs.prepare.Goals as goal

pub returns-in_err-ask_scale : goal.returns-in_err-ask_scale
returns-in_err-ask_scale c = let x = c.args in
    let p = err_from_is_err_and c.from_residual.result c.from_residual.ensures.1 in
    rw (p.1, p.2) (refused (scale_questions x.a x.l) tt (Ok (x.a, x.l)) _ (sym c.in_err-ask_scale.ensures))
