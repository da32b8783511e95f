-- `rules::count` meets its contract. Assumes nothing.
use mathlib.Core.Path.{◌≡◌, sym}
use lib.ListN.{length}
use Rattle.std.specs.Prelude.{Ok}
use Rattle.std.proofs.lemmas.Result.{err_from_is_err_and}
use Rattle.asking.proofs.Asked.{answered_ok, passed, refused}
use Rattle.rules.specs.Cover.{rows_of}
use Rattle.rules.specs.Table.{rows_in, table_questions, rules_answer}
use Rattle.rules.proofs.count.Goals as goal

pub returns-in_err-checked : goal.returns-in_err-checked
unfolding rules_answer
returns-in_err-checked c = let s = c.args.s.now in
    let p = err_from_is_err_and c.from_residual.result c.from_residual.ensures.1 in
    let e = rw c.in_err-checked.was at c.checked.ensures in
    rw (p.1, p.2) (refused (table_questions s) (rows_in s) (Ok (length (rows_in s))) _ (sym e))

pub returns : goal.returns
unfolding rules_answer
returns c = let s = c.args.s.now in
    let ws = rows_of c.in_ok-checked.field-0 in
    let e = rw c.in_ok-checked.was at c.checked.ensures in
    let (p, f) = answered_ok (table_questions s) (Ok (rows_in s)) ws (sym e) in
    let n : rows_in s ≡ ws = cc in
    rw (c.len.ensures.value, ← n) (passed (table_questions s) (Ok (length (rows_in s))) p)
