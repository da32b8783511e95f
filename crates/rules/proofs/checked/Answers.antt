-- `rules::checked` meets its contract. Assumes nothing.
use mathlib.Core.Path.{◌≡◌, sym, ap, ◌∙◌}
use mathlib.Core.List.{List}
use Rattle.std.specs.Prelude.{None, Some, Ok}
use Rattle.std.specs.Option.{option_map}
use Rattle.std.proofs.lemmas.Result.{err_from_is_err_and}
use native.Mathlib.Omega.{arith}
use Rattle.asking.proofs.Asked.{all_pass, passed, refused}
use Rattle.rules.specs.declared.Row.{Row}
use Rattle.rules.specs.declared.Table.{Table}
use Rattle.rules.specs.Cover.{rows_of}
use Rattle.rules.specs.Table.{table_of, length_questions}
use Rattle.rules.proofs.Judged.{asked_unread, asked_read}
use Rattle.rules.proofs.checked.Goals as goal
use Rattle.rules.proofs.checked.Goals.{In_ok-table}

abbrev table_rows : Table → List Row
table_rows t = rows_of t.rows

pub returns-in_err-table : goal.returns-in_err-table
returns-in_err-table c = let p = err_from_is_err_and c.from_residual.result c.from_residual.ensures.1 in
    let n : c.read_table.result ≡ None = grind arith in
    rw (p.1, p.2, asked_unread c.args.s.now (sym c.read_table.ensures ∙ ap (option_map table_rows) n)) (grind arith)

-- the rows
read : (c : In_ok-table) → table_of c.args.s.now ≡ Some (rows_of c.in_ok-table.table.rows)
read c =
    sym c.read_table.ensures
    ∙ ap (option_map table_rows) (let r : c.read_table.result ≡ Some c.in_ok-table.table = grind arith in r)

pub returns-in_err-ask_lengths : goal.returns-in_err-ask_lengths
returns-in_err-ask_lengths c = let ws = rows_of c.in_ok-table.table.rows in
    let p = err_from_is_err_and c.from_residual-in_err-ask_lengths.result c.from_residual-in_err-ask_lengths.ensures.1 in
    rw (p.1, p.2) (refused (length_questions ws) tt (Ok ws) _ (sym c.ask_lengths.ensures ∙ c.in_err-ask_lengths.was)
    ∙ sym (asked_read c.args.s.now ws (read (goal.at.returns-in_err-ask_lengths c).In_ok-table)))

pub returns : goal.returns
returns c = let ws = rows_of c.in_ok-table.table.rows in
    passed (length_questions ws) (Ok ws) (all_pass (length_questions ws) tt (sym c.ask_lengths.ensures ∙ c.in_ok-ask_lengths.was))
    ∙ sym (asked_read c.args.s.now ws (read (goal.at.returns c).In_ok-table))
