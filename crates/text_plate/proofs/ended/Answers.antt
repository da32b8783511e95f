-- `text_plate::ended` meets its contract: each answer is one of the definition's. Assumes nothing.
use native.Mathlib.Omega.{arith}
use lib.ListN.{length}
use mathlib.Core.Path.{◌≡◌}
use Rattle.std.proofs.lemmas.Bool.Decides.{nat_tests}
use Rattle.text_write.proofs.Writing.{within, nothing}
use Rattle.text_plate.proofs.Lines.{ended_names, ended_none, ended_some}
use Rattle.text_plate.proofs.ended.Goals as goal

pub returns-then-number-eq0 : goal.returns-then-number-eq0
returns-then-number-eq0 g c = rw (ended_names _ _ c.if-number-eq0.true) c.no_names.ensures

pub returns-then-not-is_empty : goal.returns-then-not-is_empty
returns-then-not-is_empty g c =
    let h : length c.args.text.now ≡ 0 → ⊥ = grind (arith, nat_tests) in
    rw (ended_some _ _ c.if-number-eq0.false h) (within (omega arith) c.refusal_row.ensures)

pub returns-else-not-is_empty : goal.returns-else-not-is_empty
returns-else-not-is_empty g c =
    let h : length c.args.text.now ≡ 0 = grind (arith, nat_tests) in
    rw (ended_none _ _ c.if-number-eq0.false h) (nothing _ _)
