-- `text_rows::Printer::request_rows` meets its contract: the refusal, or a line for each tick. Assumes nothing.
use borrow.Author.Rules.{rules}
use mathlib.Core.Path.{◌≡◌, sym, ◌∙◌, ap}
use mathlib.Core.Bool.{true}
use Prim.Native.Nat.{ℕ}
use native.Mathlib.Omega.{arith}
use lib.ListN.{length}
use Rattle.asking.specs.Asking.{passes}
use Rattle.asking.proofs.Asked.{all_pass}
use Rattle.axis.specs.declared.Hint.TheVariants.{Bold}
use Rattle.ticks.specs.Answers.{tick_questions, ticks_handed}
use Rattle.text_write.proofs.Writing.{within}
use Rattle.text_rows.proofs.Lists.{few, printable, request_refused, request_listed}
use Rattle.text_rows.proofs.Printer.request_rows.Goals as goal
use Rattle.text_rows.proofs.Printer.request_rows.Goals.{In-Ok, After-key_points-list}

none : {g : _} (c : In-Ok g) → passes (tick_questions c.args.q.axis (Bold c.args.q.hint)) ≡ true
none {g} c = all_pass (tick_questions c.args.q.axis (Bold c.args.q.hint)) _ (sym c.ask_ticks.ensures ∙ c.in-Ok.is)

-- the part that is handed back, of 8,194 lent numbers
handed : {g : _} (c : After-key_points-list g) →
    c.key_points-list.result.now ≡ ticks_handed c.args.q.axis (Bold c.args.q.hint) 8194
handed {g} c =
    let size : length c.args.self.now.lent ≡ 8194 = search rules in
    c.key_points-list.ensures.value ∙ ap (λ (n : ℕ). ticks_handed c.args.q.axis (Bold c.args.q.hint) n) size

pub list_rows-requires : goal.list_rows-requires
list_rows-requires g c =
    let q = c.args.q in
    let z = none (goal.at.list_rows-requires g c).In-Ok in
    let l = handed (goal.at.list_rows-requires g c).After-key_points-list in
    (search rules, (rw l (printable q.axis q.hint z), rw l (omega (arith, few q.axis q.hint z))))

pub returns-in-Ok : goal.returns-in-Ok
returns-in-Ok g c =
    let q = c.args.q in
    let z = none (goal.at.returns-in-Ok g c).In-Ok in
    rw (request_listed c.args.number q z)
    (within (few q.axis q.hint z) (rw (handed (goal.at.returns-in-Ok g c).After-key_points-list) at c.list_rows.ensures))

pub returns-in-Err : goal.returns-in-Err
returns-in-Err g c =
    rw (request_refused c.args.number c.args.q _ _ (sym c.ask_ticks.ensures ∙ c.in-Err.is))
    (within (omega arith) c.refusal_row.ensures)
