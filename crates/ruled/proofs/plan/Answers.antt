-- `ruled::plan` meets its contract: the table's questions, the axis's, and the plan by the row. Assumes nothing.
use mathlib.Core.Path.{◌≡◌, refl, sym, ap, ◌∙◌}
use mathlib.Core.Bool.{true}
use Rattle.std.specs.Prelude.{Some, Ok}
use Rattle.std.proofs.lemmas.Result.{err_from_is_err_and}
use Rattle.asking.specs.Asking.{passes}
use Rattle.asking.proofs.Asked.{all_pass, answered_ok, passes_append, passed_first, refused_first}
use Rattle.values.proofs.Values.{dates_no_duration}
use Rattle.axis.specs.Axes.{closed}
use Rattle.axis.specs.Questions.{plain_questions}
use Rattle.rules.specs.Rows.{InRange}
use Rattle.rules.specs.Cover.{rows_of, row_for}
use Rattle.rules.specs.Table.{rows_in, table_questions}
use Rattle.ruled.specs.Answers.{has_rules, ruled_questions, length_of, row_on}
use Rattle.ruled.specs.Plans.{ruled_plan}
use Rattle.ruled.proofs.Answers.{dated, row_fine}
use Rattle.ruled.proofs.plan.Goals as goal
use Rattle.ruled.proofs.plan.Goals.{After-row_for, After-unwrap-w, In_ok-ask_plain, In_ok-rules}

pub returns-in_err-rules : goal.returns-in_err-rules
returns-in_err-rules c = let t = c.args.table.now in
    let p = err_from_is_err_and c.from_residual.result c.from_residual.ensures.1 in
    let e = rw c.in_err-rules.was at c.checked.ensures in
    rw (p.1, p.2)
    (sym (refused_first (table_questions t) (plain_questions (has_rules c.args.a) c.args.a) (rows_in t) (Ok tt) _ (sym e)))

pub ask_plain-requires : goal.ask_plain-requires
unfolding has_rules
ask_plain-requires c e = dates_no_duration c.args.a.kind (sym c.has_rules.ensures ∙ e)

-- the table has passed its questions
accepted : (c : In_ok-rules) → let t = c.args.table.now in
    (passes (table_questions t) ≡ true) × (rows_in t ≡ rows_of c.in_ok-rules.rules)
accepted c = let t = c.args.table.now in
    let e = rw c.in_ok-rules.was at c.checked.ensures in
    let (p, f) = answered_ok (table_questions t) (Ok (rows_in t)) (rows_of c.in_ok-rules.rules) (sym e) in
    let n : rows_in t ≡ rows_of c.in_ok-rules.rules = cc in
    (p, n)

pub returns-in_err-ask_plain : goal.returns-in_err-ask_plain
returns-in_err-ask_plain c = let t = c.args.table.now in
    let p = err_from_is_err_and c.from_residual-in_err-ask_plain.result c.from_residual-in_err-ask_plain.ensures.1 in
    let e = rw (c.has_rules.ensures, c.in_err-ask_plain.was) at c.ask_plain.ensures in
    rw (p.1, p.2)
    (sym (passed_first (table_questions t) (plain_questions (has_rules c.args.a) c.args.a) (Ok tt)
    (accepted (goal.at.returns-in_err-ask_plain c).In_ok-rules).0) ∙ sym e)

-- and so has the axis
none : (c : In_ok-ask_plain) → passes (ruled_questions c.args.table.now c.args.a) ≡ true
none c = let t = c.args.table.now in
    let row = plain_questions (has_rules c.args.a) c.args.a in
    let e = rw c.has_rules.ensures at c.ask_plain.ensures in
    passes_append (table_questions t) row
    ∙ rw ((accepted (goal.at.In_ok-ask_plain c).In_ok-rules).0, all_pass row tt (sym e ∙ c.in_ok-ask_plain.was))

pub invariant_of-d : goal.invariant_of-d
invariant_of-d c =
    record { dated = rw c.closed.ensures (dated c.args.table.now c.args.a (none (goal.at.invariant_of-d c).In_ok-ask_plain)) }

-- the row that is found
row_is : (c : After-row_for) → c.row_for.result ≡ row_on (rows_in c.args.table.now) (closed c.args.a)
row_is c = let n = (accepted (goal.at.After-row_for c).In_ok-rules).1 in
    c.row_for.ensures
    ∙ (λ i. row_for ((c.as_slice.ensures.value ∙ sym n) i) ((c.length.ensures ∙ ap length_of c.closed.ensures) i))

pub unwrap-w-requires : goal.unwrap-w-requires
unwrap-w-requires c =
    let (w, e, r) = row_fine c.args.table.now c.args.a (none (goal.at.unwrap-w-requires c).In_ok-ask_plain) in
    rw (row_is (goal.at.unwrap-w-requires c).After-row_for, e) refl

found : (c : After-unwrap-w) → row_on (rows_in c.args.table.now) (closed c.args.a) ≡ Some c.unwrap-w.result
found c = sym (row_is (goal.at.After-unwrap-w c).After-row_for) ∙ c.unwrap-w.ensures

pub plan_by-requires : goal.plan_by-requires
plan_by-requires c = let t = c.args.table.now in
    let a = c.args.a in
    let z = none (goal.at.plan_by-requires c).In_ok-ask_plain in
    let (w, e, r) = row_fine t a z in
    let f = found (goal.at.plan_by-requires c).After-unwrap-w in
    let s : w ≡ c.unwrap-w.result = cc in
    let q : InRange c.unwrap-w.result = rw (← s) r in
    (q.step, q.short)

pub returns : goal.returns
returns c = let w = c.unwrap-w.result in (
  none (goal.at.returns c).In_ok-ask_plain,
  (w, found (goal.at.returns c).After-unwrap-w, c.plan_by.ensures ∙ ap (ruled_plan w.unit w.step) c.closed.ensures),
)
