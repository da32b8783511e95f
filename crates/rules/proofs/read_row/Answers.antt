-- `rules::read_row` meets its contract: the four fields, from the first on. Assumes nothing.
use borrow.Author.Rules.{rules}
use mathlib.Core.Path.{◌≡◌, sym, ◌∙◌}
use lib.Dec.{eqb}
use Rattle.std.proofs.Common.{tests}
use Rattle.std.proofs.lemmas.Iterator.Splits.{YieldsList-from_slice_split}
use Rattle.text_read.specs.Bytes.{space_byte}
use Rattle.text_read.specs.Fields.{field_of, read_number}
use Rattle.text_read.specs.Lines.{rest_of}
use Rattle.text_read.proofs.Parts.{formed, fields, parts, number_alone, begins, taken, not_over}
use Rattle.rules.specs.Rows.{read_row}
use Rattle.rules.proofs.read_row.Goals as goal
use Rattle.rules.proofs.read_row.Goals.{After-split-fields, In_ok-next, In_ok-next-2, In_ok-next-3, In_ok-next-4}

pub returns-then-not-in_form : goal.returns-then-not-in_form
unfolding read_row
returns-then-not-in_form c = rw (← c.in_form.ensures, c.if-not-in_form.true)

-- ---- the parts are the fields
cut : (c : After-split-fields) → parts c.args.s.now ≡ fields 3 c.args.s.now
cut c = formed 3 c.args.s.now (sym c.in_form.ensures ∙ c.if-not-in_form.false)

first : (c : In_ok-next) → read_number c.in_ok-next.field-0.now ≡ read_number c.args.s.now
first c =
    let p = c.split-fields.ensures in
    let f = cut (goal.at.In_ok-next c).After-split-fields in
    let a = taken (begins f (YieldsList-from_slice_split _ (λ b. eqb b space_byte) c.args.s.now p.rest p.done p.closure
    (λ x b q k. search (rules, tests)))) c.in_ok-next.was c.next.ensures.steps in
    rw a.0 (number_alone c.args.s.now)

second : (c : In_ok-next-2) → read_number c.in_ok-next-2.field-0.now ≡ read_number (rest_of c.args.s.now)
second c =
    let p = c.split-fields.ensures in
    let f = cut (goal.at.In_ok-next-2 c).After-split-fields in
    let a = taken (begins f (YieldsList-from_slice_split _ (λ b. eqb b space_byte) c.args.s.now p.rest p.done p.closure
    (λ x b q k. search (rules, tests)))) c.in_ok-next.was c.next.ensures.steps in
    rw (taken a.1 c.in_ok-next-2.was c.next-2.ensures.steps).0 (number_alone (rest_of c.args.s.now))

third : (c : In_ok-next-3) → c.in_ok-next-3.field-0.now ≡ field_of (rest_of (rest_of c.args.s.now))
third c =
    let p = c.split-fields.ensures in
    let f = cut (goal.at.In_ok-next-3 c).After-split-fields in
    let a = taken (begins f (YieldsList-from_slice_split _ (λ b. eqb b space_byte) c.args.s.now p.rest p.done p.closure
    (λ x b q k. search (rules, tests)))) c.in_ok-next.was c.next.ensures.steps in
    let d = (taken a.1 c.in_ok-next-2.was c.next-2.ensures.steps).1 in
    (taken d c.in_ok-next-3.was c.next-3.ensures.steps).0

fourth : (c : In_ok-next-4) → read_number c.in_ok-next-4.field-0.now ≡ read_number (rest_of (rest_of (rest_of c.args.s.now)))
fourth c =
    let p = c.split-fields.ensures in
    let f = cut (goal.at.In_ok-next-4 c).After-split-fields in
    let a = taken (begins f (YieldsList-from_slice_split _ (λ b. eqb b space_byte) c.args.s.now p.rest p.done p.closure
    (λ x b q k. search (rules, tests)))) c.in_ok-next.was c.next.ensures.steps in
    let d = (taken a.1 c.in_ok-next-2.was c.next-2.ensures.steps).1 in
    let e = (taken d c.in_ok-next-3.was c.next-3.ensures.steps).1 in
    rw (taken e c.in_ok-next-4.was c.next-4.ensures.steps).0 (number_alone (rest_of (rest_of (rest_of c.args.s.now))))

-- ---- no part is missing
pub returns-in_err-next-2 : goal.returns-in_err-next-2
returns-in_err-next-2 c =
    let p = c.split-fields.ensures in
    let f = cut (goal.at.returns-in_err-next-2 c).After-split-fields in
    let a = taken (begins f (YieldsList-from_slice_split _ (λ b. eqb b space_byte) c.args.s.now p.rest p.done p.closure
    (λ x b q k. search (rules, tests)))) c.in_ok-next.was c.next.ensures.steps in
    absurd (not_over a.1 c.in_err-next-2.was c.next-2.ensures.steps)

pub returns-in_err-next-3 : goal.returns-in_err-next-3
returns-in_err-next-3 c =
    let p = c.split-fields.ensures in
    let f = cut (goal.at.returns-in_err-next-3 c).After-split-fields in
    let a = taken (begins f (YieldsList-from_slice_split _ (λ b. eqb b space_byte) c.args.s.now p.rest p.done p.closure
    (λ x b q k. search (rules, tests)))) c.in_ok-next.was c.next.ensures.steps in
    let d = (taken a.1 c.in_ok-next-2.was c.next-2.ensures.steps).1 in
    absurd (not_over d c.in_err-next-3.was c.next-3.ensures.steps)

pub returns-in_err-next-4 : goal.returns-in_err-next-4
returns-in_err-next-4 c =
    let p = c.split-fields.ensures in
    let f = cut (goal.at.returns-in_err-next-4 c).After-split-fields in
    let a = taken (begins f (YieldsList-from_slice_split _ (λ b. eqb b space_byte) c.args.s.now p.rest p.done p.closure
    (λ x b q k. search (rules, tests)))) c.in_ok-next.was c.next.ensures.steps in
    let d = (taken a.1 c.in_ok-next-2.was c.next-2.ensures.steps).1 in
    let e = (taken d c.in_ok-next-3.was c.next-3.ensures.steps).1 in
    absurd (not_over e c.in_err-next-4.was c.next-4.ensures.steps)

-- ---- each field decides
pub returns-in_err-from : goal.returns-in_err-from
unfolding read_row
returns-in_err-from c =
    let p = goal.at.returns-in_err-from c in
    rw (
      c.from_residual-in_err-from.ensures,
      ← c.in_form.ensures,
      c.if-not-in_form.false,
      ← (c.number.ensures ∙ first p.In_ok-next),
      c.in_err-from.was,
    )

pub returns-in_err-to : goal.returns-in_err-to
unfolding read_row
returns-in_err-to c =
    let p = goal.at.returns-in_err-to c in
    rw (
      c.from_residual-in_err-to.ensures,
      ← c.in_form.ensures,
      c.if-not-in_form.false,
      ← (c.number.ensures ∙ first p.In_ok-next),
      c.in_ok-from.was,
      ← (c.number-2.ensures ∙ second p.In_ok-next-2),
      c.in_err-to.was,
    )

pub returns-in_err-unit : goal.returns-in_err-unit
unfolding read_row
returns-in_err-unit c =
    let p = goal.at.returns-in_err-unit c in
    rw (
      c.from_residual-in_err-unit.ensures,
      ← c.in_form.ensures,
      c.if-not-in_form.false,
      ← (c.number.ensures ∙ first p.In_ok-next),
      c.in_ok-from.was,
      ← (c.number-2.ensures ∙ second p.In_ok-next-2),
      c.in_ok-to.was,
      ← third p.In_ok-next-3,
      ← c.try_from.ensures,
      ← c.ok.ensures.value,
      c.in_err-unit.was,
    )

pub returns-in_err-step : goal.returns-in_err-step
unfolding read_row
returns-in_err-step c =
    let p = goal.at.returns-in_err-step c in
    rw (
      c.from_residual-in_err-step.ensures,
      ← c.in_form.ensures,
      c.if-not-in_form.false,
      ← (c.number.ensures ∙ first p.In_ok-next),
      c.in_ok-from.was,
      ← (c.number-2.ensures ∙ second p.In_ok-next-2),
      c.in_ok-to.was,
      ← third p.In_ok-next-3,
      ← c.try_from.ensures,
      ← c.ok.ensures.value,
      c.in_ok-unit.was,
      ← (c.number-3.ensures ∙ fourth p.In_ok-next-4),
      c.in_err-step.was,
    )

pub returns : goal.returns
unfolding read_row
returns c =
    let p = goal.at.returns c in
    rw (
      c.row_read.ensures,
      ← c.in_form.ensures,
      c.if-not-in_form.false,
      ← (c.number.ensures ∙ first p.In_ok-next),
      c.in_ok-from.was,
      ← (c.number-2.ensures ∙ second p.In_ok-next-2),
      c.in_ok-to.was,
      ← third p.In_ok-next-3,
      ← c.try_from.ensures,
      ← c.ok.ensures.value,
      c.in_ok-unit.was,
      ← (c.number-3.ensures ∙ fourth p.In_ok-next-4),
      c.in_ok-step.was,
    ) (search rules)
