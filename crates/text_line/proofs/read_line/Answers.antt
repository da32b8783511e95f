-- `text_line::read_line` meets its contract: the six fields, from the first on. Assumes nothing.
use borrow.Author.Rules.{rules}
use mathlib.Core.Path.{◌≡◌, sym, ◌∙◌}
use lib.Dec.{eqb}
use Rattle.std.proofs.Common.{tests}
use Rattle.std.specs.Option.{option_and_then}
use Rattle.std.proofs.lemmas.Iterator.Splits.{YieldsList-from_slice_split}
use Rattle.text_read.specs.Bytes.{space_byte}
use Rattle.text_read.specs.Fields.{field_of, read_number}
use Rattle.text_read.specs.Lines.{fields_from}
use Rattle.text_read.proofs.Parts.{formed, fields, parts, number_alone, begins, taken, not_over}
use Rattle.text_line.specs.Line.{kind_of, read_value, fields_of, read_line}
use Rattle.text_line.proofs.Values.{value_alone}
use Rattle.text_line.proofs.read_line.Goals as goal
use Rattle.text_line.proofs.read_line.Goals.{After-split-fields, In_ok-next, In_ok-next-2, In_ok-next-3}
use Rattle.text_line.proofs.read_line.Goals.{In_ok-next-4, In_ok-next-5, In_ok-next-6}

pub returns-then-not-in_form : goal.returns-then-not-in_form
unfolding read_line
returns-then-not-in_form c = rw (← c.in_form.ensures, c.if-not-in_form.true)

-- ---- the parts are the fields
cut : (c : After-split-fields) → parts c.args.s.now ≡ fields 5 c.args.s.now
cut c = formed 5 c.args.s.now (sym c.in_form.ensures ∙ c.if-not-in_form.false)

first : (c : In_ok-next) → c.in_ok-next.field-0.now ≡ field_of c.args.s.now
first c =
    let p = c.split-fields.ensures in
    let f = cut (goal.at.In_ok-next c).After-split-fields in
    let a = taken (begins f (YieldsList-from_slice_split _ (λ b. eqb b space_byte) c.args.s.now p.rest p.done p.closure
    (λ x b q k. search (rules, tests)))) c.in_ok-next.was c.next.ensures.steps in
    a.0

second : (c : In_ok-next-2) →
    read_value c.in_ok-kind.kind c.in_ok-next-2.field-0.now ≡ read_value c.in_ok-kind.kind (fields_from 1 c.args.s.now)
second c =
    let p = c.split-fields.ensures in
    let f = cut (goal.at.In_ok-next-2 c).After-split-fields in
    let a = taken (begins f (YieldsList-from_slice_split _ (λ b. eqb b space_byte) c.args.s.now p.rest p.done p.closure
    (λ x b q k. search (rules, tests)))) c.in_ok-next.was c.next.ensures.steps in
    rw (taken a.1 c.in_ok-next-2.was c.next-2.ensures.steps).0 (value_alone c.in_ok-kind.kind (fields_from 1 c.args.s.now))

third : (c : In_ok-next-3) →
    read_value c.in_ok-kind.kind c.in_ok-next-3.field-0.now ≡ read_value c.in_ok-kind.kind (fields_from 2 c.args.s.now)
third c =
    let p = c.split-fields.ensures in
    let f = cut (goal.at.In_ok-next-3 c).After-split-fields in
    let a = taken (begins f (YieldsList-from_slice_split _ (λ b. eqb b space_byte) c.args.s.now p.rest p.done p.closure
    (λ x b q k. search (rules, tests)))) c.in_ok-next.was c.next.ensures.steps in
    let b = (taken a.1 c.in_ok-next-2.was c.next-2.ensures.steps).1 in
    rw (taken b c.in_ok-next-3.was c.next-3.ensures.steps).0 (value_alone c.in_ok-kind.kind (fields_from 2 c.args.s.now))

fourth : (c : In_ok-next-4) → read_number c.in_ok-next-4.field-0.now ≡ read_number (fields_from 3 c.args.s.now)
fourth c =
    let p = c.split-fields.ensures in
    let f = cut (goal.at.In_ok-next-4 c).After-split-fields in
    let a = taken (begins f (YieldsList-from_slice_split _ (λ b. eqb b space_byte) c.args.s.now p.rest p.done p.closure
    (λ x b q k. search (rules, tests)))) c.in_ok-next.was c.next.ensures.steps in
    let b = (taken a.1 c.in_ok-next-2.was c.next-2.ensures.steps).1 in
    let d = (taken b c.in_ok-next-3.was c.next-3.ensures.steps).1 in
    rw (taken d c.in_ok-next-4.was c.next-4.ensures.steps).0 (number_alone (fields_from 3 c.args.s.now))

fifth : (c : In_ok-next-5) → read_number c.in_ok-next-5.field-0.now ≡ read_number (fields_from 4 c.args.s.now)
fifth c =
    let p = c.split-fields.ensures in
    let f = cut (goal.at.In_ok-next-5 c).After-split-fields in
    let a = taken (begins f (YieldsList-from_slice_split _ (λ b. eqb b space_byte) c.args.s.now p.rest p.done p.closure
    (λ x b q k. search (rules, tests)))) c.in_ok-next.was c.next.ensures.steps in
    let b = (taken a.1 c.in_ok-next-2.was c.next-2.ensures.steps).1 in
    let d = (taken b c.in_ok-next-3.was c.next-3.ensures.steps).1 in
    let e = (taken d c.in_ok-next-4.was c.next-4.ensures.steps).1 in
    rw (taken e c.in_ok-next-5.was c.next-5.ensures.steps).0 (number_alone (fields_from 4 c.args.s.now))

sixth : (c : In_ok-next-6) → read_number c.in_ok-next-6.field-0.now ≡ read_number (fields_from 5 c.args.s.now)
sixth c =
    let p = c.split-fields.ensures in
    let f = cut (goal.at.In_ok-next-6 c).After-split-fields in
    let a = taken (begins f (YieldsList-from_slice_split _ (λ b. eqb b space_byte) c.args.s.now p.rest p.done p.closure
    (λ x b q k. search (rules, tests)))) c.in_ok-next.was c.next.ensures.steps in
    let b = (taken a.1 c.in_ok-next-2.was c.next-2.ensures.steps).1 in
    let d = (taken b c.in_ok-next-3.was c.next-3.ensures.steps).1 in
    let e = (taken d c.in_ok-next-4.was c.next-4.ensures.steps).1 in
    let g = (taken e c.in_ok-next-5.was c.next-5.ensures.steps).1 in
    rw (taken g c.in_ok-next-6.was c.next-6.ensures.steps).0 (number_alone (fields_from 5 c.args.s.now))

-- ---- no part is missing
pub returns-in_err-next-2 : goal.returns-in_err-next-2
returns-in_err-next-2 c =
    let p = c.split-fields.ensures in
    let f = cut (goal.at.returns-in_err-next-2 c).After-split-fields in
    let a = taken (begins f (YieldsList-from_slice_split _ (λ b. eqb b space_byte) c.args.s.now p.rest p.done p.closure
    (λ x b q k. search (rules, tests)))) c.in_ok-next.was c.next.ensures.steps in
    absurd (not_over a.1 c.in_err-next-2.was c.next-2.ensures.steps)

pub returns-in_err-next-3 : goal.returns-in_err-next-3
returns-in_err-next-3 c =
    let p = c.split-fields.ensures in
    let f = cut (goal.at.returns-in_err-next-3 c).After-split-fields in
    let a = taken (begins f (YieldsList-from_slice_split _ (λ b. eqb b space_byte) c.args.s.now p.rest p.done p.closure
    (λ x b q k. search (rules, tests)))) c.in_ok-next.was c.next.ensures.steps in
    let b = (taken a.1 c.in_ok-next-2.was c.next-2.ensures.steps).1 in
    absurd (not_over b c.in_err-next-3.was c.next-3.ensures.steps)

pub returns-in_err-next-4 : goal.returns-in_err-next-4
returns-in_err-next-4 c =
    let p = c.split-fields.ensures in
    let f = cut (goal.at.returns-in_err-next-4 c).After-split-fields in
    let a = taken (begins f (YieldsList-from_slice_split _ (λ b. eqb b space_byte) c.args.s.now p.rest p.done p.closure
    (λ x b q k. search (rules, tests)))) c.in_ok-next.was c.next.ensures.steps in
    let b = (taken a.1 c.in_ok-next-2.was c.next-2.ensures.steps).1 in
    let d = (taken b c.in_ok-next-3.was c.next-3.ensures.steps).1 in
    absurd (not_over d c.in_err-next-4.was c.next-4.ensures.steps)

pub returns-in_err-next-5 : goal.returns-in_err-next-5
returns-in_err-next-5 c =
    let p = c.split-fields.ensures in
    let f = cut (goal.at.returns-in_err-next-5 c).After-split-fields in
    let a = taken (begins f (YieldsList-from_slice_split _ (λ b. eqb b space_byte) c.args.s.now p.rest p.done p.closure
    (λ x b q k. search (rules, tests)))) c.in_ok-next.was c.next.ensures.steps in
    let b = (taken a.1 c.in_ok-next-2.was c.next-2.ensures.steps).1 in
    let d = (taken b c.in_ok-next-3.was c.next-3.ensures.steps).1 in
    let e = (taken d c.in_ok-next-4.was c.next-4.ensures.steps).1 in
    absurd (not_over e c.in_err-next-5.was c.next-5.ensures.steps)

pub returns-in_err-next-6 : goal.returns-in_err-next-6
returns-in_err-next-6 c =
    let p = c.split-fields.ensures in
    let f = cut (goal.at.returns-in_err-next-6 c).After-split-fields in
    let a = taken (begins f (YieldsList-from_slice_split _ (λ b. eqb b space_byte) c.args.s.now p.rest p.done p.closure
    (λ x b q k. search (rules, tests)))) c.in_ok-next.was c.next.ensures.steps in
    let b = (taken a.1 c.in_ok-next-2.was c.next-2.ensures.steps).1 in
    let d = (taken b c.in_ok-next-3.was c.next-3.ensures.steps).1 in
    let e = (taken d c.in_ok-next-4.was c.next-4.ensures.steps).1 in
    let g = (taken e c.in_ok-next-5.was c.next-5.ensures.steps).1 in
    absurd (not_over g c.in_err-next-6.was c.next-6.ensures.steps)

-- ---- each field decides
known : (c : In_ok-next) → let s = c.args.s.now in
    option_and_then (λ k. fields_of k s) (kind_of c.in_ok-next.field-0.now) ≡ read_line s
unfolding read_line
known c = rw (first c, ← c.in_form.ensures, c.if-not-in_form.false)

pub returns-in_err-kind : goal.returns-in_err-kind
returns-in_err-kind c =
    let p = goal.at.returns-in_err-kind c in
    rw (
      c.from_residual-in_err-kind.ensures,
      ← known p.In_ok-next,
      ← c.kind_of.ensures,
      c.in_err-kind.was,
    )

pub returns-in_err-start : goal.returns-in_err-start
returns-in_err-start c =
    let p = goal.at.returns-in_err-start c in
    rw (
      c.from_residual-in_err-start.ensures,
      ← known p.In_ok-next,
      ← c.kind_of.ensures,
      c.in_ok-kind.was,
      ← (c.read_value.ensures ∙ second p.In_ok-next-2),
      c.in_err-start.was,
    )

pub returns-in_err-end : goal.returns-in_err-end
returns-in_err-end c =
    let p = goal.at.returns-in_err-end c in
    rw (
      c.from_residual-in_err-end.ensures,
      ← known p.In_ok-next,
      ← c.kind_of.ensures,
      c.in_ok-kind.was,
      ← (c.read_value.ensures ∙ second p.In_ok-next-2),
      c.in_ok-start.was,
      ← (c.read_value-2.ensures ∙ third p.In_ok-next-3),
      c.in_err-end.was,
    )

pub returns-in_err-n : goal.returns-in_err-n
returns-in_err-n c =
    let p = goal.at.returns-in_err-n c in
    rw (
      c.from_residual-in_err-n.ensures,
      ← known p.In_ok-next,
      ← c.kind_of.ensures,
      c.in_ok-kind.was,
      ← (c.read_value.ensures ∙ second p.In_ok-next-2),
      c.in_ok-start.was,
      ← (c.read_value-2.ensures ∙ third p.In_ok-next-3),
      c.in_ok-end.was,
      ← (c.number.ensures ∙ fourth p.In_ok-next-4),
      c.in_err-n.was,
    )

pub returns-in_err-low : goal.returns-in_err-low
returns-in_err-low c =
    let p = goal.at.returns-in_err-low c in
    rw (
      c.from_residual-in_err-low.ensures,
      ← known p.In_ok-next,
      ← c.kind_of.ensures,
      c.in_ok-kind.was,
      ← (c.read_value.ensures ∙ second p.In_ok-next-2),
      c.in_ok-start.was,
      ← (c.read_value-2.ensures ∙ third p.In_ok-next-3),
      c.in_ok-end.was,
      ← (c.number.ensures ∙ fourth p.In_ok-next-4),
      c.in_ok-n.was,
      ← (c.number-2.ensures ∙ fifth p.In_ok-next-5),
      c.in_err-low.was,
    )

pub returns-in_err-high : goal.returns-in_err-high
returns-in_err-high c =
    let p = goal.at.returns-in_err-high c in
    rw (
      c.from_residual-in_err-high.ensures,
      ← known p.In_ok-next,
      ← c.kind_of.ensures,
      c.in_ok-kind.was,
      ← (c.read_value.ensures ∙ second p.In_ok-next-2),
      c.in_ok-start.was,
      ← (c.read_value-2.ensures ∙ third p.In_ok-next-3),
      c.in_ok-end.was,
      ← (c.number.ensures ∙ fourth p.In_ok-next-4),
      c.in_ok-n.was,
      ← (c.number-2.ensures ∙ fifth p.In_ok-next-5),
      c.in_ok-low.was,
      ← (c.number-3.ensures ∙ sixth p.In_ok-next-6),
      c.in_err-high.was,
    )

pub returns : goal.returns
returns c =
    let p = goal.at.returns c in
    rw (
      ← known p.In_ok-next,
      ← c.kind_of.ensures,
      c.in_ok-kind.was,
      ← (c.read_value.ensures ∙ second p.In_ok-next-2),
      c.in_ok-start.was,
      ← (c.read_value-2.ensures ∙ third p.In_ok-next-3),
      c.in_ok-end.was,
      ← (c.number.ensures ∙ fourth p.In_ok-next-4),
      c.in_ok-n.was,
      ← (c.number-2.ensures ∙ fifth p.In_ok-next-5),
      c.in_ok-low.was,
      ← (c.number-3.ensures ∙ sixth p.In_ok-next-6),
      c.in_ok-high.was,
    ) (search rules)
