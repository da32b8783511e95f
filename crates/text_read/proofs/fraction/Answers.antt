-- `text_read::fraction` meets its contract: nothing, another byte, or a point and its digits. Assumes nothing.
use mathlib.Core.Path.{refl, sym, ◌∙◌, ap}
use borrow.Author.Tests.{eqb-true, eqb-false}
use Rattle.text_read.specs.Bytes.{point_byte}
use Rattle.text_read.specs.Fields.{nanos_of}
use Rattle.text_read.proofs.Fields.{front, front_other, fraction_none, fraction_other, fraction_some}
use Rattle.text_read.proofs.fraction.Goals as goal

pub returns-then-is_empty-clause-value : goal.returns-then-is_empty-clause-value
returns-then-is_empty-clause-value c = sym (fraction_none _ (eqb-true _ 0 (sym c.is_empty.ensures ∙ c.if-is_empty.true)))

pub returns-in_err-strip_prefix-clause-value : goal.returns-in_err-strip_prefix-clause-value
returns-in_err-strip_prefix-clause-value c = let s = c.args.s.now in
    let other = eqb-false _ point_byte (front_other point_byte s refl c.in_err-strip_prefix.ensures.cases) in
    c.from_residual.ensures ∙ sym (fraction_other s (eqb-false _ 0 (sym c.is_empty.ensures ∙ c.if-is_empty.false)) other)

pub returns-clause-value : goal.returns-clause-value
returns-clause-value c = let s = c.args.s.now in
    let point = eqb-true _ point_byte (front point_byte s c.in_ok-strip_prefix.ensures.cases.0) in
    c.nanos.ensures.value ∙ ap nanos_of c.in_ok-strip_prefix.ensures.cases.1
    ∙ sym (fraction_some s (eqb-false _ 0 (sym c.is_empty.ensures ∙ c.if-is_empty.false)) point)
