-- `unmapping::Offset::over` meets its contract: each branch is one of the definition's. Assumes nothing.
use borrow.Author.Rules.{rules}
use mathlib.Core.Path.{◌≡◌, sym, ◌∙◌, ap}
use mathlib.Core.Bool.{Bool, true, false}
use lib.IntN.{ℤ, pos, ◌+ℤ◌, ◌*ℤ◌}
use lib.Signed.{quot_z, rem_z}
use mir.Syntax.{w64}
use mir.Val.{to_z, of_z}
use mir.Facts.{to_z-of_z}
use Rattle.laws.specs.Numbers.{neg_part}
use Rattle.values.specs.Differences.{fits_i64}
use Rattle.values.proofs.Fits.{answer_none, answer_some}
use Rattle.axis.specs.Axes.{span_of}
use Rattle.axis.proofs.Axes.{span_from_0}
use Rattle.unmapping.specs.declared.Offset.{Offset}
use Rattle.unmapping.specs.Unmapping.{product_fits, by_nanoseconds, by_days}
use Rattle.unmapping.specs.Moves.{since_zero, date_time_answer}
use Rattle.unmapping.proofs.Moves.{moved_long, branch}
use Rattle.unmapping.proofs.Offset.over.Goals as goal
use Rattle.unmapping.proofs.Offset.over.Goals.{In-Some}

-- a span that fits
module _ (c : In-Some) where
  abbrev span : ℤ
  span = span_of c.args.a

  abbrev o : Offset
  o = c.args.self

  fits : fits_i64 span ≡ true
  fits = (answer_some span c.span.result c.span.ensures c.in-Some.s c.in-Some.is).0

  -- as the code has it
  abbrev read : ℤ
  read = to_z w64 (of_z w64 c.in-Some.s)

  span_is : read ≡ span
  span_is = to_z-of_z {w = w64} {z = c.in-Some.s} (search rules)
      ∙ (answer_some span c.span.result c.span.ensures c.in-Some.s c.in-Some.is).1

  none_below : neg_part read ≡ 0
  none_below = ap neg_part span_is ∙ span_from_0 c.args.a c.requires.0 c.requires.1

  tested : (b : Bool) → b ≡ product_fits o.pixels (quot_z read o.width) (rem_z read o.width) →
      product_fits o.pixels (quot_z span o.width) (rem_z span o.width) ≡ b
  tested b e = sym (e ∙ ap (λ (z : ℤ). product_fits o.pixels (quot_z z o.width) (rem_z z o.width)) span_is)

pub returns-in_default : goal.returns-in_default
returns-in_default c = let x = c.args in
    let s = span_of x.a in
    let days = to_z-of_z {w = w64} {z = c.span_days.result} (search rules) ∙ c.span_days.ensures in
    let long : fits_i64 s ≡ false = answer_none s c.span.result c.span.ensures c.in_default.is in
    c.by_days.ensures
    ∙ ((λ i. date_time_answer (since_zero x.self.from +ℤ by_days (days i) x.self.width x.self.pixels *ℤ pos 86400000000000))
    ∙ ap (λ (y : ℤ). date_time_answer (since_zero x.self.from +ℤ y)) (moved_long s x.self.width x.self.pixels long))

pub product_fits-requires : goal.product_fits-requires
product_fits-requires c = none_below (goal.at.product_fits-requires c).In-Some

pub by_nanoseconds-requires : goal.by_nanoseconds-requires
by_nanoseconds-requires c = (
  none_below (goal.at.by_nanoseconds-requires c).In-Some,
  sym c.product_fits.ensures ∙ c.if-product_fits.true,
)

pub returns-then-product_fits : goal.returns-then-product_fits
returns-then-product_fits c = let x = c.args in
    let p = (goal.at.returns-then-product_fits c).In-Some in
    let e = tested p true (sym c.if-product_fits.true ∙ c.product_fits.ensures) in
    c.by_nanoseconds.ensures
    ∙ ((λ i. date_time_answer (since_zero x.self.from +ℤ by_nanoseconds (span_is p i) x.self.width x.self.pixels))
    ∙ ap (λ (y : ℤ). date_time_answer (since_zero x.self.from +ℤ y))
    (branch (span_of x.a) x.self.width x.self.pixels true (fits p) e))

pub returns : goal.returns
returns c = let x = c.args in
    let p = (goal.at.returns c).In-Some in
    let e = tested p false (sym c.if-product_fits.false ∙ c.product_fits.ensures) in
    let days = to_z-of_z {w = w64} {z = c.span_days-2.result} (search rules) ∙ c.span_days-2.ensures in
    c.by_days-2.ensures
    ∙ ((λ i. date_time_answer (since_zero x.self.from +ℤ by_days (days i) x.self.width x.self.pixels *ℤ pos 86400000000000))
    ∙ ap (λ (y : ℤ). date_time_answer (since_zero x.self.from +ℤ y))
    (branch (span_of x.a) x.self.width x.self.pixels false (fits p) e))
