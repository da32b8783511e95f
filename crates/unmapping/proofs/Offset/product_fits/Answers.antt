-- `unmapping::Offset::product_fits` meets its contract. Assumes nothing.
use borrow.Author.Rules.{rules}
use mathlib.Core.Path.{◌≡◌, refl, sym, ◌∙◌, ap}
use mathlib.Core.Bool.{false}
use lib.IntN.{pos}
use lib.Signed.{quot_z, rem_z}
use mir.Syntax.{w64}
use mir.Val.{SFits, to_z}
use mir.Facts.{to_z-of_z}
use borrow.Author.Tests.{ne_eqb}
use Rattle.laws.specs.Numbers.{is_number}
use Rattle.laws.proofs.Signed.{rem_fits, count_fits}
use Rattle.values.proofs.Order.{tested_equal}
use Rattle.unmapping.proofs.Moves.{quot_abs_fits}
use native.Mathlib.Omega.{arith}
use Rattle.unmapping.proofs.Offset.product_fits.Goals as goal
use Rattle.unmapping.proofs.Offset.product_fits.Goals.{Start}

module _ (c : Start) where
  pixels_fit : SFits w64 c.args.self.pixels
  pixels_fit = search rules

  width_fits : SFits w64 c.args.self.width
  width_fits = search rules

pub returns-then-factor-eq0 : goal.returns-then-factor-eq0
returns-then-factor-eq0 c = let o = c.args.self in
    let s = c.args.s in
    let w = to_z-of_z (width_fits (goal.at.returns-then-factor-eq0 c).Start) in
    let q = quot_abs_fits s o.width c.ranges.s c.requires in
    let h = rw (w, to_z-of_z c.ranges.s) at c.if-factor-eq0.true in
    let z : quot_z s o.width ≡ pos 0 = sym (to_z-of_z q) ∙ ap (to_z w64) h in
    rw z

pub returns : goal.returns
returns c = let o = c.args.self in
    let s = c.args.s in
    let w = to_z-of_z (width_fits (goal.at.returns c).Start) in
    let q = quot_abs_fits s o.width c.ranges.s c.requires in
    let r = rem_fits s o.width c.ranges.s in
    let z = count_fits 0 (omega arith) in
    let m = quot_abs_fits (pos 9223372036854775807) (quot_z s o.width) (count_fits 9223372036854775807 (omega arith)) refl in
    let e : is_number (quot_z s o.width) 0 ≡ false =
    sym (tested_equal (quot_z s o.width) (pos 0) q z) ∙ ne_eqb _ 0 (rw (w, to_z-of_z c.ranges.s) at c.if-factor-eq0.false) in
    rw (
      w,
      to_z-of_z c.ranges.s,
      to_z-of_z q,
      to_z-of_z m,
      tested_equal (rem_z s o.width) (pos 0) r z,
      to_z-of_z {w = w64} {z = c.abs-size.result} (search rules),
      c.abs-size.ensures.value,
      to_z-of_z (pixels_fit (goal.at.returns c).Start),
      e,
    )
