-- `unmapping::Offset::by_nanoseconds` meets its contract. Assumes nothing.
use borrow.Author.Rules.{rules}
use mathlib.Core.Path.{◌≡◌}
use lib.IntN.{ℤ, ◌+ℤ◌, ◌*ℤ◌}
use lib.Signed.{quot_z, rem_z}
use mir.Syntax.{w64}
use mir.Val.{SFits, to_z, of_z}
use mir.Facts.{to_z-of_z}
use Rattle.laws.proofs.Signed.{rem_fits}
use Rattle.unmapping.specs.Moves.{OnWidth}
use Rattle.unmapping.proofs.Moves.{quot_abs_fits, product_fits_law, rest_product_fits, quotient_fits, sum_fits, divisor}
use Rattle.unmapping.proofs.Offset.by_nanoseconds.Goals as goal
use Rattle.unmapping.proofs.Offset.by_nanoseconds.Goals.{Start}

module _ (c : Start) where
  abbrev s : ℤ
  s = c.args.s

  abbrev w : ℤ
  w = c.args.self.width

  abbrev o : ℤ
  o = c.args.self.pixels

  abbrev on : OnWidth o w
  on = c.args.self.on_width

  -- what the code has read
  pixels_is : to_z w64 (of_z w64 o) ≡ o
  pixels_is = to_z-of_z {w = w64} {z = o} (search rules)

  width_fits : SFits w64 w
  width_fits = search rules

  width_is : to_z w64 (of_z w64 w) ≡ w
  width_is = to_z-of_z width_fits

  span_is : to_z w64 (of_z w64 s) ≡ s
  span_is = to_z-of_z c.ranges.s

  factor_is : to_z w64 (of_z w64 (quot_z s w)) ≡ quot_z s w
  factor_is = to_z-of_z (quot_abs_fits s w c.ranges.s c.requires.0)

  rest_is : to_z w64 (of_z w64 (rem_z s w)) ≡ rem_z s w
  rest_is = to_z-of_z (rem_fits s w c.ranges.s)

  product_fits : SFits w64 (o *ℤ quot_z s w)
  product_fits = product_fits_law s w o on.pixels_most on.width_most on.width_some c.requires.1

  rest_fits : SFits w64 (rem_z s w *ℤ o)
  rest_fits = rest_product_fits s w o on.pixels_most on.width_most on.width_some c.requires.1

  more_fits : SFits w64 (quot_z (rem_z s w *ℤ o) w)
  more_fits = quotient_fits s w o on.pixels_most on.width_most on.width_some c.requires.1

  all_fits : SFits w64 (o *ℤ quot_z s w +ℤ quot_z (rem_z s w *ℤ o) w)
  all_fits = sum_fits s w o on.pixels_most on.width_most on.width_some c.requires.1

pub overflow_mul-n : goal.overflow_mul-n
overflow_mul-n c = let p = (goal.at.overflow_mul-n c).Start in
    rw (pixels_is p, span_is p, width_is p, factor_is p) (product_fits p)

pub nonzero_div-n-2 : goal.nonzero_div-n-2
nonzero_div-n-2 c = let p = (goal.at.nonzero_div-n-2 c).Start in (
  divisor (w p) (width_fits p) c.args.self.on_width.width_some,
  rw (pixels_is p, span_is p, width_is p, rest_is p, to_z-of_z (rest_fits p)) (more_fits p),
)

pub overflow_add-n : goal.overflow_add-n
overflow_add-n c = let p = (goal.at.overflow_add-n c).Start in
    rw (
      pixels_is p,
      span_is p,
      width_is p,
      factor_is p,
      rest_is p,
      to_z-of_z (rest_fits p),
      to_z-of_z (product_fits p),
      to_z-of_z (more_fits p),
    ) (all_fits p)

pub returns : goal.returns
returns c = let p = (goal.at.returns c).Start in
    rw (
      pixels_is p,
      span_is p,
      width_is p,
      factor_is p,
      rest_is p,
      to_z-of_z (rest_fits p),
      to_z-of_z (product_fits p),
      to_z-of_z (more_fits p),
      to_z-of_z (all_fits p),
    ) at c.nanoseconds_away.ensures
