-- `unmapping::unmap_coord` meets its contract. Assumes nothing.
use borrow.Author.Rules.{rules}
use mathlib.Core.Path.{◌≡◌, ◌∙◌}
use mathlib.Core.Bool.{true}
use lib.IntN.{◌+ℤ◌, ◌-ℤ◌}
use mir.Syntax.{w64}
use mir.Val.{SFits, to_z, of_z}
use mir.Facts.{to_z-of_z}
use Rattle.laws.proofs.Signed.{read_sub}
use Rattle.axis.specs.Axes.{span_of}
use Rattle.axis.specs.Questions.{is_pixel, pixels, differ}
use Rattle.axis.proofs.Questions.{unmap_parts}
use Rattle.unmapping.specs.Unmapping.{moved_by, unmap_coord}
use Rattle.unmapping.specs.Moves.{OnWidth, date_time_answer}
use Rattle.unmapping.proofs.Moves.{start_value, start_is}
use Rattle.axis.proofs.Axes.{both_ends}
use Rattle.axis.proofs.PixelRanges.{limits_are, between_fits, between_few, width_some}
use Rattle.unmapping.proofs.unmap_coord.Goals as goal
use Rattle.unmapping.proofs.unmap_coord.Goals.{Start, After-width}

low_fits : (c : Start) → SFits w64 c.args.l.low
low_fits c = search rules

page : (c : Start) → (pixels c.args.l ≡ true) × (is_pixel c.args.l.low ≡ true) × (is_pixel c.args.l.high ≡ true)
    × (is_pixel c.args.pixel ≡ true) × (differ c.args.l ≡ true)
page c = let (a, p, d) = unmap_parts c.args.l c.args.pixel c.requires.page in
    let (l, h) = limits_are c.args.l a in
    (a, l, h, p, d)

pub overflow_sub-o : goal.overflow_sub-o
overflow_sub-o c = let (a, l, h, p, d) = page (goal.at.overflow_sub-o c).Start in
    rw (to_z-of_z c.ranges.pixel, to_z-of_z (low_fits (goal.at.overflow_sub-o c).Start))
    (between_fits c.args.pixel c.args.l.low p l)

pub width-requires : goal.width-requires
width-requires c = (page (goal.at.width-requires c).Start).0

-- the offset and the width, as the code has them
module _ (c : After-width) where
  abbrev s : Start
  s = (goal.at.After-width c).Start

  pub pixels_are : to_z w64 (of_z w64 (to_z w64 (of_z w64 c.args.pixel) -ℤ to_z w64 (of_z w64 c.args.l.low)))
      ≡ c.args.pixel -ℤ c.args.l.low
  pixels_are = let (a, l, h, p, d) = page s in
      read_sub c.args.pixel c.args.l.low c.ranges.pixel (low_fits s) (between_fits c.args.pixel c.args.l.low p l)

  pub width_is : to_z w64 (of_z w64 c.width.result) ≡ c.args.l.high -ℤ c.args.l.low
  width_is = to_z-of_z {w = w64} {z = c.width.result} (search rules) ∙ c.width.ensures

  pub on_width : OnWidth (c.args.pixel -ℤ c.args.l.low) (c.args.l.high -ℤ c.args.l.low)
  on_width = let (a, l, h, p, d) = page s in
      record {
        pixels_most = between_few c.args.pixel c.args.l.low p l;
        width_most = between_few c.args.l.high c.args.l.low h l;
        width_some = width_some c.args.l d;
      }

pub invariant_of-o : goal.invariant_of-o
invariant_of-o c = let s = (goal.at.invariant_of-o c).After-width in record {
  real = start_value c.args.a.kind c.args.a.start (both_ends c.args.a c.requires.real).first c.requires.dated;
  on_width = rw (pixels_are s, width_is s) (on_width s);
}

pub returns : goal.returns
unfolding unmap_coord date_time_answer
returns c = let a = c.args.a in
    let s = (goal.at.returns c).After-width in
    c.over.ensures
    ∙ (λ i. date_time_answer (start_is a.kind a.start c.requires.dated i
    +ℤ moved_by (span_of a) (width_is s i) (pixels_are s i)))
