-- `segmented::Segments::segment_pixel` meets its contract. Assumes nothing.
use borrow.Author.Rules.{rules}
use mathlib.Core.Path.{sym, ◌∙◌, ap, subst}
use mathlib.Core.Bool.{true, false}
use Prim.Native.Nat.{ℕ}
use lib.IntN.{ℤ}
use mir.Syntax.{w64}
use mir.Val.{SFits}
use mir.Facts.{to_z-of_z}
use Rattle.std.specs.Prelude.{Ok}
use Rattle.mapping.specs.declared.Hairline.{Hairline}
use Rattle.mapping.specs.Mapping.{hairline}
use Rattle.segmented.specs.declared.SegmentValue.{SegmentValue}
use Rattle.segmented.specs.Segments.{SegmentOn, alone, inner, segment_worked, pixel_checked}
use Rattle.segmented.proofs.Segments.segment_pixel.Goals as goal
use Rattle.segmented.proofs.Segments.segment_pixel.Goals.{Start}

high_fits : (s : Start) → SFits w64 s.args.self.limits.high
high_fits s = search rules

pub pixel_by-requires : goal.pixel_by-requires
pixel_by-requires c =
    rw c.scale.ensures.axis (subst (λ (y : SegmentValue). SegmentOn c.args.self.axis y) c.in-Exact.is c.requires)

pub returns-in-Exact : goal.returns-in-Exact
unfolding segment_worked
returns-in-Exact c = let x = c.args.self in
    c.asked.ensures
    ∙ ap (λ (h : Hairline). pixel_checked (alone h))
    (c.pixel_by.ensures
    ∙ (λ i. hairline (c.scale.ensures.axis i)
    ((c.scale.ensures.limits ∙ ap (λ (m : ℕ). inner m x.limits) c.args.self.sized) i) c.in-Exact.w))
    ∙ ap (λ (v : SegmentValue). pixel_checked (segment_worked x.axis x.limits v)) (sym c.in-Exact.is)

pub returns-in-Last : goal.returns-in-Last
unfolding segment_worked
returns-in-Last c =
    ap (λ (p : ℤ). Ok (record { pixel = p; exact = true; lost = false }))
    (to_z-of_z (high_fits (goal.at.returns-in-Last c).Start))
    ∙ ap (λ (v : SegmentValue). pixel_checked (segment_worked c.args.self.axis c.args.self.limits v)) (sym c.in-Last.is)
