-- `discrete::index_under` meets its contract. Assumes nothing.
use borrow.Author.Rules.{rules}
use mathlib.Core.Path.{◌≡◌, ◌∙◌, ap}
use native.Mathlib.Omega.{arith}
use Prim.Native.Nat.{ℕ, ◌≤◌}
use lib.IntN.{ℤ, ◌-ℤ◌}
use mir.Syntax.{w64}
use mir.Val.{SFits, to_z, of_z}
use mir.Facts.{to_z-of_z}
use Rattle.laws.proofs.Signed.{read_sub}
use Rattle.discrete.specs.Indices.{index_at, index_under}
use Rattle.counting.proofs.Counting.{size_most}
use Rattle.axis.proofs.Questions.{unmap_parts}
use Rattle.discrete.proofs.Unmapping.{Pixels, pixels_apart}
use Rattle.discrete.proofs.index_under.Goals as goal
use Rattle.discrete.proofs.index_under.Goals.{After-width, Start}

low_fits : (c : Start) → SFits w64 c.args.l.low
low_fits c = search rules

apart : (c : Start) → Pixels c.args.l c.args.p
apart c = pixels_apart c.args.l c.args.p c.requires

inner : (x y : ℤ) → SFits w64 x → SFits w64 y → SFits w64 (x -ℤ y) → SFits w64 (to_z w64 (of_z w64 x) -ℤ to_z w64 (of_z w64 y))
inner x y f g h = rw (to_z-of_z f, to_z-of_z g) h

pub overflow_sub-p : goal.overflow_sub-p
overflow_sub-p c =
    inner c.args.p c.args.l.low c.ranges.p (low_fits (goal.at.overflow_sub-p c).Start)
    (apart (goal.at.overflow_sub-p c).Start).offset_fits

offset_is : (s : Start) → to_z w64 (of_z w64 (to_z w64 (of_z w64 s.args.p) -ℤ to_z w64 (of_z w64 s.args.l.low)))
    ≡ s.args.p -ℤ s.args.l.low
offset_is s = read_sub s.args.p s.args.l.low s.ranges.p (low_fits s) (apart s).offset_fits

width_is : (c : After-width) → to_z w64 (of_z w64 c.width.result) ≡ c.args.l.high -ℤ c.args.l.low
width_is c = to_z-of_z {w = w64} {z = c.width.result} (search rules) ∙ c.width.ensures

pub width-requires : goal.width-requires
width-requires c = (unmap_parts c.args.l c.args.p c.requires).0

pub index_at-requires : goal.index_at-requires
index_at-requires c = let small : c.size_of.result ≤ 3652059 =
    omega (arith, c.size_of.ensures, size_most c.args.d.axis c.args.d.dated) in
    rw (offset_is (goal.at.index_at-requires c).Start, width_is (goal.at.index_at-requires c).After-width) (
      (apart (goal.at.index_at-requires c).Start).offset_small,
      small,
      (apart (goal.at.index_at-requires c).Start).width_small,
      (apart (goal.at.index_at-requires c).Start).width_some,
    )

pub returns : goal.returns
unfolding index_under
returns c = c.index_at.ensures
    ∙ (λ i. index_at (offset_is (goal.at.returns c).Start i) c.size_of.result (width_is (goal.at.returns c).After-width i))
    ∙ ap (λ (k : ℕ). index_at (c.args.p -ℤ c.args.l.low) k (c.args.l.high -ℤ c.args.l.low)) c.size_of.ensures
