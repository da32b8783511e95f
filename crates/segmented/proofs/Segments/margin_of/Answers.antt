-- `segmented::Segments::margin_of` meets its contract. Assumes nothing.
use borrow.Author.Rules.{rules}
use mathlib.Core.Path.{◌≡◌, ◌∙◌, ap}
use native.Mathlib.Omega.{arith}
use Prim.Native.Nat.{◌≤◌}
use lib.IntN.{ℤ, pos, ◌-ℤ◌, nat_abs}
use lib.Ieee.{binary32, of_int, div, to_signed}
use lib.Ieee.Casts.{to_signed_in}
use mir.Syntax.{w32, w64}
use mir.Val.{SFits, to_z, of_z}
use mir.Facts.{to_z-of_z}
use Rattle.floats.specs.Rounding.{round_f}
use Rattle.floats.proofs.Values.{in_float_law}
use Rattle.mapping.proofs.Ranges.{width_back}
use Rattle.segmented.specs.Segments.{margin_of}
use Rattle.segmented.proofs.Margins.{width_few}
use Rattle.segmented.proofs.Segments.margin_of.Goals as goal
use Rattle.segmented.proofs.Segments.margin_of.Goals.{After-round_to_i32, After-width-width, Start}

abbrev width : Start → ℤ
width s = s.args.self.limits.high -ℤ s.args.self.limits.low

width_is : (c : After-width-width) → to_z w64 (of_z w64 c.width-width.result) ≡ width (goal.at.After-width-width c).Start
width_is c = width_back c.args.self.limits c.width-width.result c.args.self.page c.width-width.ensures

few : (s : Start) → nat_abs (width s) ≤ 65534
few s = width_few s.args.self.size s.args.self.limits s.args.self.some s.args.self.page

pub int_to_float-width : goal.int_to_float-width
int_to_float-width c = let s = (goal.at.int_to_float-width c).Start in
    rw (width_is (goal.at.int_to_float-width c).After-width-width) (in_float_law binary32 (width s) (omega (arith, few s)))

abbrev from : After-round_to_i32 → Start
from c = (goal.at.After-round_to_i32 c).Start

-- the margin, as the code reads it back
margin_fits : (s : Start) → SFits w32 (margin_of s.args.self.size s.args.self.limits)
unfolding margin_of
margin_fits s = record {
  sfits = to_signed_in 31
      (round_f binary32 (div binary32 (of_int binary32 (width s)) (of_int binary32 (pos s.args.self.size))));
}

back : (c : After-round_to_i32) → to_z w32 (of_z w32 c.round_to_i32.result) ≡ margin_of (from c).args.self.size
    (from c).args.self.limits
unfolding margin_of
back c = let s = from c in
    to_z-of_z {w = w32} {z = c.round_to_i32.result} (search rules)
    ∙ c.round_to_i32.ensures
    ∙ ap (λ (z : ℤ). to_signed 31 (round_f binary32 (div binary32 (of_int binary32 z) (of_int binary32 (pos s.args.self.size)))))
    (width_is (goal.at.After-round_to_i32 c).After-width-width)

pub returns : goal.returns
returns c = to_z-of_z {w = w64} {z = c.from.result} (search rules) ∙ c.from.ensures ∙ back (goal.at.returns c).After-round_to_i32
