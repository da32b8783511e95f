-- The place under a pixel in whole numbers: the law of the floor, and what question 7 says of offset and width.
-- Assumes nothing.
use mathlib.Core.Path.{◌≡◌, ap, ◌∙◌}
use mathlib.Core.Bool.{Bool, true, cond}
use Prim.Native.Nat.{ℕ, ◌*◌, ◌/◌, ◌≤◌, ◌<◌}
use native.Mathlib.Nat.{mul-le-mul, le_trans, lt_of_le_of_lt}
use lib.Dec.{lit<, lit≤}
use lib.IntN.{ℤ, pos, nat_abs, ◌-ℤ◌}
use lib.Ieee.{binary64, unlike}
use mir.Syntax.{w64}
use mir.Val.{SFits}
use Rattle.floats.proofs.Values.{below_zero, unlike_false}
use Rattle.floats.proofs.Quotients.{scaled_floor}
use Rattle.axis.specs.declared.Limits.{Limits}
use Rattle.axis.specs.Questions.{unmap_pixels}
use Rattle.axis.proofs.Questions.{unmap_parts}
use Rattle.axis.proofs.PixelRanges.{limits_are, between_few, between_fits, width_some}
use Rattle.discrete.specs.Indices.{index_at}

product : (y n : ℕ) → y ≤ 65534 → n ≤ 3652059 → y * n ≤ 65534 * 3652059
product y n Y N = mul-le-mul Y N

-- (offset as f64 * size as f64 / width as f64).floor() as usize is the quotient of the magnitudes, or 0
pub index_whole : (y : ℤ) (n : ℕ) (w : ℤ) → nat_abs y ≤ 65534 → n ≤ 3652059 → nat_abs w ≤ 65534 → 0 < nat_abs w
    → index_at y n w ≡ cond (unlike (below_zero y) (below_zero w)) 0 (nat_abs y * n / nat_abs w)
unfolding index_at
index_whole y n w Y N W Wp =
    scaled_floor binary64 y (pos n) w (le_trans Y (lit≤ tt)) (le_trans N (lit≤ tt)) (lt_of_le_of_lt (product (nat_abs y) n Y N)
    (lit< tt)) (le_trans W (lit≤ tt)) Wp
    ∙ ap (λ (s : Bool). cond (unlike s (below_zero w)) 0 (nat_abs y * n / nat_abs w)) (unlike_false (below_zero y))

-- ---- what question 7 says of offset and width
pub record Pixels (l : Limits) (p : ℤ) : Type 0 where
  pub offset_small : nat_abs (p -ℤ l.low) ≤ 65534
  pub offset_fits : SFits w64 (p -ℤ l.low)
  pub width_small : nat_abs (l.high -ℤ l.low) ≤ 65534
  pub width_some : 0 < nat_abs (l.high -ℤ l.low)

pub pixels_apart : (l : Limits) (p : ℤ) → unmap_pixels l p ≡ true → Pixels l p
pixels_apart l p e =
    let (a, b, c) = unmap_parts l p e in
    let (low, high) = limits_are l a in
    record {
      offset_small = between_few p l.low b low;
      offset_fits = between_fits p l.low b low;
      width_small = between_few l.high l.low high low;
      width_some = width_some l c;
    }
