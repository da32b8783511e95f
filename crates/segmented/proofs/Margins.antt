-- The margin as whole-number work. It goes no further than the width, so the inner limits are pixels too. Assumes nothing.
use mathlib.Core.Path.{◌≡◌, refl}
use mathlib.Core.Logic.{inl, inr}
use mathlib.Core.Bool.{true}
use Prim.Native.Nat.{ℕ, ◌+◌, ◌≤◌}
use native.Mathlib.Omega.{arith}
use lib.IntN.{ℤ, pos, negsuc, ◌-ℤ◌, nat_abs}
use lib.Ieee.{binary32}
use mir.Syntax.{w64}
use mir.Val.{SFits}
use Rattle.laws.specs.Numbers.{pos_part, neg_part}
use Rattle.laws.proofs.Signed.{sub, fits, neg_up, neg_dn, one_is_zero}
use Rattle.floats.specs.Rounding.{with_sign, half_up}
use Rattle.floats.proofs.Values.{below_zero}
use Rattle.floats.proofs.Quotients.{half_up_le, ratio_round}
use Rattle.values.proofs.Numbers.{is_le}
use Rattle.axis.specs.declared.Limits.{Limits}
use Rattle.axis.specs.Questions.{is_pixel, pixels}
use Rattle.axis.proofs.Questions.{pixel_range}
use Rattle.axis.proofs.PixelRanges.{limits_are, between_few}
use Rattle.segmented.specs.Segments.{SomeSize, margin_of, inner}

-- no further than W, and to its side
no_further : (W : ℤ) (n : ℕ) → n ≤ nat_abs W → (pos_part (with_sign (below_zero W) n) ≤ pos_part W)
    × (neg_part (with_sign (below_zero W) n) ≤ neg_part W)
no_further (pos w) n h = (h, omega arith)
no_further (negsuc w) n h = (omega (arith, neg_up (pos n)), omega (arith, neg_dn (pos n)))

is_pixel_law : (p : ℤ) → pos_part p ≤ 32767 + neg_part p → neg_part p ≤ 32767 + pos_part p → is_pixel p ≡ true
is_pixel_law p a b = rw (is_le (negsuc 32766) p (omega arith), is_le p (pos 32767) (omega arith))

-- from high back by m, which goes no further than to low
module _ (low high m : ℤ) (p : is_pixel low ≡ true) (q : is_pixel high ≡ true) (u : pos_part m ≤ pos_part (high -ℤ low))
    (d : neg_part m ≤ neg_part (high -ℤ low)) where
  back_range : (pos_part (high -ℤ m) ≤ 32767 + neg_part (high -ℤ m)) × (neg_part (high -ℤ m) ≤ 32767 + pos_part (high -ℤ m))
  back_range =
      let (a, b) = pixel_range low p in
      let (x, y) = pixel_range high q in
      elim (one_is_zero (high -ℤ low)) [
        | inl z ↦ (omega (arith, sub high m, sub high low), omega (arith, sub high m, sub high low))
        | inr z ↦ (omega (arith, sub high m, sub high low), omega (arith, sub high m, sub high low))
      ]

module _ (size : ℕ) (l : Limits) (s : SomeSize size) (p : pixels l ≡ true) where
  abbrev width : ℤ
  width = l.high -ℤ l.low

  abbrev pub whole : ℕ
  whole = half_up (nat_abs width) size

  pub width_few : nat_abs width ≤ 65534
  width_few = let (x, y) = limits_are l p in between_few l.high l.low y x

  margin_few : whole ≤ 65534
  margin_few = omega (arith, half_up_le (nat_abs width) size s.least, width_few)

  pub margin_is : margin_of size l ≡ with_sign (below_zero width) whole
  unfolding margin_of
  margin_is = ratio_round binary32 width size 31 (omega (arith, width_few)) s.least (omega (arith, s.most))
      (omega (arith, margin_few))

  back : (pos_part (l.high -ℤ margin_of size l) ≤ 32767 + neg_part (l.high -ℤ margin_of size l))
      × (neg_part (l.high -ℤ margin_of size l) ≤ 32767 + pos_part (l.high -ℤ margin_of size l))
  back =
      let (x, y) = limits_are l p in
      let (u, d) = no_further width whole (half_up_le (nat_abs width) size s.least) in
      rw margin_is (back_range l.low l.high (with_sign (below_zero width) whole) x y u d)

  pub inner_fits : SFits w64 (l.high -ℤ margin_of size l)
  inner_fits =
      let z = l.high -ℤ margin_of size l in
      let (u, d) = back in
      fits z (pos_part z) (neg_part z) refl (omega arith) (omega arith)

  pub inner_pixels : pixels (inner size l) ≡ true
  unfolding pixels inner
  inner_pixels =
      let z = l.high -ℤ margin_of size l in
      let (x, y) = limits_are l p in
      let (u, d) = back in
      let e : is_pixel z ≡ true = is_pixel_law z u d in
      rw (x, e)
