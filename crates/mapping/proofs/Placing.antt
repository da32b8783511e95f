-- The branches of mapping, by what the code learnt of the offset, and of a value's pixel. Assumes nothing.
use mathlib.Core.Path.{◌≡◌, refl}
use mathlib.Core.Bool.{Bool, true, false, cond}
use lib.IntN.{ℤ, ◌+ℤ◌}
use lib.Ieee as ieee
use lib.Ieee.{Float, binary64, add}
use Rattle.floats.specs.Rounding.{cut}
use Rattle.values.specs.declared.Value.{Value}
use Rattle.values.specs.Values.{is_duration}
use Rattle.values.specs.Differences.{fits_i64, whole_days}
use Rattle.axis.specs.declared.Axis.{Axis}
use Rattle.axis.specs.declared.Limits.{Limits}
use Rattle.axis.specs.Axes.{span_of, offset_of}
use Rattle.mapping.specs.Hairlines.{in_nanoseconds}
use Rattle.mapping.specs.Mapping.{over, nudge, map_coord, map_duration, placed}

-- the number that the code adds is the definition's
pub nudge_is : ieee.of_bits binary64 0x3ddb_7cdf_d9d7_bdbb ≡ nudge
unfolding nudge ieee.of_bits ieee.of_fields ieee.of_int ieee.div ieee.round ieee.units ieee.odd ieee.size ieee.climb ieee.span
nudge_is = refl

-- by the unit that the mapping divides
module _ (a : Axis) (l : Limits) (v : Value) where
  pub coord_near : in_nanoseconds a v ≡ true → l.low +ℤ cut (over l (offset_of a v) (span_of a)) ≡ map_coord a l v
  unfolding map_coord
  coord_near f = rw f refl

  pub coord_far : in_nanoseconds a v ≡ false →
      l.low +ℤ cut (over l (whole_days (offset_of a v)) (whole_days (span_of a))) ≡ map_coord a l v
  unfolding map_coord
  coord_far f = rw f refl

  pub duration_near : fits_i64 (span_of a) ≡ true → fits_i64 (offset_of a v) ≡ true →
      l.low +ℤ cut (add binary64 (over l (offset_of a v) (span_of a)) nudge) ≡ map_duration a l v
  unfolding map_duration
  duration_near f g = rw (f, g) refl

  pub duration_high : fits_i64 (span_of a) ≡ true → fits_i64 (offset_of a v) ≡ false → l.high ≡ map_duration a l v
  unfolding map_duration
  duration_high f g = rw (f, g) refl

  pub duration_far : fits_i64 (span_of a) ≡ false →
      l.low +ℤ cut (add binary64 (over l (whole_days (offset_of a v)) (whole_days (span_of a))) nudge) ≡ map_duration a l v
  unfolding map_duration
  duration_far f = rw f refl

-- ---- the pixel of a value: what kind 7 adds before the cut, and no other kind
abbrev pub nudged : Bool → Float → Float
nudged d x = cond d (add binary64 x nudge) x

either : (d : Bool) (low : ℤ) (x y : Float) → cond d (low +ℤ cut x) (low +ℤ cut y) ≡ low +ℤ cut (cond d x y)
either true low x y = refl
either false low x y = refl

module _ (a : Axis) (l : Limits) (v : Value) where
  pub in_nanoseconds_law : fits_i64 (span_of a) ≡ true → fits_i64 (offset_of a v) ≡ true →
      placed a l v ≡ l.low +ℤ cut (nudged (is_duration a.kind) (over l (offset_of a v) (span_of a)))
  unfolding placed map_coord map_duration
  in_nanoseconds_law f g = rw (f, g) (either (is_duration a.kind) l.low _ _)

  pub in_whole_days : fits_i64 (span_of a) ≡ false →
      placed a l v ≡ l.low +ℤ cut (nudged (is_duration a.kind) (over l (whole_days (offset_of a v)) (whole_days (span_of a))))
  unfolding placed map_coord map_duration
  in_whole_days f = rw f (either (is_duration a.kind) l.low _ _)
