-- Where an axis over date-times lists dates: it lists as kind 4, whose period for N is none. Definitions only.
use Rattle.std.specs.Prelude.{◌≡◌, ◌*◌, ◌≤◌}
use Rattle.laws.specs.Numbers.{pos_part}
use Rattle.values.specs.declared.Kind.TheVariants as kind
use Rattle.axis.specs.declared.Axis.{Axis}
use Rattle.axis.specs.declared.BoldPoints.{BoldPoints}
use Rattle.axis.specs.declared.LightPoints.{LightPoints}
use Rattle.axis.specs.declared.Hint.{Hint}
use Rattle.axis.specs.declared.Hint.TheVariants.{Bold, Light}
use Rattle.counting.specs.Counting.{size_of}
use Rattle.keypoints.specs.Hints.{of_kind, finer}

-- kind 4 with the ends of an axis
abbrev pub date_times : Axis → Axis
date_times a = of_kind kind.Stamp a

-- self.size() <= hint.bold_points() * 2
abbrev pub Refined : Axis → LightPoints → Type 0
Refined a l = size_of a ≤ pos_part l.bold * 2

-- the axes that list as kind 4: kind 4 itself; with a light hint Monthly over date-times, and Yearly, by way of Monthly
pub data ListsTimes (a : Axis) (h : Hint) : Type 0 where
  times : a.kind ≡ kind.Stamp → ListsTimes a h
  months : (l : LightPoints) → h ≡ Light l → a.kind ≡ kind.StampMonth → Refined a l → ListsTimes a h
  years : (l : LightPoints) → h ≡ Light l → a.kind ≡ kind.StampYear → Refined a l → Refined (finer a) l → ListsTimes a h

-- hint.max_num_points() as a hint, which is bold: N
abbrev pub bold_points : Hint → BoldPoints
bold_points (Bold h) = h
bold_points (Light h) = record { n = h.n }
