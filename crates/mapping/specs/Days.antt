-- The words of demand 3's second half: the days of a date axis, more pixels than days. Definitions only.
-- The pixel of a day is what mapping answers for it: `mapped a l (midnight i)`.
use Rattle.std.specs.Prelude.{◌≡◌, true, ◌<◌, ℤ, nat_abs, ◌-ℤ◌}
use Rattle.laws.specs.Numbers.{within}
use Rattle.values.specs.Values.{over_dates}
use Rattle.axis.specs.declared.Axis.{Axis}
use Rattle.axis.specs.declared.Limits.{Limits}
use Rattle.axis.specs.Axes.{last}

-- "the days of a date axis", that is, one over dates, "are those from start to end, both included"; where the end is excluded,
-- "those before the end"
pub record DayOf (a : Axis) (i : ℤ) : Type 0 where
  pub dates : over_dates a.kind ≡ true
  pub inside : within a.start.head i (last a).head ≡ true

-- "more pixels than days": |W| counts the pixels between the limits, end minus start the days between the ends as written
abbrev pub MorePixels : Axis → Limits → Type 0
MorePixels a l = nat_abs (a.end.head -ℤ a.start.head) < nat_abs (l.high -ℤ l.low)
