-- `key_points` of each kind with a bold hint. Definitions only.
-- The turns are how often a loop may turn at most; from N + 30 on their number does not matter (proofs/KeyPoints.antt).
use Rattle.std.specs.Prelude.{ℕ, List}
use Rattle.values.specs.declared.Kind.{Kind}
use Rattle.values.specs.declared.Kind.TheVariants as kind
use Rattle.values.specs.declared.Value.{Value}
use Rattle.axis.specs.declared.Axis.{Axis}
use Rattle.keypoints.specs.Dates.{date_key_points}
use Rattle.keypoints.specs.Months.{month_key_points, year_key_points}
use Rattle.keypoints.specs.Weeks.{week_key_points}
use Rattle.keypoints.specs.Times.{date_time_key_points, duration_key_points}

-- kind 1 is RangedDate, 2 and 5 are Monthly, 3 and 6 Yearly, 8 is the week axis, 7 RangedDuration and 4 RangedDateTime;
-- what is none of them is as 4, and question 1 lets none of it pass
abbrev pub key_points_of_kind : ℕ → Kind → Axis → ℕ → List Value
key_points_of_kind turns kind.Date a maxPoints = date_key_points a maxPoints
key_points_of_kind turns kind.Month a maxPoints = month_key_points turns a maxPoints
key_points_of_kind turns kind.Year a maxPoints = year_key_points turns a maxPoints
key_points_of_kind turns kind.Stamp a maxPoints = date_time_key_points turns a maxPoints
key_points_of_kind turns kind.StampMonth a maxPoints = month_key_points turns a maxPoints
key_points_of_kind turns kind.StampYear a maxPoints = year_key_points turns a maxPoints
key_points_of_kind turns kind.Span a maxPoints = duration_key_points turns a maxPoints
key_points_of_kind turns kind.Week a maxPoints = week_key_points a maxPoints
key_points_of_kind turns kind.Unknown a maxPoints = date_time_key_points turns a maxPoints

-- of an axis
unfoldable pub key_points : ℕ → Axis → ℕ → List Value
key_points turns a maxPoints = key_points_of_kind turns a.kind a maxPoints
