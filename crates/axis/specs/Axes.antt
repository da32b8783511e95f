-- An axis by its numbers, its ends as values, its span, a value's offset from its start, and the axis that ends a day earlier.
-- Definitions only.
use Rattle.std.specs.Prelude.{false, not, cond, ℤ, pos, ◌-ℤ◌}
use Rattle.laws.specs.Numbers.{is_number}
use Rattle.values.specs.declared.Value.{Value}
use Rattle.values.specs.Values.{numbered}
use Rattle.values.specs.Differences.{difference}
use Rattle.axis.specs.declared.Axis.{Axis}

-- the axis of six numbers. The end belongs to it where the sixth is 0
abbrev pub axis_of : ℤ → ℤ → ℤ → ℤ → ℤ → ℤ → Axis
axis_of k sh st eh et x = record {
  kind = numbered k;
  start = record { head = sh; tail = st };
  end = record { head = eh; tail = et };
  end_excluded = not (is_number x 0);
}

-- in exact nanoseconds
unfoldable pub span_of : Axis → ℤ
span_of a = difference a.kind a.start a.end

-- a value's offset from the start
unfoldable pub offset_of : Axis → Value → ℤ
offset_of a v = difference a.kind a.start v

-- the axis that ends a day earlier, and that day belongs to it
abbrev pub day_earlier : Axis → Axis
day_earlier a = record a { end = record { head = a.end.head -ℤ pos 1; tail = a.end.tail }; end_excluded = false }

-- the axis by which an axis counts and lists: the one that ends a day earlier, where the end is excluded
unfoldable pub closed : Axis → Axis
closed a = cond a.end_excluded (day_earlier a) a

-- the last value that belongs to the axis
abbrev pub last : Axis → Value
last a = (closed a).end
