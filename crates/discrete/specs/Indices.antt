-- Indices: which value has one, the value of an index, and the index under a pixel. Definitions only.
use Rattle.std.specs.Prelude.{Bool, true, false, cond, ℕ, ◌+◌, ◌-◌, ◌*◌, ◌/◌, ◌%◌, eqb, leb, ℤ, pos, ◌-ℤ◌}
use Rattle.std.specs.Float.{binary64}
use Rattle.std.specs.Float.Ieee.{of_int, mul, div, to_unsigned}
use Rattle.laws.specs.Numbers.{pos_part}
use Rattle.calendar.specs.Gregorian.{day_number}
use Rattle.weeks.specs.Weeks.{monday}
use Rattle.floats.specs.Rounding.{floor_f}
use Rattle.values.specs.declared.Kind.{Kind}
use Rattle.values.specs.declared.Kind.TheVariants as kind
use Rattle.values.specs.declared.Value.{Value}
use Rattle.values.specs.Values.{midnight}
use Rattle.axis.specs.declared.Axis.{Axis}
use Rattle.axis.specs.declared.Limits.{Limits}
use Rattle.counting.specs.Counting.{monthly, yearly, weekly, from_day, first_date, origin, position, size_of}

-- days are counted; what is no kind goes with them, and question 1 lets none of it pass
abbrev pub counts_days : Kind → Bool
counts_days kind.Date = true
counts_days kind.Stamp = true
counts_days kind.Span = true
counts_days kind.Unknown = true
counts_days k = false

unfoldable pub daily : Axis → Bool
daily a = counts_days a.kind

-- a value that stands before the start has no index
unfoldable pub is_indexed : Axis → Value → Bool
is_indexed a v = leb (origin a) (position a v)

-- how far a value stands from the start
unfoldable pub index_of : Axis → Value → ℕ
index_of a v = position a v - origin a

-- the first of a month, counted from January of the first date's year; but index 0 is the first day itself
unfoldable pub month_at : Axis → ℕ → Value
month_at a i =
    cond (eqb i 0) (midnight (pos (from_day a)))
    (let k = i + ((first_date a).month - 1) in midnight (pos (day_number ((first_date a).year + k / 12) (k % 12 + 1) 1)))

-- January 1 of a year, or the start with its time where that is no earlier
unfoldable pub january : Axis → ℕ → Value
january a year =
    let day = day_number year 1 1 in cond (leb day (pos_part a.start.head)) a.start (midnight (pos day))

-- the value of an index where years are counted
abbrev pub year_at : Axis → ℕ → Value
year_at a i = january a ((first_date a).year + i)

-- the Monday of a week after the start's; but index 0 is the start itself
unfoldable pub week_at : Axis → ℕ → Value
week_at a i = cond (eqb i 0) a.start (midnight (pos (monday (pos_part a.start.head) + 7 * i)))

-- the value of an index
unfoldable pub value_at : Axis → ℕ → Value
value_at a i =
    cond (monthly a) (month_at a i)
    (cond (yearly a) (year_at a i)
    (cond (weekly a) (week_at a i)
    (midnight (pos (pos_part a.start.head + i)))))

-- (offset as f64 * size as f64 / width as f64).floor() as usize
unfoldable pub index_at : ℤ → ℕ → ℤ → ℕ
index_at offset size width =
    to_unsigned 64
    (floor_f binary64 (div binary64 (mul binary64 (of_int binary64 offset) (of_int binary64 (pos size))) (of_int binary64 width)))

-- the index under a pixel
unfoldable pub index_under : Axis → Limits → ℤ → ℕ
index_under a l p = index_at (p -ℤ l.low) (size_of a) (l.high -ℤ l.low)
