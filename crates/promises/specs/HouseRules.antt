-- House rules: what the verdict on a table says of all span lengths, and what a ruled list is, of the numbers that the calls
-- answer and leave. Definitions only.
-- Their words are defined where they belong: tables in rules/specs/Claims.antt, lists in ruled/specs/Claims.antt.
use Rattle.std.specs.Prelude.{◌≡◌, List, ◌↔◌, ℕ, ◌-◌, ◌*◌, ◌≤◌, ◌<◌, ℤ, pos, length, take, Some, None}
use Rattle.laws.specs.Numbers.{pos_part}
use Rattle.axis.specs.declared.Axis.{Axis}
use Rattle.axis.specs.Axes.{last}
use Rattle.rules.specs.declared.Row.{Row}
use Rattle.rules.specs.Rows.{row_at}
use Rattle.rules.specs.Cover.{rows_for}
use Rattle.rules.specs.Table.{table_of}
use Rattle.rules.specs.Claims.{EachLength, SomeLength, Fitting}
use Rattle.ruled.specs.Claims.{Ruled}
use Rattle.ordered.specs.declared.OrderedNumber.{OrderedNumber}

-- ---- the verdict on a table
-- `ordered_rules` answered r of a table whose rows read: 15 just when some length has no row, 16 just when none lacks one and
-- some has two or more, and else the count of rows, just when each length has exactly one
pub record Verdict (ws : List Row) (r : OrderedNumber) : Type 0 where
  pub fifteen : r.status ≡ pos 15 ↔ SomeLength (λ l. rows_for ws l ≡ 0)
  pub sixteen : r.status ≡ pos 16 ↔ (EachLength (λ l. 0 < rows_for ws l) × SomeLength (λ l. 1 < rows_for ws l))
  pub accepted : r.status ≡ pos 0 ↔ EachLength (λ l. rows_for ws l ≡ 1)
  pub counted : r.status ≡ pos 0 → r.value ≡ pos (length ws)

-- of any bytes: 12 just when they do not read
pub record TableClaim (table : List ℕ) (r : OrderedNumber) : Type 0 where
  pub twelve : r.status ≡ pos 12 ↔ (table_of table ≡ None)
  pub others : (ws : List Row) → table_of table ≡ Some ws → Verdict ws r

-- ---- a ruled list
-- the first day of an axis over dates, and the last that belongs to it
abbrev pub first_day : Axis → ℕ
first_day a = pos_part a.start.head

-- the day before an excluded end
abbrev pub last_day : Axis → ℕ
last_day a = pos_part (last a).head

-- the table has a row for the span's length, and no other is for it
pub record OnlyRow (table : List ℕ) (days : ℕ) (w : Row) : Type 0 where
  pub rows : List Row
  pub read : table_of table ≡ Some rows
  pub place : ℕ
  pub fits : Fitting rows days place
  pub only : (i : ℕ) → Fitting rows days i → i ≡ place
  pub is : w ≡ row_at rows place

-- a count that is answered, where l are the lent numbers after the call: these hold two for each tick, and the ticks are every
-- step-th day of the row's unit from the first in the span
pub record RuledCount (table : List ℕ) (a : Axis) (value : ℤ) (l : List ℤ) : Type 0 where
  pub row : Row
  pub its_row : OnlyRow table (last_day a - first_day a) row
  pub count : ℕ
  pub counted : value ≡ pos count
  pub held : 2 * count ≤ length l
  pub ruled : Ruled row.unit row.step (first_day a) (last_day a) (take (2 * count) l)

-- a call that answered r, was lent d and left l: its ticks where it was not refused, and every number as it was where it was
pub record RuledList (table : List ℕ) (a : Axis) (r : OrderedNumber) (d l : List ℤ) : Type 0 where
  pub listed : r.status ≡ pos 0 → RuledCount table a r.value l
  pub refused : (r.status ≡ pos 0 → ⊥) → l ≡ d
