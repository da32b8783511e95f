-- Moves of a date-time, as the code's own functions hand them on. Definitions only.
use Rattle.std.specs.Prelude.{◌≤◌, ◌<◌, ℤ, pos, nat_abs, ◌+ℤ◌, ◌*ℤ◌, Result}
use Rattle.laws.specs.Units.{per_day}
use Rattle.asking.specs.declared.Refusal.{Refusal}
use Rattle.values.specs.declared.Value.{Value}
use Rattle.axis.specs.Questions.{checked}
use Rattle.unmapping.specs.Unmapping.{date_time_at}

-- the nanoseconds of a date-time from midnight of the day 0
abbrev pub since_zero : Value → ℤ
since_zero v = v.head *ℤ pos per_day +ℤ v.tail

-- pixels from the low limit over a width that is not 0
pub record OnWidth (pixels width : ℤ) : Type 0 where
  pub pixels_most : nat_abs pixels ≤ 65534
  pub width_most : nat_abs width ≤ 65534
  pub width_some : 0 < nat_abs width

-- question 10 of the date-time, as the functions answer it
unfoldable pub date_time_answer : ℤ → Result Value Refusal
date_time_answer z = checked (date_time_at z)
