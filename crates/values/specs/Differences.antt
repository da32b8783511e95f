-- How far apart two values of a kind are, in exact nanoseconds: as a signed 64-bit number where it is one, and in whole
-- days. Definitions only.
use Rattle.std.specs.Prelude.{◌≡◌, Bool, cond, Option, Some, None, ℕ, ◌<◌, ℤ, pos, nat_abs, ◌+ℤ◌, ◌-ℤ◌, ◌*ℤ◌}
use Rattle.std.specs.Int.Signed.{quot_z}
use Rattle.laws.specs.Numbers.{minus, within}
use Rattle.laws.specs.Units.{per_second, per_day, seconds_per_day}
use Rattle.values.specs.declared.Kind.{Kind}
use Rattle.values.specs.declared.Kind.TheVariants.{Span}
use Rattle.values.specs.declared.Value.{Value}
use Rattle.values.specs.Values.{is_duration}

-- what one of the head counts: the nanoseconds of a second, or of a day
abbrev pub unit : Kind → ℕ
unit kind = cond (is_duration kind) per_second per_day

-- of a duration from zero, of a date or date-time from the midnight before 0001-01-01's
unfoldable pub nanoseconds : Kind → Value → ℤ
nanoseconds kind v = v.head *ℤ pos (unit kind) +ℤ v.tail

-- from a to b
unfoldable pub difference : Kind → Value → Value → ℤ
unfolding nanoseconds
difference kind a b = nanoseconds kind b -ℤ nanoseconds kind a

-- -2^63 to 2^63 - 1
abbrev pub fits_i64 : ℤ → Bool
fits_i64 d = within (minus 9223372036854775808) d (pos 9223372036854775807)

-- a number of nanoseconds, where it is one of 64 bits
unfoldable pub nanoseconds_of : ℤ → Option ℤ
nanoseconds_of d = cond (fits_i64 d) (Some d) None

-- cut toward zero
abbrev pub whole_days : ℤ → ℤ
whole_days d = quot_z d (pos per_day)

-- ---- heads and tails
-- n is the whole heads of both together, cut toward zero, where the tails are less than a head
abbrev pub Cut : ℤ → ℤ → ℤ → Type 0
Cut heads tails n = (k : ℕ) → nat_abs tails < k → quot_z (heads *ℤ pos k +ℤ tails) (pos k) ≡ n

-- ---- durations
-- num_days(): the whole days of one, cut toward zero
unfoldable pub days_in : Value → ℤ
days_in v = whole_days (nanoseconds Span v)

-- Duration::days(d)
abbrev pub of_days : ℤ → Value
of_days d = record { head = d *ℤ pos seconds_per_day; tail = pos 0 }
