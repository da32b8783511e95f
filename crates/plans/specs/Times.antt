-- The lists of date-times below the day branch and of durations, the end left out: a period apart where the span fits
-- nanoseconds, and whole days of a duration where it does not. Definitions only.
use Rattle.std.specs.Prelude.{◌≡◌, true, false, not, cond, ℕ, ◌+◌, ◌-◌, ◌*◌, ◌%◌, ◌^◌, ◌<◌, eqb, ℤ, pos, nat_abs}
use Rattle.std.specs.Prelude.{◌+ℤ◌, ◌-ℤ◌, Option, None}
use Rattle.std.specs.Int.Signed.{lt_z, rem_z}
use Rattle.laws.specs.Numbers.{pos_part, as_u64}
use Rattle.laws.specs.Units.{seconds_per_day}
use Rattle.values.specs.declared.Kind.TheVariants.{Span}
use Rattle.values.specs.declared.Value.{Value}
use Rattle.values.specs.Values.{is_duration}
use Rattle.values.specs.Differences.{unit, nanoseconds, fits_i64, days_in, of_days}
use Rattle.axis.specs.declared.Axis.{Axis}
use Rattle.axis.specs.Axes.{span_of}
use Rattle.axis.specs.Questions.{ends, in_order, near_or_long, equals}
use Rattle.period.specs.Ladders.{first_fit}
use Rattle.period.specs.Periods.{period_of}
use Rattle.steps.specs.declared.Steps.{Steps}
use Rattle.plans.specs.Days.{whole_heads, evenly}

-- ---- ticks a period apart
-- the period, if there is one, else days are listed: date-times have none from a day on, durations none beyond i64 nanoseconds
unfoldable pub period_in : Axis → ℕ → Option ℕ
period_in a n = cond (fits_i64 (span_of a)) (period_of (pos_part (span_of a)) n (not (is_duration a.kind))) None

-- from x up to a multiple of k
unfoldable pub shift_up : ℕ → ℕ → ℕ
shift_up x k = cond (eqb (x % k) 0) 0 (k - x % k)

-- from z to the first tick: none where k divides the bits of z. Else the remainder, which has the sign of z, is left
-- behind: from above zero up to the next multiple of k, and from below toward zero
unfoldable pub shift_of : ℤ → ℕ → ℕ
shift_of z k =
    cond (eqb (as_u64 z % k) 0) 0
    (cond (lt_z (pos 0) z) (k - nat_abs (rem_z z (pos k)))
    (nat_abs (rem_z z (pos k))))

-- from the start to the first tick: a date-time counts from midnight of its date, a duration from zero
unfoldable pub shift : Axis → ℕ → ℕ
shift a k = cond (is_duration a.kind) (shift_of (nanoseconds Span a.start) k) (shift_up (pos_part a.start.tail) k)

-- the list of an axis whose ticks are the period k apart
unfoldable pub time_plan : Axis → ℕ → Steps
time_plan a k =
    evenly (record {
      heads = record { base = a.start.head; per = unit a.kind };
      first = pos_part a.start.tail + shift a k;
      end = pos_part a.start.tail + pos_part (span_of a);
      step = k;
    })

-- an axis whose span fits nanoseconds, and a period
pub record Timed (a : Axis) (k : ℕ) : Type 0 where
  pub real : ends a ≡ true
  pub order : in_order a ≡ true
  pub near : near_or_long a ≡ true
  pub fits : fits_i64 (span_of a) ≡ true
  pub above : 0 < k
  pub small : k < 2 ^ 63

-- ---- whole days of a duration
-- the seconds of the first tick: the whole days of the start, and one more unless the start is whole days
unfoldable pub first_second : Value → ℤ
first_second v = (of_days (days_in v)).head +ℤ cond (equals v (of_days (days_in v))) (pos 0) (pos seconds_per_day)

-- a second less where the end is one
unfoldable pub seconds_left : Axis → ℕ
seconds_left a = pos_part (a.end.head -ℤ first_second a.start) + cond (lt_z (pos 0) a.end.tail) 1 0

-- 1, 2, 5, 10, .. days
unfoldable pub span_days_plan : Axis → ℕ → Steps
span_days_plan a n =
    evenly (record {
      heads = whole_heads (first_second a.start);
      first = 0;
      end = seconds_left a;
      step = seconds_per_day * first_fit (pos_part (days_in a.end -ℤ days_in a.start)) n;
    })

-- a duration axis whose span does not fit nanoseconds
pub record Long (a : Axis) : Type 0 where
  pub real : ends a ≡ true
  pub order : in_order a ≡ true
  pub duration : is_duration a.kind ≡ true
  pub beyond : fits_i64 (span_of a) ≡ false
