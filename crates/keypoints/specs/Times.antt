-- `key_points` of `RangedDateTime` and of `RangedDuration`, as the Rust has them. A value is a head and a tail.
-- Definitions only.
use Rattle.std.specs.Prelude.{Bool, true, false, cond, List, [], ◌∷◌, ℕ, zero, suc, ◌+◌, ◌-◌, ◌*◌, ◌/◌, ◌%◌, eqb, ltb, ℤ, pos}
use Rattle.std.specs.Prelude.{negsuc, ◌+ℤ◌, ◌-ℤ◌, length, get_or, Option, Some, None}
use Rattle.std.specs.Int.Signed.{lt_z, quot_z, rem_z}
use Rattle.laws.specs.Numbers.{pos_part, as_u64}
use Rattle.laws.specs.Units.{per_second, per_day, seconds_per_day}
use Rattle.values.specs.declared.Kind.TheVariants.{Span}
use Rattle.values.specs.declared.Value.{Value}
use Rattle.values.specs.Values.{earlier, midnight}
use Rattle.values.specs.Differences.{nanoseconds, fits_i64, days_in, of_days}
use Rattle.axis.specs.declared.Axis.{Axis}
use Rattle.axis.specs.Axes.{span_of}
use Rattle.axis.specs.Questions.{equals}
use Rattle.keypoints.specs.Loops.{while}
use Rattle.keypoints.specs.Dates.{date_key_points, date_range}
use Rattle.keypoints.specs.Periods.{compute_period_per_point}

-- value + Duration::nanoseconds(ns), where `per` nanoseconds are a head
unfoldable pub plus : ℕ → Value → ℕ → Value
plus per v ns =
    record { head = v.head +ℤ pos ((pos_part v.tail + ns) / per); tail = pos ((pos_part v.tail + ns) % per) }

-- while current < self.1 { ret.push(current); current += Duration::nanoseconds(period as i64); }
abbrev pub list_from : ℕ → Axis → ℕ → ℕ → Value → List Value
list_from turns a per period first = while turns (λ v. earlier v a.end) (λ v. v) (λ v. plus per v period) first

-- if let Some(total_ns) = total_span.num_nanoseconds() { if let Some(period) = compute_period_per_point(total_ns as u64, ..)
unfoldable pub period_on : ℕ → Axis → ℕ → Bool → Option ℕ
period_on turns a maxPoints subDaily =
    cond (fits_i64 (span_of a)) (compute_period_per_point turns (as_u64 (span_of a)) maxPoints subDaily) None

-- if let Some(period) = .. { return f(period); } rest
abbrev pub if_some : Option ℕ → (ℕ → List Value) → List Value → List Value
if_some (Some period) f rest = f period
if_some None f rest = rest

-- ---- RangedDateTime
-- if ns % period > 0 { ns + (period - ns % period) } else { ns }
unfoldable pub aligned_up : ℕ → ℕ → ℕ
aligned_up ns period = cond (ltb 0 (ns % period)) (ns + (period - ns % period)) ns

-- DT::from_date(self.0.date_floor()) + Duration::nanoseconds(..); start_time_ns is the tail
unfoldable pub date_times_by : ℕ → Axis → ℕ → List Value
date_times_by turns a period =
    list_from turns a per_day period (plus per_day (midnight a.start.head) (aligned_up (pos_part a.start.tail) period))

-- with a period below a day; "otherwise, it actually behaves like a date": date_range.key_points(max_points)
unfoldable pub date_time_key_points : ℕ → Axis → ℕ → List Value
date_time_key_points turns a maxPoints =
    if_some (period_on turns a maxPoints true) (date_times_by turns a) (date_key_points (date_range a) maxPoints)

-- ---- RangedDuration
-- if start_ns as u64 % period > 0 {
--     if start_ns > 0 { start_ns += period as i64 - (start_ns % period as i64); } else { start_ns -= start_ns % period as i64; }
-- }
unfoldable pub aligned : ℤ → ℕ → ℤ
aligned ns period =
    cond (ltb 0 (as_u64 ns % period))
    (cond (lt_z (pos 0) ns) (ns +ℤ (pos period -ℤ rem_z ns (pos period))) (ns -ℤ rem_z ns (pos period)))
    ns

-- Duration::nanoseconds(ns): seconds rounded down, and the rest
unfoldable pub duration_of : ℤ → Value
duration_of (pos n) = record { head = pos (n / per_second); tail = pos (n % per_second) }
duration_of (negsuc n) = record { head = negsuc (n / per_second); tail = pos (per_second - 1 - n % per_second) }

-- let mut current = Duration::nanoseconds(start_ns); while current < self.1 { .. }
unfoldable pub durations_by : ℕ → Axis → ℕ → List Value
durations_by turns a period =
    list_from turns a per_second period (duration_of (aligned (nanoseconds Span a.start) period))

-- const MULTIPLIER: &[i32] = &[1, 2, 5];
abbrev pub multiplier : List ℕ
multiplier = 1 ∷ 2 ∷ 5 ∷ []

-- while total / i64::from(days_per_tick * MULTIPLIER[idx]) > max_points as i64 {
--     idx += 1; if idx == MULTIPLIER.len() { idx = 0; days_per_tick *= 10; }
-- }
-- days_per_tick *= MULTIPLIER[idx];
unfoldable pub days_per_tick : ℕ → ℤ → ℕ → ℕ → ℕ → ℕ
days_per_tick zero total maxPoints perTick idx = perTick * get_or multiplier idx 0
days_per_tick (suc turns) total maxPoints perTick idx =
    let around = eqb (idx + 1) (length multiplier) in
    cond (lt_z (pos maxPoints) (quot_z total (pos (perTick * get_or multiplier idx 0))))
    (days_per_tick turns total maxPoints (cond around (perTick * 10) perTick) (cond around 0 (idx + 1)))
    (perTick * get_or multiplier idx 0)

-- Duration::days(self.0.num_days() + if Duration::days(self.0.num_days()) != self.0 { 1 } else { 0 })
unfoldable pub first_whole : Value → Value
first_whole v = of_days (days_in v +ℤ cond (equals v (of_days (days_in v))) (pos 0) (pos 1))

-- while current < self.1 { ret.push(current); current += Duration::days(i64::from(days_per_tick)); }
unfoldable pub whole_days_by : ℕ → Axis → ℕ → List Value
whole_days_by turns a perTick =
    while turns (λ v. earlier v a.end) (λ v. v)
    (λ v. record { head = v.head +ℤ pos (seconds_per_day * perTick); tail = v.tail })
    (first_whole a.start)

-- with a period where the span fits nanoseconds, else by whole days
unfoldable pub duration_key_points : ℕ → Axis → ℕ → List Value
duration_key_points turns a maxPoints =
    if_some (period_on turns a maxPoints false) (durations_by turns a)
    (whole_days_by turns a (days_per_tick turns (days_in a.end -ℤ days_in a.start) maxPoints 1 0))
