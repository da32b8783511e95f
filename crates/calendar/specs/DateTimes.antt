-- The dates next to a date-time, which is a day number and a nanosecond of that day.
-- Whole seconds count: a day is added only from the first whole second on. Definitions only.
use Rattle.std.specs.Prelude.{ℕ, ◌+◌, ◌/◌, cond, ltb}
use Rattle.calendar.specs.declared.DateTime.{DateTime}

-- the date, without the time
abbrev pub date_floor : DateTime → ℕ
date_floor t = t.day

-- the date itself while no whole second of it has passed, else the day after
abbrev pub date_ceil : DateTime → ℕ
date_ceil t = t.day + cond (ltb 0 (t.nano / 1000000000)) 1 0
