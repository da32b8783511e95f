-- Nanoseconds of a second, an hour and a day, and seconds of a day. Definitions only.
use Rattle.std.specs.Prelude.{ℕ, ◌*◌}

-- a second
abbrev pub per_second : ℕ
per_second = 1000000000

-- an hour
abbrev pub per_hour : ℕ
per_hour = 3600 * per_second

-- a day
abbrev pub per_day : ℕ
per_day = 24 * per_hour

-- a day in seconds
abbrev pub seconds_per_day : ℕ
seconds_per_day = 86400
