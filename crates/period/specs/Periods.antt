-- The period of the ticks over a span of nanoseconds with the hint n: a power of ten chooses a ladder of steps, and its
-- first step that is wide enough is the period. Definitions only.
use Rattle.std.specs.Prelude.{ℕ, zero, suc, ◌+◌, ◌*◌, ◌^◌, Bool, cond, ◌&&◌, [], ◌∷◌, leb, ltb, Option, Some, None}
use Rattle.laws.specs.Units.{per_second, per_hour, per_day}
use Rattle.period.specs.Ladders.{Ladder, ladder, rung_of, first_wide, decimal_ladder}

-- the largest k up to the given one with 10 ^ k * n ≤ span, or 0
unfoldable pub exponent_up_to : ℕ → ℕ → ℕ → ℕ
exponent_up_to zero span n = 0
exponent_up_to (suc k) span n = cond (leb (10 ^ suc k * n) span) (suc k) (exponent_up_to k span n)

-- 10 ^ 19 is above every span that fits 63 bits
unfoldable pub exponent_of : ℕ → ℕ → ℕ
unfolding exponent_up_to
exponent_of span n = exponent_up_to 18 span n

-- that power of ten
abbrev pub power_of : ℕ → ℕ → ℕ
power_of span n = 10 ^ exponent_of span n

-- ---- the ladders
abbrev pub ten_days : ℕ
ten_days = 10 * per_day

-- from a second on, by sixties
abbrev pub second_ladder : Ladder
second_ladder = ladder per_second 60 (1 ∷ 2 ∷ 5 ∷ 10 ∷ 15 ∷ 20 ∷ 30 ∷ [])

-- from an hour on
abbrev pub hour_ladder : Ladder
hour_ladder = ladder per_hour 24 (1 ∷ 2 ∷ 4 ∷ 8 ∷ 12 ∷ [])

-- from a day on
abbrev pub day_ladder : Ladder
day_ladder = ladder per_day 10 (1 ∷ 2 ∷ 5 ∷ 7 ∷ [])

-- the one for a power of ten, p nanoseconds
unfoldable pub ladder_of : ℕ → Ladder
ladder_of p =
    cond (ltb p per_second) (decimal_ladder p)
    (cond (ltb p per_hour) second_ladder
    (cond (ltb p per_day) hour_ladder
    (cond (ltb p ten_days) day_ladder
    (decimal_ladder ten_days))))

-- from a day on there is no period where only steps below a day are asked for: days are listed then
abbrev pub no_period : ℕ → Bool → Bool
no_period p subDaily = leb per_day p && subDaily

-- the period in nanoseconds, or none
unfoldable pub period_of : ℕ → ℕ → Bool → Option ℕ
unfolding exponent_of ladder_of rung_of
period_of span n subDaily =
    cond (no_period (power_of span n) subDaily) None (Some (first_wide span n (ladder_of (power_of span n))))

-- how many steps of the ladder are tested for it, the chosen one included
unfoldable pub tested_of : ℕ → ℕ → Bool → ℕ
unfolding exponent_of ladder_of rung_of
tested_of span n subDaily = cond (no_period (power_of span n) subDaily) 0 (rung_of span n (ladder_of (power_of span n)) + 1)
