-- Ladders of steps, and the first step that passes a test. Definitions only.
-- A ladder repeats a list of counts; each time around, its unit is `base` times as long.
use Rattle.std.specs.Prelude.{ℕ, zero, suc, ◌*◌, ◌/◌, ◌%◌, ◌^◌, ◌≤◌, ◌<◌, Bool, cond, List, [], ◌∷◌, T, leb, length, get_or}

-- the first unit, how much longer each next one is, and the counts of each unit
pub record Ladder : Type 0 where
  pub unit : ℕ
  pub base : ℕ
  pub counts : List ℕ

-- the same as a function
abbrev pub ladder : ℕ → ℕ → List ℕ → Ladder
ladder unit base counts = record { unit = unit; base = base; counts = counts }

-- the unit of step i
abbrev pub unit_at : Ladder → ℕ → ℕ
unit_at l i = l.unit * l.base ^ (i / length l.counts)

-- how many of its unit step i has
abbrev pub count_at : Ladder → ℕ → ℕ
count_at l i = get_or l.counts (i % length l.counts) 0

-- step i itself
abbrev pub step_at : Ladder → ℕ → ℕ
step_at l i = count_at l i * unit_at l i

-- the first number from i on that passes the test; after `more` failures the next one is taken untested
unfoldable pub first_from : (ℕ → Bool) → ℕ → ℕ → ℕ
first_from test zero i = i
first_from test (suc more) i = cond (test i) i (first_from test more (suc i))

-- ---- a span with the hint n
-- step i is wide enough: the span has at most n times its count of whole units
abbrev pub wide : ℕ → ℕ → Ladder → ℕ → Bool
wide span n l i = leb (span / unit_at l i) (n * count_at l i)

-- the rung of the first step that is wide enough, counted from 0; no search of ours goes beyond 16
unfoldable pub rung_of : ℕ → ℕ → Ladder → ℕ
unfolding first_from
rung_of span n l = first_from (wide span n l) 16 0

-- that step
abbrev pub first_wide : ℕ → ℕ → Ladder → ℕ
first_wide span n l = step_at l (rung_of span n l)

-- what a search in 64 bits asks: small counts, and a step that is wide enough, above 0 and fits
pub record Climbable (span n : ℕ) (l : Ladder) : Type 0 where
  pub hint : n ≤ 4096
  pub unit : 0 < l.unit
  pub base : 0 < l.base
  pub some : 0 < length l.counts
  pub small : (k : ℕ) → get_or l.counts k 0 ≤ 30
  pub ends : T (wide span n l (rung_of span n l))
  pub above : 0 < first_wide span n l
  pub fits : first_wide span n l < 2 ^ 63

-- ---- 1, 2, 5, 10, 20, 50, .. units
abbrev pub decimal_ladder : ℕ → Ladder
decimal_ladder unit = ladder unit 10 (1 ∷ 2 ∷ 5 ∷ [])

-- the i-th of 1, 2, 5, 10, .. goes into the total at most n times
abbrev pub rare : ℕ → ℕ → ℕ → Bool
rare total n i = leb (total / step_at (decimal_ladder 1) i) n

-- every how many years, or days, a tick stands: the first of them that goes into the total at most n times, or 10 ^ 7
unfoldable pub first_fit : ℕ → ℕ → ℕ
unfolding first_from
first_fit total n = step_at (decimal_ladder 1) (first_from (rare total n) 21 0)
