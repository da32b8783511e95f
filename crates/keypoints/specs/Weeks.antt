-- The ticks of a week axis, which the Rust has not, in document 02's words: 'Mondays in the span, every m-th from the first,
-- m the least whole number from 1 whose list has at most N + 1'. Definitions only.
use Rattle.std.specs.Prelude.{ℕ, zero, suc, ◌+◌, ◌-◌, ◌≤◌, cond, List, [], ◌∷◌, eqb, leb, pos, length}
use Rattle.weeks.specs.Weeks.{weekday}
use Rattle.values.specs.declared.Value.{Value}
use Rattle.values.specs.Values.{midnight}
use Rattle.axis.specs.declared.Axis.{Axis}
use Rattle.counting.specs.Counting.{from_day, to_day}

-- the Mondays among the k days from the day n on
unfoldable pub mondays_from : ℕ → ℕ → List Value
mondays_from zero n = []
mondays_from (suc k) n =
    cond (eqb (weekday n) 1) (midnight (pos n) ∷ mondays_from k (n + 1)) (mondays_from k (n + 1))

-- every m-th of a list, where so many are left out before the first
unfoldable pub every_after : ℕ → ℕ → List Value → List Value
every_after left m [] = []
every_after zero m (v ∷ vs) = v ∷ every_after (m - 1) m vs
every_after (suc left) m (v ∷ vs) = every_after left m vs

-- every m-th from the first
abbrev pub every : ℕ → List Value → List Value
every m vs = every_after 0 m vs

-- the first number from m on whose list has at most n + 1, tried with so many numbers before the last
unfoldable pub least_from : ℕ → List Value → ℕ → ℕ → ℕ
least_from zero vs n m = m
least_from (suc more) vs n m = cond (leb (length (every m vs)) (n + 1)) m (least_from more vs n (m + 1))

-- the first from 1 on; of a list that is not empty, one is left by its length at the latest
unfoldable pub weeks_per_point : List Value → ℕ → ℕ
weeks_per_point vs n = least_from (length vs) vs n 1

-- m is the least number from 1 on whose list has at most n + 1: no smaller one would do
pub record Least (vs : List Value) (n m : ℕ) : Type 0 where
  pub first : 1 ≤ m
  pub few : length (every m vs) ≤ n + 1
  pub least : (k : ℕ) → 1 ≤ k → length (every k vs) ≤ n + 1 → m ≤ k

-- the Mondays of the span, both ends included
unfoldable pub mondays_on : Axis → List Value
mondays_on a = mondays_from (to_day a + 1 - from_day a) (from_day a)

-- the ticks
unfoldable pub week_key_points : Axis → ℕ → List Value
week_key_points a maxPoints = every (weeks_per_point (mondays_on a) maxPoints) (mondays_on a)
