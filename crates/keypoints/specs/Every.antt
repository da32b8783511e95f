-- The days of a span that pass a test: how document 02 says which days get a tick. Definitions only.
use Rattle.std.specs.Prelude.{ℕ, zero, suc, ◌+◌, ◌-◌, Bool, cond, List, [], ◌∷◌, pos}
use Rattle.values.specs.declared.Value.{Value}
use Rattle.values.specs.Values.{midnight}
use Rattle.axis.specs.declared.Axis.{Axis}
use Rattle.counting.specs.Counting.{from_day, to_day}

-- those that pass among the k days from the day n on
unfoldable pub days_from : (ℕ → Bool) → ℕ → ℕ → List Value
days_from test zero n = []
days_from test (suc k) n = cond (test n) (midnight (pos n) ∷ days_from test k (n + 1)) (days_from test k (n + 1))

-- those of the span, both ends included
unfoldable pub days_on : (ℕ → Bool) → Axis → List Value
days_on test a = days_from test (to_day a + 1 - from_day a) (from_day a)
