-- What the values cursor gives when it is walked. Definitions only.
use Rattle.std.specs.Prelude.{◌≡◌, true, List, [], ◌∷◌, ℕ, zero, suc, ◌+◌, ◌≤◌, pos}
use Rattle.std.specs.Prelude.{Option, Some, None, Result, Ok, Err}
use Rattle.asking.specs.declared.Refusal.{Refusal}
use Rattle.calendar.specs.Questions.{last_day}
use Rattle.values.specs.declared.Value.{Value}
use Rattle.axis.specs.declared.Axis.{Axis}
use Rattle.discrete.specs.declared.Cursor.{Cursor}
use Rattle.counting.specs.Counting.{monthly, from_day}
use Rattle.discrete.specs.Indices.{value_at}
use Rattle.discrete.specs.Answers.{values_answer}

-- the cursor at a place
abbrev pub cursor_at : ℕ → Cursor
cursor_at i = record { place = pos i }

-- what a step gives, and then the rest of the walk; a step without a value ends it
abbrev pub onward : (Cursor → List Value) → Result (Option Value × Cursor) Refusal → List Value
onward rest (Err q) = []
onward rest (Ok (None, c)) = []
onward rest (Ok (Some v, c)) = v ∷ rest c

-- the values of at most n steps from c
abbrev pub walk : Axis → ℕ → Cursor → List Value
walk a zero c = []
walk a (suc n) c = onward (walk a n) (values_answer a c)

-- the values of n indices from i on
abbrev pub values_from : Axis → ℕ → ℕ → List Value
values_from a i zero = []
values_from a i (suc n) = value_at a i ∷ values_from a (i + 1) n

-- Where months are counted, the first day is one of question 3. On kinds 1, 2 and 3 it always is; on kind 5 it is not
-- where the start is 9999-12-31 from its first whole second on.
abbrev pub Inside : Axis → Type 0
Inside a = monthly a ≡ true → from_day a ≤ last_day
