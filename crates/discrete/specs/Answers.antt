-- What the operations answer on raw numbers, refused calls too: their questions, then the answer. Definitions only.
-- A value is asked question 10 last.
use Rattle.std.specs.Prelude.{cond, ◌&&◌, List, [], ◌∷◌, ◌++◌, ℕ, ◌+◌, ◌-◌, leb, ltb, ℤ, pos, ◌+ℤ◌}
use Rattle.std.specs.Prelude.{Option, Some, None, Result, Ok, Err}
use Rattle.asking.specs.declared.Refusal.{Refusal}
use Rattle.asking.specs.declared.Refusal.TheVariants as refusal
use Rattle.asking.specs.Asking.{Question, ask, asked}
use Rattle.laws.specs.Numbers.{pos_part}
use Rattle.values.specs.declared.Value.{Value}
use Rattle.values.specs.Values.{is_stamp}
use Rattle.axis.specs.declared.Axis.{Axis}
use Rattle.axis.specs.declared.Limits.{Limits}
use Rattle.axis.specs.Axes.{closed}
use Rattle.axis.specs.Questions.{has_index, has_unmap, unmap_pixels, value_on, is_index, plain_questions}
use Rattle.axis.specs.Questions.{checked, checked_if}
use Rattle.unmapping.specs.Unmapping.{unmap_coord}
use Rattle.discrete.specs.declared.Cursor.{Cursor}
use Rattle.counting.specs.Counting.{size_of}
use Rattle.discrete.specs.Indices.{is_indexed, index_of, value_at, index_under}

-- ---- the questions
abbrev pub size_questions : Axis → List Question
size_questions a = plain_questions (has_index a) a

-- of a value on an axis
abbrev pub value_questions : Axis → Value → List Question
value_questions a v = size_questions a ++ (ask refusal.Value (value_on a v) ∷ [])

-- of an index on an axis
abbrev pub index_questions : Axis → ℤ → List Question
index_questions a i = size_questions a ++ (ask refusal.Value (is_index i) ∷ [])

-- of a pixel between two limits
abbrev pub unmap_questions : Axis → Limits → ℤ → List Question
unmap_questions a l p = plain_questions (has_unmap a) a ++ (ask refusal.Limits (unmap_pixels l p) ∷ [])

-- ---- the answers, on an axis whose end belongs to it
unfoldable pub index_in : Axis → Value → Option ℕ
index_in a v = cond (is_indexed a v) (Some (index_of a v)) None

-- the value that stands behind a place, where that is not before the first place, and before the last
unfoldable pub neighbour : ℕ → ℕ → ℕ → Value → Option Value
neighbour at from to w = cond (leb from at && ltb at to) (Some w) None

-- the value of the next index, below the size
unfoldable pub next_in : Axis → Value → Option Value
next_in a v = cond (is_indexed a v && ltb (index_of a v + 1) (size_of a)) (Some (value_at a (index_of a v + 1))) None

-- the value of the index before
unfoldable pub previous_in : Axis → Value → Option Value
previous_in a v = cond (is_indexed a v && ltb 0 (index_of a v)) (Some (value_at a (index_of a v - 1))) None

-- at or past the size there is none
unfoldable pub value_in : Axis → ℕ → Option Value
value_in a i = cond (ltb i (size_of a)) (Some (value_at a i)) None

-- the value under a pixel: kind 4 counts nothing and goes by unmap_coord
unfoldable pub value_under : Axis → Limits → ℤ → Value
value_under a l p = cond (is_stamp a.kind) (unmap_coord a l p) (value_at a (index_under a l p))

-- ---- the operations: the questions are asked of an axis, the answer is of the axis by which it counts
-- `size`
unfoldable pub size_answer : Axis → Result ℕ Refusal
size_answer a = asked (size_questions a) (Ok (size_of (closed a)))

-- `index_of`
unfoldable pub index_answer : Axis → Value → Result (Option ℕ) Refusal
index_answer a v = asked (value_questions a v) (Ok (index_in (closed a) v))

-- `from_index`, beyond the size too
unfoldable pub from_index_answer : Axis → ℤ → Result Value Refusal
from_index_answer a i = asked (index_questions a i) (checked (value_at (closed a) (pos_part i)))

-- `next`
unfoldable pub next_answer : Axis → Value → Result (Option Value) Refusal
next_answer a v = asked (value_questions a v) (checked_if (next_in (closed a) v))

-- `previous`
unfoldable pub previous_answer : Axis → Value → Result (Option Value) Refusal
previous_answer a v = asked (value_questions a v) (checked_if (previous_in (closed a) v))

-- one step of the cursor: it moves on with a value, and stays where there is none
abbrev pub stepped : Cursor → Result (Option Value) Refusal → Result (Option Value × Cursor) Refusal
stepped c (Err q) = Err q
stepped c (Ok None) = Ok (None, c)
stepped c (Ok (Some v)) = Ok (Some v, record { place = c.place +ℤ pos 1 })

-- `values`: a step from the cursor's place
unfoldable pub values_answer : Axis → Cursor → Result (Option Value × Cursor) Refusal
values_answer a c = stepped c (asked (index_questions a c.place) (checked_if (value_in (closed a) (pos_part c.place))))

-- `unmap`
unfoldable pub unmap_answer : Axis → Limits → ℤ → Result Value Refusal
unmap_answer a l p = asked (unmap_questions a l p) (checked (value_under (closed a) l p))
