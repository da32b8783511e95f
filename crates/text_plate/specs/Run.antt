-- A whole run: turns over an input that comes in chunks, and then its end. Definitions only.
use Rattle.std.specs.Prelude.{List, [], ◌++◌, ℕ, ◌+◌, ◌≤◌, length, Some, None}
use Rattle.arrayvec.specs.ArrayVec.{ArrayVec}
use Rattle.text_write.specs.Texts.{Wrote}
use Rattle.text_plate.specs.declared.State.{State}
use Rattle.text_plate.specs.Turns.{ended_text, Turned}

-- nothing waits to be printed, or nothing is kept of a line
abbrev pub empty : ArrayVec ℕ
empty = record { items = [] }

-- from a state over an input: what is printed. A chunk is any front of what is left, and what a turn wrote is printed before
-- the next one
pub data Prints : State → List ℕ → List ℕ → Type 0 where
  more : {s after : State} {chunk left printed : List ℕ} {out : ArrayVec ℕ} (rest : List ℕ)
      → s.number + length chunk ≤ 18446744073709551615
      → Turned s chunk (Some left) after empty out
      → Prints after (left ++ rest) printed
      → Prints s (chunk ++ rest) (out.items ++ printed)
  last : {s after : State} {chunk : List ℕ} {out : ArrayVec ℕ} (rest : List ℕ)
      → s.number + length chunk ≤ 18446744073709551615
      → Turned s chunk None after empty out
      → Prints s (chunk ++ rest) out.items
  over : {s : State} {k : ℕ} {out : ArrayVec ℕ}
      → Wrote k (ended_text s.number s.line.items) empty out
      → Prints s [] out.items

-- at the start nothing is kept
abbrev pub begin : State
begin = record { number = 0; line = empty }
