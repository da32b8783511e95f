-- The output by turns: what a finished line prints, what the end of the input prints, and what is still to come. The
-- number 0 is that of the names line. Definitions only.
use Rattle.std.specs.Prelude.{◌≡◌, Bool, true, cond, List, [], ◌∷◌, ◌++◌, ℕ, zero, suc, ◌+◌, ◌-◌, ◌≤◌}
use Rattle.std.specs.Prelude.{eqb, length, drop, Option, Some, None, IfSome}
use Rattle.asking.specs.declared.Refusal.TheVariants as refusal
use Rattle.arrayvec.specs.ArrayVec.{ArrayVec}
use Rattle.text_read.specs.Bytes.{line_feed}
use Rattle.text_line.specs.Line.{is_names}
use Rattle.text_write.specs.Rows.{refusal_text}
use Rattle.text_rows.specs.Answers.{rows_of}
use Rattle.text_plate.specs.Plate.{output_names, no_names}
use Rattle.text_plate.specs.declared.State.{State}

-- what a finished line prints
unfoldable pub finished_text : ℕ → List ℕ → List ℕ
finished_text zero s = cond (is_names s) output_names no_names
finished_text (suc n) s = rows_of (suc n) s

-- and whether more is read after it
unfoldable pub goes_on : ℕ → List ℕ → Bool
goes_on zero s = is_names s
goes_on (suc n) s = true

-- what the end of the input prints, where s was begun and has no LF
unfoldable pub ended_text : ℕ → List ℕ → List ℕ
ended_text zero s = no_names
ended_text (suc n) [] = []
ended_text (suc n) (b ∷ s) = refusal_text (suc n) refusal.Table

-- what is still to be printed, where `begun` are the line's bytes so far and then comes the input s
unfoldable pub to_come : ℕ → List ℕ → List ℕ → List ℕ
to_come number begun [] = ended_text number begun
to_come number begun (b ∷ s) =
    cond (eqb b line_feed)
    (finished_text number begun ++ cond (goes_on number begun) (to_come (suc number) [] s) [])
    (to_come number (begun ++ (b ∷ [])) s)

-- the same after a turn: `left` is what is left of its chunk, or none where nothing more is printed
abbrev pub still : Option (List ℕ) → State → List ℕ → List ℕ
still None s more = []
still (Some rest) s more = to_come s.number s.line.items (rest ++ more)

-- how many bytes are left
abbrev pub left_over : Option (List ℕ) → ℕ
left_over None = 0
left_over (Some rest) = length rest

-- After a turn over a chunk, or several: what is left is the chunk's end, some of the chunk is read, no more lines are
-- counted than bytes, also where nothing more is printed, and whatever input comes after the chunk, what was still to be
-- printed is what was written and what is to come after it. No input has so many lines that the last number is reached
pub record Turned (s : State) (chunk : List ℕ) (left : Option (List ℕ)) (after : State) (before out : ArrayVec ℕ) : Type 0 where
  pub ending : IfSome left (λ rest. rest ≡ drop (length chunk - length rest) chunk)
  pub shorter : IfSome left (λ rest. length rest ≤ length chunk - 1)
  pub counted : after.number + left_over left ≤ s.number + length chunk
  pub output : s.number + length chunk ≤ 18446744073709551615 → (more : List ℕ)
      → before.items ++ to_come s.number s.line.items (chunk ++ more) ≡ out.items ++ still left after more
