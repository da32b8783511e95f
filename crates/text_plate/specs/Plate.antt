-- plate's whole output for its whole input. Definitions only.
use Rattle.std.specs.Prelude.{cond, List, [], ◌∷◌, ◌++◌, ℕ, suc}
use Rattle.asking.specs.declared.Refusal.TheVariants as refusal
use Rattle.text_read.specs.Lines.{lines_of}
use Rattle.text_line.specs.Line.{is_names}
use Rattle.text_write.specs.Rows.{refusal_text}
use Rattle.text_rows.specs.Answers.{rows_of}

-- "line tick pixel" and LF
abbrev pub output_names : List ℕ
output_names =
    108 ∷ 105 ∷ 110 ∷ 101 ∷ 32 ∷ 116 ∷ 105 ∷ 99 ∷ 107 ∷ 32
    ∷ 112 ∷ 105 ∷ 120 ∷ 101 ∷ 108 ∷ 10 ∷ []

-- what a wrong or absent names line prints
abbrev pub no_names : List ℕ
no_names = output_names ++ refusal_text 0 refusal.Table

-- ---- the output
-- the lines from the line `number` on, then the bytes without LF, which do not read
unfoldable pub lines_text : ℕ → List (List ℕ) → List ℕ → List ℕ
lines_text number [] [] = []
lines_text number [] (b ∷ s) = refusal_text number refusal.Table
lines_text number (l ∷ ls) left = rows_of number l ++ lines_text (suc number) ls left

-- the names line first; the lines after it count from 1
abbrev pub plate_text : List (List ℕ) → List ℕ → List ℕ
plate_text [] left = no_names
plate_text (l ∷ ls) left = cond (is_names l) (output_names ++ lines_text 1 ls left) no_names

-- the output for an input
unfoldable pub plate_of : List ℕ → List ℕ
plate_of s = plate_text (lines_of s).lines (lines_of s).left
