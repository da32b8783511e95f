-- A table's text: the names, then a line for each row, at most 64. And what it is asked: 12, 15, 16. Definitions only.
use Rattle.std.specs.Prelude.{Bool, true, false, not, cond, ◌&&◌, List, [], ◌∷◌, ℕ, ◌+◌, ◌-◌, eqb, leb, length}
use Rattle.std.specs.Prelude.{Option, None, Some, Result, Ok}
use Rattle.asking.specs.declared.Refusal.{Refusal}
use Rattle.asking.specs.declared.Refusal.TheVariants as refusal
use Rattle.asking.specs.Asking.{Question, ask, asked}
use Rattle.text_read.specs.Lines.{lines_of, same_as}
use Rattle.rules.specs.declared.Row.{Row}
use Rattle.rules.specs.Rows.{read_row}
use Rattle.rules.specs.Cover.{lacking, doubled}

-- "from to unit step"
abbrev pub names : List ℕ
names =
    102 ∷ 114 ∷ 111 ∷ 109 ∷ 32 ∷ 116 ∷ 111 ∷ 32 ∷ 117 ∷ 110 ∷ 105 ∷ 116 ∷ 32
    ∷ 115 ∷ 116 ∷ 101 ∷ 112 ∷ []

-- is it the names line?
abbrev pub is_names : List ℕ → Bool
is_names s = same_as s names

-- a row before others, where all of them read
abbrev pub row_before : Option Row → Option (List Row) → Option (List Row)
row_before (Some w) (Some ws) = Some (w ∷ ws)
row_before (Some w) None = None
row_before None others = None

-- a row for each line; none where one does not read
unfoldable pub rows_of_lines : List (List ℕ) → Option (List Row)
rows_of_lines [] = Some []
rows_of_lines (l ∷ ls) = row_before (read_row l) (rows_of_lines ls)

-- at most so many lines, and nothing after the last LF
abbrev pub rows_from : ℕ → List (List ℕ) → List ℕ → Option (List Row)
rows_from most ls left = cond (leb (length ls) most && eqb (length left) 0) (rows_of_lines ls) None

-- the names first
abbrev pub table_from : List (List ℕ) → List ℕ → Option (List Row)
table_from [] left = None
table_from (l ∷ ls) left = cond (is_names l) (rows_from 64 ls left) None

-- the rows of a table, or none where it does not read
unfoldable pub table_of : List ℕ → Option (List Row)
table_of s = table_from (lines_of s).lines (lines_of s).left

-- how many lengths each row is for, all together
abbrev pub sizes : List Row → ℕ
sizes [] = 0
sizes (w ∷ ws) = (w.to + 1 - w.from) + sizes ws

-- ---- the questions
abbrev pub is_read : Option (List Row) → Bool
is_read (Some ws) = true
is_read None = false

abbrev pub rows_read : Option (List Row) → List Row
rows_read (Some ws) = ws
rows_read None = []

-- the rows of a table; no row where it does not read
abbrev pub rows_in : List ℕ → List Row
rows_in s = rows_read (table_of s)

-- 15: has each length a row? 16: has no length two?
abbrev pub length_questions : List Row → List Question
length_questions ws = ask refusal.Gap (not (lacking ws)) ∷ (ask refusal.Overlap (not (doubled ws)) ∷ [])

-- 12: does it read? And then the lengths
abbrev pub questions_of : Option (List Row) → List Question
questions_of t = ask refusal.Table (is_read t) ∷ length_questions (rows_read t)

-- of a table's text
unfoldable pub table_questions : List ℕ → List Question
table_questions s = questions_of (table_of s)

-- how many rows it has, or the first no
unfoldable pub rules_answer : List ℕ → Result ℕ Refusal
rules_answer s = asked (table_questions s) (Ok (length (rows_in s)))
