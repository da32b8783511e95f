-- What a refusal says of a table, over all lengths, and what an accepted table gives. Statements only; proofs/Judged.antt proves
-- them.
use Rattle.std.specs.Prelude.{◌≡◌, List, ◌↔◌, ℕ, ◌≤◌, ◌<◌, length, ⊤, None, Some, Result, Ok, Err}
use Rattle.asking.specs.declared.Refusal.{Refusal}
use Rattle.asking.specs.declared.Refusal.TheVariants as refusal
use Rattle.asking.specs.Asking.{asked}
use Rattle.rules.specs.declared.Row.{Row}
use Rattle.rules.specs.Rows.{row_at, AllInRange}
use Rattle.rules.specs.Cover.{lengths, rows_for, first_for}
use Rattle.rules.specs.Table.{table_of, table_questions}

abbrev pub EachLength : (ℕ → Type 0) → Type 0
EachLength P = (l : ℕ) → l < lengths → P l

abbrev pub SomeLength : (ℕ → Type 0) → Type 0
SomeLength P = (l : ℕ) × (l < lengths) × P l

-- the row of ws at place i is for the length l
pub record Fitting (ws : List Row) (l i : ℕ) : Type 0 where
  pub inside : i < length ws
  pub low : (row_at ws i).from ≤ l
  pub high : l ≤ (row_at ws i).to

-- whether a table is accepted, or the question that refuses it
abbrev pub verdict : List ℕ → Result ⊤ Refusal
verdict s = asked (table_questions s) (Ok tt)

-- a table whose rows read
pub record Judged (s : List ℕ) (ws : List Row) : Type 0 where
  -- at most 64 rows, each with numbers in range
  pub few : length ws ≤ 64
  pub ranges : AllInRange ws
  -- 15 just when a length has no row
  pub fifteen : verdict s ≡ Err refusal.Gap ↔ SomeLength (λ l. rows_for ws l ≡ 0)
  -- 16 just when every length has a row, and one has two or more
  pub sixteen : verdict s ≡ Err refusal.Overlap ↔ (EachLength (λ l. 0 < rows_for ws l) × SomeLength (λ l. 1 < rows_for ws l))
  -- accepted just when each length has one row
  pub accepted : verdict s ≡ Ok tt ↔ EachLength (λ l. rows_for ws l ≡ 1)
  -- the row that is found is for its length
  pub found : verdict s ≡ Ok tt → EachLength (λ l. Fitting ws l (first_for ws l))
  -- and no other row is
  pub only : verdict s ≡ Ok tt → EachLength (λ l. (i : ℕ) → Fitting ws l i → i ≡ first_for ws l)

-- of any bytes: 12 just when they do not read, and what the others say
pub record Judges (s : List ℕ) : Type 0 where
  pub twelve : verdict s ≡ Err refusal.Table ↔ (table_of s ≡ None)
  pub others : (ws : List Row) → table_of s ≡ Some ws → Judged s ws
