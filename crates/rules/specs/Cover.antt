-- Which rows are for a span length, and whether each length has exactly one. Definitions only.
use Rattle.std.specs.Prelude.{Bool, false, cond, ◌&&◌, ◌||◌, List, [], ◌∷◌, ℕ, zero, suc, leb, ltb, eqb, take, Option}
use Rattle.std.specs.List.{find}
use Rattle.rules.specs.declared.Row.{Row}
use Rattle.rules.specs.declared.rows.Rules.{Rules}

-- the span lengths are 0 to 3,652,058: the numbers below this one
unfoldable pub lengths : ℕ
lengths = 3652059

-- the rows of a table, in their order
abbrev pub rows_of : Rules → List Row
rows_of r = take r.count r.rows

-- a row is for the lengths between its two ends, both included
abbrev pub is_for : Row → ℕ → Bool
is_for w l = leb w.from l && leb l w.to

-- how many rows are for a length
unfoldable pub rows_for : List Row → ℕ → ℕ
rows_for [] l = 0
rows_for (w ∷ ws) l = cond (is_for w l) (suc (rows_for ws l)) (rows_for ws l)

-- where the first row for a length stands; without one, how many rows there are
unfoldable pub first_for : List Row → ℕ → ℕ
first_for [] l = 0
first_for (w ∷ ws) l = cond (is_for w l) 0 (suc (first_for ws l))

-- the first row for a length
abbrev pub row_for : List Row → ℕ → Option Row
row_for ws l = find (λ w. is_for w l) ws

-- a test holds of some number below n
unfoldable pub some : (ℕ → Bool) → ℕ → Bool
some test zero = false
some test (suc n) = test n || some test n

-- some length has no row
unfoldable pub lacking : List Row → Bool
lacking ws = some (λ l. eqb (rows_for ws l) 0) lengths

-- some length has two rows or more
unfoldable pub doubled : List Row → Bool
doubled ws = some (λ l. ltb 1 (rows_for ws l)) lengths
