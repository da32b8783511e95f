-- A row of a table in its line: `from to unit step`, with one space between. Definitions only.
use Rattle.std.specs.Prelude.{Bool, cond, ◌&&◌, List, [], ◌∷◌, ℕ, ℤ, ◌≤◌, ◌<◌, pos, length, get_or, Option, None, Some}
use Rattle.std.specs.Int.Signed.{le_z}
use Rattle.laws.specs.Numbers.{within, pos_part}
use Rattle.text_read.specs.Fields.{field_of, read_number}
use Rattle.text_read.specs.Lines.{named, in_form, fields_from}
use Rattle.rules.specs.declared.Unit.{Unit}
use Rattle.rules.specs.declared.Unit.TheVariants as unit
use Rattle.rules.specs.declared.Row.{Row}
use Rattle.rules.specs.declared.Typed.{Typed}

-- day, month, year
abbrev pub units : List (List ℕ × Unit)
units =
    (100 ∷ 97 ∷ 121 ∷ [], unit.Day)
    ∷ (109 ∷ 111 ∷ 110 ∷ 116 ∷ 104 ∷ [], unit.Month)
    ∷ (121 ∷ 101 ∷ 97 ∷ 114 ∷ [], unit.Year)
    ∷ []

-- the unit that a word names
abbrev pub unit_of : List ℕ → Option Unit
unit_of w = named units w

-- from no later than to, both 0 to 3,652,058; a step of 1 to 1,000
unfoldable pub in_range : Typed → Bool
in_range t = (within (pos 0) t.from t.to && le_z t.to (pos 3652058)) && within (pos 1) t.step (pos 1000)

-- what is typed as a row
unfoldable pub row_read : Typed → Option Row
row_read t =
    cond (in_range t)
    (Some (record { from = pos_part t.from; to = pos_part t.to; unit = t.unit; step = pos_part t.step }))
    None

-- every field in its form
abbrev pub row_from : Option ℤ → Option ℤ → Option Unit → Option ℤ → Option Row
row_from (Some a) (Some b) (Some u) (Some k) = row_read (record { from = a; to = b; unit = u; step = k })
row_from (Some a) (Some b) (Some u) None = None
row_from (Some a) (Some b) None k = None
row_from (Some a) None u k = None
row_from None b u k = None

-- the row of a line, or that it does not read
unfoldable pub read_row : List ℕ → Option Row
read_row s =
    cond (in_form 3 s)
    (row_from (read_number (fields_from 0 s)) (read_number (fields_from 1 s)) (unit_of (field_of (fields_from 2 s)))
    (read_number (fields_from 3 s)))
    None

-- ---- the numbers of a row that was read
pub record InRange (w : Row) : Type 0 where
  pub order : w.from ≤ w.to
  pub last : w.to ≤ 3652058
  pub step : 1 ≤ w.step
  pub short : w.step ≤ 1000

abbrev pub zeros : Row
zeros = record { from = 0; to = 0; unit = unit.Day; step = 0 }

-- the row at a place; behind the last row, zeros
abbrev pub row_at : List Row → ℕ → Row
row_at ws i = get_or ws i zeros

-- of each row
abbrev pub AllInRange : List Row → Type 0
AllInRange ws = (i : ℕ) → i < length ws → InRange (row_at ws i)
