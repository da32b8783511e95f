-- A list of ticks in lent numbers: what listing answers, and what the lent slice holds after it. Definitions only.
use Rattle.std.specs.Prelude.{ℕ, ◌*◌, Bool, cond, List, [], ◌∷◌, ◌++◌, ℤ, leb, length, drop, Result, Ok}
use Rattle.std.specs.Result.{result_unwrap_or}
use Rattle.values.specs.declared.Value.{Value}
use Rattle.asking.specs.declared.Refusal.{Refusal}
use Rattle.asking.specs.declared.Refusal.TheVariants as refusal
use Rattle.asking.specs.Asking.{ask, asked}

-- the head and then the tail of each tick
abbrev pub numbers : List Value → List ℤ
numbers [] = []
numbers (t ∷ ts) = t.head ∷ (t.tail ∷ numbers ts)

-- has the lent slice, of k numbers, two for each tick?
abbrev pub has_room : List Value → ℕ → Bool
has_room l k = leb (2 * length l) k

-- what a list answers where k numbers are lent
abbrev pub listed_of : List Value → ℕ → Result ℕ Refusal
listed_of l k = asked (ask refusal.Room (has_room l k) ∷ []) (Ok (length l))

-- the list and then the old numbers, or all old numbers
abbrev pub lent_after : List Value → List ℤ → List ℤ
lent_after l d = cond (has_room l (length d)) (numbers l ++ drop (2 * length l) d) d

-- the part that is handed back
abbrev pub front : List Value → ℕ → List ℤ
front l k = cond (has_room l k) (numbers l) []

-- the count of an answer, 0 if it was refused
abbrev pub count_of : Result ℕ Refusal → ℕ
count_of r = result_unwrap_or r 0
