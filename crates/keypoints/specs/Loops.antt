-- The Rust's loops that fill a Vec, as lists in the order of the pushes. Definitions only.
use Rattle.std.specs.Prelude.{ℕ, zero, suc, Bool, cond, List, [], ◌∷◌, ◌++◌}
use Rattle.values.specs.declared.Value.{Value}

-- for idx in 0..=last { ret.push(at(idx)); }
abbrev pub for_to : ℕ → (ℕ → Value) → List Value
for_to zero at = at 0 ∷ []
for_to (suc last) at = for_to last at ++ (at (suc last) ∷ [])

-- while test(s) { ret.push(at(s)); s = next(s); }, for so many turns at most
unfoldable pub while : {S : Type 0} → ℕ → (S → Bool) → (S → Value) → (S → S) → S → List Value
while zero test at next s = []
while (suc turns) test at next s = cond (test s) (at s ∷ while turns test at next (next s)) []
