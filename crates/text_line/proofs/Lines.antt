-- A word names one of the eight kinds, or none. Assumes nothing.
use mathlib.Core.Path.{◌≡◌, refl}
use mathlib.Core.Bool.{Bool, true, false, cond}
use mathlib.Core.List.{List, [], ◌∷◌}
use Prim.Native.Nat.{ℕ, ◌≤◌}
use native.Mathlib.Omega.{arith}
use Rattle.std.specs.Prelude.{Some, Ok, IfSome}
use Rattle.values.specs.declared.Kind.{Kind}
use Rattle.values.specs.Values.{kind_numbered}
use Rattle.text_read.specs.Lines.{same_as, named}
use Rattle.text_line.specs.Line.{kinds, kind_of}

-- the kind has a number from 1 to 8
abbrev pub IsNumbered : Kind → Type 0
IsNumbered k = (n : ℕ) × (1 ≤ n) × (n ≤ 8) × (kind_numbered n ≡ Ok k)

-- each that a table names has one
abbrev AllNumbered : List (List ℕ × Kind) → Type 0
AllNumbered [] = Unit {0}
AllNumbered ((v, k) ∷ vs) = IsNumbered k × AllNumbered vs

all_numbered : AllNumbered kinds
all_numbered = (
  (1, omega arith, omega arith, refl),
  (
    (2, omega arith, omega arith, refl),
    (
      (3, omega arith, omega arith, refl),
      (
        (4, omega arith, omega arith, refl),
        (
          (5, omega arith, omega arith, refl),
          (
            (6, omega arith, omega arith, refl),
            (
              (7, omega arith, omega arith, refl),
              ((8, omega arith, omega arith, refl), tt),
            ),
          ),
        ),
      ),
    ),
  ),
)

found : (vs : List (List ℕ × Kind)) (w : List ℕ) → AllNumbered vs → IfSome (named vs w) IsNumbered
found [] w u = tt
found ((v, k) ∷ vs) w (is, rest) = by_test (same_as w v) (found vs w rest)
  where
    by_test : (b : Bool) → IfSome (named vs w) IsNumbered → IfSome (cond b (Some k) (named vs w)) IsNumbered
    by_test true later = is
    by_test false later = later

pub kind_most : (w : List ℕ) → IfSome (kind_of w) IsNumbered
unfolding kind_of
kind_most w = found kinds w all_numbered
