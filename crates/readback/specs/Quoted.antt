-- A quoted text as bytes. Definitions only.
use Rattle.std.specs.Prelude.{List, ℕ}
use mathlib.Core.List as list
use Prim.Native.Char.{code}
use Prim.Native.String.{String, [], ◌∷◌}

-- one byte for each character, as ASCII has them
abbrev pub bytes : String → List ℕ
bytes [] = list.[]
bytes (c ∷ s) = list.◌∷◌ (code c) (bytes s)
