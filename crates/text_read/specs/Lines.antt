-- The lines of a text, words, and where the fields of a line stand. Definitions only.
-- A line is its bytes without the LF; its fields have one space between them.
use Rattle.std.specs.Prelude.{Bool, cond, ◌&&◌, List, [], ◌∷◌, ℕ, zero, suc, ◌+◌, leb, eqb, length, drop, Option, None, Some}
use lib.Pointwise.{pointwise}
use Rattle.text_read.specs.Bytes.{line_feed, space_byte}
use Rattle.text_read.specs.Fields.{until_of}

-- ---- lines
-- the lines that end in LF, each without it, and the bytes after the last LF
pub record Lines : Type 0 where
  pub lines : List (List ℕ)
  pub left : List ℕ

-- a byte before the first of the lines
abbrev pub byte_before : ℕ → List (List ℕ) → List ℕ → Lines
byte_before b [] left = record { lines = []; left = b ∷ left }
byte_before b (l ∷ ls) left = record { lines = (b ∷ l) ∷ ls; left = left }

-- a LF ends a line
unfoldable pub lines_of : List ℕ → Lines
lines_of [] = record { lines = []; left = [] }
lines_of (b ∷ s) =
    cond (eqb b line_feed) (record { lines = [] ∷ (lines_of s).lines; left = (lines_of s).left })
    (byte_before b (lines_of s).lines (lines_of s).left)

-- ---- words
-- the same bytes
abbrev pub same_as : List ℕ → List ℕ → Bool
same_as s t = pointwise eqb s t

-- what a word names, of words beside what they name; None: it is none of them
abbrev pub named : {A : Type 0} → List (List ℕ × A) → List ℕ → Option A
named [] w = None
named ((v, a) ∷ vs) w = cond (same_as w v) (Some a) (named vs w)

-- ---- fields
-- how often c stands in s
unfoldable pub occurrences : ℕ → List ℕ → ℕ
occurrences c [] = 0
occurrences c (b ∷ s) = cond (eqb b c) (suc (occurrences c s)) (occurrences c s)

-- at most 120 bytes, and so many spaces
unfoldable pub in_form : ℕ → List ℕ → Bool
in_form spaces s = leb (length s) 120 && eqb (occurrences space_byte s) spaces

-- what stands after the first space
abbrev pub rest_of : List ℕ → List ℕ
rest_of s = drop (until_of space_byte s + 1) s

-- the line from its field k on; the first is its field 0
abbrev pub fields_from : ℕ → List ℕ → List ℕ
fields_from zero s = s
fields_from (suc k) s = rest_of (fields_from k s)
