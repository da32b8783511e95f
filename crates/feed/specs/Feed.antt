-- Lines in a stream of chunks: what is kept of a line, and what a chunk adds to it. Definitions only.
use Rattle.std.specs.Prelude.{◌≡◌, cond, List, ◌++◌, ℕ, ◌+◌, ltb, length, take, drop, Option, Some, None}
use Rattle.text_read.specs.Bytes.{line_feed}
use Rattle.text_read.specs.Fields.{until_of}

-- the first 121 bytes of a line that was begun and goes on: 121 tell that it is too long
abbrev pub line_of : List ℕ → List ℕ → List ℕ
line_of begun part = take 121 (begun ++ part)

-- the chunk's bytes before its first LF went to the line; a LF ends it, and what stands behind the LF is left
pub record Ate (begun chunk : List ℕ) (rest : Option (List ℕ)) (after : List ℕ) : Type 0 where
  pub line : after ≡ line_of begun (take (until_of line_feed chunk) chunk)
  pub left : rest ≡ cond (ltb (until_of line_feed chunk) (length chunk)) (Some (drop (until_of line_feed chunk + 1) chunk))
      None
