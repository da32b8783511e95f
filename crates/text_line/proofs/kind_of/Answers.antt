-- `text_line::kind_of` meets its contract: the two longest words, byte by byte. Assumes nothing.
use borrow.Author.Rules.{rules}
use mathlib.Core.List.{[], ◌∷◌}
use native.Mathlib.Omega.{arith}
use Rattle.std.proofs.lemmas.Slice.Eq.{text_from_reads}
use Rattle.text_line.specs.Line.{kind_of}
use Rattle.text_line.proofs.kind_of.Goals as goal

pub returns-in-stampyear : goal.returns-in-stampyear
unfolding kind_of
returns-in-stampyear c =
    rw (text_from_reads c.args.w.now (115 ∷ 116 ∷ 97 ∷ 109 ∷ 112 ∷ 121 ∷ 101 ∷ 97 ∷ 114 ∷ []) (omega arith) (search rules))

pub returns-in-stampmonth : goal.returns-in-stampmonth
unfolding kind_of
returns-in-stampmonth c =
    rw (text_from_reads c.args.w.now (115 ∷ 116 ∷ 97 ∷ 109 ∷ 112 ∷ 109 ∷ 111 ∷ 110 ∷ 116 ∷ 104 ∷ []) (omega arith) (search rules))
