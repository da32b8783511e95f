-- How bytes are counted, and the lines of a text one byte at a time.
-- Assumes nothing.
use mathlib.Core.Path.{◌≡◌, refl, ap}
use mathlib.Core.Bool.{Bool, true, false, cond}
use mathlib.Core.List.{List, [], ◌∷◌}
use Prim.Native.Nat.{ℕ, suc, ◌+◌, ◌<◌}
use native.Mathlib.Numerals.{add-one}
use native.Mathlib.Omega.{arith}
use lib.Dec.{eqb}
use lib.ListN.{length, take, drop}
use Rattle.std.specs.List.{count_by}
use Rattle.std.proofs.lemmas.List.Recursion.{is_count_by}
use Rattle.laws.proofs.Tests.{and_false}
use Rattle.text_read.specs.Bytes.{line_feed}
use Rattle.text_read.specs.Fields.{until_of}
use Rattle.text_read.specs.Lines.{Lines, byte_before, lines_of, same_as, occurrences}

-- ---- bytes
-- the bytes that are c, as std counts them
pub occurrences_count : (c : ℕ) (s : List ℕ) → occurrences c s ≡ count_by (λ b. eqb b c) s
unfolding occurrences
occurrences_count c = is_count_by (occurrences c) (λ b. eqb b c) refl
    (λ b s. let one : suc (occurrences c s) ≡ 1 + occurrences c s = omega arith in rw one)

pub same_length_not : (s t : List ℕ) → (length s ≡ length t → ⊥) → same_as s t ≡ false
same_length_not [] [] e = absurd (e refl)
same_length_not [] (b ∷ t) e = refl
same_length_not (a ∷ s) [] e = refl
same_length_not (a ∷ s) (b ∷ t) e = rw (same_length_not s t (λ q. e (ap suc q))) (and_false (eqb a b))

-- ---- lines
-- a text without a LF has no line
pub lines_none : (s : List ℕ) → until_of line_feed s ≡ length s → lines_of s ≡ record { lines = []; left = s }
unfolding lines_of until_of
lines_none [] e = refl
lines_none (b ∷ s) e = go (eqb b line_feed) e (lines_none s)
  where
    go : (t : Bool) → cond t 0 (suc (until_of line_feed s)) ≡ suc (length s)
        → (until_of line_feed s ≡ length s → lines_of s ≡ record { lines = []; left = s })
        → cond t (record { lines = [] ∷ (lines_of s).lines; left = (lines_of s).left })
        (byte_before b (lines_of s).lines (lines_of s).left) ≡ record { lines = []; left = b ∷ s }
    go true e f = absurd (let z : ⊥ = omega arith in z)
    go false e f = rw (f (omega arith))

-- the first line ends before the first LF, and the others stand behind it
abbrev pub line_and_more : List ℕ → ℕ → Lines
line_and_more s k = record { lines = take k s ∷ (lines_of (drop (k + 1) s)).lines; left = (lines_of (drop (k + 1) s)).left }

pub lines_some : (s : List ℕ) → until_of line_feed s < length s → lines_of s ≡ line_and_more s (until_of line_feed s)
unfolding lines_of until_of
lines_some [] h = absurd (let z : ⊥ = omega arith in z)
lines_some (b ∷ s) h = go (eqb b line_feed) h (lines_some s)
  where
    go : (t : Bool) → cond t 0 (suc (until_of line_feed s)) < suc (length s)
        → (until_of line_feed s < length s → lines_of s ≡ line_and_more s (until_of line_feed s))
        → cond t (record { lines = [] ∷ (lines_of s).lines; left = (lines_of s).left })
        (byte_before b (lines_of s).lines (lines_of s).left) ≡ line_and_more (b ∷ s) (cond t 0 (suc (until_of line_feed s)))
    go true h f = refl
    go false h f =
        let e = f (omega arith) in
        let k = until_of line_feed s in
        let d : drop (suc k + 1) (b ∷ s) ≡ drop (k + 1) s = rw (add-one (suc k), add-one k) refl in
        rw (e, d) refl
