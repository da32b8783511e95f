-- A chunk moves the output on by what its first line prints, wherever chunks end; and all of it is plate's output.
-- Assumes nothing.
use mathlib.Core.Path.{◌≡◌, refl, sym, ap, ◌∙◌}
use mathlib.Core.Bool.{Bool, true, false, cond}
use mathlib.Core.List.{List, [], ◌∷◌, ◌++◌, append_assoc, append-nil}
use Prim.Native.Nat.{ℕ, zero, suc, ◌+◌, ◌-◌, ◌≤◌, ◌<◌}
use native.Mathlib.Numerals.{add-one}
use native.Mathlib.Omega.{arith}
use lib.Dec.{eqb, ltb}
use lib.ListN.{length, take, drop, drop_of_length-le}
use lib.Seq.{take_all}
use borrow.Author.Tests.{ltb-true, ltb-false}
use Rattle.std.specs.Prelude.{Some, None}
use Rattle.arrayvec.specs.ArrayVec.{ArrayVec}
use Rattle.text_read.specs.Bytes.{line_feed}
use Rattle.text_read.specs.Fields.{until_of}
use Rattle.text_read.specs.Lines.{Lines, byte_before, lines_of}
use Rattle.text_line.specs.Line.{is_names}
use Rattle.text_write.specs.Texts.{Wrote}
use Rattle.feed.specs.Feed.{Ate}
use Rattle.feed.proofs.Keeping.{take_front, behind}
use Rattle.text_rows.specs.Answers.{rows_of}
use Rattle.text_plate.specs.Plate.{output_names, no_names, lines_text, plate_text, plate_of}
use Rattle.text_plate.specs.declared.State.{State}
use Rattle.text_plate.specs.Turns.{finished_text, goes_on, ended_text, to_come, Turned}
use Rattle.text_plate.proofs.Lines.{finished_same, goes_same, ended_same}

-- ---- 121 bytes of a line tell as much as all of them
same_more : (a b q : List ℕ) → take 121 a ≡ take 121 b → take 121 (a ++ q) ≡ take 121 (b ++ q)
same_more a b q e = sym (take_front 121 a q) ∙ (ap (λ (l : List ℕ). take 121 (l ++ q)) e ∙ take_front 121 b q)

same_to_come : (s : List ℕ) (n : ℕ) (a b : List ℕ) → take 121 a ≡ take 121 b → to_come n a s ≡ to_come n b s
unfolding to_come
same_to_come [] n a b e = ended_same n a b e
same_to_come (x ∷ s) n a b e = rw (
  finished_same n a b e,
  goes_same n a b e,
  same_to_come s n (a ++ (x ∷ [])) (b ++ (x ∷ []))
      (same_more a b (x ∷ []) e),
)

-- ---- a chunk with no LF, and one up to its first LF
no_end : (chunk : List ℕ) (n : ℕ) (begun more : List ℕ) → length chunk ≤ until_of line_feed chunk → to_come n begun
    (chunk ++ more)
    ≡ to_come n (begun ++ chunk) more
unfolding to_come until_of
no_end [] n begun more h = ap (λ (l : List ℕ). to_come n l more) (sym (append-nil begun))
no_end (x ∷ s) n begun more h = go (eqb x line_feed) h (λ l. no_end s n (begun ++ (x ∷ [])) more l)
  where
    go : (t : Bool) → suc (length s) ≤ cond t 0 (suc (until_of line_feed s))
        → (length s ≤ until_of line_feed s → to_come n (begun ++ (x ∷ [])) (s ++ more) ≡ to_come n ((begun ++ (x ∷ [])) ++ s)
        more)
        → cond t (finished_text n begun ++ cond (goes_on n begun) (to_come (suc n) [] (s ++ more)) [])
        (to_come n (begun ++ (x ∷ [])) (s ++ more)) ≡ to_come n (begun ++ (x ∷ s)) more
    go true l again = absurd (let z : ⊥ = omega arith in z)
    go false l again = again (omega arith) ∙ ap (λ (b : List ℕ). to_come n b more) (append_assoc begun (x ∷ []) s)

abbrev after_line : ℕ → List ℕ → List ℕ → List ℕ
after_line n line rest = finished_text n line ++ cond (goes_on n line) (to_come (suc n) [] rest) []

to_end : (chunk : List ℕ) (n : ℕ) (begun more : List ℕ) → until_of line_feed chunk < length chunk → to_come n begun
    (chunk ++ more)
    ≡ after_line n (begun ++ take (until_of line_feed chunk) chunk) (drop (suc (until_of line_feed chunk)) chunk ++ more)
unfolding to_come until_of
to_end [] n begun more h = absurd (let z : ⊥ = omega arith in z)
to_end (x ∷ s) n begun more h = go (eqb x line_feed) h (λ l. to_end s n (begun ++ (x ∷ [])) more l)
  where
    go : (t : Bool) → cond t 0 (suc (until_of line_feed s)) < suc (length s)
        → (until_of line_feed s < length s → to_come n (begun ++ (x ∷ [])) (s ++ more)
        ≡ after_line n ((begun ++ (x ∷ [])) ++ take (until_of line_feed s) s) (drop (suc (until_of line_feed s)) s ++ more))
        → cond t (finished_text n begun ++ cond (goes_on n begun) (to_come (suc n) [] (s ++ more)) [])
        (to_come n (begun ++ (x ∷ [])) (s ++ more))
        ≡ after_line n (begun ++ take (cond t 0 (suc (until_of line_feed s))) (x ∷ s))
        (drop (suc (cond t 0 (suc (until_of line_feed s))))
        (x ∷ s) ++ more)
    go true l again = rw (append-nil begun)
    go false l again = again (omega arith) ∙ ap (λ (b : List ℕ). after_line n b (drop (suc (until_of line_feed s)) s ++ more))
        (append_assoc begun (x ∷ []) (take (until_of line_feed s) s))

-- ---- a turn
take_twice : (n : ℕ) (s : List ℕ) → take n (take n s) ≡ take n s
take_twice zero s = refl
take_twice (suc n) [] = refl
take_twice (suc n) (b ∷ s) = ap (λ (l : List ℕ). b ∷ l) (take_twice n s)

module _ (n : ℕ) (begun chunk line more : List ℕ) where
  -- the chunk has no LF: all of it goes to the line
  turn_on : Ate begun chunk None line → to_come n begun (chunk ++ more) ≡ to_come n line more
  turn_on h = by_end (ltb k (length chunk)) (ltb-false k (length chunk)) h.left
    where
      k : ℕ
      k = until_of line_feed chunk

      by_end : (t : Bool) → (t ≡ false → length chunk ≤ k) → None ≡ cond t (Some (drop (k + 1) chunk)) None →
          to_come n begun (chunk ++ more) ≡ to_come n line more
      by_end true l e = absurd (let z : ⊥ = cc in z)
      by_end false l e =
          let all : take k chunk ≡ chunk = take_all k chunk (l refl) in
          let same : take 121 (begun ++ chunk) ≡ take 121 line = rw (h.line, all) (sym (take_twice 121 (begun ++ chunk))) in
          no_end chunk n begun more (l refl) ∙ same_to_come more n (begun ++ chunk) line same

  -- it has one: the line is finished
  turn_end : (rest : List ℕ) → Ate begun chunk (Some rest) line →
      to_come n begun (chunk ++ more) ≡ after_line n line (rest ++ more)
  turn_end rest h = by_end (ltb k (length chunk)) (ltb-true k (length chunk)) h.left
    where
      k : ℕ
      k = until_of line_feed chunk

      same : take 121 (begun ++ take k chunk) ≡ take 121 line
      same = rw h.line (sym (take_twice 121 (begun ++ take k chunk)))

      by_end : (t : Bool) → (t ≡ true → k < length chunk) → Some rest ≡ cond t (Some (drop (k + 1) chunk)) None →
          to_come n begun (chunk ++ more) ≡ after_line n line (rest ++ more)
      by_end true l e =
          let q : rest ≡ drop (suc k) chunk = rw (add-one k) at (let z : rest ≡ drop (k + 1) chunk = cc in z) in
          rw q (to_end chunk n begun more (l refl)
          ∙ rw (finished_same n (begun ++ take k chunk) line same, goes_same n (begun ++ take k chunk) line same))
      by_end false l e = absurd (let z : ⊥ = cc in z)

-- what a turn answers
abbrev most : ℕ
most = 18446744073709551615

pub turned_on : (s : State) (chunk : List ℕ) (line out : ArrayVec ℕ) → Ate s.line.items chunk None line.items →
    Turned s chunk (Some []) (record { number = s.number; line = line }) out out
turned_on s chunk line out h = record {
  ending = sym (drop_of_length-le chunk (omega arith));
  shorter = omega arith;
  counted = omega arith;
  output = λ l more. ap (λ (x : List ℕ). out.items ++ x) (turn_on s.number s.line.items chunk line.items more h);
}

-- a turn over a chunk that ends a line, which is answered; g: more is read after it
pub turned_end : (s : State) (chunk rest line : List ℕ) (clear : ArrayVec ℕ) {before out : ArrayVec ℕ} {k n : ℕ} (g : Bool) →
    Ate s.line.items chunk (Some rest) line → g ≡ goes_on s.number line → clear.items ≡ [] →
    (s.number < most → n ≡ s.number + 1) × (n ≤ s.number + 1) → Wrote k (finished_text s.number line) before out →
    Turned s chunk (cond g (Some rest) None) (record { number = n; line = clear }) before out
turned_end s chunk rest line clear {before} {out} {k} {n} g h goes e next w = by_goes g goes
  where
    less : length rest < length chunk
    less = (behind s.line.items chunk rest line h).0

    written : (more x : List ℕ) → cond (goes_on s.number line) (to_come (suc s.number) [] (rest ++ more)) [] ≡ x →
        before.items ++ to_come s.number s.line.items (chunk ++ more) ≡ out.items ++ x
    written more x q =
        ap (λ (y : List ℕ). before.items ++ y) (turn_end s.number s.line.items chunk line more rest h)
        ∙ rw (q, w.behind) (sym (append_assoc before.items (finished_text s.number line) x))

    by_goes : (g : Bool) → g ≡ goes_on s.number line →
        Turned s chunk (cond g (Some rest) None) (record { number = n; line = clear }) before out
    by_goes true q = record {
      ending = (behind s.line.items chunk rest line h).1;
      shorter = omega (arith, less);
      counted = omega (arith, less, next.1);
      output = λ l more.
          let b : s.number < most = omega (arith, less) in
          let m : n ≡ suc s.number = next.0 b ∙ add-one s.number in
          written more (to_come n clear.items (rest ++ more)) (rw (← q, m, e));
    }
    by_goes false q = record {
      ending = tt;
      shorter = tt;
      counted = omega (arith, less, next.1);
      output = λ l more. written more [] (rw (← q));
    }

-- ---- turns
-- over a chunk, or none yet: what holds after them, but that something is read. While nothing is, nothing is written
pub record Going (s : State) (chunk rest : List ℕ) (after : State) (before out : ArrayVec ℕ) : Type 0 where
  pub ending : rest ≡ drop (length chunk - length rest) chunk
  pub counted : after.number + length rest ≤ s.number + length chunk
  pub none_yet : length rest ≡ length chunk → out ≡ before
  pub output : s.number + length chunk ≤ most → (more : List ℕ)
      → before.items ++ to_come s.number s.line.items (chunk ++ more)
      ≡ out.items ++ to_come after.number after.line.items (rest ++ more)

-- ---- the whole output
-- bytes before the first of the lines
abbrev front_lines : List ℕ → List (List ℕ) → List (List ℕ)
front_lines p [] = []
front_lines p (l ∷ ls) = (p ++ l) ∷ ls

abbrev front_left : List ℕ → List (List ℕ) → List ℕ → List ℕ
front_left p [] left = p ++ left
front_left p (l ∷ ls) left = left

no_front : (ls : List (List ℕ)) → front_lines [] ls ≡ ls
no_front [] = refl
no_front (l ∷ ls) = refl

no_front_left : (ls : List (List ℕ)) (left : List ℕ) → front_left [] ls left ≡ left
no_front_left [] left = refl
no_front_left (l ∷ ls) left = refl

one_more : (p : List ℕ) (b : ℕ) (ls : List (List ℕ)) (left : List ℕ) → front_lines (p ++ (b ∷ [])) ls
    ≡ front_lines p (byte_before b ls left).lines
one_more p b [] left = refl
one_more p b (l ∷ ls) left = ap (λ (x : List ℕ). x ∷ ls) (append_assoc p (b ∷ []) l)

one_more_left : (p : List ℕ) (b : ℕ) (ls : List (List ℕ)) (left : List ℕ) → front_left (p ++ (b ∷ [])) ls left
    ≡ front_left p (byte_before b ls left).lines (byte_before b ls left).left
one_more_left p b [] left = append_assoc p (b ∷ []) left
one_more_left p b (l ∷ ls) left = refl

at_end : (n : ℕ) (p : List ℕ) → ended_text (suc n) p ≡ lines_text (suc n) [] (p ++ [])
unfolding ended_text lines_text
at_end n [] = refl
at_end n (b ∷ p) = refl

-- from the line n on, where p was begun
abbrev lines_from : ℕ → List ℕ → Lines → List ℕ
lines_from n p c = lines_text n (front_lines p c.lines) (front_left p c.lines c.left)

abbrev line_ended : Lines → Lines
line_ended c = record { lines = [] ∷ c.lines; left = c.left }

new_line : (n : ℕ) (p : List ℕ) (c : Lines) → rows_of n p ++ lines_from (suc n) [] c ≡ lines_from n p (line_ended c)
unfolding lines_text
new_line n p c = rw (no_front c.lines, no_front_left c.lines c.left, append-nil p)

same_lines : (n : ℕ) (p : List ℕ) (b : ℕ) (c : Lines) → lines_from n (p ++ (b ∷ [])) c
    ≡ lines_from n p (byte_before b c.lines c.left)
same_lines n p b c = rw (one_more p b c.lines c.left, one_more_left p b c.lines c.left)

lines_come : (s : List ℕ) (n : ℕ) (p : List ℕ) → to_come (suc n) p s ≡ lines_from (suc n) p (lines_of s)
unfolding to_come lines_of finished_text goes_on
lines_come [] n p = at_end n p
lines_come (b ∷ s) n p = go (eqb b line_feed) (lines_come s (suc n) []) (lines_come s n (p ++ (b ∷ [])))
  where
    go : (t : Bool) → to_come (suc (suc n)) [] s ≡ lines_from (suc (suc n)) [] (lines_of s) → to_come (suc n) (p ++ (b ∷ [])) s
        ≡ lines_from (suc n) (p ++ (b ∷ [])) (lines_of s)
        → cond t (rows_of (suc n) p ++ to_come (suc (suc n)) [] s) (to_come (suc n) (p ++ (b ∷ [])) s) ≡ lines_from (suc n) p
        (cond t (line_ended (lines_of s)) (byte_before b (lines_of s).lines (lines_of s).left))
    go true x y = ap (λ (l : List ℕ). rows_of (suc n) p ++ l) x ∙ new_line (suc n) p (lines_of s)
    go false x y = y ∙ same_lines (suc n) p b (lines_of s)

-- from the names line on
abbrev plate_from : List ℕ → Lines → List ℕ
plate_from p c = plate_text (front_lines p c.lines) (front_left p c.lines c.left)

names_line : (p : List ℕ) (c : Lines) → cond (is_names p) output_names no_names ++ cond (is_names p) (lines_from 1 [] c) []
    ≡ plate_from p (line_ended c)
names_line p c = rw (no_front c.lines, no_front_left c.lines c.left, append-nil p) (go (is_names p))
  where
    go : (t : Bool) → cond t output_names no_names ++ cond t (lines_text 1 c.lines c.left) []
        ≡ cond t (output_names ++ lines_text 1 c.lines c.left) no_names
    go true = refl
    go false = append-nil no_names

same_names : (p : List ℕ) (b : ℕ) (c : Lines) → plate_from (p ++ (b ∷ [])) c ≡ plate_from p (byte_before b c.lines c.left)
same_names p b c = rw (one_more p b c.lines c.left, one_more_left p b c.lines c.left)

names_come : (s p : List ℕ) → to_come 0 p s ≡ plate_from p (lines_of s)
unfolding to_come lines_of finished_text goes_on ended_text
names_come [] p = refl
names_come (b ∷ s) p = go (eqb b line_feed) (lines_come s 0 []) (names_come s (p ++ (b ∷ [])))
  where
    go : (t : Bool) → to_come 1 [] s ≡ lines_from 1 [] (lines_of s) → to_come 0 (p ++ (b ∷ [])) s ≡ plate_from (p ++ (b ∷ []))
        (lines_of s)
        → cond t (cond (is_names p) output_names no_names ++ cond (is_names p) (to_come 1 [] s) []) (to_come 0 (p ++ (b ∷ [])) s)
        ≡ plate_from p (cond t (line_ended (lines_of s)) (byte_before b (lines_of s).lines (lines_of s).left))
    go true x y = rw x (names_line p (lines_of s))
    go false x y = y ∙ same_names p b (lines_of s)

-- what is to come at the start is plate's output
pub plate_comes : (s : List ℕ) → to_come 0 [] s ≡ plate_of s
unfolding plate_of
plate_comes s = names_come s [] ∙ rw (no_front (lines_of s).lines, no_front_left (lines_of s).lines (lines_of s).left)
