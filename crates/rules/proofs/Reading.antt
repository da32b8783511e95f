-- A table's text from a place on: what one line more does to the rows, and the numbers of a row that was read. Assumes nothing.
use mathlib.Core.Path.{◌≡◌, refl, sym, ap, ◌∙◌, subst}
use mathlib.Core.Bool.{Bool, true, false, cond, ◌&&◌}
use mathlib.Core.List.{List, [], ◌∷◌, ◌++◌, append-nil, append_assoc}
use Prim.Native.Nat.{ℕ, zero, suc, ◌+◌, ◌-◌, ◌≤◌, ◌<◌}
use native.Mathlib.Omega.{arith}
use borrow.Author.Tests.{eqb-true, leb-true, le-leb, lt-leb, ne_eqb}
use lib.Dec.{leb, eqb}
use lib.IntN.{ℤ, pos, negsuc}
use lib.ListN.{length, take, drop, get_or}
use lib.Signed.{le_z, lt_z}
use lib.Pointwise.{pointwise}
use Rattle.std.specs.Prelude.{⊤, Option, None, Some}
use Rattle.std.specs.List.{slice_split, onto_first}
use Rattle.std.proofs.Math.ListN.{drop_of_length-le}
use Rattle.std.proofs.lemmas.Iterator.{YieldsList}
use Rattle.std.proofs.lemmas.List.{drop_more, take-append-drop}
use Rattle.std.proofs.lemmas.List.Splits.{length-slice_split}
use Rattle.laws.specs.Numbers.{pos_part, neg_part}
use Rattle.laws.proofs.Signed.{le_true, is_ge}
use Rattle.laws.proofs.Tests.{both_true, and_false}
use Rattle.text_read.specs.Bytes.{line_feed}
use Rattle.text_read.specs.Fields.{field_of, read_number}
use Rattle.text_read.specs.Lines.{Lines, byte_before, lines_of, in_form, fields_from}
use Rattle.rules.specs.declared.Unit.{Unit}
use Rattle.rules.specs.declared.Row.{Row}
use Rattle.rules.specs.declared.Typed.{Typed}
use Rattle.rules.specs.Rows.{unit_of, in_range, row_read, row_from, read_row, zeros, InRange, AllInRange}
use Rattle.rules.specs.Table.{is_names, row_before, rows_of_lines, rows_from, table_from, table_of}

-- ---- rows, and then others
abbrev pub before : List Row → Option (List Row) → Option (List Row)
before ws (Some vs) = Some (ws ++ vs)
before ws None = None

-- ---- the lines of a text, cut at each LF
-- where the text ends in LF, its lines are the parts of what stands before it
pub cut_lines : (t : List ℕ) →
    lines_of (t ++ (line_feed ∷ [])) ≡ record { lines = slice_split (λ b. eqb b line_feed) t; left = [] }
unfolding lines_of
cut_lines [] = refl
cut_lines (b ∷ t) =
    go (eqb b line_feed) (slice_split (λ b. eqb b line_feed) t)
    (λ z. omega (arith, length-slice_split (λ b. eqb b line_feed) t)) (cut_lines t)
  where
    go : (c : Bool) (ls : List (List ℕ)) → (length ls ≡ 0 → ⊥) → {more : Lines} → more ≡ record { lines = ls; left = [] }
        → cond c (record { lines = [] ∷ more.lines; left = more.left }) (byte_before b more.lines more.left)
        ≡ record { lines = cond c ([] ∷ ls) (onto_first b ls); left = [] }
    go true ls n e = rw e refl
    go false [] n e = absurd (n refl)
    go false (l ∷ ls) n e = rw e refl

-- else something is left
left_over : (s : List ℕ) → 0 < length s → pointwise eqb (drop (length s - 1) s) (line_feed ∷ []) ≡ false
    → 0 < length (lines_of s).left
unfolding lines_of
left_over [] h e = absurd (let z : ⊥ = omega arith in z)
left_over (b ∷ []) h e = go (eqb b line_feed) e
  where
    go : (c : Bool) → c && true ≡ false
        → 0 < length (cond {A = Lines} c (record { lines = [] ∷ []; left = [] }) (record { lines = []; left = b ∷ [] })).left
    go true e = absurd (let z : ⊥ = cc in z)
    go false e = omega arith
left_over (b ∷ d ∷ t) h e =
    go (eqb b line_feed) (lines_of (d ∷ t)).lines (lines_of (d ∷ t)).left (left_over (d ∷ t) (omega arith) last)
  where
    last : pointwise eqb (drop (length (d ∷ t) - 1) (d ∷ t)) (line_feed ∷ []) ≡ false
    last = let n : length (b ∷ d ∷ t) - 1 ≡ suc (length (d ∷ t) - 1) = omega arith in rw n at e

    go : (c : Bool) (ls : List (List ℕ)) (left : List ℕ) → 0 < length left
        → 0 < length (cond {A = Lines} c (record { lines = [] ∷ ls; left = left }) (byte_before b ls left)).left
    go true ls left h = h
    go false [] left h = omega arith
    go false (l ∷ ls) left h = h

-- a table's last line ends in LF
pub no_end : (s : List ℕ) → pointwise eqb (drop (length s - 1) s) (line_feed ∷ []) ≡ false → table_of s ≡ None
unfolding table_of lines_of
no_end [] e = refl
no_end (b ∷ s) e = go (lines_of (b ∷ s)).lines (lines_of (b ∷ s)).left (left_over (b ∷ s) (omega arith) e)
  where
    named : (c : Bool) (ls : List (List ℕ)) (left : List ℕ) → 0 < length left → cond c (rows_from 64 ls left) None ≡ None
    named true ls left h = rw (ne_eqb (length left) 0 (λ z. omega arith), and_false (leb (length ls) 64)) refl
    named false ls left h = refl

    go : (ls : List (List ℕ)) (left : List ℕ) → 0 < length left → table_from ls left ≡ None
    go [] left h = refl
    go (l ∷ ls) left h = named (is_names l) ls left h

-- ---- the names
module _ (s l : List ℕ) (ls : List (List ℕ)) (e : lines_of s ≡ record { lines = l ∷ ls; left = [] }) where
  pub wrong_names : is_names l ≡ false → table_of s ≡ None
  unfolding table_of
  wrong_names n = rw (e, n) refl

  module _ (n : is_names l ≡ true) where
    pub too_many : 64 < length ls → table_of s ≡ None
    unfolding table_of
    too_many h = rw (e, n, lt-leb (length ls) 64 h) refl

    pub unread_line : rows_of_lines ls ≡ None → table_of s ≡ None
    unfolding table_of
    unread_line r = rw (e, n, r) (either (leb (length ls) 64))
      where
        either : (b : Bool) → ◌≡◌ {A = Option (List Row)} (cond (b && true) None None) None
        either true = refl
        either false = refl

    pub all_read : length ls ≤ 64 → table_of s ≡ rows_of_lines ls
    unfolding table_of
    all_read h = rw (e, n, le-leb (length ls) 64 h) refl

-- ---- a loop over the other lines: ws are the rows of the lines before place k
abbrev pub row_lines : List ℕ → List (List ℕ)
row_lines s = drop 1 (lines_of s).lines

abbrev pub going : List Row → List (List ℕ) → Option (List Row)
going ws ls = before ws (rows_of_lines ls)

pub begun : (ls : List (List ℕ)) → rows_of_lines ls ≡ going [] ls
begun ls = go (rows_of_lines ls)
  where
    go : (o : Option (List Row)) → o ≡ before [] o
    go (Some ws) = refl
    go None = refl

pub over : (ws : List Row) (ls : List (List ℕ)) (k : ℕ) → length ls ≤ k → going ws (drop k ls) ≡ Some ws
unfolding rows_of_lines
over ws ls k h = rw (drop_of_length-le ls h) (ap Some (append-nil ws))

module _ (ws : List Row) (ls : List (List ℕ)) (k : ℕ) (l : List ℕ) (h : k < length ls) (e : l ≡ get_or ls k l) where
  at : drop k ls ≡ l ∷ drop (k + 1) ls
  at = drop_more ls k l h ∙ ap (λ (x : List ℕ). x ∷ drop (k + 1) ls) (sym e)

  pub stop_unread : read_row l ≡ None → going ws (drop k ls) ≡ None
  unfolding rows_of_lines
  stop_unread r = rw (at, r) refl

  pub go_on : {w : Row} → read_row l ≡ Some w → going ws (drop k ls) ≡ going (ws ++ (w ∷ [])) (drop (k + 1) ls)
  unfolding rows_of_lines
  go_on {w} r = rw (at, r) (go (rows_of_lines (drop (k + 1) ls)))
    where
      go : (o : Option (List Row)) → before ws (row_before (Some w) o) ≡ before (ws ++ (w ∷ [])) o
      go (Some vs) = ap Some (sym (append_assoc ws (w ∷ []) vs))
      go None = refl

-- ---- the numbers of a row that was read
pub a_count : (a : ℤ) (n : ℕ) → le_z (pos n) a ≡ true → lt_z a (pos 0) ≡ false
a_count a n e = is_ge a (pos 0) (omega (arith, le_true (pos n) a e))

-- what is asked of them
pub record Ranges (t : Typed) : Type 0 where
  pub from : le_z (pos 0) t.from ≡ true
  pub order : le_z t.from t.to ≡ true
  pub last : le_z t.to (pos 3652058) ≡ true
  pub step : le_z (pos 1) t.step ≡ true
  pub short : le_z t.step (pos 1000) ≡ true

pub ranges : (t : Typed) → in_range t ≡ true → Ranges t
unfolding in_range
ranges t e =
    let (p, q) = both_true _ _ e in
    let (a, b) = both_true _ _ p in
    let (c, d) = both_true _ _ a in
    let (f, g) = both_true _ _ q in
    record { from = c; order = d; last = b; step = f; short = g }

pub to_count : {t : Typed} → Ranges t → lt_z t.to (pos 0) ≡ false
to_count {t} r =
    is_ge t.to (pos 0) (omega (arith, le_true (pos 0) t.from r.from, le_true t.from t.to r.order))

-- the row of them
abbrev row_of : Typed → Row
row_of t = record { from = pos_part t.from; to = pos_part t.to; unit = t.unit; step = pos_part t.step }

no_minus : (z : ℤ) → neg_part z ≤ pos_part z → neg_part z ≡ 0
no_minus (pos n) h = refl
no_minus (negsuc n) h = absurd (let z : ⊥ = omega arith in z)

typed_in_range : (t : Typed) → Ranges t → InRange (row_of t)
typed_in_range t r =
    let a = no_minus t.from (omega (arith, le_true (pos 0) t.from r.from)) in
    let b = le_true t.from t.to r.order in
    let c = no_minus t.to (omega arith) in
    let d = no_minus t.step (omega (arith, le_true (pos 1) t.step r.step)) in
    record {
      order = omega arith;
      last = omega (arith, le_true t.to (pos 3652058) r.last);
      step = omega (arith, le_true (pos 1) t.step r.step);
      short = omega (arith, le_true t.step (pos 1000) r.short);
    }

-- the row of a field that was read
abbrev row_in : Option Row → Row
row_in (Some w) = w
row_in None = zeros

module _ (w : Row) where
  typed_row : (t : Typed) → row_read t ≡ Some w → InRange w
  unfolding row_read
  typed_row t e = go (in_range t) (λ p. typed_in_range t (ranges t p)) e
    where
      go : (b : Bool) → (b ≡ true → InRange (row_of t)) → cond b (Some (row_of t)) None ≡ Some w → InRange w
      go true f e = subst InRange (ap row_in e) (f refl)
      go false f e = absurd (let z : ⊥ = cc in z)

  from_fields : (a b : Option ℤ) (u : Option Unit) (k : Option ℤ) → row_from a b u k ≡ Some w → InRange w
  from_fields (Some a) (Some b) (Some u) (Some k) e = typed_row (record { from = a; to = b; unit = u; step = k }) e
  from_fields (Some a) (Some b) (Some u) None e = absurd (let z : ⊥ = cc in z)
  from_fields (Some a) (Some b) None k e = absurd (let z : ⊥ = cc in z)
  from_fields (Some a) None u k e = absurd (let z : ⊥ = cc in z)
  from_fields None b u k e = absurd (let z : ⊥ = cc in z)

  pub row_in_range : (s : List ℕ) → read_row s ≡ Some w → InRange w
  unfolding read_row
  row_in_range s e =
      let a = read_number (fields_from 0 s) in
      let b = read_number (fields_from 1 s) in
      let u = unit_of (field_of (fields_from 2 s)) in
      let k = read_number (fields_from 3 s) in
      go (in_form 3 s) (row_from a b u k) (from_fields a b u k) e
    where
      go : (b : Bool) (o : Option Row) → (o ≡ Some w → InRange w) → cond b o None ≡ Some w → InRange w
      go true o f e = f e
      go false o f e = absurd (let z : ⊥ = cc in z)

-- ---- of all rows of a table
abbrev RangesIn : Option (List Row) → Type 0
RangesIn (Some ws) = AllInRange ws
RangesIn None = ⊤

lines_in_range : (ls : List (List ℕ)) → RangesIn (rows_of_lines ls)
unfolding rows_of_lines
lines_in_range [] = λ i h. absurd (let z : ⊥ = omega arith in z)
lines_in_range (l ∷ ls) = go (read_row l) refl (rows_of_lines ls) (lines_in_range ls)
  where
    go : (r : Option Row) → read_row l ≡ r → (o : Option (List Row)) → RangesIn o → RangesIn (row_before r o)
    go (Some w) e (Some ws) f = each
      where
        each : AllInRange (w ∷ ws)
        each zero h = row_in_range w l e
        each (suc i) h = f i (omega arith)
    go (Some w) e None f = tt
    go None e o f = tt

-- how many there are
abbrev CountIn : ℕ → Option (List Row) → Type 0
CountIn n (Some ws) = length ws ≡ n
CountIn n None = ⊤

as_many : (ls : List (List ℕ)) → CountIn (length ls) (rows_of_lines ls)
unfolding rows_of_lines
as_many [] = refl
as_many (l ∷ ls) = go (read_row l) (rows_of_lines ls) (as_many ls)
  where
    go : (r : Option Row) (o : Option (List Row)) → CountIn (length ls) o → CountIn (suc (length ls)) (row_before r o)
    go (Some w) (Some ws) e = ap suc e
    go (Some w) None e = tt
    go None o e = tt

module _ (s : List ℕ) (ws : List Row) where
  rows_from_law : (ls : List (List ℕ)) (left : List ℕ) → rows_from 64 ls left ≡ Some ws → (length ws ≤ 64) × AllInRange ws
  rows_from_law ls left e =
      go (leb (length ls) 64) (leb-true (length ls) 64) _ (rows_of_lines ls) (as_many ls) (lines_in_range ls) e
    where
      go : (b : Bool) → (b ≡ true → length ls ≤ 64) → (c : Bool) (o : Option (List Row)) → CountIn (length ls) o → RangesIn o →
          cond (b && c) o None ≡ Some ws → (length ws ≤ 64) × AllInRange ws
      go true l true (Some vs) n f e =
          let p : vs ≡ ws = cc in
          (subst (λ (x : List Row). length x ≤ 64) p (omega (arith, n, l refl)), subst AllInRange p f)
      go true l true None n f e = absurd (let z : ⊥ = cc in z)
      go true l false o n f e = absurd (let z : ⊥ = cc in z)
      go false l c o n f e = absurd (let z : ⊥ = cc in z)

  -- a table that reads has at most 64 rows, each in range
  pub table_in_range : table_of s ≡ Some ws → (length ws ≤ 64) × AllInRange ws
  unfolding table_of
  table_in_range e = go (lines_of s).lines (lines_of s).left e
    where
      named : (b : Bool) (ls : List (List ℕ)) (left : List ℕ) → cond b (rows_from 64 ls left) None ≡ Some ws →
          (length ws ≤ 64) × AllInRange ws
      named true ls left e = rows_from_law ls left e
      named false ls left e = absurd (let z : ⊥ = cc in z)

      go : (ls : List (List ℕ)) (left : List ℕ) → table_from ls left ≡ Some ws → (length ws ≤ 64) × AllInRange ws
      go [] left e = absurd (let z : ⊥ = cc in z)
      go (l ∷ ls) left e = named (is_names l) ls left e

-- ---- what std says of the lines
-- a text that ends in LF
pub before_LF : (s x : List ℕ) → pointwise eqb (drop (length s - 1) s) (line_feed ∷ []) ≡ true → x ≡ take (length s - 1) s
    → s ≡ x ++ (line_feed ∷ [])
before_LF s x e f =
    sym (take-append-drop (length s - 1) s) ∙ rw (← f, one_byte (drop (length s - 1) s) e) refl
  where
    one_byte : (t : List ℕ) → pointwise eqb t (line_feed ∷ []) ≡ true → t ≡ line_feed ∷ []
    one_byte [] e = absurd (let z : ⊥ = cc in z)
    one_byte (b ∷ []) e = ap (λ (x : ℕ). x ∷ []) (eqb-true b line_feed (both_true _ _ e).0)
    one_byte (b ∷ d ∷ t) e = let q : false ≡ true = (both_true (eqb b line_feed) false e).1 in absurd (let z : ⊥ = cc in z)

pub first_line : (s l : List ℕ) (all : List (List ℕ)) → lines_of s ≡ record { lines = all; left = [] } → all ≡ l ∷ drop 1 all
    → lines_of s ≡ record { lines = l ∷ row_lines s; left = [] }
first_line s l all e f =
    e ∙ ap (λ (x : List (List ℕ)). record { lines = x; left = [] }) (f ∙ ap (λ (t : Lines). l ∷ drop 1 t.lines) (sym e))

-- an iterator after its first item
module _ {S A B : Type 0} {steps : S → Option A → S → Type 0} {v : A → B} {s : S} where
  pub after_first : (all : List B) → YieldsList steps v s all → (r : Option A) (x : A) (u : S) → r ≡ Some x → steps s r u
      → (all ≡ v x ∷ drop 1 all) × YieldsList steps v u (drop 1 all)
  after_first [] road r x u e p = absurd (road.runs x u (subst (λ o. steps s o u) e p))
  after_first (y ∷ ys) road r x u e p =
      let (f, g) = road.runs.1 x u (subst (λ o. steps s o u) e p) in
      (ap (λ (z : B). z ∷ ys) (sym f), record { runs = g })
