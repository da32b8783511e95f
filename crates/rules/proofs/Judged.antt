-- What a refusal says of a table: the statements of specs/Claims.antt. Assumes nothing.
use mathlib.Core.Path.{◌≡◌, refl, sym, ◌∙◌}
use mathlib.Core.Bool.{Bool, true, false, not, cond}
use mathlib.Core.List.{List, [], ◌∷◌}
use Prim.Native.Nat.{ℕ, zero, suc, ◌≤◌, ◌<◌}
use native.Mathlib.Omega.{arith}
use borrow.Author.Tests.{eqb-true, eqb-false, eq-eqb, ne_eqb, ltb-true, ltb-false, lt-ltb, le-ltb, le-leb, lt-leb}
use native.Mathlib.Decide.{dec_le}
use lib.Dec.{leb, ltb, eqb}
use lib.ListN.{length}
use Rattle.std.specs.Prelude.{⊤, Option, None, Some, Result, Ok, Err}
use Rattle.asking.specs.declared.Refusal.{Refusal}
use Rattle.asking.specs.declared.Refusal.TheVariants as refusal
use Rattle.asking.specs.Asking.{ask, asked}
use Rattle.rules.specs.declared.Row.{Row}
use Rattle.rules.specs.Rows.{row_at, InRange, AllInRange}
use Rattle.rules.specs.Cover.{lengths, is_for, rows_for, first_for, row_for, lacking, doubled}
use Rattle.rules.specs.Table.{table_of, rows_read, rows_in, length_questions, table_questions, sizes}
use Rattle.rules.specs.Claims.{EachLength, SomeLength, Fitting, verdict, Judged, Judges}
use Rattle.rules.proofs.Some.{some_one, none_at, none_is, some_is}
use Rattle.rules.proofs.Lengths.{ends, between, has_row, met, some_row, total, together, no_more, one_more}
use Rattle.rules.proofs.Reading.{table_in_range}

-- the row that is found, where a length has one row
only_one : (ws : List Row) (l : ℕ) → rows_for ws l ≡ 1 →
    Fitting ws l (first_for ws l) × ((i : ℕ) → Fitting ws l i → i ≡ first_for ws l)
unfolding rows_for first_for
only_one [] l e = absurd (let z : ⊥ = omega arith in z)
only_one (w ∷ ws) l e = go (is_for w l) refl e (only_one ws l)
  where
    shift : {i : ℕ} → Fitting (w ∷ ws) l (suc i) → Fitting ws l i
    shift r = record { inside = omega (arith, r.inside); low = r.low; high = r.high }

    go : (b : Bool) → is_for w l ≡ b → cond b (suc (rows_for ws l)) (rows_for ws l) ≡ 1
        → (rows_for ws l ≡ 1 → Fitting ws l (first_for ws l) × ((i : ℕ) → Fitting ws l i → i ≡ first_for ws l))
        → let f = cond b 0 (suc (first_for ws l)) in
        Fitting (w ∷ ws) l f × ((i : ℕ) → Fitting (w ∷ ws) l i → i ≡ f)
    go true p e f = let q = ends w l p in (record { inside = omega arith; low = q.0; high = q.1 }, first)
      where
        first : (i : ℕ) → Fitting (w ∷ ws) l i → i ≡ 0
        first zero r = refl
        first (suc i) r =
            let t = has_row ws l i (shift r).inside (between (row_at ws i) l r.low r.high) in
            absurd (let z : ⊥ = omega (arith, t) in z)
    go false p e f = let s = f e in (record { inside = omega (arith, s.0.inside); low = s.0.low; high = s.0.high }, rest)
      where
        rest : (i : ℕ) → Fitting (w ∷ ws) l i → i ≡ suc (first_for ws l)
        rest zero r =
            let t = between w l r.low r.high in
            let z : ◌≡◌ {A = ℕ} 0 1 = cc in
            absurd (let w : ⊥ = omega arith in w)
        rest (suc i) r = omega (arith, (f e).1 i (shift r))

many : 3652058 < lengths
unfolding lengths
many = omega arith

a_length : {l : ℕ} → l ≤ 3652058 → l < lengths
unfolding lengths
a_length h = omega arith

more_than : {n : ℕ} → 3652059 < n → lengths < n
unfolding lengths
more_than h = h

no_more_than : {n : ℕ} → n ≤ 3652059 → n ≤ lengths
unfolding lengths
no_more_than h = h

-- the two tests, and what each says of the lengths
module _ (ws : List Row) where
  pub is_lacking_law : SomeLength (λ l. rows_for ws l ≡ 0) → lacking ws ≡ true
  unfolding lacking
  is_lacking_law s = some_is (λ l. eqb (rows_for ws l) 0) lengths s.0 s.1 (eq-eqb (rows_for ws s.0) 0 s.2)

  pub not_lacking : EachLength (λ l. 0 < rows_for ws l) → lacking ws ≡ false
  unfolding lacking
  not_lacking f = none_is (λ l. eqb (rows_for ws l) 0) lengths (λ l h. ne_eqb (rows_for ws l) 0 (λ e. omega (arith, f l h)))

  lacks : lacking ws ≡ true → SomeLength (λ l. rows_for ws l ≡ 0)
  unfolding lacking
  lacks e = let s = some_one (λ l. eqb (rows_for ws l) 0) lengths e in (s.0, s.1, eqb-true (rows_for ws s.0) 0 s.2)

  lacks_none : lacking ws ≡ false → EachLength (λ l. 0 < rows_for ws l)
  unfolding lacking
  lacks_none e l h = omega (arith, eqb-false (rows_for ws l) 0 (none_at (λ l. eqb (rows_for ws l) 0) lengths e l h))

  doubles : doubled ws ≡ true → SomeLength (λ l. 1 < rows_for ws l)
  unfolding doubled
  doubles e = let s = some_one (λ l. ltb 1 (rows_for ws l)) lengths e in (s.0, s.1, ltb-true 1 (rows_for ws s.0) s.2)

  doubles_none : doubled ws ≡ false → EachLength (λ l. rows_for ws l ≤ 1)
  unfolding doubled
  doubles_none e l h = ltb-false 1 (rows_for ws l) (none_at (λ l. ltb 1 (rows_for ws l)) lengths e l h)

  -- where no length lacks a row, some length has two just where the rows are for more lengths than there are
  pub by_sizes : AllInRange ws → lacking ws ≡ false → doubled ws ≡ ltb lengths (sizes ws)
  by_sizes r e = go (doubled ws) refl (together ws lengths many r)
    where
      go : (b : Bool) → doubled ws ≡ b → total ws lengths ≡ sizes ws → b ≡ ltb lengths (sizes ws)
      go true p t =
          let (l, h, m) = doubles p in
          sym (lt-ltb lengths (sizes ws) (omega (arith, t, one_more ws lengths l (lacks_none e) h m)))
      go false p t = sym (le-ltb lengths (sizes ws) (omega (arith, t, no_more ws lengths (doubles_none p))))

  -- as the code asks it
  pub by_sum : AllInRange ws → lacking ws ≡ false → not (doubled ws) ≡ leb (sizes ws) 3652059
  by_sum r e = elim (dec_le (sizes ws) 3652059) [
    | yes l ↦ rw (by_sizes r e, le-ltb lengths (sizes ws) (no_more_than l), le-leb (sizes ws) 3652059 l) refl
    | no l ↦ let m : 3652059 < sizes ws = omega arith in
        rw (by_sizes r e, lt-ltb lengths (sizes ws) (more_than m), lt-leb (sizes ws) 3652059 m) refl
  ]

-- the verdict of a table that reads
abbrev judge : Bool → Bool → Result ⊤ Refusal
judge lacks two = cond lacks (Err refusal.Gap) (cond two (Err refusal.Overlap) (Ok tt))

verdict_is : (s : List ℕ) (ws : List Row) → table_of s ≡ Some ws → (p q : Bool) → lacking ws ≡ p → doubled ws ≡ q →
    verdict s ≡ judge p q
unfolding table_questions
verdict_is s ws t p q e f = rw (t, e, f) (go p q)
  where
    go : (p q : Bool) → asked (ask refusal.Gap (not p) ∷ (ask refusal.Overlap (not q) ∷ [])) (Ok tt) ≡ judge p q
    go true q = refl
    go false true = refl
    go false false = refl

unread_is : (s : List ℕ) → table_of s ≡ None → verdict s ≡ Err refusal.Table
unfolding table_questions
unread_is s e = rw e refl

module _ (s : List ℕ) (ws : List Row) (t : table_of s ≡ Some ws) where
  few_and_ranges : (length ws ≤ 64) × AllInRange ws
  few_and_ranges = table_in_range s ws t

  -- by the two tests
  by_tests : (p q : Bool) → lacking ws ≡ p → doubled ws ≡ q → Judged s ws
  by_tests true q e f =
      let r : verdict s ≡ Err refusal.Gap = verdict_is s ws t true q e f in
      let n = lacks ws e in
      record {
        few = few_and_ranges.0;
        ranges = few_and_ranges.1;
        fifteen = (λ q. n, λ q. r);
        sixteen = (
          λ q. absurd (let z : ⊥ = cc in z),
          λ q. absurd (let z : ⊥ = omega (arith, q.0 n.0 n.1, n.2) in z),
        );
        accepted = (
          λ q. absurd (let z : ⊥ = cc in z),
          λ g. absurd (let z : ⊥ = omega (arith, g n.0 n.1, n.2) in z),
        );
        found = λ q. absurd (let z : ⊥ = cc in z);
        only = λ q. absurd (let z : ⊥ = cc in z);
      }
  by_tests false true e f =
      let r : verdict s ≡ Err refusal.Overlap = verdict_is s ws t false true e f in
      let a = lacks_none ws e in
      let m = doubles ws f in
      record {
        few = few_and_ranges.0;
        ranges = few_and_ranges.1;
        fifteen = (
          λ q. absurd (let z : ⊥ = cc in z),
          λ n. absurd (let z : ⊥ = omega (arith, a n.0 n.1, n.2) in z),
        );
        sixteen = (λ q. (a, m), λ q. r);
        accepted = (
          λ q. absurd (let z : ⊥ = cc in z),
          λ g. absurd (let z : ⊥ = omega (arith, g m.0 m.1, m.2) in z),
        );
        found = λ q. absurd (let z : ⊥ = cc in z);
        only = λ q. absurd (let z : ⊥ = cc in z);
      }
  by_tests false false e f =
      let r : verdict s ≡ Ok tt = verdict_is s ws t false false e f in
      let a = lacks_none ws e in
      let o = doubles_none ws f in
      let one : EachLength (λ l. rows_for ws l ≡ 1) = λ l h. omega (arith, a l h, o l h) in
      record {
        few = few_and_ranges.0;
        ranges = few_and_ranges.1;
        fifteen = (
          λ q. absurd (let z : ⊥ = cc in z),
          λ n. absurd (let z : ⊥ = omega (arith, a n.0 n.1, n.2) in z),
        );
        sixteen = (
          λ q. absurd (let z : ⊥ = cc in z),
          λ q. absurd (let z : ⊥ = omega (arith, o q.1.0 q.1.1, q.1.2) in z),
        );
        accepted = (λ q. one, λ g. r);
        found = λ q l h. (only_one ws l (one l h)).0;
        only = λ q l h. (only_one ws l (one l h)).1;
      }

  judged : Judged s ws
  judged = by_tests (lacking ws) (doubled ws) refl refl

-- of any bytes
pub judges : (s : List ℕ) → Judges s
judges s = record { twelve = (λ e. go (table_of s) refl e, unread_is s); others = judged s }
  where
    go : (o : Option (List Row)) → table_of s ≡ o → verdict s ≡ Err refusal.Table → table_of s ≡ None
    go None p e = p
    go (Some ws) p e =
        let v = verdict_is s ws p (lacking ws) (doubled ws) refl refl in
        absurd (no_twelve (lacking ws) (doubled ws) (sym v ∙ e))
      where
        no_twelve : (x y : Bool) → judge x y ≡ Err refusal.Table → ⊥
        no_twelve true y e = cc
        no_twelve false true e = cc
        no_twelve false false e = cc

-- ---- the rows, where the table is accepted
module _ (s : List ℕ) where
  pub asked_unread : table_of s ≡ None → asked (table_questions s) (Ok (rows_in s)) ≡ Err refusal.Table
  unfolding table_questions
  asked_unread e = rw e refl

  pub asked_read : (ws : List Row) → table_of s ≡ Some ws →
      asked (table_questions s) (Ok (rows_in s)) ≡ asked (length_questions ws) (Ok ws)
  unfolding table_questions
  asked_read ws e = rw e refl

-- ---- an accepted table
pub accepted_table : (s : List ℕ) → verdict s ≡ Ok tt → table_of s ≡ Some (rows_in s)
accepted_table s e = go (table_of s) refl
  where
    go : (o : Option (List Row)) → table_of s ≡ o → o ≡ Some (rows_read o)
    go (Some ws) p = refl
    go None p = absurd (let z : Err refusal.Table ≡ Ok tt = sym (unread_is s p) ∙ e in let y : ⊥ = cc in y)

pub rows_few : (s : List ℕ) → verdict s ≡ Ok tt → length (rows_in s) ≤ 64
rows_few s e = ((judges s).others (rows_in s) (accepted_table s e)).few

-- each length has a row in range
pub row_found : (s : List ℕ) → verdict s ≡ Ok tt → (l : ℕ) → l ≤ 3652058 →
    (w : Row) × (row_for (rows_in s) l ≡ Some w) × InRange w
row_found s e l h =
    let ws = rows_in s in
    let j = (judges s).others ws (accepted_table s e) in
    let one : rows_for ws l ≡ 1 = j.accepted.0 e l (a_length h) in
    let (w, r) = some_row ws l (omega arith) in
    let (i, p, q) = met ws l w r in
    (w, r, rw p (j.ranges (first_for ws l) i))
