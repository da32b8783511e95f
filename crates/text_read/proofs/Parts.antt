-- A line's fields are the parts that std cuts it into at each space. Assumes nothing.
use mathlib.Core.Path.{◌≡◌, refl, sym, ap, ◌∙◌, subst}
use mathlib.Core.Bool.{Bool, true, false, cond}
use mathlib.Core.List.{List, [], ◌∷◌}
use Prim.Native.Nat.{ℕ, zero, suc, ◌+◌, ◌-◌, ◌≤◌}
use native.Mathlib.Numerals.{add-one}
use native.Mathlib.Omega.{arith}
use borrow.Author.Tests.{eqb-true, ltb-false}
use lib.Dec.{eqb, ltb}
use lib.ListN.{take, drop, get_or}
use lib.Seq.{take-take}
use Rattle.std.specs.Prelude.{Option, None, Some}
use Rattle.std.proofs.lemmas.Iterator.{YieldsList}
use Rattle.std.proofs.lemmas.List.{get_or-take, drop-take}
use Rattle.std.specs.List.{slice_split, onto_first}
use Rattle.laws.proofs.Tests.{both_true}
use Rattle.text_read.specs.Bytes.{space_byte, minus_byte, colon_byte, t_byte}
use Rattle.text_read.specs.declared.Moment.{Moment}
use Rattle.text_read.specs.Fields.{until_of, field_of, read_number, read_span, triple_of, date_read, ymd_of, read_date}
use Rattle.text_read.specs.Fields.{fraction_of, stamp_read, read_stamp}
use Rattle.text_read.specs.Lines.{in_form, occurrences, rest_of}

abbrev pub parts : List ℕ → List (List ℕ)
parts s = slice_split (λ b. eqb b space_byte) s

-- the fields of a line with n spaces
abbrev pub fields : ℕ → List ℕ → List (List ℕ)
fields zero s = field_of s ∷ []
fields (suc n) s = field_of s ∷ fields n (rest_of s)

pub fields_are : (s : List ℕ) (n : ℕ) → occurrences space_byte s ≡ n → parts s ≡ fields n s
unfolding until_of occurrences
fields_are [] zero e = refl
fields_are [] (suc n) e = absurd (let z : ⊥ = omega arith in z)
fields_are (b ∷ s) n e = go (eqb b space_byte) n e (fields_are s) ∙ all n
  where
    k : ℕ
    k = until_of space_byte s

    -- the fields of b and s, where b is a space or not
    both : Bool → ℕ → List (List ℕ)
    both t zero = take (cond t 0 (suc k)) (b ∷ s) ∷ []
    both t (suc m) = take (cond t 0 (suc k)) (b ∷ s) ∷ fields m (drop (cond t 0 (suc k) + 1) (b ∷ s))

    all : (n : ℕ) → both (eqb b space_byte) n ≡ fields n (b ∷ s)
    all zero = refl
    all (suc m) = refl

    go : (t : Bool) (n : ℕ) → cond t (suc (occurrences space_byte s)) (occurrences space_byte s) ≡ n
        → ((n : ℕ) → occurrences space_byte s ≡ n → parts s ≡ fields n s)
        → cond t ([] ∷ parts s) (onto_first b (parts s)) ≡ both t n
    go true zero e f = absurd (let z : ⊥ = omega arith in z)
    go true (suc m) e f = ap (λ (l : List (List ℕ)). [] ∷ l) (f m (omega arith))
    go false zero e f = ap (onto_first b) (f zero e)
    go false (suc m) e f =
        let d : drop (suc k + 1) (b ∷ s) ≡ drop (k + 1) s = rw (add-one (suc k), add-one k) refl in
        rw d (ap (onto_first b) (f (suc m) e))

-- in form, a line has one field more than spaces
pub formed : (n : ℕ) (s : List ℕ) → in_form n s ≡ true → parts s ≡ fields n s
unfolding in_form
formed n s e = fields_are s n (eqb-true (occurrences space_byte s) n (both_true _ _ e).1)

-- a field alone reads as it does at the front of what stands behind it
field_twice : (s : List ℕ) → field_of (field_of s) ≡ field_of s
unfolding until_of
field_twice [] = refl
field_twice (b ∷ s) = go (eqb b space_byte) refl (field_twice s)
  where
    k : ℕ
    k = until_of space_byte s

    go : (t : Bool) → eqb b space_byte ≡ t → field_of (field_of s) ≡ field_of s
        → let f = take (cond t 0 (suc k)) (b ∷ s) in take (until_of space_byte f) f ≡ f
    go true e g = refl
    go false e g = rw e (ap (λ (l : List ℕ). b ∷ l) g)

first_byte : (s : List ℕ) → eqb (get_or (field_of s) 0 0) minus_byte ≡ eqb (get_or s 0 0) minus_byte
unfolding until_of
first_byte [] = refl
first_byte (b ∷ s) = go (eqb b space_byte) (eqb-true b space_byte)
  where
    go : (t : Bool) → (t ≡ true → b ≡ space_byte)
        → eqb (get_or (take (cond t 0 (suc (until_of space_byte s))) (b ∷ s)) 0 0) minus_byte ≡ eqb b minus_byte
    go true h = rw (h refl) refl
    go false h = refl

pub number_alone : (s : List ℕ) → read_number (field_of s) ≡ read_number s
unfolding read_number
number_alone s = rw (field_twice s, first_byte s) refl

pub span_alone : (s : List ℕ) → read_span (field_of s) ≡ read_span s
unfolding read_span
span_alone s = rw (field_twice s, first_byte s) refl

-- as long as before
until_twice : (s : List ℕ) → until_of space_byte (field_of s) ≡ until_of space_byte s
unfolding until_of
until_twice [] = refl
until_twice (b ∷ s) = go (eqb b space_byte) refl (until_twice s)
  where
    k : ℕ
    k = until_of space_byte s

    go : (t : Bool) → eqb b space_byte ≡ t → until_of space_byte (field_of s) ≡ k
        → until_of space_byte (take (cond t 0 (suc k)) (b ∷ s)) ≡ cond t 0 (suc k)
    go true e g = refl
    go false e g = rw e (ap suc g)

-- ---- what stands within the first k bytes
within : (n i k : ℕ) (s : List ℕ) → i + n ≤ k → take n (drop i (take k s)) ≡ take n (drop i s)
within n i k s h =
    let e : i + (k - i) ≡ k = omega arith in
    ap (λ (m : ℕ). take n (drop i (take m s))) (sym e)
    ∙ (ap (take n) (drop-take i (k - i) s) ∙ take-take n (k - i) (drop i s) (omega arith))

triple_within : (w sep k : ℕ) (s : List ℕ) → w + 6 ≤ k → triple_of w sep (take k s) ≡ triple_of w sep s
unfolding triple_of
triple_within w sep k s h =
    rw (
      get_or-take k s w 0 (omega arith),
      get_or-take k s (w + 3) 0 (omega arith),
      take-take w k s (omega arith),
      within 2 (w + 1) k s (omega arith),
      within 2 (w + 4) k s (omega arith),
    ) refl

pub date_alone : (s : List ℕ) → read_date (field_of s) ≡ read_date s
unfolding read_date
date_alone s = rw (until_twice s) (go (eqb k 10) (eqb-true k 10))
  where
    k : ℕ
    k = until_of space_byte s

    go : (t : Bool) → (t ≡ true → k ≡ 10) → cond t (ymd_of (take k s)) None ≡ cond t (ymd_of s) None
    go true e = ap date_read (triple_within 4 minus_byte k s (omega (arith, e refl)))
    go false e = refl

pub stamp_alone : (s : List ℕ) → read_stamp (field_of s) ≡ read_stamp s
unfolding read_stamp
stamp_alone s =
    ap (λ (n : ℕ). cond (ltb n 19) None (after (field_of s))) (until_twice s) ∙ go (ltb k 19) (ltb-false k 19)
  where
    k : ℕ
    k = until_of space_byte s

    after : List ℕ → Option Moment
    after l =
        cond (eqb (get_or l 10 0) t_byte)
        (stamp_read (ymd_of l) (triple_of 2 colon_byte (take 8 (drop 11 l))) (fraction_of (drop 19 (field_of l))))
        None

    go : (t : Bool) → (t ≡ false → 19 ≤ k) → cond t None (after (take k s)) ≡ cond t None (after s)
    go true e = refl
    go false e =
        let l : 19 ≤ k = e refl in
        rw (
          get_or-take k s 10 0 (omega arith),
          triple_within 4 minus_byte k s (omega arith),
          within 8 11 k s (omega arith),
          field_twice s,
        ) refl

-- ---- an iterator that yields known items
module _ {S A B : Type 0} {steps : S → Option A → S → Type 0} {v : A → B} {s : S} where
  pub begins : {all ys : List B} → all ≡ ys → YieldsList steps v s all → YieldsList steps v s ys
  begins e road = subst (λ (l : List B). YieldsList steps v s l) e road

  pub taken : {y : B} {ys : List B} → YieldsList steps v s (y ∷ ys) → {r : Option A} {x : A} {u : S} → r ≡ Some x → steps s r u
      → (v x ≡ y) × YieldsList steps v u ys
  taken road {r} {x} {u} e p = let (f, g) = road.runs.1 x u (subst (λ o. steps s o u) e p) in (f, record { runs = g })

  pub not_over : {y : B} {ys : List B} → YieldsList steps v s (y ∷ ys) → {r : Option A} {u : S} → r ≡ None → steps s r u → ⊥
  not_over road {r} {u} e p = road.runs.0 u (subst (λ o. steps s o u) e p)
