-- The numbers of a list of ticks: their length, the tick that is read at each place, and how a lent slice comes to hold
-- them, two stores for each tick. Assumes nothing.
use mathlib.Core.Path.{◌≡◌, refl, ap, ◌∙◌}
use mathlib.Core.Logic.{inl, inr}
use mathlib.Core.List.{List, [], ◌∷◌, ◌++◌}
use Prim.Native.Nat.{ℕ, zero, suc, ◌+◌, ◌*◌, ◌≤◌, ◌<◌}
use native.Mathlib.Nat.{eq-or-lt_of_le, not-suc-le-zero}
use native.Mathlib.Numerals.{add-one}
use native.Mathlib.Omega.{arith}
use lib.IntN.{ℤ, pos}
use lib.ListN.{length, get_or, set, drop, length-append, length-set, get_or-append}
use lib.Seq.{get_or_at}
use Rattle.laws.proofs.Lent.{length_push, push_two}
use Rattle.steps.specs.declared.Steps.{Steps}
use Rattle.values.specs.declared.Value.{Value}
use Rattle.steps.specs.Progression.{tick_of, values_of, ticks}
use Rattle.steps.specs.Listing.{numbers}
use Rattle.steps.specs.Promise.{nth}

-- n pairs, as two stores for each make them
abbrev pub pairs : (ℕ → Value) → ℕ → List ℤ
pairs f zero = []
pairs f (suc n) = (pairs f n ++ ((f n).head ∷ [])) ++ ((f n).tail ∷ [])

numbers_push : (l : List Value) (t : Value) → numbers (l ++ (t ∷ [])) ≡ (numbers l ++ (t.head ∷ [])) ++ (t.tail ∷ [])
numbers_push [] t = refl
numbers_push (x ∷ l) t = ap (λ (r : List ℤ). x.head ∷ (x.tail ∷ r)) (numbers_push l t)

module _ (f : ℕ → Value) where
  -- they are the numbers of n ticks
  pub pairs_are : (n : ℕ) → numbers (values_of f n) ≡ pairs f n
  pairs_are zero = refl
  pairs_are (suc n) = numbers_push (values_of f n) (f n) ∙ rw (pairs_are n)

  pub length_values : (n : ℕ) → length (values_of f n) ≡ n
  length_values zero = refl
  length_values (suc n) = simp length-append (omega (arith, length_values n))

  pub length_pairs : (n : ℕ) → length (pairs f n) ≡ 2 * n
  length_pairs zero = refl
  length_pairs (suc n) = simp length-append (omega (arith, length_pairs n))

  head_at : (n i : ℕ) → i < n → get_or (pairs f n) (2 * i) (pos 0) ≡ (f i).head
  head_at zero i h = absurd (not-suc-le-zero h)
  head_at (suc n) i h =
      let l = length_pairs n in
      let a : 2 * i < length (pairs f n ++ ((f n).head ∷ [])) = omega (arith, length_push (pairs f n) (2 * n) (f n).head l) in
      get_or-append (pairs f n ++ ((f n).head ∷ [])) ((f n).tail ∷ []) (pos 0) (2 * i) a
      ∙ elim (eq-or-lt_of_le h) [
        | inl p ↦ let e : n ≡ i = omega arith in rw (← e) (get_or_at (pairs f n) (f n).head [] (pos 0) (2 * n) l)
        | inr q ↦
            let b : 2 * i < length (pairs f n) = omega arith in
            get_or-append (pairs f n) ((f n).head ∷ []) (pos 0) (2 * i) b ∙ head_at n i (omega arith)
      ]

  tail_at : (n i : ℕ) → i < n → get_or (pairs f n) (2 * i + 1) (pos 0) ≡ (f i).tail
  tail_at zero i h = absurd (not-suc-le-zero h)
  tail_at (suc n) i h =
      let l = length_pairs n in
      let m = length_push (pairs f n) (2 * n) (f n).head l in
      elim (eq-or-lt_of_le h) [
        | inl p ↦ let e : n ≡ i = omega arith in
            rw (← e) (get_or_at (pairs f n ++ ((f n).head ∷ [])) (f n).tail [] (pos 0) (2 * n + 1) m)
        | inr q ↦
            let a : 2 * i + 1 < length (pairs f n ++ ((f n).head ∷ [])) = omega arith in
            let b : 2 * i + 1 < length (pairs f n) = omega arith in
            get_or-append (pairs f n ++ ((f n).head ∷ [])) ((f n).tail ∷ []) (pos 0) (2 * i + 1) a
            ∙ get_or-append (pairs f n) ((f n).head ∷ []) (pos 0) (2 * i + 1) b ∙ tail_at n i (omega arith)
      ]

  -- the tick that is read at place i is the one that was listed there
  pub nth_pairs : (n i : ℕ) → i < n → nth (pairs f n) i ≡ f i
  nth_pairs n i h = λ k. record { head = head_at n i h k; tail = tail_at n i h k }

-- a progression has as many ticks as it counts
pub count_is : (s : Steps) → length (ticks s) ≡ s.count
count_is s = length_values (tick_of s) s.count

-- and they are read where they were listed
pub nth_ticks : (s : Steps) (i : ℕ) → 2 * i < length (numbers (ticks s)) → nth (numbers (ticks s)) i ≡ tick_of s i
nth_ticks s i h =
    let e = pairs_are (tick_of s) s.count in
    rw e (nth_pairs (tick_of s) s.count i (omega (arith, ap length e, length_pairs (tick_of s) s.count)))

-- and two numbers for each tick of a list
pub length_numbers : (l : List Value) → length (numbers l) ≡ 2 * length l
length_numbers [] = refl
length_numbers (t ∷ l) = omega (arith, length_numbers l)

-- ---- d with the ticks before place i written at its front
pub record Written (f : ℕ → Value) (count : ℕ) (d l : List ℤ) (i : ℕ) : Type 0 where
  pub turns : i ≤ count
  pub length_is : length l ≡ length d
  list_is : l ≡ pairs f i ++ drop (2 * i) d

pub none_written : (f : ℕ → Value) (count : ℕ) (d : List ℤ) → Written f count d d 0
none_written f count d = record { turns = omega arith; length_is = refl; list_is = refl }

module _ {f : ℕ → Value} {count : ℕ} {d l : List ℤ} {i : ℕ} (w : Written f count d l i) where
  -- two stores are one tick more
  pub one_more : {v : Value} → i < count → 2 * count ≤ length d → v ≡ f i
      → Written f count d (set (set l (2 * i) v.head) (2 * i + 1) v.tail) (i + 1)
  one_more {v} h room e =
      let next : 2 * i + 1 < length d = omega arith in
      let two : 2 * (i + 1) ≡ 2 * i + 2 = omega arith in
      record {
        turns = omega arith;
        length_is = simp length-set w.length_is;
        list_is = rw (two, add-one i, e) (push_two l (pairs f i) d (2 * i) (f i).head (f i).tail w.list_is
            (length_pairs f i) next);
      }

  pub all_written : count ≤ i → l ≡ numbers (values_of f count) ++ drop (2 * count) d
  all_written h =
      let i≡ : i ≡ count = omega (arith, w.turns) in
      rw (pairs_are f count, ← i≡) w.list_is
