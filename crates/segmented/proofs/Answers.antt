-- What the answers are, refused and not: of an index below the size, at it and beyond it, and of mapping.
-- Assumes nothing.
use mathlib.Core.Path.{◌≡◌, refl, sym, ◌∙◌, ap}
use mathlib.Core.Logic.{inl, inr}
use mathlib.Core.Bool.{Bool, true, false, cond, ◌&&◌, ◌||◌}
use mathlib.Core.List.{List, [], ◌∷◌, ◌++◌}
use Prim.Native.Nat.{ℕ, ◌+◌, ◌≤◌, ◌<◌}
use native.Mathlib.Decide.{dec_le}
use native.Mathlib.Omega.{arith}
use lib.Dec.{ltb, leb, eqb, eqb→eq}
use borrow.Author.Tests.{ltb-true, eqb-false, lt-ltb, le-ltb, le-leb, lt-leb}
use lib.IntN.{pos}
use Rattle.std.specs.Bool.{then_some}
use Rattle.std.specs.Prelude.{⊤, Option, Some, None, Result, Ok, Err}
use Rattle.asking.specs.declared.Refusal.{Refusal}
use Rattle.asking.specs.declared.Refusal.TheVariants as refusal
use Rattle.asking.specs.Asking.{Question, ask, asked, passes}
use Rattle.asking.proofs.Asked.{fewer, answered_ok, asked_append, passed, passed_first, refused, refused_first}
use Rattle.laws.specs.Numbers.{within, is_number, pos_part}
use Rattle.laws.proofs.Signed.{same, one_is_zero, equal_true}
use Rattle.laws.proofs.Tests.{both_true, is_true}
use Rattle.values.specs.declared.Value.{Value}
use Rattle.values.proofs.Numbers.{within_true, either_true}
use Rattle.axis.specs.declared.Axis.{Axis}
use Rattle.axis.specs.declared.Limits.{Limits}
use Rattle.axis.specs.Axes.{closed}
use Rattle.axis.specs.Questions.{pixels, value_on, mappable, in_calendar, checked}
use Rattle.mapping.specs.declared.Hairline.{Hairline}
use Rattle.counting.specs.Counting.{Dated, size_of}
use Rattle.counting.proofs.Counting.{size_most, value_on_law}
use Rattle.discrete.specs.Indices.{index_of, value_at}
use Rattle.discrete.specs.Answers.{size_questions, index_in}
use Rattle.discrete.proofs.Indices as indices
use Rattle.discrete.proofs.Answers.{counted}
use Rattle.discrete.proofs.Laws.{index_in_law}
use Rattle.segmented.specs.declared.SegmentValue.{SegmentValue}
use Rattle.segmented.specs.declared.SegmentValue.TheVariants.{Exact, CenterOf, Last}
use Rattle.segmented.specs.declared.Segment.{Segment}
use Rattle.segmented.specs.Segments.{head_tail, SegmentOn, segment_on, segment_of, segments, segment_mappable}
use Rattle.segmented.specs.Segments.{Worked, segment_worked, pixel_checked}
use Rattle.segmented.specs.Answers.{segment_at, segment_checked, between_questions, segment_value_questions}
use Rattle.segmented.specs.Answers.{segment_map_answer}
use Rattle.segmented.specs.Answers.{segment_questions, segment_size_answer, segment_index_in, segment_index_answer}

-- a row that refuses does not pass
pub stopped : (row : List Question) (u : ⊤) (q : Refusal) → asked row (Ok u) ≡ Err q → passes row ≡ false
stopped [] u q e = absurd (let z : ⊥ = cc in z)
stopped (r ∷ row) u q e = by r.yes (stopped row u q) e
  where
    by : (b : Bool) → (asked row (Ok u) ≡ Err q → passes row ≡ false) → cond b (asked row (Ok u)) (Err r.refusal) ≡ Err q →
        b && passes row ≡ false
    by true later p = later p
    by false later p = refl

-- ---- an index: below the size, at it and beyond it
module _ (a : Axis) (i : ℕ) where
  pub segment_value : (v : Value) → i < size_of a → checked (value_at a i) ≡ Ok v →
      Ok (Some (Exact v)) ≡ segment_checked (segment_at a i)
  unfolding segment_at checked
  segment_value v h e = rw (lt-ltb i (size_of a) h) (by (in_calendar (value_at a i)) e)
    where
      by : (b : Bool) → asked (ask refusal.Range b ∷ []) (Ok (value_at a i)) ≡ Ok v →
          Ok (Some (Exact v)) ≡ asked (ask refusal.Range b ∷ []) (Ok (Some (Exact (value_at a i))))
      by true e = let z : value_at a i ≡ v = cc in ap (λ (w : Value). Ok (Some (Exact w))) (sym z)
      by false e = absurd (let z : ⊥ = cc in z)

  pub segment_refused : (q : Refusal) → i < size_of a → checked (value_at a i) ≡ Err q → Err q ≡ segment_checked (segment_at a i)
  unfolding segment_at checked
  segment_refused q h e = rw (lt-ltb i (size_of a) h) (by (in_calendar (value_at a i)) e)
    where
      by : (b : Bool) → asked (ask refusal.Range b ∷ []) (Ok (value_at a i)) ≡ Err q →
          Err q ≡ asked (ask refusal.Range b ∷ []) (Ok (Some (Exact (value_at a i))))
      by true e = absurd (let z : ⊥ = cc in z)
      by false e = let z : refusal.Range ≡ q = cc in ap Err (sym z)

  pub segment_past : size_of a ≤ i → Ok (then_some (eqb i (size_of a)) Last) ≡ segment_checked (segment_at a i)
  unfolding segment_at
  segment_past h = rw (le-ltb i (size_of a) h) (by (eqb i (size_of a)) refl)
    where
      past : (i ≡ size_of a → ⊥) → size_of a < i
      past n = omega arith

      by : (b : Bool) → eqb i (size_of a) ≡ b →
          Ok (then_some b Last) ≡ segment_checked (cond (leb i (size_of a)) (Some Last) None)
      by true e = rw (le-leb i (size_of a) (omega (arith, eqb→eq i (size_of a) (is_true _ e)))) refl
      by false e = rw (lt-leb i (size_of a) (past (eqb-false i (size_of a) e))) refl

-- question 8's yes, of the segment value
module _ (a : Axis) (s : Segment) where
  on_value : (k : ℕ) → is_number s.case k ≡ true → k < 3 → segment_on a s ≡ true →
      value_on a (head_tail s) ≡ true
  unfolding segment_on
  on_value k t l e =
      elim (either_true (is_number s.case 3) (within (pos 1) s.case (pos 2) && value_on a (head_tail s)) e) [
        | inl three ↦
            let (p, q) = within_true (pos k) s.case (pos k) t in
            let (x, y) = within_true (pos 3) s.case (pos 3) three in
            absurd (let z : ⊥ = omega arith in z)
        | inr rest ↦ let (p, q) = both_true (within (pos 1) s.case (pos 2)) (value_on a (head_tail s)) rest in q
      ]

  cases : (x y : Bool) → (x ≡ true → value_on a (head_tail s) ≡ true) → (y ≡ true → value_on a (head_tail s) ≡ true) →
      SegmentOn a (cond x (Exact (head_tail s)) (cond y (CenterOf (head_tail s)) Last))
  cases true y f g = f refl
  cases false true f g = g refl
  cases false false f g = tt

  pub on_kind : segment_on a s ≡ true → SegmentOn a (segment_of s)
  unfolding segment_of
  on_kind e =
      cases (is_number s.case 1) (is_number s.case 2)
      (λ t. on_value 1 t (omega arith) e)
      (λ t. on_value 2 t (omega arith) e)

-- ---- the segment value of three numbers, by their case
module _ (a : Axis) (s : Segment) where
  abbrev pub segment_if : Option SegmentValue
  segment_if = cond (segment_on a s) (Some (segment_of s)) None

  either : (b : Bool) (v : SegmentValue) → then_some b v ≡ cond b (Some v) None
  either true v = refl
  either false v = refl

  pub case_one : s.case ≡ pos 1 → then_some (value_on a (head_tail s)) (Exact (head_tail s)) ≡ segment_if
  unfolding segment_on segment_of
  case_one e = rw e (either (value_on a (head_tail s)) (Exact (head_tail s)))

  pub case_two : s.case ≡ pos 2 → then_some (value_on a (head_tail s)) (CenterOf (head_tail s)) ≡ segment_if
  unfolding segment_on segment_of
  case_two e = rw e (either (value_on a (head_tail s)) (CenterOf (head_tail s)))

  pub case_three : s.case ≡ pos 3 → Some Last ≡ segment_if
  unfolding segment_on segment_of
  case_three e = rw e refl

  is_false : (b : Bool) → (b ≡ true → ⊥) → b ≡ false
  is_false true f = absurd (f refl)
  is_false false f = refl

  pub no_case : (s.case ≡ pos 1 → ⊥) → (s.case ≡ pos 2 → ⊥) → (s.case ≡ pos 3 → ⊥) → None ≡ segment_if
  unfolding segment_on
  no_case f g h = sym (λ i. cond (three i || (near i && value_on a (head_tail s))) (Some (segment_of s)) None)
    where
      three : is_number s.case 3 ≡ false
      three = is_false (is_number s.case 3) (λ t. h (equal_true s.case (pos 3) t))

      near : within (pos 1) s.case (pos 2) ≡ false
      near = is_false (within (pos 1) s.case (pos 2)) (λ t.
          let (p, q) = within_true (pos 1) s.case (pos 2) t in
          elim (one_is_zero s.case) [
            | inl z ↦ absurd (let w : ⊥ = omega arith in w)
            | inr z ↦ elim (dec_le (pos_part s.case) 1) [
              | yes l ↦ f (same s.case (pos 1) (omega arith))
              | no l ↦ g (same s.case (pos 2) (omega arith))
            ]
          ])

-- the segment value that a row lets be answered
pub segment_asked : (row : List Question) (w v : SegmentValue) → Ok v ≡ asked row (Ok w) → (passes row ≡ true) × (v ≡ w)
segment_asked row w v e =
    let (r, f) = answered_ok row (Ok w) v (sym e) in
    let z : v ≡ w = cc in
    (r, z)

-- on the axis by which it counts
pub on_closed : (a : Axis) (v : SegmentValue) → SegmentOn a v → SegmentOn (closed a) v
on_closed a (Exact v) o = value_on_law a v ∙ o
on_closed a (CenterOf v) o = value_on_law a v ∙ o
on_closed a Last o = tt

-- ---- mapping: a refusal of the first questions, of question 9, and none
pub some_size : (a : Axis) (v : SegmentValue) → segment_mappable a v ≡ true → 0 < segments a
unfolding segment_mappable
some_size a (Exact v) e = let (p, q) = both_true (ltb 0 (segments a)) (mappable a v) e in ltb-true 0 (segments a) p
some_size a (CenterOf v) e = let (p, q) = both_true (ltb 0 (segments a)) (mappable a v) e in ltb-true 0 (segments a) p
some_size a Last e = ltb-true 0 (segments a) e

module _ (a : Axis) (l : Limits) (s : Segment) where
  abbrev found : Worked
  found = segment_worked a l (segment_of s)

  -- the first questions of mapping are those of the size
  pub first_passed : passes (segment_value_questions a l s) ≡ true → passes (size_questions a) ≡ true
  first_passed z =
      let seven = size_questions a ++ (ask refusal.Limits (pixels l) ∷ []) in
      let y : passes (seven ++ (ask refusal.Value (segment_on a s) ∷ [])) ≡ true = z in
      (fewer (size_questions a) (ask refusal.Limits (pixels l)) (fewer seven (ask refusal.Value (segment_on a s)) y).0).0

  -- the questions 9 and 10 are left
  abbrev pub rest : Bool → Result Hairline Refusal
  rest nine = asked (ask refusal.Length nine ∷ []) (pixel_checked found)

  in_parts : segment_map_answer a l s ≡ asked (segment_value_questions a l s) (rest (segment_mappable a (segment_of s)))
  unfolding segment_map_answer
  in_parts = asked_append (segment_value_questions a l s)
      (ask refusal.Length (segment_mappable a (segment_of s)) ∷ (ask refusal.Range found.fits ∷ [])) (Ok found.hairline)

  -- a refusal of the axis, and one of the questions after it
  pub axis_refused : {B : Type 0} (b : B) (q : Refusal) → asked (size_questions a) (Ok b) ≡ Err q →
      Err q ≡ segment_map_answer a l s
  axis_refused b q e =
      refused_first (size_questions a) (between_questions a l s) b (rest (segment_mappable a (segment_of s))) q e ∙ sym in_parts

  pub between_refused : passes (size_questions a) ≡ true → {B : Type 0} (b : B) (q : Refusal) →
      asked (between_questions a l s) (Ok b) ≡ Err q → Err q ≡ segment_map_answer a l s
  between_refused z b q e = let answer = rest (segment_mappable a (segment_of s)) in
      refused (between_questions a l s) b answer q e
      ∙ passed_first (size_questions a) (between_questions a l s) answer z ∙ sym in_parts

  pub map_rest : passes (size_questions a) ≡ true → passes (between_questions a l s) ≡ true →
      rest (segment_mappable a (segment_of s)) ≡ segment_map_answer a l s
  map_rest z e = let answer = rest (segment_mappable a (segment_of s)) in
      passed (between_questions a l s) answer e
      ∙ passed_first (size_questions a) (between_questions a l s) answer z ∙ sym in_parts

-- ---- a size and an index have a bound
pub segment_size_range : (a : Axis) (n : ℕ) → segment_size_answer a ≡ Ok n → n ≤ 3652060
unfolding segment_size_answer
segment_size_range a n e =
    let (r, f) = answered_ok (size_questions a) (Ok (segments a + 1)) n e in
    let z : segments a + 1 ≡ n = cc in
    omega (arith, size_most (closed a) (counted a r), z)

module _ (a : Axis) (c : Dated a) (n : ℕ) where
  index_most : (v : Value) → value_on a v ≡ true → index_in a v ≡ Some n → n ≤ 3652059
  unfolding index_of
  index_most v o e = let (l, i) = index_in_law a v n e in omega (arith, i, indices.index_most a c v o)

  within_size : (v : SegmentValue) → SegmentOn a v → segment_index_in a v ≡ Some n → n ≤ 3652059
  unfolding segment_index_in
  within_size (Exact v) o e = index_most v o e
  within_size (CenterOf v) o e = index_most v o e
  within_size Last o e = let z : size_of a ≡ n = cc in omega (arith, size_most a c, z)

pub segment_index_range : (a : Axis) (s : Segment) (n : ℕ) → segment_index_answer a s ≡ Ok (Some n) → n ≤ 3652059
unfolding segment_index_answer
segment_index_range a s n e =
    let (r, f) = answered_ok (segment_questions a s) (Ok (segment_index_in (closed a) (segment_of s))) (Some n) e in
    let (z, o) = fewer (size_questions a) (ask refusal.Value (segment_on a s)) r in
    let g : segment_index_in (closed a) (segment_of s) ≡ Some n = cc in
    within_size (closed a) (counted a z) n (segment_of s) (on_closed a (segment_of s) (on_kind a s o)) g
