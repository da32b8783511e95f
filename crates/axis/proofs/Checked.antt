-- Question 10 of a value that is answered: by the code's tests, and what an answered call says. Assumes nothing.
use mathlib.Core.Path.{◌≡◌, refl, sym, ◌∙◌, ap}
use mathlib.Core.Bool.{Bool, true, false, cond}
use mathlib.Core.List.{List}
use Rattle.std.specs.Prelude.{Option, Some, None, Ok, Err}
use Rattle.asking.specs.declared.Refusal.{Refusal}
use Rattle.asking.specs.declared.Refusal.TheVariants as refusal
use Rattle.asking.specs.Asking.{Question, asked, passes}
use Rattle.asking.proofs.Asked.{answered_ok}
use Rattle.calendar.specs.Questions.{is_day}
use Rattle.values.specs.declared.Value.{Value}
use Rattle.axis.specs.Questions.{checked, checked_if}

-- ---- question 10 alone
pub no_value : Ok None ≡ checked_if None
unfolding checked_if
no_value = refl

-- the test, read back from the answer
module _ {A : Type 0} (x : A) where
  checked_ok : (b : Bool) (y : A) → cond b (Ok x) (Err refusal.Range) ≡ Ok y → (b ≡ true) × (x ≡ y)
  checked_ok true y e = (refl, let z : x ≡ y = cc in z)
  checked_ok false y e = absurd (let z : ⊥ = cc in z)

  checked_no : (b : Bool) (q : Refusal) → cond b (Ok x) (Err refusal.Range) ≡ Err q → (b ≡ false) × (refusal.Range ≡ q)
  checked_no true q e = absurd (let z : ⊥ = cc in z)
  checked_no false q e = (refl, let z : refusal.Range ≡ q = cc in z)

module _ (v : Value) where
  pub in_range_law : is_day v.head ≡ true → Ok v ≡ checked v
  unfolding checked
  in_range_law e = rw e

  pub in_range_if : is_day v.head ≡ true → Ok (Some v) ≡ checked_if (Some v)
  unfolding checked_if
  in_range_if e = rw e

  pub out_of_range : is_day v.head ≡ false → Err refusal.Range ≡ checked v
  unfolding checked
  out_of_range e = rw e

  pub out_of_range_if : is_day v.head ≡ false → Err refusal.Range ≡ checked_if (Some v)
  unfolding checked_if
  out_of_range_if e = rw e

  -- what is answered is the value, a day
  pub checked_at : (w : Value) → checked v ≡ Ok w → (v ≡ w) × (is_day w.head ≡ true)
  unfolding checked
  checked_at w e = let (d, z) = checked_ok v (is_day v.head) w e in (z, sym (ap (λ (x : Value). is_day x.head) z) ∙ d)

  -- a checked value, as one that may be none: what a `?` hands on
  pub checked_some : (w : Value) → checked v ≡ Ok w → Ok (Some w) ≡ checked_if (Some v)
  checked_some w e = let (z, d) = checked_at w e in
      ap (λ (x : Value). Ok (Some x)) (sym z) ∙ in_range_if (ap (λ (x : Value). is_day x.head) z ∙ d)

  pub checked_refused : (q : Refusal) → checked v ≡ Err q → Err q ≡ checked_if (Some v)
  unfolding checked
  checked_refused q e = let (d, z) = checked_no v (is_day v.head) q e in ap Err (sym z) ∙ out_of_range_if d

-- and of one that may be none
pub checked_if_at : (o : Option Value) (w : Value) → checked_if o ≡ Ok (Some w) → (o ≡ Some w) × (is_day w.head ≡ true)
unfolding checked_if
checked_if_at None w e = absurd (let z : ⊥ = cc in z)
checked_if_at (Some v) w e =
    let (d, s) = checked_ok (Some v) (is_day v.head) (Some w) e in
    let z : v ≡ w = cc in
    (s, sym (ap (λ (x : Value). is_day x.head) z) ∙ d)

-- ---- after a row of questions
module _ (row : List Question) where
  pub answered_at : (v w : Value) → asked row (checked v) ≡ Ok w → (passes row ≡ true) × ((v ≡ w) × (is_day w.head ≡ true))
  answered_at v w e = let (p, f) = answered_ok row (checked v) w e in (p, checked_at v w f)

  pub answered_if : (o : Option Value) (w : Value) → asked row (checked_if o) ≡ Ok (Some w) →
      (passes row ≡ true) × ((o ≡ Some w) × (is_day w.head ≡ true))
  answered_if o w e = let (p, f) = answered_ok row (checked_if o) (Some w) e in (p, checked_if_at o w f)
