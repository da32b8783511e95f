-- A cut with the sign of the width beside the quotient of whole numbers, cut: how far they are apart. Assumes nothing.
use mathlib.Core.Path.{◌≡◌, refl, sym, ap, ◌∙◌}
use mathlib.Core.Logic.{◌⊎◌, inl, inr}
use mathlib.Core.Bool.{Bool, true, false}
use Prim.Native.Nat.{ℕ, zero, suc, ◌+◌, ◌*◌, ◌/◌, ◌≤◌, ◌<◌}
use native.Mathlib.Nat.{le_trans, le_of_eq, le_of_suc-le-suc, lt_of_le_of_lt, lt_of_lt_of_le, mul-le-mul_right}
use native.Mathlib.Nat.{lt_of_mul-lt-mul_right, div-mul-le_self, zero-mul, zero-div, mul-div_cancel, eq-or-lt_of_le}
use native.Mathlib.Omega.{arith}
use lib.IntN.{ℤ, pos, negsuc, neg_ℤ, nat_abs, ◌-ℤ◌, ◌*ℤ◌}
use lib.Signed.{quot_z}
use Rattle.laws.specs.Numbers.{pos_part, neg_part}
use Rattle.laws.proofs.Quotients as quotients
use Rattle.laws.proofs.Quotients.{below_next}
use Rattle.laws.proofs.Signed.{sub, neg_up, neg_dn}
use Rattle.floats.specs.Rounding.{with_sign}
use Rattle.floats.proofs.Values.{below_zero}
use Rattle.mapping.specs.Position.{one_nearer}

-- ---- two cuts of one sign
one_at_most : (z : ℤ) → pos_part z ≤ 1 + neg_part z → neg_part z ≤ 1 + pos_part z → nat_abs z ≤ 1
one_at_most (pos k) a b = omega arith
one_at_most (negsuc k) a b = omega arith

apart : (s : Bool) (f q : ℕ) → f ≤ suc q → q ≤ suc f → nat_abs (with_sign s f -ℤ with_sign s q) ≤ 1
apart false f q a b = let s = sub (pos f) (pos q) in one_at_most (pos f -ℤ pos q) (omega arith) (omega arith)
apart true f q a b =
    let x = neg_ℤ (pos f) in
    let y = neg_ℤ (pos q) in
    let d = sub x y in
    let (m, n) : (neg_part x ≡ f) × (neg_part y ≡ q) = (neg_dn (pos f), neg_dn (pos q)) in
    let (i, j) : (pos_part x ≡ 0) × (pos_part y ≡ 0) = (neg_up (pos f), neg_up (pos q)) in
    one_at_most (x -ℤ y) (omega arith) (omega arith)

pub one_sign : (s : Bool) (f q : ℕ) → with_sign s f ≡ with_sign s q → f ≡ q
one_sign false f q e = ap pos_part e
one_sign true f q e = sym (neg_dn (pos f)) ∙ ap neg_part e ∙ neg_dn (pos q)

pub nearer : (s : Bool) (n : ℕ) → with_sign s n ≡ one_nearer (with_sign s (suc n))
nearer true n = refl
nearer false n = refl

times : (s : Bool) (n t : ℕ) → with_sign s n *ℤ pos t ≡ with_sign s (n * t)
times false n t = refl
times true zero t = rw zero-mul
times true (suc n) t = refl

-- ---- beside the exact quotient: its sign is the width's
product_is : (z : ℤ) (o : ℕ) → z *ℤ pos o ≡ with_sign (below_zero z) (nat_abs z * o)
product_is (pos n) o = refl
product_is (negsuc n) o = refl

pub quotient_is : (z : ℤ) (o t : ℕ) → quot_z (z *ℤ pos o) (pos t) ≡ with_sign (below_zero z) (nat_abs z * o / t)
quotient_is z o t = ap (λ (x : ℤ). quot_z x (pos t)) (product_is z o) ∙ go (below_zero z) (nat_abs z * o)
  where
    go : (s : Bool) (m : ℕ) → quot_z (with_sign s m) (pos t) ≡ with_sign s (m / t)
    go false m = refl
    go true zero = rw zero-div
    go true (suc m) = refl

module _ (z : ℤ) (o t f : ℕ) where
  abbrev w : ℕ
  w = nat_abs z

  abbrev s : Bool
  s = below_zero z

  abbrev exact : ℤ
  exact = quot_z (z *ℤ pos o) (pos t)

  abbrev Whole : Type 0
  Whole = exact *ℤ pos t ≡ z *ℤ pos o

  -- a whole quotient in sizes
  whole_size : Whole → w * o ≡ w * o / t * t
  whole_size e = sym (one_sign s (w * o / t * t) (w * o)
      (sym (times s (w * o / t) t) ∙ ap (λ (x : ℤ). x *ℤ pos t) (sym (quotient_is z o t)) ∙ e ∙ product_is z o))

  module _ (Tp : 0 < t) (less : f * t < w * o + t) (more : w * o < suc (suc f) * t) where
    -- a cut less than one above and less than two below is within one of the exact one
    pub one_apart : nat_abs (with_sign s f -ℤ exact) ≤ 1
    one_apart = rw quotient_is (apart s f (w * o / t) above below)
      where
        above : f ≤ suc (w * o / t)
        above = le_of_suc-le-suc (lt_of_mul-lt-mul_right t (go less (below_next (w * o) t Tp)))
          where
            go : f * t < w * o + t → w * o < suc (w * o / t) * t → f * t < suc (suc (w * o / t)) * t
            go x y = omega arith

        below : w * o / t ≤ suc f
        below = le_of_suc-le-suc (lt_of_mul-lt-mul_right t (lt_of_le_of_lt (div-mul-le_self (w * o) t) more))

    -- and where that is whole, between whole numbers
    pub whole_between : Whole → (f * t ≤ w * o) × (w * o ≤ suc f * t)
    whole_between e =
        let k = w * o / t in
        let x : f * t < suc k * t = lt_of_lt_of_le less (le_of_eq (ap (λ (n : ℕ). n + t) (whole_size e) ∙ next k)) in
        let y : k * t < suc (suc f) * t = lt_of_le_of_lt (le_of_eq (sym (whole_size e))) more in (
          le_trans (mul-le-mul_right t (le_of_suc-le-suc (lt_of_mul-lt-mul_right t x))) (le_of_eq (sym (whole_size e))),
          le_trans (le_of_eq (whole_size e)) (mul-le-mul_right t (le_of_suc-le-suc (lt_of_mul-lt-mul_right t y))),
        )
      where
        next : (k : ℕ) → k * t + t ≡ suc k * t
        next k = omega arith

  -- a cut that is between whole numbers, both included
  pub cut_or_nearer : 0 < t → (f * t ≤ w * o) × (w * o ≤ suc f * t) →
      (with_sign s f ≡ exact) ⊎ (Whole × (with_sign s f ≡ one_nearer exact))
  cut_or_nearer Tp (a, b) =
      elim (eq-or-lt_of_le b) [
        | inl e ↦ inr (whole e, nearer s f ∙ ap one_nearer (sym (one_more e)))
        | inr h ↦ inl (sym (quotient_is z o t ∙ ap (with_sign s) (quotients.quotient_is (w * o) t f Tp a h)))
      ]
    where
      one_more : w * o ≡ suc f * t → exact ≡ with_sign s (suc f)
      one_more e = quotient_is z o t ∙ ap (λ (x : ℕ). with_sign s (x / t)) e ∙ ap (with_sign s) (mul-div_cancel (suc f) Tp)

      whole : w * o ≡ suc f * t → Whole
      whole e = ap (λ (x : ℤ). x *ℤ pos t) (one_more e) ∙ times s (suc f) t ∙ ap (with_sign s) (sym e) ∙ sym (product_is z o)
