-- A number of nanoseconds that fits a signed 64-bit number, or does not. Assumes nothing.
use Rattle.std.specs.Prelude.{Option, Some, None, is_some, Result, Ok, Err}
use Rattle.std.specs.Result.{OkIff, result_ok}
use Rattle.std.proofs.lemmas.Int.{fits_signed_from_abs, unsigned_abs-mul}
use mathlib.Core.Path.{◌≡◌, refl, sym, ◌∙◌, ap}
use mathlib.Core.Logic.{inl, inr}
use mathlib.Core.Bool.{Bool, true, false, cond}
use Prim.Native.Nat.{ℕ, suc, ◌+◌, ◌*◌, ◌^◌, ◌≤◌, ◌<◌}
use native.Mathlib.Nat.{mul-le-mul, mul-le-mul_left}
use native.Mathlib.Omega.{arith}
use lib.IntN.{ℤ, pos, negsuc, nat_abs, ◌+ℤ◌, ◌*ℤ◌}
use mir.Syntax.{w64, w128}
use mir.Val.{SFits}
use Rattle.laws.specs.Numbers.{pos_part, neg_part}
use Rattle.laws.proofs.Signed.{one_is_zero, abs, add, fits, up_fits, dn_fits}
use Rattle.values.specs.Differences.{fits_i64, nanoseconds_of}
use Rattle.values.proofs.Joining.{joint}
use Rattle.values.proofs.Numbers.{within_true, is_within, bounded}

-- ---- by where the number lies
pub fits_yes : (x : ℤ) → pos_part x ≤ 9223372036854775807 → neg_part x ≤ 9223372036854775808 → fits_i64 x ≡ true
fits_yes x h l = search (arith, is_within)

answer : (x : ℤ) (f : Bool) → fits_i64 x ≡ f → cond f (Some x) None ≡ nanoseconds_of x
unfolding nanoseconds_of
answer x f a = sym (ap (λ (t : Bool). cond t (Some x) None) a)

pub yes : (x : ℤ) → SFits w64 x → Some x ≡ nanoseconds_of x
yes x f = answer x true (fits_yes x (omega (arith, up_fits x f)) (dn_fits x f))

pub fits_range : (x : ℤ) → fits_i64 x ≡ true → (neg_part x ≤ 9223372036854775808) × (pos_part x ≤ 9223372036854775807)
fits_range x e = let (a, b) = within_true (negsuc 9223372036854775807) x (pos 9223372036854775807) e in
    bounded x 9223372036854775808 9223372036854775807 (omega arith) (omega arith)

no : (x : ℤ) → (SFits w64 x → ⊥) → None ≡ nanoseconds_of x
no x n = answer x false (go (fits_i64 x) refl)
  where
    go : (f : Bool) → fits_i64 x ≡ f → f ≡ false
    go true e = let (l, h) = fits_range x e in absurd (n (fits x (pos_part x) (neg_part x) refl (omega arith) (omega arith)))
    go false e = refl

-- ---- by the code's tests
-- whether the number itself fits
pub tried : {E : Type 0} (r : Result ℤ E) (x : ℤ) → OkIff r (SFits w64 x) x → result_ok r ≡ nanoseconds_of x
tried (Ok v) x h = ap Some h.1 ∙ yes x h.0
tried (Err e) x h = no x h

-- heads that do not fit are too many for any tails
pub too_far : (h t : ℤ) (k : ℕ) → 4 ≤ k → nat_abs t < 2 ^ 64 → (SFits w64 h → ⊥) → None ≡ nanoseconds_of (h *ℤ pos k +ℤ t)
too_far h t k u v n = no (h *ℤ pos k +ℤ t) (λ f. n (go h (up_fits _ f) (dn_fits _ f)))
  where
    go : (h : ℤ) → pos_part (h *ℤ pos k +ℤ t) < 2 ^ 63 → neg_part (h *ℤ pos k +ℤ t) ≤ 2 ^ 63 → SFits w64 h
    go (pos m) x y = let l = mul-le-mul_left m u in
        fits (pos m) m 0 refl (omega (arith, abs t, joint (pos m) t k)) (omega arith)
    go (negsuc m) x y = let l = mul-le-mul_left (suc m) u in
        fits (negsuc m) 0 (suc m) refl (omega arith) (omega (arith, abs t, joint (negsuc m) t k))

-- in 128 bits every sum of heads that fit and of tails fits
pub sum_wide : (h t : ℤ) (k : ℕ) → k ≤ 86400000000000 → SFits w64 h → nat_abs t < 2 ^ 64 →
    SFits w128 (h *ℤ pos k) × SFits w128 (h *ℤ pos k +ℤ t)
sum_wide h t k u f v = (
  fits_signed_from_abs w128 (h *ℤ pos k) (omega (arith, size)),
  fits_signed_from_abs w128 (h *ℤ pos k +ℤ t) (omega (arith, size, both)),
)
  where
    small : nat_abs h ≤ 2 ^ 63
    small = elim (one_is_zero h) [
      | inl e ↦ omega (arith, abs h, dn_fits h f)
      | inr e ↦ omega (arith, abs h, up_fits h f)
    ]

    size : nat_abs (h *ℤ pos k) ≤ 2 ^ 63 * 86400000000000
    size = let l : nat_abs h * k ≤ 2 ^ 63 * 86400000000000 = mul-le-mul small u in
        omega (arith, unsigned_abs-mul h (pos k))

    both : nat_abs (h *ℤ pos k +ℤ t) ≤ nat_abs (h *ℤ pos k) + nat_abs t
    both = elim (one_is_zero (h *ℤ pos k +ℤ t)) [
      | inl e ↦ omega (arith, abs (h *ℤ pos k +ℤ t), abs (h *ℤ pos k), abs t, add (h *ℤ pos k) t)
      | inr e ↦ omega (arith, abs (h *ℤ pos k +ℤ t), abs (h *ℤ pos k), abs t, add (h *ℤ pos k) t)
    ]

-- ---- what a caller reads
pub fits_is : (x : ℤ) → is_some (nanoseconds_of x) ≡ fits_i64 x
unfolding nanoseconds_of
fits_is x = go (fits_i64 x)
  where
    go : (f : Bool) → is_some (cond f (Some x) None) ≡ f
    go true = refl
    go false = refl

pub value_is : (x : ℤ) → fits_i64 x ≡ true → nanoseconds_of x ≡ Some x
unfolding nanoseconds_of
value_is x e = rw e

-- ---- what an answer says of the number
module _ (d : ℤ) (n : Option ℤ) (e : n ≡ nanoseconds_of d) where
  pub answer_fits : is_some n ≡ fits_i64 d
  answer_fits = ap (λ (x : Option ℤ). is_some x) e ∙ fits_is d

  pub answer_none : n ≡ None → fits_i64 d ≡ false
  answer_none f = sym answer_fits ∙ ap (λ (x : Option ℤ). is_some x) f

  pub answer_some : (v : ℤ) → n ≡ Some v → (fits_i64 d ≡ true) × (v ≡ d)
  answer_some v f =
      let k : fits_i64 d ≡ true = sym answer_fits ∙ ap (λ (x : Option ℤ). is_some x) f in
      let s : Some v ≡ Some d = sym f ∙ (e ∙ value_is d k) in
      let z : v ≡ d = cc in
      (k, z)
