-- The shift to the first tick, by the code's tests, and durations counted from zero. Assumes nothing.
use mathlib.Core.Path.{◌≡◌, refl}
use mathlib.Core.Bool.{true}
use Prim.Native.Nat.{ℕ, zero, suc, ◌-◌, ◌%◌, ◌≤◌, ◌<◌}
use native.Mathlib.Nat.{mod-lt}
use native.Mathlib.Omega.{arith}
use lib.Dec.{eqb}
use lib.IntN.{ℤ, pos, negsuc, nat_abs, neg_ℤ, ◌-ℤ◌}
use lib.Signed.{lt_z, rem_z}
use borrow.Author.Tests.{ne_eqb}
use Rattle.laws.proofs.Signed.{sub, same}
use Rattle.values.specs.declared.Kind.TheVariants.{Span}
use Rattle.values.specs.declared.Value.{Value}
use Rattle.values.specs.Values.{is_value}
use Rattle.values.specs.Differences.{nanoseconds, difference}
use Rattle.plans.specs.Times.{shift_up, shift_of}
use Rattle.laws.specs.Numbers.{as_u64}
use Rattle.plans.proofs.Cases.{choose}

-- ---- a duration above zero goes up to a multiple
module _ (z : ℤ) (k : ℕ) (e : as_u64 z % k ≡ 0 → ⊥) where
  pub shift_up_law : lt_z (pos 0) z ≡ true → k - nat_abs (rem_z z (pos k)) ≡ shift_of z k
  unfolding shift_of
  shift_up_law h = rw (ne_eqb (as_u64 z % k) 0 e, h)

-- ---- a shift is at most a period
pub turned_size : (n : ℕ) → nat_abs (neg_ℤ (pos n)) ≡ n
turned_size zero = refl
turned_size (suc n) = refl

module _ (k : ℕ) (p : 0 < k) where
  pub rest_most : (z : ℤ) → nat_abs (rem_z z (pos k)) < k
  rest_most (pos n) = mod-lt n p
  rest_most (negsuc n) = rw (turned_size (suc n % k)) (mod-lt (suc n) p)

  pub up_most : (x : ℕ) → shift_up x k ≤ k
  unfolding shift_up
  up_most x = choose (λ (s : ℕ). s ≤ k) (eqb (x % k) 0) (λ _. omega arith) (λ _. omega arith)

  pub shift_most : (z : ℤ) → shift_of z k ≤ k
  unfolding shift_of
  shift_most z =
      let h = rest_most z in
      choose (λ (s : ℕ). s ≤ k) (eqb (as_u64 z % k) 0) (λ _. omega arith)
      (λ _. choose (λ (s : ℕ). s ≤ k) (lt_z (pos 0) z) (λ _. omega arith) (λ _. omega arith))

-- ---- a duration is its difference from zero
abbrev pub zero_span : Value
zero_span = record { head = pos 0; tail = pos 0 }

pub zero_value : is_value Span zero_span ≡ true
unfolding is_value
zero_value = refl

pub from_zero : (v : Value) → difference Span zero_span v ≡ nanoseconds Span v
unfolding difference nanoseconds
from_zero v = let n = nanoseconds Span v in same (n -ℤ pos 0) n (omega (arith, sub n (pos 0)))

-- what the whole days of a duration know of zero
pub ruleset zero_first = (zero_value, from_zero)
