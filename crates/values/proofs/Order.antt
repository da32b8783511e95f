-- The order and the equality that are derived for values are those by heads and tails. Assumes nothing.
use mathlib.Core.Path.{◌≡◌, refl, sym, ◌∙◌, ap}
use mathlib.Core.Bool.{Bool, true, false, not, cond, ◌&&◌, ◌||◌}
use lib.IntN.{ℤ}
use native.Mathlib.Omega.{arith}
use lib.Dec.{eqb}
use lib.Signed.{lt_z, le_z}
use mir.Syntax.{w64}
use mir.Val.{SFits, to_z, of_z}
use mir.Facts.{to_z-of_z}
use borrow.Author.Tests.{eqb-true, eqb-false}
use Rattle.std.specs.declared.cmp.Ordering.{Ordering}
use Rattle.std.specs.declared.cmp.Ordering.TheVariants.{Less, Equal, Greater}
use Rattle.std.specs.Prelude.{Some}
use Rattle.std.specs.Ordering.{int_cmp, int_eq, is_lt, is_le as no_later, is_eq, is_some_and, partial_ordering_then}
use Rattle.laws.specs.Numbers.{equal}
use Rattle.laws.proofs.Signed.{lt_true, lt_false, equal_true, true_equal}
use Rattle.values.specs.declared.Value.{Value}
use Rattle.values.specs.Values.{earlier}
use Rattle.values.proofs.Numbers.{is_le, is_gt, agree}

-- what is not greater is less or equal
not_greater : (x y : ℤ) → le_z x y ≡ not (lt_z y x)
not_greater x y = go (lt_z y x) refl
  where
    go : (b : Bool) → lt_z y x ≡ b → le_z x y ≡ not b
    go true e = is_gt x y (lt_true y x e)
    go false e = is_le x y (lt_false y x e)

-- two numbers compared, where x: the first is less, and y: the second is
abbrev compared : Bool → Bool → Ordering
compared x y = cond x Less (cond y Greater Equal)

pub less_is_earlier : (a b : Value) →
    is_some_and is_lt (partial_ordering_then (Some (int_cmp a.head b.head)) (Some (int_cmp a.tail b.tail))) ≡ earlier a b
unfolding earlier
less_is_earlier a b = rw (not_greater a.head b.head)
    (go (lt_z a.head b.head) (lt_z b.head a.head) (lt_z a.tail b.tail) (lt_z b.tail a.tail))
  where
    go : (x y t u : Bool) → is_some_and is_lt (partial_ordering_then (Some (compared x y)) (Some (compared t u)))
        ≡ x || (not y && t)
    go true y t u = refl
    go false true t u = refl
    go false false true u = refl
    go false false false true = refl
    go false false false false = refl

pub less_or_same : (a b : Value) →
    is_some_and no_later (partial_ordering_then (Some (int_cmp a.head b.head)) (Some (int_cmp a.tail b.tail)))
    ≡ lt_z a.head b.head || (le_z a.head b.head && le_z a.tail b.tail)
less_or_same a b = rw (not_greater a.head b.head, not_greater a.tail b.tail)
    (go (lt_z a.head b.head) (lt_z b.head a.head) (lt_z a.tail b.tail) (lt_z b.tail a.tail) (one_way a.tail b.tail))
  where
    one_way : (x y : ℤ) → lt_z x y ≡ true → lt_z y x ≡ true → ⊥
    one_way x y e f = omega (arith, lt_true x y e, lt_true y x f)

    go : (x y t u : Bool) → (t ≡ true → u ≡ true → ⊥) →
        is_some_and no_later (partial_ordering_then (Some (compared x y)) (Some (compared t u))) ≡ x || (not y && not u)
    go true y t u n = refl
    go false true t u n = refl
    go false false true true n = absurd (n refl refl)
    go false false true false n = refl
    go false false false true n = refl
    go false false false false n = refl

equal_numbers : (x y : ℤ) → int_eq x y ≡ equal x y
equal_numbers x y = rw (not_greater x y, not_greater y x) (go (lt_z x y) (lt_z y x))
  where
    go : (b c : Bool) → is_eq (compared b c) ≡ not b && not c
    go true c = refl
    go false true = refl
    go false false = refl

pub same_is_equal : (a b : Value) → int_eq a.head b.head && int_eq a.tail b.tail ≡ equal a.head b.head && equal a.tail b.tail
same_is_equal a b = rw (equal_numbers a.head b.head, equal_numbers a.tail b.tail)

-- the machine's test of two numbers
pub tested_equal : (x y : ℤ) → SFits w64 x → SFits w64 y → eqb (of_z w64 x) (of_z w64 y) ≡ equal x y
tested_equal x y f g = agree _ _
    (λ e. true_equal x y (sym (to_z-of_z f) ∙ (ap (to_z w64) (eqb-true _ _ e) ∙ to_z-of_z g)))
    (λ e. go (eqb-false _ _ e) (equal x y) refl)
  where
    go : (of_z w64 x ≡ of_z w64 y → ⊥) → (b : Bool) → equal x y ≡ b → equal x y ≡ false
    go n true q = absurd (n (ap (of_z w64) (equal_true x y q)))
    go n false q = q

-- two numbers that are not one: either is less
pub apart : (x y : ℤ) → not (equal x y) ≡ lt_z x y || lt_z y x
apart x y = rw (not_greater x y, not_greater y x) (go (lt_z x y) (lt_z y x))
  where
    go : (b c : Bool) → not (not b && not c) ≡ b || c
    go true c = refl
    go false true = refl
    go false false = refl
