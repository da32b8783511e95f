-- The rows for a length, and how many lengths all rows are for: their sizes together are the rows of all lengths together.
-- Assumes nothing.
use mathlib.Core.Path.{◌≡◌, refl, sym, subst}
use mathlib.Core.Bool.{Bool, true, false, cond}
use mathlib.Core.List.{List, [], ◌∷◌}
use mathlib.Core.Logic.{inl, inr}
use Prim.Native.Nat.{ℕ, zero, suc, ◌+◌, ◌-◌, ◌≤◌, ◌<◌}
use native.Mathlib.Decide.{dec_le}
use native.Mathlib.Nat.{eq-or-lt_of_le, le_of_suc-le-suc}
use native.Mathlib.Omega.{arith}
use borrow.Author.Tests.{leb-true, le-leb}
use lib.Dec.{leb}
use lib.ListN.{length}
use Rattle.std.specs.Prelude.{None, Some}
use Rattle.laws.proofs.Tests.{both_true}
use Rattle.rules.specs.declared.Row.{Row}
use Rattle.rules.specs.Rows.{row_at, AllInRange}
use Rattle.rules.specs.Cover.{is_for, rows_for, first_for, row_for}
use Rattle.rules.specs.Table.{sizes}

-- ---- a row for a length
pub ends : (w : Row) (l : ℕ) → is_for w l ≡ true → (w.from ≤ l) × (l ≤ w.to)
ends w l e = let b = both_true (leb w.from l) (leb l w.to) e in (leb-true _ _ b.0, leb-true _ _ b.1)

pub between : (w : Row) (l : ℕ) → w.from ≤ l → l ≤ w.to → is_for w l ≡ true
between w l a b = rw (le-leb w.from l a, le-leb l w.to b) refl

pub has_row : (ws : List Row) (l k : ℕ) → k < length ws → is_for (row_at ws k) l ≡ true → 0 < rows_for ws l
unfolding rows_for
has_row [] l k h e = absurd (let z : ⊥ = omega arith in z)
has_row (w ∷ ws) l zero h e = rw e (omega arith)
has_row (w ∷ ws) l (suc k) h e = go (is_for w l) (has_row ws l k (omega arith) e)
  where
    go : (b : Bool) → 0 < rows_for ws l → 0 < cond b (suc (rows_for ws l)) (rows_for ws l)
    go true h = omega arith
    go false h = h

-- the first row for a length, where there is one
pub met : (ws : List Row) (l : ℕ) (w : Row) → row_for ws l ≡ Some w →
    (first_for ws l < length ws) × (w ≡ row_at ws (first_for ws l)) × (is_for w l ≡ true)
unfolding first_for
met [] l w e = absurd (let z : ⊥ = cc in z)
met (v ∷ ws) l w e = go (is_for v l) refl e (met ws l w)
  where
    go : (b : Bool) → is_for v l ≡ b → cond b (Some v) (row_for ws l) ≡ Some w
        → (row_for ws l ≡ Some w → (first_for ws l < length ws) × (w ≡ row_at ws (first_for ws l)) × (is_for w l ≡ true))
        → let f = cond b 0 (suc (first_for ws l)) in
        (f < suc (length ws)) × (w ≡ row_at (v ∷ ws) f) × (is_for w l ≡ true)
    go true p e f = let z : v ≡ w = cc in (omega arith, sym z, subst (λ (x : Row). is_for x l ≡ true) z p)
    go false p e f = let (a, b, c) = f e in (omega arith, b, c)

pub no_row : (ws : List Row) (l : ℕ) → row_for ws l ≡ None → rows_for ws l ≡ 0
unfolding rows_for
no_row [] l e = refl
no_row (w ∷ ws) l e = go (is_for w l) e (no_row ws l)
  where
    go : (b : Bool) → cond b (Some w) (row_for ws l) ≡ None → (row_for ws l ≡ None → rows_for ws l ≡ 0)
        → cond b (suc (rows_for ws l)) (rows_for ws l) ≡ 0
    go true e f = absurd (let z : ⊥ = cc in z)
    go false e f = f e

-- and it is found where a length has one
pub some_row : (ws : List Row) (l : ℕ) → 0 < rows_for ws l → (w : Row) × (row_for ws l ≡ Some w)
unfolding rows_for
some_row [] l h = absurd (let z : ⊥ = omega arith in z)
some_row (w ∷ ws) l h = go (is_for w l) h (some_row ws l)
  where
    go : (b : Bool) → 0 < cond b (suc (rows_for ws l)) (rows_for ws l) → (0 < rows_for ws l → (v : Row) × (row_for ws l ≡ Some v))
        → (v : Row) × (cond b (Some w) (row_for ws l) ≡ Some v)
    go true h f = (w, refl)
    go false h f = f h

-- ---- rows and lengths together
-- the rows of the lengths below n, all together
abbrev pub total : List Row → ℕ → ℕ
total ws zero = 0
total ws (suc n) = rows_for ws n + total ws n

-- of one row: as many as it is for
abbrev one : Row → ℕ → ℕ
one w zero = 0
one w (suc n) = cond (is_for w n) 1 0 + one w n

one_is : (w : Row) (n : ℕ) → w.from ≤ w.to →
    (n ≤ w.from → one w n ≡ 0) × ((w.from ≤ n → n ≤ w.to + 1 → one w n ≡ n - w.from)
    × (w.to + 1 ≤ n → one w n ≡ w.to + 1 - w.from))
one_is w zero o = (λ h. refl, (λ h k. omega arith, λ h. absurd (let z : ⊥ = omega arith in z)))
one_is w (suc n) o = go (is_for w n) refl (one_is w n o)
  where
    go : (b : Bool) → is_for w n ≡ b → (n ≤ w.from → one w n ≡ 0) × ((w.from ≤ n → n ≤ w.to + 1 → one w n ≡ n - w.from)
        × (w.to + 1 ≤ n → one w n ≡ w.to + 1 - w.from)) →
        (suc n ≤ w.from → cond b 1 0 + one w n ≡ 0)
        × ((w.from ≤ suc n → suc n ≤ w.to + 1 → cond b 1 0 + one w n ≡ suc n - w.from)
        × (w.to + 1 ≤ suc n → cond b 1 0 + one w n ≡ w.to + 1 - w.from))
    go true e (x, (y, z)) =
        let (a, b) = ends w n e in (
          λ h. absurd (let z : ⊥ = omega arith in z),
          (λ h k. omega (arith, y a (omega arith)), λ h. omega (arith, y a (omega arith))),
        )
    go false e (x, (y, z)) =
        let out : w.from ≤ n → n ≤ w.to → ⊥ =
        λ a b. let t = between w n a b in let z : ◌≡◌ {A = ℕ} 0 1 = cc in omega arith in (
          λ h. omega (arith, x (omega arith)),
          (
            λ h k. elim (dec_le w.from n) [
              | yes l ↦ absurd (out l (omega arith))
              | no l ↦ omega (arith, x (omega arith))
            ],
            λ h. elim (dec_le n w.to) [
              | yes l ↦ absurd (out (omega arith) l)
              | no l ↦ omega (arith, z (omega arith))
            ],
          ),
        )

total_cons : (w : Row) (ws : List Row) (n : ℕ) → total (w ∷ ws) n ≡ one w n + total ws n
unfolding rows_for
total_cons w ws zero = refl
total_cons w ws (suc n) = go (is_for w n) (total_cons w ws n)
  where
    go : (b : Bool) → total (w ∷ ws) n ≡ one w n + total ws n
        → cond b (suc (rows_for ws n)) (rows_for ws n) + total (w ∷ ws) n ≡ (cond b 1 0 + one w n) + (rows_for ws n + total ws n)
    go true e = omega arith
    go false e = omega arith

total_none : (n : ℕ) → total [] n ≡ 0
unfolding rows_for
total_none zero = refl
total_none (suc n) = omega (arith, total_none n)

-- rows that end below n
pub together : (ws : List Row) (n : ℕ) → 3652058 < n → AllInRange ws → total ws n ≡ sizes ws
together [] n h r = total_none n
together (w ∷ ws) n h r =
    let f = r 0 (omega arith) in
    omega (
      arith,
      total_cons w ws n,
      (one_is w n f.order).1.1 (omega (arith, f.last)),
      together ws n h (λ i k. r (suc i) (omega arith)),
    )

module _ (ws : List Row) where
  pub no_fewer : (n : ℕ) → ((l : ℕ) → l < n → 0 < rows_for ws l) → n ≤ total ws n
  no_fewer zero f = omega arith
  no_fewer (suc n) f = omega (arith, f n (omega arith), no_fewer n (λ l h. f l (omega arith)))

  pub no_more : (n : ℕ) → ((l : ℕ) → l < n → rows_for ws l ≤ 1) → total ws n ≤ n
  no_more zero f = omega arith
  no_more (suc n) f = omega (arith, f n (omega arith), no_more n (λ l h. f l (omega arith)))

  pub one_more : (n l : ℕ) → ((l : ℕ) → l < n → 0 < rows_for ws l) → l < n → 1 < rows_for ws l → n < total ws n
  one_more zero l f h t = absurd (let z : ⊥ = omega arith in z)
  one_more (suc n) l f h t =
      elim (eq-or-lt_of_le (le_of_suc-le-suc h)) [
        | inl e ↦ let t' : 1 < rows_for ws n = rw e at t in omega (arith, no_fewer n (λ l h. f l (omega arith)))
        | inr m ↦ omega (arith, f n (omega arith), one_more n l (λ l h. f l (omega arith)) m t)
      ]
