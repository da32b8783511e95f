-- The Rust's sizes are where the end stands, and one, less the place where the count begins. Assumes nothing.
use mathlib.Core.Path.{◌≡◌, refl, ap, ◌∙◌}
use mathlib.Core.Bool.{Bool, true, false, cond}
use Prim.Native.Nat.{ℕ, ◌+◌, ◌-◌, ◌*◌, ◌≤◌, ◌<◌}
use native.Mathlib.Omega.{arith}
use lib.IntN.{ℤ, pos, negsuc, ◌+ℤ◌, ◌-ℤ◌, ◌*ℤ◌}
use lib.Signed.{le_z}
use Rattle.laws.specs.Numbers.{minus, pos_part, neg_part, as_u64}
use Rattle.laws.proofs.Signed.{as_u64_law, le_true, le_false, add, sub, mul_up, mul_dn, same}
use Rattle.values.proofs.Numbers.{not_below, not_above}
use Rattle.calendar.specs.declared.Date.{Date}
use Rattle.axis.specs.declared.Axis.{Axis}
use Rattle.weeks.specs.Weeks.{mondays_to}
use Rattle.counting.specs.Counting.{monthly, yearly, weekly, first_date, date_on, origin, position, larger, size_from}
use Rattle.counting.specs.Counting.{month_size}
use Rattle.counting.specs.Counting.{size_of}

-- the larger of two, by its test
by_larger : (P : ℤ → Type 0) (x y : ℤ) → (pos_part x + neg_part y ≤ pos_part y + neg_part x → P y) →
    (pos_part y + neg_part x < pos_part x + neg_part y → P x) → P (larger x y)
by_larger P x y f g = go (le_z x y) (le_true x y) (le_false x y)
  where
    go : (b : Bool) → (b ≡ true → pos_part x + neg_part y ≤ pos_part y + neg_part x) →
        (b ≡ false → pos_part y + neg_part x < pos_part x + neg_part y) → P (cond b y x)
    go true p q = f (p refl)
    go false p q = g (q refl)

-- the part above 0 of p less n
less : (z : ℤ) (p n : ℕ) → pos_part z + n ≡ p + neg_part z → pos_part z ≡ p - n
less (pos k) p n e = omega arith
less (negsuc k) p n e = omega arith

from_to : (from to : ℕ) → size_from from to ≡ to + 1 - from
from_to from to =
    let z = pos to -ℤ pos from in
    let d = sub (pos to) (pos from) in
    let s = add z (pos 1) in
    by_larger (λ (x : ℤ). as_u64 (x +ℤ pos 1) ≡ to + 1 - from) z (minus 1) (λ h. omega arith)
    (λ h. as_u64_law (z +ℤ pos 1) (not_below (z +ℤ pos 1) (omega arith)) ∙ less (z +ℤ pos 1) (to + 1) from (omega arith))

above_zero : (z : ℤ) → as_u64 (larger z (pos 0)) ≡ pos_part z
above_zero z = by_larger (λ (x : ℤ). as_u64 x ≡ pos_part z) z (pos 0) (λ h. omega (arith, not_above z (omega arith)))
    (λ h. as_u64_law z (not_below z (omega arith)))

years_from : (x y : ℕ) → larger (pos y -ℤ pos x) (pos 0) ≡ pos (y - x)
years_from x y =
    let z = pos y -ℤ pos x in
    let d = sub (pos y) (pos x) in
    by_larger (λ (w : ℤ). w ≡ pos (y - x)) z (pos 0) (λ h. ap pos (omega arith))
    (λ h. same z (pos (y - x)) (omega (arith, not_below z (omega arith))))

months_from : (s e : Date) → month_size s e ≡ 12 * (e.year - s.year) + e.month + 1 - s.month
months_from s e =
    let y = pos (e.year - s.year) *ℤ pos 12 in
    let m = pos 1 -ℤ pos s.month in
    let n = pos e.month -ℤ pos 1 in
    let z = y +ℤ m +ℤ n +ℤ pos 1 in
    rw (years_from s.year e.year)
    (above_zero z
    ∙ less z (12 * (e.year - s.year) + e.month + 1) s.month
    (omega (
      arith,
      mul_up (pos (e.year - s.year)) 12,
      mul_dn (pos (e.year - s.year)) 12,
      sub (pos 1) (pos s.month),
      sub (pos e.month) (pos 1),
      add y m,
      add (y +ℤ m) n,
      add (y +ℤ m +ℤ n) (pos 1),
    )))

-- ---- the law
pub size_is : (a : Axis) → size_of a ≡ position a a.end + 1 - origin a
unfolding size_of position origin
size_is a = go (monthly a) (yearly a) (weekly a)
  where
    go : (m y w : Bool) → cond m (month_size (first_date a) (date_on a.end))
        (cond y (size_from (first_date a).year (date_on a.end).year)
        (cond w (size_from (mondays_to (pos_part a.start.head)) (mondays_to (pos_part a.end.head)))
        (size_from (pos_part a.start.head) (pos_part a.end.head))))
        ≡ cond m (12 * ((date_on a.end).year - (first_date a).year) + (date_on a.end).month)
        (cond y (date_on a.end).year (cond w (mondays_to (pos_part a.end.head)) (pos_part a.end.head)))
        + 1
        - cond m (first_date a).month
        (cond y (first_date a).year (cond w (mondays_to (pos_part a.start.head)) (pos_part a.start.head)))
    go true y w = months_from (first_date a) (date_on a.end)
    go false true w = from_to (first_date a).year (date_on a.end).year
    go false false true = from_to (mondays_to (pos_part a.start.head)) (mondays_to (pos_part a.end.head))
    go false false false = from_to (pos_part a.start.head) (pos_part a.end.head)
