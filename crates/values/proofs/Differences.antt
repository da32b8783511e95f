-- Two values of a kind: how far apart their heads, their tails and their nanoseconds are. Assumes nothing.
use mathlib.Core.Path.{◌≡◌, refl, sym, ◌∙◌, ap}
use mathlib.Core.Bool.{Bool, true, false}
use mathlib.Core.Logic.{inl, inr}
use Prim.Native.Nat.{ℕ, ◌+◌, ◌*◌, ◌^◌, ◌≤◌, ◌<◌}
use native.Mathlib.Omega.{arith}
use lib.IntN.{ℤ, pos, nat_abs, ◌+ℤ◌, ◌-ℤ◌, ◌*ℤ◌, +ℤ_idr}
use lib.Signed.{quot_z}
use mir.Syntax.{w64}
use mir.Val.{SFits}
use Rattle.laws.specs.Numbers.{pos_part, neg_part}
use Rattle.laws.proofs.Signed.{add, sub, mul_up, mul_dn, quot_up, quot_dn, up_fits, dn_fits, abs, one_is_zero, fits, same}
use Rattle.values.specs.declared.Kind.{Kind}
use Rattle.values.specs.declared.Value.{Value}
use Rattle.values.specs.Values.{over_dates, is_duration, is_value, Both, earlier}
use Rattle.values.specs.Differences.{unit, nanoseconds, difference, whole_days}
use Rattle.values.proofs.Numbers.{bounded, not_below}
use Rattle.values.proofs.Joining.{joint, Before, is_earlier, not_earlier, order}
use Rattle.values.proofs.Values.{dates_no_duration, date_value, day_value, duration_value}

-- ---- heads and tails
far : (x y : ℤ) (m : ℕ) → pos_part x + neg_part y ≤ m + (pos_part y + neg_part x) → pos_part y + neg_part x ≤ m
    + (pos_part x + neg_part y) →
    (neg_part (y -ℤ x) ≤ m) × (pos_part (y -ℤ x) ≤ m)
far x y m a b = bounded (y -ℤ x) m m (omega (arith, sub y x)) (omega (arith, sub y x))

pub record Near (a b : Value) (heads tails : ℕ) : Type 0 where
  pub heads_dn : neg_part (b.head -ℤ a.head) ≤ heads
  pub heads_up : pos_part (b.head -ℤ a.head) ≤ heads
  pub tails_dn : neg_part (b.tail -ℤ a.tail) < tails
  pub tails_up : pos_part (b.tail -ℤ a.tail) < tails

module _ (kind : Kind) (a b : Value) (v : Both kind a b) where
  pub days_near : is_duration kind ≡ false → Near a b 3652058 86400000000000
  days_near e =
      let x = day_value kind a v.first e in
      let y = day_value kind b v.second e in
      let h = far a.head b.head 3652058 (omega arith) (omega arith) in
      let t = far a.tail b.tail 86399999999999 (omega arith) (omega arith) in
      record { heads_dn = h.0; heads_up = h.1; tails_dn = omega arith; tails_up = omega arith }

  durations_near : is_duration kind ≡ true → Near a b 631152000000 1000000000
  durations_near e =
      let x = duration_value kind a v.first e in
      let y = duration_value kind b v.second e in
      let h = far a.head b.head 631152000000 (omega arith) (omega arith) in
      let t = far a.tail b.tail 999999999 (omega arith) (omega arith) in
      record { heads_dn = h.0; heads_up = h.1; tails_dn = omega arith; tails_up = omega arith }

  pub parts_fit : SFits w64 (b.head -ℤ a.head) × SFits w64 (b.tail -ℤ a.tail)
  parts_fit = go (is_duration kind) refl
    where
      from : (m n : ℕ) → Near a b m n → m ≤ 631152000000 → n ≤ 86400000000000 → SFits w64 (b.head -ℤ a.head)
          × SFits w64 (b.tail -ℤ a.tail)
      from m n r l k = (
        fits (b.head -ℤ a.head) (pos_part (b.head -ℤ a.head)) (neg_part (b.head -ℤ a.head)) refl (omega arith)
            (omega arith),
        fits (b.tail -ℤ a.tail) (pos_part (b.tail -ℤ a.tail)) (neg_part (b.tail -ℤ a.tail)) refl (omega arith)
            (omega arith),
      )

      go : (t : Bool) → is_duration kind ≡ t → SFits w64 (b.head -ℤ a.head) × SFits w64 (b.tail -ℤ a.tail)
      go true e = from 631152000000 1000000000 (durations_near e) (omega arith) (omega arith)
      go false e = from 3652058 86400000000000 (days_near e) (omega arith) (omega arith)

-- ---- nanoseconds: of the heads' difference and the tails'
apart_by : (a b : Value) (k : ℕ) → pos_part (b.head -ℤ a.head) * k + (neg_part b.head * k + pos_part a.head * k)
    ≡ pos_part b.head * k
    + neg_part a.head * k + neg_part (b.head -ℤ a.head) * k
    → (b.head -ℤ a.head) *ℤ pos k +ℤ (b.tail -ℤ a.tail) ≡ (b.head *ℤ pos k +ℤ b.tail) -ℤ (a.head *ℤ pos k +ℤ a.tail)
apart_by a b k e =
    let h = b.head -ℤ a.head in
    let t = b.tail -ℤ a.tail in
    let x = a.head *ℤ pos k +ℤ a.tail in
    let y = b.head *ℤ pos k +ℤ b.tail in
    same (h *ℤ pos k +ℤ t) (y -ℤ x)
    (omega (
      arith,
      add (h *ℤ pos k) t,
      mul_up h k,
      mul_dn h k,
      sub b.tail a.tail,
      sub y x,
      add (b.head *ℤ pos k)
          b.tail,
      mul_up b.head k,
      mul_dn b.head k,
      add (a.head *ℤ pos k) a.tail,
      mul_up a.head k,
      mul_dn a.head k,
    ))

module _ (kind : Kind) (a b : Value) where
  pub days_apart : is_duration kind ≡ false → difference kind a b ≡ (b.head -ℤ a.head) *ℤ pos 86400000000000 +ℤ
      (b.tail -ℤ a.tail)
  unfolding difference
  days_apart e = rw e (sym (apart_by a b 86400000000000 (omega (arith, sub b.head a.head))))

  pub durations_apart : is_duration kind ≡ true → difference kind a b ≡ (b.head -ℤ a.head) *ℤ pos 1000000000 +ℤ
      (b.tail -ℤ a.tail)
  unfolding difference
  durations_apart e = rw e (sym (apart_by a b 1000000000 (omega (arith, sub b.head a.head))))

  -- of either form
  pub heads_and_tails : difference kind a b ≡ (b.head -ℤ a.head) *ℤ pos (unit kind) +ℤ (b.tail -ℤ a.tail)
  heads_and_tails = go (is_duration kind) refl
    where
      go : (d : Bool) → is_duration kind ≡ d → difference kind a b ≡ (b.head -ℤ a.head) *ℤ pos (unit kind) +ℤ
          (b.tail -ℤ a.tail)
      go true e = rw e (durations_apart e)
      go false e = rw e (days_apart e)

pub tails_few : (t u : ℤ) → SFits w64 t → SFits w64 u → nat_abs (u -ℤ t) < 2 ^ 64
tails_few t u f g = elim (one_is_zero (u -ℤ t)) [
  | inl e ↦ omega (arith, abs (u -ℤ t), sub u t, up_fits t f, dn_fits t f, up_fits u g, dn_fits u g)
  | inr e ↦ omega (arith, abs (u -ℤ t), sub u t, up_fits t f, dn_fits t f, up_fits u g, dn_fits u g)
]

pub unit_range : (kind : Kind) → (4 ≤ unit kind) × (unit kind ≤ 86400000000000)
unit_range kind = go (is_duration kind) refl
  where
    go : (d : Bool) → is_duration kind ≡ d → (4 ≤ unit kind) × (unit kind ≤ 86400000000000)
    go true e = rw e (omega arith, omega arith)
    go false e = rw e (omega arith, omega arith)

-- ---- whole days of a duration: by whole seconds
pub by_seconds : (x : ℤ) → quot_z (quot_z x (pos 1000000000)) (pos 86400) ≡ quot_z x (pos 86400000000000)
by_seconds x =
    let s = quot_z x (pos 1000000000) in
    same (quot_z s (pos 86400)) (quot_z x (pos 86400000000000))
    (omega (
      arith,
      quot_up s 86400,
      quot_dn s 86400,
      quot_up x 1000000000,
      quot_dn x 1000000000,
      quot_up x 86400000000000,
      quot_dn x 86400000000000,
    ))

-- no two values of a kind are further apart
module _ (kind : Kind) (a b : Value) (v : Both kind a b) where
  abbrev apart : ℤ
  apart = difference kind a b

  abbrev Limited : Type 0
  Limited = (neg_part (whole_days apart) ≤ 7305000) × (pos_part (whole_days apart) ≤ 7305000)

  limited : (h t : ℤ) (k : ℕ) → apart ≡ h *ℤ pos k +ℤ t → neg_part h * k + neg_part t ≤ 631152000000999999999 →
      pos_part h * k + pos_part t ≤ 631152000000999999999 → Limited
  limited h t k e l m =
      let r = bounded apart 631152000000999999999 631152000000999999999
      (omega (arith, joint h t k, ap pos_part e, ap neg_part e)) (omega (arith, joint h t k, ap pos_part e, ap neg_part e)) in
      (omega (arith, quot_dn apart 86400000000000), omega (arith, quot_up apart 86400000000000))

  pub whole_range : Limited
  whole_range = go (is_duration kind) refl
    where
      go : (d : Bool) → is_duration kind ≡ d → Limited
      go true e = let n = durations_near kind a b v e in
          limited (b.head -ℤ a.head) (b.tail -ℤ a.tail) 1000000000 (durations_apart kind a b e) (omega arith) (omega arith)
      go false e = let n = days_near kind a b v e in
          limited (b.head -ℤ a.head) (b.tail -ℤ a.tail) 86400000000000 (days_apart kind a b e) (omega arith) (omega arith)

-- ---- the order of values is that of their nanoseconds
tail_range : (kind : Kind) (v : Value) → is_value kind v ≡ true → (neg_part v.tail ≡ 0) × (pos_part v.tail < unit kind)
tail_range kind v e = go (is_duration kind) refl
  where
    go : (d : Bool) → is_duration kind ≡ d → (neg_part v.tail ≡ 0) × (pos_part v.tail < unit kind)
    go true f = let x = duration_value kind v e f in rw f (x.tail_dn, omega (arith, x.tail_most))
    go false f = let x = day_value kind v e f in rw f (x.tail_dn, omega (arith, x.tail_most))

module _ (kind : Kind) (a b : Value) (v : Both kind a b) where
  -- tails are less than a head apart
  pub tails_less : nat_abs (b.tail -ℤ a.tail) < unit kind
  tails_less =
      let (x, y) = tail_range kind a v.first in
      let (z, w) = tail_range kind b v.second in
      elim (one_is_zero (b.tail -ℤ a.tail)) [
        | inl e ↦ omega (arith, abs (b.tail -ℤ a.tail), sub b.tail a.tail)
        | inr e ↦ omega (arith, abs (b.tail -ℤ a.tail), sub b.tail a.tail)
      ]

  ordered : (s : ℕ) → s ≤ 1 → Before a b s → neg_part (difference kind a b) + s ≤ pos_part (difference kind a b)
  unfolding difference
  ordered s l o =
      let (x, y) = tail_range kind a v.first in
      let (z, w) = tail_range kind b v.second in
      omega (arith, sub (nanoseconds kind b) (nanoseconds kind a), order a b (unit kind) s l o (λ h. omega arith))

  -- to a value that is no earlier it is not below nothing
  pub no_earlier_apart : earlier b a ≡ false → neg_part (difference kind a b) ≡ 0
  no_earlier_apart e = let k = ordered 0 (omega arith) (not_earlier a b e) in
      not_below (difference kind a b) (omega arith)

  -- to a later one it is more than nothing
  pub later_apart : earlier a b ≡ true → (neg_part (difference kind a b) ≡ 0) × (0 < pos_part (difference kind a b))
  later_apart e = let k = ordered 1 (omega arith) (is_earlier a b e) in
      (not_below (difference kind a b) (omega arith), omega arith)

  -- two dates are whole days apart
  pub dates_apart : over_dates kind ≡ true → difference kind a b ≡ (b.head -ℤ a.head) *ℤ pos 86400000000000
  dates_apart e =
      days_apart kind a b (dates_no_duration kind e)
      ∙ rw ((date_value kind a v.first e).no_tail, (date_value kind b v.second e).no_tail) (+ℤ_idr _)
