-- Moves of a date-time: the Rust's test of the product, that all sums fit, and the carry of a day. Assumes nothing.
use mathlib.Core.Path.{◌≡◌, refl, sym, ◌∙◌, ap}
use mathlib.Core.Logic.{◌⊎◌, inl, inr}
use mathlib.Core.Bool.{Bool, true, false, cond, ◌&&◌, ◌||◌}
use Prim.Native.Nat.{ℕ, zero, suc, ◌+◌, ◌*◌, ◌/◌, ◌%◌, ◌≤◌, ◌<◌, min}
use native.Mathlib.Nat.{zero-mul, zero-div, le_of_lt, mul-le-mul, mul-le-mul_right, mod-lt}
use native.Mathlib.Nat.{le-div_iff_mul-le, div-le_self, div-le_of_le-mul}
use native.Mathlib.Omega.{arith}
use lib.Dec.{leb}
use lib.IntN.{ℤ, pos, negsuc, neg_ℤ, nat_abs, ◌+ℤ◌, ◌*ℤ◌}
use lib.Signed.{lt_z, le_z, quot_z, rem_z}
use mir.Syntax.{w64}
use mir.Val.{SFits, to_z, of_z}
use mir.Facts.{to_z-of_z}
use borrow.Author.Tests.{leb-true, leb-false}
use Rattle.std.specs.Int.{int_div_euclid, int_rem_euclid, saturate_signed}
use Rattle.std.proofs.lemmas.Int.{unsigned_abs-mul, fits_signed_from_abs}
use Rattle.laws.specs.Numbers.{within, is_number, pos_part, neg_part}
use Rattle.laws.proofs.Signed.{add, mul_up, mul_dn, abs, same, fits, up_fits, dn_fits, lt_true, le_true, quot_fits, rem_fits}
use Rattle.laws.proofs.Tests.{both_true}
use Rattle.calendar.specs.Questions.{is_day}
use Rattle.calendar.proofs.Questions.{day_beyond}
use Rattle.values.specs.declared.Kind.{Kind}
use Rattle.values.specs.declared.Value.{Value}
use Rattle.values.specs.Values.{is_duration, is_value, a_date_time}
use Rattle.values.specs.Differences.{nanoseconds, fits_i64, whole_days}
use Rattle.values.proofs.Numbers.{is_le, within_true, not_below, bounded, either_true}
use Rattle.values.proofs.Values.{DayValue, day_range, day_value}
use Rattle.values.proofs.Joining.{joint}
use Rattle.unmapping.specs.Unmapping.{product_fits, by_nanoseconds, by_days, moved_by}
use Rattle.unmapping.specs.Moves.{since_zero, date_time_answer}
use Rattle.unmapping.proofs.DateTimes.{answer_none}

-- ---- sizes
abs_neg : (z : ℤ) → nat_abs (neg_ℤ z) ≡ nat_abs z
abs_neg (pos zero) = refl
abs_neg (pos (suc n)) = refl
abs_neg (negsuc n) = refl

abs_quot : (x w : ℤ) → nat_abs (quot_z x w) ≡ nat_abs x / nat_abs w
abs_quot (pos a) (pos b) = refl
abs_quot (pos a) (negsuc b) = abs_neg (pos (a / suc b))
abs_quot (negsuc a) (pos b) = abs_neg (pos (suc a / b))
abs_quot (negsuc a) (negsuc b) = refl

abs_rem : (x w : ℤ) → nat_abs (rem_z x w) ≡ nat_abs x % nat_abs w
abs_rem (pos a) (pos b) = refl
abs_rem (pos a) (negsuc b) = refl
abs_rem (negsuc a) (pos b) = abs_neg (pos (suc a % b))
abs_rem (negsuc a) (negsuc b) = abs_neg (pos (suc a % suc b))

abs_sum : (x y : ℤ) → nat_abs (x +ℤ y) ≤ nat_abs x + nat_abs y
abs_sum x y = go (x +ℤ y) (add x y)
  where
    go : (z : ℤ) → pos_part z + (neg_part x + neg_part y) ≡ (pos_part x + pos_part y) + neg_part z →
        nat_abs z ≤ nat_abs x + nat_abs y
    go (pos n) e = omega (arith, abs x, abs y)
    go (negsuc n) e = omega (arith, abs x, abs y)

-- ---- the product that passes the Rust's test fits, and the rest of the division adds at most one for each pixel
abbrev Passed : ℕ → ℤ → ℤ → Type 0
Passed size q r = (nat_abs q ≡ 0) ⊎ ((suc size * nat_abs q ≤ 9223372036854775807)
    ⊎ ((nat_abs r ≡ 0) × (size * nat_abs q ≤ 9223372036854775807)))

zero_size : (z : ℤ) → is_number z 0 ≡ true → nat_abs z ≡ 0
zero_size z e = let (l, h) = within_true (pos 0) z (pos 0) e in omega (arith, abs z, not_below z (omega arith))

passed : (o q r : ℤ) → product_fits o q r ≡ true → Passed (nat_abs o) q r
passed o (pos zero) r e = inl refl
passed o (pos (suc f)) r e = elim (either_true (is_number (pos (suc f)) 0) _ e) [
  | inl x ↦ absurd (let z : ⊥ = omega (arith, zero_size (pos (suc f)) x) in z)
  | inr x ↦ elim (either_true (lt_z (pos (nat_abs o)) (pos (9223372036854775807 / suc f))) _ x) [
    | inl y ↦ (let l = lt_true (pos (nat_abs o)) (pos (9223372036854775807 / suc f)) y in
        inr (inl ((le-div_iff_mul-le {k = suc f} {x = suc (nat_abs o)} {y = 9223372036854775807} (omega arith)).0 (omega arith))))
    | inr y ↦ (let (z, l) = both_true (is_number r 0) (le_z (pos (nat_abs o)) (pos (9223372036854775807 / suc f))) y in
        let h = le_true (pos (nat_abs o)) (pos (9223372036854775807 / suc f)) l in
        inr (inr (
          zero_size r z,
          (le-div_iff_mul-le {k = suc f} {x = nat_abs o} {y = 9223372036854775807} (omega arith)).0 (omega arith),
        )))
  ]
]
passed o (negsuc f) r e = go (9223372036854775807 / suc f) e
  where
    go : (k : ℕ) → is_number (negsuc f) 0 || (lt_z (pos (nat_abs o)) (neg_ℤ (pos k))
        || (is_number r 0 && le_z (pos (nat_abs o)) (neg_ℤ (pos k)))) ≡ true → Passed (nat_abs o) (negsuc f) r
    go zero p = elim (either_true (lt_z (pos (nat_abs o)) (pos 0)) _ p) [
      | inl y ↦ absurd (let z : ⊥ = omega (arith, lt_true (pos (nat_abs o)) (pos 0) y) in z)
      | inr y ↦ (let (z, l) = both_true (is_number r 0) (le_z (pos (nat_abs o)) (pos 0)) y in
          let s : nat_abs o ≡ 0 = omega (arith, le_true (pos (nat_abs o)) (pos 0) l) in
          inr (inr (zero_size r z, rw s (omega arith))))
    ]
    go (suc k) p = elim (either_true (lt_z (pos (nat_abs o)) (negsuc k)) _ p) [
      | inl y ↦ absurd (let z : ⊥ = omega (arith, lt_true (pos (nat_abs o)) (negsuc k) y) in z)
      | inr y ↦ (let (z, l) = both_true (is_number r 0) (le_z (pos (nat_abs o)) (negsuc k)) y in
          absurd (let w : ⊥ = omega (arith, le_true (pos (nat_abs o)) (negsuc k) l) in w))
    ]

rest_most : (size rest w : ℕ) → rest < w → rest * size / w ≤ size
rest_most size rest w h = div-le_of_le-mul w (mul-le-mul_right size (le_of_lt h))

sum_most : (size : ℕ) (q r : ℤ) (w : ℕ) → size ≤ 65534 → nat_abs r < w → Passed size q r →
    size * nat_abs q + nat_abs r * size / w ≤ 9223372036854775807
sum_most size q r w l h (inl z) = rw z (omega (arith, rest_most size (nat_abs r) w h))
sum_most size q r w l h (inr (inr (z, p))) =
    omega (arith, p, ap (λ (n : ℕ). n * size / w) z ∙ (ap (λ (n : ℕ). n / w) (zero-mul size) ∙ zero-div w))
sum_most size q r w l h (inr (inl p)) = go (leb size (nat_abs q)) refl
  where
    k : nat_abs r * size / w ≤ size
    k = rest_most size (nat_abs r) w h

    go : (b : Bool) → leb size (nat_abs q) ≡ b → size * nat_abs q + nat_abs r * size / w ≤ 9223372036854775807
    go true e = omega (arith, k, p, leb-true size (nat_abs q) e)
    go false e =
        let h : nat_abs q ≤ 65534 = omega (arith, leb-false size (nat_abs q) e) in
        let m : size * nat_abs q ≤ 65534 * 65534 = mul-le-mul {n₁ = size} {m₁ = nat_abs q} {n₂ = 65534} {m₂ = 65534} l h in
        omega (arith, k, m)

-- ---- all of by_nanoseconds fits
module _ (s w o : ℤ) (small : nat_abs o ≤ 65534) (few : nat_abs w ≤ 65534) (some : 0 < nat_abs w)
    (e : product_fits o (quot_z s w) (rem_z s w) ≡ true) where
  abbrev q : ℤ
  q = quot_z s w

  abbrev r : ℤ
  r = rem_z s w

  abbrev y : ℤ
  y = quot_z (r *ℤ o) w

  rest_less : nat_abs r < nat_abs w
  rest_less = rw (abs_rem s w) (mod-lt (nat_abs s) some)

  y_size : nat_abs y ≡ nat_abs r * nat_abs o / nat_abs w
  y_size = abs_quot (r *ℤ o) w ∙ ap (λ (n : ℕ). n / nat_abs w) (unsigned_abs-mul r o)

  most : nat_abs o * nat_abs q + nat_abs y ≤ 9223372036854775807
  most = rw y_size (sum_most (nat_abs o) q r (nat_abs w) small rest_less (passed o q r e))

  pub product_fits_law : SFits w64 (o *ℤ q)
  product_fits_law = fits_signed_from_abs w64 (o *ℤ q) (omega (arith, unsigned_abs-mul o q, most))

  pub rest_product_fits : SFits w64 (r *ℤ o)
  rest_product_fits =
      let m : nat_abs r * nat_abs o ≤ 65534 * 65534 =
      mul-le-mul {n₁ = nat_abs r} {m₁ = nat_abs o} {n₂ = 65534} {m₂ = 65534} (omega (arith, rest_less, few)) small in
      fits_signed_from_abs w64 (r *ℤ o) (omega (arith, unsigned_abs-mul r o, m))

  pub quotient_fits : SFits w64 y
  quotient_fits = fits_signed_from_abs w64 y (omega (arith, most))

  pub sum_fits : SFits w64 (o *ℤ q +ℤ y)
  sum_fits = fits_signed_from_abs w64 (o *ℤ q +ℤ y) (omega (arith, abs_sum (o *ℤ q) y, unsigned_abs-mul o q, most))

-- a sum, as the code has it
pub read_sum : (a x b : ℤ) → SFits w64 a → SFits w64 x → x ≡ b → SFits w64 (a +ℤ b) →
    to_z w64 (of_z w64 (to_z w64 (of_z w64 a) +ℤ to_z w64 (of_z w64 x))) ≡ a +ℤ b
read_sum a x b f g e h = rw (to_z-of_z f, to_z-of_z g, e) (to_z-of_z h)

-- a number that is not below 0, divided
from_0 : (z : ℤ) → neg_part z ≡ 0 → (quot_z z (pos 86400000000000) ≡ pos (pos_part z / 86400000000000))
    × (rem_z z (pos 86400000000000) ≡ pos (pos_part z % 86400000000000))
from_0 (pos n) e = (refl, refl)
from_0 (negsuc n) e = absurd (let w : ⊥ = omega arith in w)

-- ---- a number of nanoseconds in days and nanoseconds, rounded down
record Euclid (n q r : ℤ) : Type 0 where
  sum : pos_part q * 86400000000000 + pos_part r + neg_part n ≡ pos_part n + neg_part q * 86400000000000
  rest_dn : neg_part r ≡ 0
  rest_most : pos_part r < 86400000000000

euclid : (n : ℤ) → Euclid n (int_div_euclid n (pos 86400000000000)) (int_rem_euclid n (pos 86400000000000))
euclid (pos n) = record { sum = omega arith; rest_dn = refl; rest_most = omega arith }
euclid (negsuc n) = record { sum = omega arith; rest_dn = refl; rest_most = omega arith }

abbrev pub days : ℤ → ℤ
days n = int_div_euclid n (pos 86400000000000)

abbrev pub rest : ℤ → ℤ
rest n = int_rem_euclid n (pos 86400000000000)

module _ (v : Value) (n : ℤ) (t : a_date_time v ≡ true) (f : SFits w64 n) where
  parts : DayValue v
  parts = day_range v 86399999999999 (omega arith) t

  few : (neg_part (days n) ≤ 106752) × (pos_part (days n) ≤ 106752)
  few = let c = euclid n in
      bounded (days n) 106752 106752 (omega (arith, c.sum, c.rest_most, dn_fits n f))
      (omega (arith, c.sum, c.rest_most, up_fits n f))

  pub day_fits : SFits w64 (v.head +ℤ days n)
  day_fits = fits (v.head +ℤ days n) (pos_part v.head + pos_part (days n)) (neg_part (days n))
      (omega (arith, add v.head (days n), parts.head_dn)) (omega (arith, few, parts.head_most)) (omega (arith, few))

  nano_dn : neg_part (v.tail +ℤ rest n) ≡ 0
  nano_dn = not_below (v.tail +ℤ rest n) (omega (arith, add v.tail (rest n), parts.tail_dn, (euclid n).rest_dn))

  nano_up : pos_part (v.tail +ℤ rest n) ≡ pos_part v.tail + pos_part (rest n)
  nano_up = omega (arith, add v.tail (rest n), parts.tail_dn, (euclid n).rest_dn, nano_dn)

  pub nano_fits : SFits w64 (v.tail +ℤ rest n)
  nano_fits = fits (v.tail +ℤ rest n) (pos_part v.tail + pos_part (rest n)) 0 (omega (arith, nano_up, nano_dn))
      (omega (arith, parts.tail_most, (euclid n).rest_most)) (omega arith)

  abbrev nano : ℤ
  nano = v.tail +ℤ rest n

  carry_is : quot_z nano (pos 86400000000000) ≡ pos (pos_part nano / 86400000000000)
  carry_is = (from_0 nano nano_dn).0

  left_is : rem_z nano (pos 86400000000000) ≡ pos (pos_part nano % 86400000000000)
  left_is = (from_0 nano nano_dn).1

  -- a nanosecond of the day
  pub left_in_day : within (pos 0) (rem_z nano (pos 86400000000000)) (pos 86399999999999) ≡ true
  left_in_day = rw (
    left_is,
    is_le (pos 0) (pos (pos_part nano % 86400000000000)) (omega arith),
    is_le (pos (pos_part nano % 86400000000000)) (pos 86399999999999) (omega arith),
  )

  pub carry_fits : SFits w64 (quot_z nano (pos 86400000000000))
  carry_fits = quot_fits nano (pos 86400000000000) nano_fits refl

  pub left_fits : SFits w64 (rem_z nano (pos 86400000000000))
  left_fits = rem_fits nano (pos 86400000000000) nano_fits

  pub next_fits : SFits w64 (v.head +ℤ days n +ℤ quot_z nano (pos 86400000000000))
  next_fits = let c = pos_part nano / 86400000000000 in
      rw carry_is (fits (v.head +ℤ days n +ℤ pos c) (pos_part v.head + pos_part (days n) + c) (neg_part (days n))
      (omega (arith, add (v.head +ℤ days n) (pos c), add v.head (days n), parts.head_dn))
      (omega (arith, few, parts.head_most, nano_up, parts.tail_most, (euclid n).rest_most)) (omega (arith, few)))

  pub moved : (v.head +ℤ days n +ℤ quot_z nano (pos 86400000000000)) *ℤ pos 86400000000000 +ℤ rem_z nano (pos 86400000000000)
      ≡ since_zero v +ℤ n
  moved = let c = pos_part nano / 86400000000000 in
      let r = pos_part nano % 86400000000000 in
      rw (carry_is, left_is) (same _ (since_zero v +ℤ n) (omega (
        arith,
        joint (v.head +ℤ days n +ℤ pos c) (pos r) 86400000000000,
        add (v.head +ℤ days n) (pos c),
        add v.head (days n),
        nano_up,
        add (since_zero v) n,
        joint v.head v.tail 86400000000000,
        (euclid n).sum,
        (euclid n).rest_dn,
        parts.tail_dn,
      )))

-- ---- a number of days: a sum that does not fit is no day
abbrev pub at : ℤ → ℤ → ℤ
at nano d = d *ℤ pos 86400000000000 +ℤ nano

module _ (nano : ℤ) (t : within (pos 0) nano (pos 86399999999999) ≡ true) where
  both_out : (d e : ℤ) → is_day d ≡ false → is_day e ≡ false → date_time_answer (at nano d) ≡ date_time_answer (at nano e)
  both_out d e p q = sym (answer_none d nano t p) ∙ answer_none e nano t q

  pub saturated : (d : ℤ) → date_time_answer (at nano (saturate_signed w64 d)) ≡ date_time_answer (at nano d)
  saturated (negsuc k) = both_out (saturate_signed w64 (negsuc k)) (negsuc k) refl refl
  saturated (pos k) = go (leb k 9223372036854775807) refl
    where
      go : (b : Bool) → leb k 9223372036854775807 ≡ b → date_time_answer (at nano (saturate_signed w64 (pos k)))
          ≡ date_time_answer (at nano (pos k))
      go true e = let s : min k 9223372036854775807 ≡ k = omega (arith, leb-true k 9223372036854775807 e) in
          ap (λ (m : ℕ). date_time_answer (at nano (pos m))) s
      go false e = let h = leb-false k 9223372036854775807 e in
          both_out (pos (min k 9223372036854775807)) (pos k) (day_beyond (min k 9223372036854775807) (omega arith))
          (day_beyond k (omega arith))

pub days_sum : (v : Value) (n : ℤ) → at v.tail (v.head +ℤ n) ≡ since_zero v +ℤ n *ℤ pos 86400000000000
days_sum v n = same _ (since_zero v +ℤ n *ℤ pos 86400000000000) (omega (
  arith,
  joint (v.head +ℤ n) v.tail 86400000000000,
  add v.head n,
  add (since_zero v) (n *ℤ pos 86400000000000),
  joint v.head v.tail 86400000000000,
  mul_up n 86400000000000,
  mul_dn n 86400000000000,
))

-- ---- a start that is no duration is a date-time
pub start_value : (k : Kind) (v : Value) → is_value k v ≡ true → is_duration k ≡ false → a_date_time v ≡ true
start_value k v e d = let x = day_value k v e d in
    rw (
      is_le (pos 1) v.head (omega (arith, x.head_least, x.head_dn)),
      is_le v.head (pos 3652059) (omega (arith, x.head_most)),
      is_le (pos 0) v.tail (omega (arith, x.tail_dn)),
      is_le v.tail (pos 86399999999999) (omega (arith, x.tail_most)),
    )

-- from midnight of the day 0, by its kind
pub start_is : (k : Kind) (v : Value) → is_duration k ≡ false → since_zero v ≡ nanoseconds k v
unfolding nanoseconds
start_is k v e = rw e

-- ---- the branches of unmapping
module _ (d w o : ℤ) where
  pub moved_long : fits_i64 d ≡ false → by_days (whole_days d) w o *ℤ pos 86400000000000 ≡ moved_by d w o
  unfolding moved_by
  moved_long e = rw e

  pub branch : (b : Bool) → fits_i64 d ≡ true → product_fits o (quot_z d w) (rem_z d w) ≡ b →
      cond b (by_nanoseconds d w o) (by_days (whole_days d) w o *ℤ pos 86400000000000) ≡ moved_by d w o
  unfolding moved_by
  branch b f e = rw (f, e)

-- ---- a quotient of a number that is not below 0 is no further from it
pub quot_abs_fits : (s w : ℤ) → SFits w64 s → neg_part s ≡ 0 → SFits w64 (quot_z s w)
quot_abs_fits s w f e = fits_signed_from_abs w64 (quot_z s w)
    (omega (arith, abs_quot s w, div-le_self (nat_abs s) (nat_abs w), abs s, up_fits s f))

-- a width that is not 0 is a divisor
pub divisor : (w : ℤ) → SFits w64 w → 0 < nat_abs w → 0 < of_z w64 w
divisor (pos n) f h = h
divisor (negsuc n) f h = omega (arith, dn_fits (negsuc n) f)
