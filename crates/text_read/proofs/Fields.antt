-- The fields' definitions, one byte at a time at a place i of the slice, and how large a number of 12 digits can be.
-- Assumes nothing.
use mathlib.Core.Path.{◌≡◌, refl, sym, ap, ◌∙◌}
use mathlib.Core.Logic.{◌⊎◌, inl, inr}
use mathlib.Core.Bool.{Bool, true, false, cond}
use mathlib.Core.List.{List, [], ◌∷◌}
use Prim.Native.Nat.{ℕ, zero, suc, ◌+◌, ◌*◌, ◌-◌, ◌^◌, ◌<◌, ◌≤◌}
use native.Mathlib.Numerals.{add-one}
use native.Mathlib.Omega.{arith}
use native.Mathlib.Nat.{pow-suc, pow-le-pow_right, mul-lt-mul_of_pos_right}
use lib.Dec.{leb, ltb, eqb, lit<}
use lib.ListN.{length, take, drop, get_or, drop_of_length-le}
use lib.Pointwise.{pointwise}
use lib.Seq.{drop-cons, take-nil}
use Rattle.std.proofs.lemmas.Nat.{pow-add}
use Rattle.std.specs.Prelude.{Option, None, Some}
use Rattle.std.specs.List.{position_or_len, position}
use Rattle.std.specs.Option.{unwrap_or}
use Rattle.std.proofs.lemmas.List.Recursion.{is_position_or_len}
use borrow.Author.Tests.{eqb-true, eq-eqb, ne_eqb, lt-ltb, le-ltb, ltb-false, leb-true}
use Rattle.laws.proofs.Tests.{both_true, and_true}
use Rattle.calendar.specs.declared.Ymd.{Ymd}
use Rattle.text_read.specs.Bytes.{space_byte, minus_byte, point_byte, zero_byte, nine_byte}
use Rattle.text_read.specs.Fields.{until_of, field_of, is_digit, digits_from, digits_of, times, nanos_of, fraction_of, stamp_read}

-- ---- one byte
-- no more than there are
pub until_le : (c : ℕ) (s : List ℕ) → until_of c s ≤ length s
unfolding until_of
until_le c [] = omega arith
until_le c (b ∷ s) = by_byte (eqb b c) (until_of c s) (length s) (until_le c s)
  where
    by_byte : (t : Bool) (k n : ℕ) → k ≤ n → cond t 0 (suc k) ≤ suc n
    by_byte true k n h = omega arith
    by_byte false k n h = omega arith

-- the place of the first c, as std has it
pub until_position : (c : ℕ) (s : List ℕ) → until_of c s ≡ position_or_len (λ b. eqb b c) s
unfolding until_of
until_position c = is_position_or_len (until_of c) (λ b. eqb b c) refl
    (λ b s. let one : suc (until_of c s) ≡ 1 + until_of c s = omega arith in rw one)

pub found : (c : ℕ) (s : List ℕ) → unwrap_or (position (λ b. eqb b c) s) (length s) ≡ until_of c s
found c s = rw (← until_position c s) (either (ltb (until_of c s) (length s)) (ltb-false (until_of c s) (length s)))
  where
    either : (t : Bool) → (t ≡ false → length s ≤ until_of c s)
        → unwrap_or (cond t (Some (until_of c s)) None) (length s) ≡ until_of c s
    either true h = refl
    either false h = let z : length s ≤ until_of c s = h refl in omega (arith, until_le c s)

module _ (s : List ℕ) (i : ℕ) (h : i < length s) where
  pub digit_on : (n : ℕ) → is_digit (get_or s i 0) ≡ true
      → digits_from n (drop i s) ≡ digits_from (n * 10 + (get_or s i 0 - zero_byte)) (drop (i + 1) s)
  unfolding digits_from
  digit_on n e = rw (drop-cons s i 0 h, e, add-one i)

  pub digit_not : (n : ℕ) → is_digit (get_or s i 0) ≡ false → digits_from n (drop i s) ≡ None
  unfolding digits_from
  digit_not n e = rw (drop-cons s i 0 h, e)

pub digits_end : (n : ℕ) (s : List ℕ) (i : ℕ) → length s ≤ i → digits_from n (drop i s) ≡ Some n
unfolding digits_from
digits_end n s i h = rw (drop_of_length-le s h)

-- ---- digits
pub digits_start : (s : List ℕ) → 1 ≤ length s → length s ≤ 12 → digits_of s ≡ digits_from 0 s
unfolding digits_of
digits_start s h k = rw (le-ltb (length s) 1 h, le-ltb 12 (length s) k)

-- none, or too many
pub digits_refused : (s : List ℕ) → (length s ≡ 0) ⊎ ((length s ≡ 0 → ⊥) × 12 < length s) → digits_of s ≡ None
unfolding digits_of
digits_refused s (inl h) = rw (lt-ltb (length s) 1 (omega arith))
digits_refused s (inr h) = rw (le-ltb (length s) 1 (omega arith), lt-ltb 12 (length s) (omega arith))

-- n, of i digits, is below 10 ^ i
pub grow : (n d i : ℕ) → n < 10 ^ i → d ≤ 9 → n * 10 + d < 10 ^ (i + 1)
grow n d i h k = rw (add-one i, pow-suc 10 i) (omega arith)

pub below : (n i : ℕ) → n < 10 ^ i → i ≤ 12 → n < 10 ^ 12
below n i h k = let l : 10 ^ i ≤ 10 ^ 12 = pow-le-pow_right (lit< tt) k in omega arith

pub digit_value : (b : ℕ) → is_digit b ≡ true → (zero_byte ≤ b) × (b ≤ nine_byte)
digit_value b e = let (p, q) = both_true (leb zero_byte b) (leb b nine_byte) e in (leb-true _ _ p, leb-true _ _ q)

-- ---- numbers
-- the byte at the front, as std compares it
module _ (b : ℕ) where
  pub front : (s : List ℕ) → pointwise eqb (take 1 s) (b ∷ []) ≡ true → eqb (get_or s 0 0) b ≡ true
  front [] e = let z : ◌≡◌ {A = ℕ} 0 1 = cc in absurd (let w : ⊥ = omega arith in w)
  front (x ∷ s) e = (both_true _ _ e).0

  pub front_other : (s : List ℕ) → eqb 0 b ≡ false → pointwise eqb (take 1 s) (b ∷ []) ≡ false → eqb (get_or s 0 0) b ≡ false
  front_other [] z e = z
  front_other (x ∷ s) z e = sym (and_true (eqb x b)) ∙ e

pub drop_take : (j k : ℕ) (s : List ℕ) → drop j (take k s) ≡ take (k - j) (drop j s)
drop_take zero k s = let h : k - 0 ≡ k = omega arith in rw h
drop_take (suc j) zero s = let h : 0 - suc j ≡ 0 = omega arith in rw h
drop_take (suc j) (suc k) [] = sym (take-nil (suc k - suc j))
drop_take (suc j) (suc k) (b ∷ s) = let h : suc k - suc j ≡ k - j = omega arith in rw (h, drop_take j k s)

-- a minus stands at the front of the field where it stands at the front of the line's part
pub first_minus : (s : List ℕ) → pointwise eqb (take 1 (field_of s)) (minus_byte ∷ []) ≡ eqb (get_or s 0 0) minus_byte
unfolding until_of
first_minus [] = refl
first_minus (b ∷ s) = go (eqb b space_byte) (eqb-true b space_byte)
  where
    go : (t : Bool) → (t ≡ true → b ≡ space_byte)
        → pointwise eqb (take 1 (take (cond t 0 (suc (until_of space_byte s))) (b ∷ s))) (minus_byte ∷ []) ≡ eqb b minus_byte
    go true h = rw (h refl)
    go false h = and_true (eqb b minus_byte)

pub same_both : {A : Type 0} (t : Bool) (x : A) → cond t x x ≡ x
same_both true x = refl
same_both false x = refl

-- ---- fractions
pub nanos_long : (s : List ℕ) → 9 < length s → nanos_of s ≡ None
unfolding nanos_of
nanos_long s h = rw (lt-ltb 9 (length s) h)

pub nanos_are : (s : List ℕ) → length s ≤ 9 → nanos_of s ≡ times (10 ^ (9 - length s)) (digits_of s)
unfolding nanos_of
nanos_are s h = rw (le-ltb 9 (length s) h)

positive : (k : ℕ) → 0 < 10 ^ k
positive zero = lit< tt
positive (suc k) = rw (pow-suc 10 k) (omega (arith, positive k))

-- with zeros behind the digits there are nine
pub below_nine : (n k : ℕ) → n < 10 ^ k → k ≤ 9 → n * 10 ^ (9 - k) < 10 ^ 9
below_nine n k h l =
    let e : k + (9 - k) ≡ 9 = omega arith in
    let all : 10 ^ k * 10 ^ (9 - k) ≡ 10 ^ 9 = sym (pow-add 10 k (9 - k)) ∙ ap (λ (x : ℕ). 10 ^ x) e in
    let m = mul-lt-mul_of_pos_right h (positive (9 - k)) in rw all at m

pub fraction_none : (s : List ℕ) → length s ≡ 0 → fraction_of s ≡ Some 0
unfolding fraction_of
fraction_none [] h = refl
fraction_none (b ∷ s) h = absurd (let z : ⊥ = omega arith in z)

pub fraction_other : (s : List ℕ) → (length s ≡ 0 → ⊥) → (get_or s 0 0 ≡ point_byte → ⊥) → fraction_of s ≡ None
unfolding fraction_of
fraction_other [] h e = absurd (h refl)
fraction_other (b ∷ s) h e = rw (ne_eqb b point_byte e)

pub fraction_some : (s : List ℕ) → (length s ≡ 0 → ⊥) → get_or s 0 0 ≡ point_byte → fraction_of s ≡ nanos_of (drop 1 s)
unfolding fraction_of
fraction_some [] h e = absurd (h refl)
fraction_some (b ∷ s) h e = rw (eq-eqb b point_byte e)

-- a date-time whose fraction does not read
pub stamp_unread : (a : Option Ymd) (b : Option (ℕ × ℕ × ℕ)) → stamp_read a b None ≡ None
stamp_unread (Some d) (Some t) = refl
stamp_unread (Some d) None = refl
stamp_unread None b = refl
