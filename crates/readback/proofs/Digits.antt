-- The digits that a writer writes, as the readers take them: their value, how many they are, and which bytes are not among
-- them. Assumes nothing.
use mathlib.Core.Path.{◌≡◌, refl, sym, ◌∙◌, ap}
use mathlib.Core.Bool.{true}
use mathlib.Core.List.{List, [], ◌∷◌, ◌++◌, append_assoc, append-nil}
use Prim.Native.Nat.{ℕ, zero, suc, ◌+◌, ◌*◌, ◌-◌, ◌/◌, ◌%◌, ◌^◌, ◌<◌, ◌≤◌}
use native.Mathlib.Decide.{dec_le}
use native.Mathlib.Omega.{arith}
use native.Mathlib.Nat.{pow-suc}
use lib.ListN.{length, length-append}
use borrow.Author.Tests.{ne_eqb, le-leb, lt-ltb, le-ltb}
use Rattle.text_read.specs.Fields.{until_of, is_digit, digits_from, digits_of}
use Rattle.std.specs.Prelude.{Some}
use Rattle.text_read.proofs.Fields.{digits_start}
use Rattle.text_write.specs.Texts.{digit, fixed_text, up_to_text, decimal_text}

-- ---- one digit
digit_is : (n : ℕ) → is_digit (digit n) ≡ true
digit_is n = rw (le-leb 48 (digit n) (omega arith), le-leb (digit n) 57 (omega arith))

one_digit : (m n r : ℕ) (t : List ℕ) → m * 10 + n % 10 ≡ r → digits_from m (digit n ∷ t) ≡ digits_from r t
unfolding digits_from
one_digit m n r t e = let q : m * 10 + (digit n - 48) ≡ r = omega arith in rw (digit_is n, q)

-- ---- a fixed number of digits
fixed_value : (w n : ℕ) (t : List ℕ) → n < 10 ^ w → digits_from 0 (fixed_text w n ++ t) ≡ digits_from n t
unfolding fixed_text
fixed_value zero n t h = let z : n ≡ 0 = omega arith in rw z
fixed_value (suc w) n t h =
    let p : n / 10 < 10 ^ w = omega (arith, pow-suc 10 w) in
    rw (append_assoc, fixed_value w (n / 10) (digit n ∷ t) p) (one_digit (n / 10) n n t (omega arith))

pub fixed_length : (w n : ℕ) → length (fixed_text w n) ≡ w
unfolding fixed_text
fixed_length zero n = refl
fixed_length (suc w) n = simp (length-append, fixed_length w (n / 10)) (omega arith)

-- ---- as many digits as it takes: one, or one behind the others
module _ (k n : ℕ) where
  one : n < 10 → up_to_text (suc k) n ≡ digit n ∷ []
  unfolding up_to_text
  one l = rw (lt-ltb n 10 l)

  more : 10 ≤ n → up_to_text (suc k) n ≡ up_to_text k (n / 10) ++ (digit n ∷ [])
  unfolding up_to_text
  more l = rw (le-ltb n 10 l)

  either : (P : List ℕ → Type 0) → (n < 10 → P (digit n ∷ [])) → (10 ≤ n → P (up_to_text k (n / 10) ++ (digit n ∷ []))) →
      P (up_to_text (suc k) n)
  either P a b = elim (dec_le 10 n) [ yes l ↦ rw (more l) (b l) | no l ↦ rw (one (omega arith)) (a (omega arith)) ]

up_to_value : (k n : ℕ) (t : List ℕ) → n < 10 ^ suc k → digits_from 0 (up_to_text (suc k) n ++ t) ≡ digits_from n t
up_to_value zero n t h = rw (one zero n (omega arith)) (one_digit 0 n n t (omega arith))
up_to_value (suc k) n t h =
    let p : n / 10 < 10 ^ suc k = omega (arith, pow-suc 10 (suc k)) in
    either (suc k) n (λ (s : List ℕ). digits_from 0 (s ++ t) ≡ digits_from n t) (λ l. one_digit 0 n n t (omega arith))
    (λ l. rw (append_assoc, up_to_value k (n / 10) (digit n ∷ t) p) (one_digit (n / 10) n n t (omega arith)))

-- at most j, where j are enough
up_to_most : (k n j : ℕ) → n < 10 ^ suc j → length (up_to_text k n) ≤ suc j
unfolding up_to_text
up_to_most zero n j h = omega arith
up_to_most (suc k) n zero h = rw (one k n (omega arith)) (omega arith)
up_to_most (suc k) n (suc j) h =
    let p : n / 10 < 10 ^ suc j = omega (arith, pow-suc 10 (suc j)) in
    either k n (λ (s : List ℕ). length s ≤ suc (suc j)) (λ l. omega arith)
    (λ l. rw (length-append) (omega (arith, up_to_most k (n / 10) j p)))

pub decimal_some : (n : ℕ) → 1 ≤ length (decimal_text n)
decimal_some n = either 19 n (λ (s : List ℕ). 1 ≤ length s) (λ l. omega arith) (λ l. rw length-append (omega arith))

-- ---- which bytes are not among them
-- no c stands in a
pub record Free (c : ℕ) (a : List ℕ) : Type 0 where
  pub free : (t : List ℕ) → until_of c (a ++ t) ≡ length a + until_of c t

pub free_none : {c : ℕ} → Free c []
free_none = record { free = λ t. omega arith }

pub free_one : {c b : ℕ} → (b ≡ c → ⊥) → Free c (b ∷ [])
unfolding until_of
free_one {c} {b} n = record { free = λ t. rw (ne_eqb b c n) (omega arith) }

pub free_then : {c : ℕ} {a b : List ℕ} → Free c a → Free c b → Free c (a ++ b)
free_then {c} {a} {b} f g = record {
  free = λ t. rw (append_assoc a b t, f.free (b ++ t), g.free t, length-append a b) (omega arith);
}

-- what is no digit, nor comes after them
module _ {c : ℕ} (l : c < 48) where
  free_digit : (n : ℕ) → Free c (digit n ∷ [])
  free_digit n = free_one (λ e. omega arith)

  pub free_fixed : (w n : ℕ) → Free c (fixed_text w n)
  unfolding fixed_text
  free_fixed zero n = free_none
  free_fixed (suc w) n = free_then (free_fixed w (n / 10)) (free_digit n)

  free_up_to : (k n : ℕ) → Free c (up_to_text k n)
  unfolding up_to_text
  free_up_to zero n = free_none
  free_up_to (suc k) n = either k n (Free c) (λ _. free_digit n) (λ _. free_then (free_up_to k (n / 10)) (free_digit n))

  pub free_decimal : (n : ℕ) → Free c (decimal_text n)
  free_decimal n = free_up_to 20 n

-- ---- as the readers take them
all_read : (a : List ℕ) (n : ℕ) → 1 ≤ length a → length a ≤ 12 → digits_from 0 (a ++ []) ≡ digits_from n [] →
    digits_of a ≡ Some n
unfolding digits_from
all_read a n l m e = digits_start a l m ∙ ap (digits_from 0) (sym (append-nil a)) ∙ e

pub fixed_read : (w n : ℕ) → 1 ≤ w → w ≤ 12 → n < 10 ^ w → digits_of (fixed_text w n) ≡ Some n
fixed_read w n l m h =
    let e = fixed_length w n in
    all_read (fixed_text w n) n (omega arith) (omega arith) (fixed_value w n [] h)

-- a number of at most 12 digits, written with as many as it takes
pub decimal_read : (n : ℕ) → n < 10 ^ 12 → digits_of (decimal_text n) ≡ Some n
decimal_read n h =
    all_read (up_to_text 20 n) n (decimal_some n) (up_to_most 20 n 11 (omega arith)) (up_to_value 19 n [] (omega arith))
