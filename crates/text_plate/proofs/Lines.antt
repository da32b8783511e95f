-- What a finished line and the end of the input print, by their cases; and that 121 bytes of a line tell as much as all
-- of them. Assumes nothing.
use mathlib.Core.Path.{◌≡◌, refl, sym, ap, ◌∙◌}
use mathlib.Core.Logic.{◌⊎◌, inl, inr}
use mathlib.Core.Bool.{true, false}
use mathlib.Core.List.{List, [], ◌∷◌}
use Prim.Native.Nat.{ℕ, zero, suc, ◌≤◌, ◌<◌}
use native.Mathlib.Decide.{dec_le}
use native.Mathlib.Omega.{arith}
use lib.ListN.{length, take}
use lib.Seq.{take_all, length-take-le}
use borrow.Author.Tests.{lt-leb}
use Rattle.std.specs.Prelude.{None}
use Rattle.asking.specs.declared.Refusal.TheVariants as refusal
use Rattle.text_read.specs.Lines.{in_form}
use Rattle.text_read.proofs.Lines.{same_length_not}
use Rattle.text_line.specs.Line.{names, is_names, read_line}
use Rattle.text_write.specs.Rows.{refusal_text}
use Rattle.text_rows.specs.Answers.{rows_of}
use Rattle.text_rows.proofs.Lists.{line_unread}
use Rattle.text_plate.specs.Plate.{output_names, no_names}
use Rattle.text_plate.specs.Turns.{finished_text, goes_on, ended_text}

-- ---- cases
pub finished_rows : (n : ℕ) (s : List ℕ) → 0 < n → finished_text n s ≡ rows_of n s
unfolding finished_text
finished_rows zero s h = absurd (let z : ⊥ = omega arith in z)
finished_rows (suc n) s h = refl

pub finished_names : (n : ℕ) (s : List ℕ) → n ≤ 0 → is_names s ≡ true → finished_text n s ≡ output_names
unfolding finished_text
finished_names zero s h e = rw e
finished_names (suc n) s h e = absurd (let z : ⊥ = omega arith in z)

pub finished_wrong : (n : ℕ) (s : List ℕ) → n ≤ 0 → is_names s ≡ false → finished_text n s ≡ no_names
unfolding finished_text
finished_wrong zero s h e = rw e
finished_wrong (suc n) s h e = absurd (let z : ⊥ = omega arith in z)

pub goes_rows : (n : ℕ) (s : List ℕ) → 0 < n → true ≡ goes_on n s
unfolding goes_on
goes_rows zero s h = absurd (let z : ⊥ = omega arith in z)
goes_rows (suc n) s h = refl

pub goes_names : (n : ℕ) (s : List ℕ) → n ≤ 0 → is_names s ≡ goes_on n s
unfolding goes_on
goes_names zero s h = refl
goes_names (suc n) s h = absurd (let z : ⊥ = omega arith in z)

pub ended_names : (n : ℕ) (s : List ℕ) → n ≡ 0 → ended_text n s ≡ no_names
unfolding ended_text
ended_names zero s e = refl
ended_names (suc n) s e = absurd (let z : ⊥ = omega arith in z)

pub ended_none : (n : ℕ) (s : List ℕ) → (n ≡ 0 → ⊥) → length s ≡ 0 → ended_text n s ≡ []
unfolding ended_text
ended_none zero s h e = absurd (h refl)
ended_none (suc n) [] h e = refl
ended_none (suc n) (b ∷ s) h e = absurd (let z : ⊥ = omega arith in z)

pub ended_some : (n : ℕ) (s : List ℕ) → (n ≡ 0 → ⊥) → (length s ≡ 0 → ⊥) → ended_text n s ≡ refusal_text n refusal.Table
unfolding ended_text
ended_some zero s h e = absurd (h refl)
ended_some (suc n) [] h e = absurd (e refl)
ended_some (suc n) (b ∷ s) h e = refl

-- ---- 121 bytes of a line
long_unread : (s : List ℕ) → 120 < length s → read_line s ≡ None
unfolding read_line in_form
long_unread s h = rw (lt-leb (length s) 120 h)

long_wrong : (s : List ℕ) → 120 < length s → is_names s ≡ false
long_wrong s h = same_length_not s names (λ e. omega arith)

-- lines with the same 121 bytes are the same line, or both are too long
kept_line : (a b : List ℕ) → take 121 a ≡ take 121 b → (a ≡ b) ⊎ ((120 < length a) × (120 < length b))
kept_line a b e = go (dec_le (length a) 120) (dec_le (length b) 120)
  where
    size : (l : List ℕ) → 120 < length l → length (take 121 l) ≡ 121
    size l h = length-take-le 121 l (omega arith)

    short : (l : List ℕ) → length l ≤ 120 → take 121 l ≡ l
    short l h = take_all 121 l (omega arith)

    go : Dec (length a ≤ 120) → Dec (length b ≤ 120) → (a ≡ b) ⊎ ((120 < length a) × (120 < length b))
    go (yes x) (yes y) = inl (sym (short a x) ∙ (e ∙ short b y))
    go (yes x) (no y) = absurd (let z : ⊥ = omega (arith, ap length e, ap length (short a x), size b (omega arith)) in z)
    go (no x) (yes y) = absurd (let z : ⊥ = omega (arith, ap length e, ap length (short b y), size a (omega arith)) in z)
    go (no x) (no y) = inr (omega arith)

finished_long : (n : ℕ) (s t : List ℕ) → 120 < length s → 120 < length t → finished_text n s ≡ finished_text n t
unfolding finished_text
finished_long zero s t h k = rw (long_wrong s h, long_wrong t k)
finished_long (suc n) s t h k = line_unread (suc n) s (long_unread s h) ∙ sym (line_unread (suc n) t (long_unread t k))

goes_long : (n : ℕ) (s t : List ℕ) → 120 < length s → 120 < length t → goes_on n s ≡ goes_on n t
unfolding goes_on
goes_long zero s t h k = rw (long_wrong s h, long_wrong t k)
goes_long (suc n) s t h k = refl

ended_long : (n : ℕ) (s t : List ℕ) → 120 < length s → 120 < length t → ended_text n s ≡ ended_text n t
unfolding ended_text
ended_long zero s t h k = refl
ended_long (suc n) s t h k = ended_some (suc n) s (λ e. omega arith) (λ e. omega arith)
    ∙ sym (ended_some (suc n) t (λ e. omega arith) (λ e. omega arith))

module _ (n : ℕ) (a b : List ℕ) (e : take 121 a ≡ take 121 b) where
  pub finished_same : finished_text n a ≡ finished_text n b
  finished_same =
      elim (kept_line a b e) [
        | inl q ↦ ap (finished_text n) q
        | inr l ↦ finished_long n a b l.0 l.1
      ]

  pub goes_same : goes_on n a ≡ goes_on n b
  goes_same =
      elim (kept_line a b e) [
        | inl q ↦ ap (goes_on n) q
        | inr l ↦ goes_long n a b l.0 l.1
      ]

  pub ended_same : ended_text n a ≡ ended_text n b
  ended_same =
      elim (kept_line a b e) [
        | inl q ↦ ap (ended_text n) q
        | inr l ↦ ended_long n a b l.0 l.1
      ]
