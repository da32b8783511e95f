-- The rows of a line: the second field of each reads back to its tick, and no two are the same. Assumes nothing.
use mathlib.Core.Path.{◌≡◌, refl, sym, ap, ◌∙◌}
use mathlib.Core.Bool.{Bool, true, false, cond}
use mathlib.Core.List.{List, [], ◌∷◌, ◌++◌, append_assoc, append-nil}
use Prim.Native.Nat.{ℕ, zero, suc, ◌+◌, ◌*◌, ◌/◌, ◌%◌, ◌<◌, ◌≤◌}
use native.Mathlib.Omega.{arith}
use lib.IntN.{ℤ, pos, nat_abs}
use lib.Signed.{lt_z}
use lib.ListN.{length}
use lib.Seq.{drop-append-add}
use borrow.Author.Tests.{eq-eqb, ne_eqb}
use Rattle.laws.specs.Numbers.{pos_part}
use Rattle.laws.specs.Units.{per_second}
use Rattle.values.specs.declared.Kind.TheVariants.{Span}
use Rattle.values.specs.declared.Kind.{Kind}
use Rattle.values.specs.declared.Value.{Value}
use Rattle.values.specs.Values.{over_date_times, is_duration}
use Rattle.values.specs.Differences.{nanoseconds}
use Rattle.axis.specs.declared.Hint.TheVariants.{Bold}
use Rattle.std.specs.Prelude.{Option, Some, None, Result, Ok, Err}
use Rattle.asking.specs.Asking.{number}
use Rattle.asking.specs.declared.Refusal.{Refusal}
use Rattle.asking.specs.declared.Refusal.TheVariants as refusal
use Rattle.mapping.specs.declared.Hairline.{Hairline}
use Rattle.mapping.specs.Mapping.{mapped}
use Rattle.steps.specs.Promise.{nth}
use Rattle.ticks.specs.Answers.{ticks_answer}
use Rattle.text_read.specs.Bytes.{line_feed, space_byte, exclamation, minus_byte, point_byte}
use Rattle.text_read.specs.Fields.{until_of, field_of}
use Rattle.text_read.specs.Lines.{lines_of, rest_of}
use Rattle.text_line.specs.declared.Request.{Request}
use Rattle.text_line.specs.Line.{read_value, read_line}
use Rattle.text_write.specs.Texts.{decimal_text, signed_text, date_text, date_time_text, span_text}
use Rattle.text_write.specs.Rows.{tick_text, mark_text, row_text, refusal_text}
use Rattle.text_rows.specs.Answers.{shows_fractions, tick_row, ticks_text, list_text, list_of, listed_text, request_text}
use Rattle.text_rows.specs.Answers.{line_text, rows_of}
use Rattle.readback.specs.Claims.{NotIn, AllDiffer, tick_texts, RowReadsBack, RowsDiffer}
use Rattle.readback.proofs.Digits.{Free, free_none, free_one, free_then, free_decimal}
use Rattle.readback.proofs.Forms.{field_is, free_fraction, free_date, free_stamp}
use Rattle.readback.proofs.ReadBack.{tick_reads_back, one_text}
use Rattle.readback.proofs.Lists.{shown, not_same}

-- ---- bytes that no text has
-- below '0', and none of '!', '-', '.': a space, LF
record Apart (c : ℕ) : Type 0 where
  below : c < 48
  mark : exclamation ≡ c → ⊥
  minus : minus_byte ≡ c → ⊥
  point : point_byte ≡ c → ⊥

space : Apart space_byte
space = record { below = omega arith; mark = λ e. omega arith; minus = λ e. omega arith; point = λ e. omega arith }

feed : Apart line_feed
feed = record { below = omega arith; mark = λ e. omega arith; minus = λ e. omega arith; point = λ e. omega arith }

module _ {c : ℕ} (x : Apart c) where
  free_sign : (b : Bool) → Free c (cond b (minus_byte ∷ []) [])
  free_sign true = free_one x.minus
  free_sign false = free_none

  free_signed : (z : ℤ) → Free c (signed_text z)
  free_signed z = free_then (free_sign (lt_z z (pos 0))) (free_decimal x.below (nat_abs z))

  free_span : (shown : Bool) (t : ℤ) → Free c (span_text shown t)
  free_span shown t =
      free_then (free_then (free_sign (lt_z t (pos 0))) (free_decimal x.below (nat_abs t / per_second)))
      (free_fraction shown (nat_abs t % per_second) x.below x.point)

  free_tick : (shown : Bool) (kind : Kind) (v : Value) → Free c (tick_text shown kind v)
  unfolding tick_text
  free_tick shown kind v = go (over_date_times kind) (is_duration kind)
    where
      n : ℕ
      n = pos_part v.head

      go : (a b : Bool) → Free c (cond a (date_time_text shown n (pos_part v.tail))
          (cond b (span_text shown (nanoseconds Span v)) (date_text n)))
      go true b = free_stamp shown n (pos_part v.tail) x.below x.minus x.point
      go false true = free_span shown (nanoseconds Span v)
      go false false = free_date n x.below x.minus

  free_mark : (p : Result Hairline Refusal) → Free c (mark_text p)
  free_mark (Ok h) = free_signed h.pixel
  free_mark (Err q) = free_then (free_one x.mark) (free_decimal x.below (number q))

-- ---- a row's fields
-- what stands after the first space
after_space : (a t : List ℕ) → Free space_byte a → rest_of (a ++ (space_byte ∷ t)) ≡ t
unfolding until_of
after_space a t f =
    let e : until_of space_byte (a ++ (space_byte ∷ t)) + 1 ≡ length a + 1 = omega (arith, f.free (space_byte ∷ t)) in
    rw e (drop-append-add a (space_byte ∷ t) 1)

module _ (number : ℕ) (shown : Bool) (kind : Kind) (v : Value) (p : Result Hairline Refusal) where
  -- a row without its LF
  abbrev line_of : List ℕ
  line_of = decimal_text number ++ (space_byte ∷ (tick_text shown kind v ++ (space_byte ∷ mark_text p)))

  row_is : row_text number shown kind v p ≡ line_of ++ (line_feed ∷ [])
  row_is = simp append_assoc

  second_field : rest_of line_of ≡ tick_text shown kind v ++ (space_byte ∷ mark_text p)
  second_field =
      after_space (decimal_text number) (tick_text shown kind v ++ (space_byte ∷ mark_text p)) (free_decimal (omega arith) number)

-- ---- lines
module _ {c b : ℕ} {a : List ℕ} (f : Free c (b ∷ a)) where
  not_first : b ≡ c → ⊥
  unfolding until_of
  not_first e = let q : until_of c ((b ∷ a) ++ []) ≡ 0 = rw (eq-eqb b c e) in omega (arith, f.free [])

  free_rest : Free c a
  unfolding until_of
  free_rest = record { free = λ t. let q = rw (ne_eqb b c not_first) at (f.free t) in omega (arith, q) }

-- a text without LF, ended by LF, is the first line
first_line : (a t : List ℕ) → Free line_feed a → (lines_of (a ++ (line_feed ∷ t))).lines ≡ a ∷ (lines_of t).lines
unfolding lines_of
first_line [] t f = refl
first_line (b ∷ a) t f = rw (ne_eqb b line_feed (not_first f), first_line a t (free_rest f))

free_line : {c : ℕ} (number : ℕ) (shown : Bool) (kind : Kind) (v : Value) (p : Result Hairline Refusal) → Apart c →
    (space_byte ≡ c → ⊥) →
    Free c (line_of number shown kind v p)
free_line number shown kind v p x n =
    free_then (free_decimal x.below number)
    (free_then (free_one n) (free_then (free_tick x shown kind v) (free_then (free_one n) (free_mark x p))))

free_refusal : {c : ℕ} (n : ℕ) (q : Refusal) → Apart c → (space_byte ≡ c → ⊥) →
    Free c (decimal_text n ++ (space_byte ∷ minus_byte ∷ space_byte ∷ []) ++ mark_text (Err q))
free_refusal n q x s =
    free_then (free_then (free_decimal x.below n)
    (free_then (free_one s) (free_then (free_one x.minus) (free_one s)))) (free_mark x (Err q))

-- a refusal is one line
one_line : (n : ℕ) (q : Refusal) → AllDiffer (tick_texts (lines_of (refusal_text n q)).lines)
unfolding lines_of
one_line n q =
    let r = decimal_text n ++ (space_byte ∷ minus_byte ∷ space_byte ∷ []) ++ mark_text (Err q) in
    rw (first_line r [] (free_refusal n q feed (λ e. omega arith))) (tt, tt)

-- ---- the rows of a list, from place i on
module _ (number : ℕ) (q : Request) where
  abbrev list : List ℤ
  list = list_of q

  abbrev row_at : ℕ → List ℕ
  row_at i = tick_row number q.axis q.limits list i

  abbrev line_at : ℕ → List ℕ
  line_at i = line_of number (shows_fractions list) q.axis.kind (nth list i) (mapped q.axis q.limits (nth list i))

  abbrev text_at : ℕ → List ℕ
  text_at i = tick_text (shows_fractions list) q.axis.kind (nth list i)

  abbrev text_from : ℕ → ℕ → List ℕ
  text_from i zero = []
  text_from i (suc k) = row_at i ++ text_from (suc i) k

  abbrev lines_from : ℕ → ℕ → List (List ℕ)
  lines_from i zero = []
  lines_from i (suc k) = line_at i ∷ lines_from (suc i) k

  -- the text of the first i rows, and that of the k behind them
  all_text : (i k : ℕ) → ticks_text number q.axis q.limits list (i + k)
      ≡ ticks_text number q.axis q.limits list i ++ text_from i k
  unfolding ticks_text
  all_text i zero = let e : i + 0 ≡ i = omega arith in rw (e, append-nil)
  all_text i (suc k) =
      let e : i + suc k ≡ suc i + k = omega arith in
      rw e (all_text (suc i) k ∙ append_assoc (ticks_text number q.axis q.limits list i) (row_at i) (text_from (suc i) k))

  -- its lines are the rows without their LF
  lines_from_law : (i k : ℕ) → (lines_of (text_from i k)).lines ≡ lines_from i k
  unfolding lines_of
  lines_from_law i zero = refl
  lines_from_law i (suc k) =
      let v = nth list i in
      let p = mapped q.axis q.limits v in
      let s = shows_fractions list in
      let f = free_line number s q.axis.kind v p feed (λ e. omega arith) in
      rw (
        row_is number s q.axis.kind v p,
        append_assoc (line_at i) (line_feed ∷ []) (text_from (suc i) k),
        first_line (line_at i) (text_from (suc i) k) f,
        lines_from_law (suc i) k,
      )

  text_field : (i : ℕ) → field_of (rest_of (line_at i)) ≡ text_at i
  unfolding until_of
  text_field i =
      let v = nth list i in
      let p = mapped q.axis q.limits v in
      let s = shows_fractions list in
      rw (second_field number s q.axis.kind v p)
      (field_is (text_at i) (space_byte ∷ mark_text p) (free_tick space s q.axis.kind v) refl)

  apart : (i j : ℕ) → i < j → 2 * j < length list → field_of (rest_of (line_at i)) ≡ field_of (rest_of (line_at j)) → ⊥
  apart i j o l e =
      let s = shows_fractions list in
      let t : text_at i ≡ text_at j = sym (text_field i) ∙ e ∙ text_field j in
      not_same q i j o l
      (one_text s s q.axis.kind (nth list i) (nth list j) (shown q i (omega arith)) (shown q j l) t)

  not_in : (i j k : ℕ) → i < j → 2 * (j + k) ≤ length list → NotIn (field_of (rest_of (line_at i))) (tick_texts (lines_from j k))
  not_in i j zero o l = tt
  not_in i j (suc k) o l = (apart i j o (omega arith), not_in i (suc j) k (omega arith) (omega arith))

  all_differ : (i k : ℕ) → 2 * (i + k) ≤ length list → AllDiffer (tick_texts (lines_from i k))
  all_differ i zero l = tt
  all_differ i (suc k) l = (not_in i (suc i) k (omega arith) (omega arith), all_differ (suc i) k (omega arith))

  list_differs : AllDiffer (tick_texts (lines_of (list_text number q.axis q.limits list)).lines)
  unfolding ticks_text
  list_differs =
      let n = length list / 2 in
      let z : 0 + n ≡ n = omega arith in
      let e : ticks_text number q.axis q.limits list n ≡ text_from 0 n = rw z at (all_text 0 n) in
      rw (e, lines_from_law 0 n) (all_differ 0 n (omega arith))

  row_read : (i : ℕ) → 2 * i < length list → read_value q.axis.kind (rest_of (row_at i)) ≡ Some (nth list i)
  unfolding until_of
  row_read i l =
      let k = q.axis.kind in
      let v = nth list i in
      let p = mapped q.axis q.limits v in
      let s = shows_fractions list in
      let t = space_byte ∷ (mark_text p ++ (line_feed ∷ [])) in
      let row : row_at i ≡ decimal_text number ++ (space_byte ∷ (text_at i ++ t)) = simp append_assoc in
      let e = after_space (decimal_text number) (text_at i ++ t) (free_decimal (omega arith) number) in
      let b = tick_reads_back s k v t (shown q i l) refl in
      ap (read_value k) (ap rest_of row ∙ e) ∙ b

-- ---- the claims
pub row_reads_back : RowReadsBack
row_reads_back number q i l = row_read number q i l

pub rows_differ : RowsDiffer
unfolding rows_of request_text
rows_differ number s = of_line (read_line s)
  where
    of_list : (q : Request) (a : Result ℕ Refusal) → AllDiffer (tick_texts (lines_of (listed_text number q a)).lines)
    of_list q (Err r) = one_line number r
    of_list q (Ok c) = list_differs number q

    of_line : (l : Option Request) → AllDiffer (tick_texts (lines_of (line_text number l)).lines)
    of_line (Some q) = of_list q (ticks_answer q.axis (Bold q.hint) 8194)
    of_line None = one_line number refusal.Table
