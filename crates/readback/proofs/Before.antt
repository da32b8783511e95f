-- A line without a point whose list has no fraction prints as it did before fractions were shown. Assumes nothing.
use mathlib.Core.Path.{◌≡◌, refl, ap, ◌∙◌, subst}
use mathlib.Core.Bool.{Bool, true, false, cond}
use mathlib.Core.List.{List, [], ◌∷◌, append-nil}
use Prim.Native.Nat.{ℕ, zero, suc, ◌+◌, ◌*◌, ◌/◌, ◌<◌, ◌≤◌}
use native.Mathlib.Decide.{dec_le}
use native.Mathlib.Omega.{arith}
use lib.Dec.{eqb}
use lib.IntN.{pos, nat_abs}
use lib.ListN.{length, take, drop, get_or, length-drop, drop_of_length-le}
use lib.Seq.{take_all, length-take-le}
use borrow.Author.Tests.{lt-ltb, le-ltb, eq-eqb, ne_eqb}
use Rattle.laws.specs.Numbers.{pos_part, neg_part}
use Rattle.laws.specs.Units.{per_second}
use Rattle.laws.proofs.Signed.{is_lt, is_ge, abs, from_zero}
use Rattle.values.specs.declared.Kind.TheVariants.{Span}
use Rattle.values.specs.declared.Kind.{Kind}
use Rattle.values.specs.declared.Value.{Value}
use Rattle.values.specs.Values.{is_duration}
use Rattle.values.specs.Differences.{nanoseconds}
use Rattle.values.proofs.Joining.{joint}
use Rattle.values.proofs.Numbers.{not_below, not_above}
use Rattle.values.proofs.Values.{dates_no_times, dates_no_duration, duration_no_times, by_form, duration_value}
use Rattle.axis.specs.declared.Hint.TheVariants.{Bold}
use Rattle.steps.specs.Promise.{nth}
use Rattle.std.specs.Prelude.{Option, Some, None, Result, Ok, Err}
use Rattle.std.specs.Option.{option_and_then}
use Rattle.asking.specs.declared.Refusal.{Refusal}
use Rattle.ticks.specs.Answers.{ticks_answer}
use Rattle.text_read.specs.Bytes.{space_byte, minus_byte, point_byte, t_byte}
use Rattle.text_read.specs.Fields.{until_of, field_of, digits_of, fraction_of, read_stamp, plus_of, minus_of, read_number}
use Rattle.text_read.specs.Fields.{span_read, seconds_of, read_span}
use Rattle.text_read.specs.Lines.{in_form, occurrences, fields_from}
use Rattle.text_read.proofs.Fields.{until_le, same_both, fraction_none, fraction_other, stamp_unread}
use Rattle.text_line.specs.declared.Request.{Request}
use Rattle.text_line.specs.Line.{kind_of, fields_of, span_value, of_span, read_value, read_line}
use Rattle.text_write.specs.Texts.{signed_text, span_text}
use Rattle.text_write.specs.Rows.{tick_text}
use Rattle.text_rows.specs.Answers.{list_of, shows_fractions, ticks_text, listed_text, request_text, line_text, rows_of}
use Rattle.readback.specs.Before.{stamp_before, of_seconds, value_before, fields_before, line_before, tick_before, ticks_before}
use Rattle.readback.specs.Before.{listed_before, answer_before, rows_before}
use Rattle.readback.specs.Claims.{Shown, list_in, AsBefore}
use Rattle.readback.proofs.Lists.{shown}
use Rattle.readback.proofs.ReadBack as read

-- ---- no point in a text, nor in its parts
abbrev NoPoint : List ℕ → Type 0
NoPoint s = occurrences point_byte s ≡ 0

module _ (b : ℕ) (s : List ℕ) (e : NoPoint (b ∷ s)) where
  other : b ≡ point_byte → ⊥
  unfolding occurrences
  other h = let q : occurrences point_byte (b ∷ s) ≡ suc (occurrences point_byte s) = rw (eq-eqb b point_byte h) in omega arith

  rest_none : NoPoint s
  unfolding occurrences
  rest_none = rw (ne_eqb b point_byte other) at e

drop_none : (k : ℕ) (s : List ℕ) → NoPoint s → NoPoint (drop k s)
drop_none zero s e = e
drop_none (suc k) [] e = e
drop_none (suc k) (b ∷ s) e = drop_none k s (rest_none b s e)

take_none : (k : ℕ) (s : List ℕ) → NoPoint s → NoPoint (take k s)
unfolding occurrences
take_none zero s e = refl
take_none (suc k) [] e = refl
take_none (suc k) (b ∷ s) e = rw (ne_eqb b point_byte (other b s e)) (take_none k s (rest_none b s e))

until_end : (s : List ℕ) → NoPoint s → until_of point_byte s ≡ length s
unfolding until_of
until_end [] e = refl
until_end (b ∷ s) e = rw (ne_eqb b point_byte (other b s e)) (ap suc (until_end s (rest_none b s e)))

no_fraction : (s : List ℕ) → NoPoint s → 0 < length s → fraction_of s ≡ None
no_fraction [] e h = absurd (let z : ⊥ = omega arith in z)
no_fraction (b ∷ s) e h = fraction_other (b ∷ s) (λ z. omega arith) (other b s e)

field_none : (s : List ℕ) → NoPoint s → NoPoint (field_of s)
field_none s e = take_none (until_of space_byte s) s e

-- ---- reading
module _ (s : List ℕ) (e : NoPoint s) where
  abbrev u : ℕ
  u = until_of space_byte s

  field_length : length (field_of s) ≡ u
  field_length = length-take-le u s (until_le space_byte s)

  stamps : read_stamp s ≡ stamp_before s
  unfolding read_stamp stamp_before
  stamps =
      elim (dec_le 19 u) [
        | yes l ↦
            elim (dec_le u 19) [
              | yes m ↦
                  let n : u ≡ 19 = omega arith in
                  let none : drop 19 (field_of s) ≡ [] = drop_of_length-le (field_of s) {i = 19} (omega (arith, field_length)) in
                  rw (le-ltb u 19 l, eq-eqb u 19 n, none, fraction_none [] refl)
              | no m ↦
                  let some : 0 < length (drop 19 (field_of s)) = simp length-drop (omega (arith, field_length)) in
                  rw (
                    le-ltb u 19 l,
                    ne_eqb u 19 (λ z. omega arith),
                    no_fraction (drop 19 (field_of s)) (drop_none 19 (field_of s) (field_none s e)) some,
                    stamp_unread,
                  ) (same_both (eqb (get_or s 10 0) t_byte) None)
            ]
        | no l ↦ rw (lt-ltb u 19 (omega arith), ne_eqb u 19 (λ z. omega arith))
      ]

  seconds_are : (below : Bool) (f : List ℕ) → NoPoint f → seconds_of below f ≡ span_read below (digits_of f) (Some 0)
  unfolding seconds_of
  seconds_are below f g =
      let m = until_end f g in
      rw (m, take_all (length f) f (omega arith), drop_of_length-le f {i = length f} (omega arith), fraction_none [] refl)

  spans : of_span (read_span s) ≡ of_seconds (read_number s)
  unfolding read_span read_number span_value
  spans = go (eqb (get_or s 0 0) minus_byte)
    where
      below : (w : Option ℕ) → of_span (span_read true w (Some 0)) ≡ of_seconds (minus_of w)
      below (Some n) = rw (from_zero n)
      below None = refl

      above : (w : Option ℕ) → of_span (span_read false w (Some 0)) ≡ of_seconds (plus_of w)
      above (Some n) = refl
      above None = refl

      f : List ℕ
      f = field_of s

      go : (b : Bool) → of_span (cond b (seconds_of true (drop 1 f)) (seconds_of false f))
          ≡ of_seconds (cond b (minus_of (digits_of (drop 1 f))) (plus_of (digits_of f)))
      go true = rw (seconds_are true (drop 1 f) (drop_none 1 f (field_none s e))) (below (digits_of (drop 1 f)))
      go false = rw (seconds_are false f (field_none s e)) (above (digits_of f))

  values : (kind : Kind) → read_value kind s ≡ value_before kind s
  unfolding read_value value_before
  values kind = rw (stamps, spans)

pub lines : (s : List ℕ) → NoPoint s → read_line s ≡ line_before s
unfolding read_line line_before
lines s e = ap (λ (r : Option Request). cond (in_form 5 s) r None) (by_kind (kind_of (field_of s)))
  where
    one : NoPoint (fields_from 1 s)
    one = drop_none (until_of space_byte s + 1) s e

    two : NoPoint (fields_from 2 s)
    two = drop_none (until_of space_byte (fields_from 1 s) + 1) (fields_from 1 s) one

    by_kind : (k : Option Kind) → option_and_then (λ k. fields_of k s) k ≡ option_and_then (λ k. fields_before k s) k
    by_kind None = refl
    by_kind (Some k) = rw (values (fields_from 1 s) one k, values (fields_from 2 s) two k)

-- ---- writing
module _ (kind : Kind) (v : Value) (x : Shown false kind v) where
  whole_seconds : is_duration kind ≡ true → span_text false (nanoseconds Span v) ≡ signed_text v.head
  unfolding nanoseconds
  whole_seconds h =
      let d = duration_value kind v x.is h in
      let f : pos_part v.tail ≡ 0 = omega (arith, read.no_fraction v (x.whole refl), d) in
      let j = joint v.head v.tail per_second in
      let t = nanoseconds Span v in
      elim (dec_le (pos_part v.head + 1) (neg_part v.head)) [
        | yes l ↦
            let a = not_above v.head (omega arith) in
            let b = not_above t (omega (arith, d)) in
            let n : nat_abs t / per_second ≡ nat_abs v.head = omega (arith, abs t, abs v.head, d) in
            rw (is_lt t (pos 0) (omega (arith, d)), is_lt v.head (pos 0) (omega arith), n) (append-nil _)
        | no l ↦
            let a = not_below v.head (omega arith) in
            let b = not_below t (omega (arith, d)) in
            let n : nat_abs t / per_second ≡ nat_abs v.head = omega (arith, abs t, abs v.head, d) in
            rw (is_ge t (pos 0) (omega (arith, d)), is_ge v.head (pos 0) (omega arith), n) (append-nil _)
      ]

  pub ticks : tick_text false kind v ≡ tick_before kind v
  unfolding tick_text tick_before
  ticks =
      by_form kind v x.is (λ h _. rw (dates_no_times kind h, dates_no_duration kind h))
      (λ h _. rw (h, append-nil)) (λ h _. rw (duration_no_times kind h, h) (whole_seconds h))

-- ---- a line's answer
module _ (number : ℕ) (q : Request) (z : shows_fractions (list_of q) ≡ false) where
  text : (i : ℕ) → 2 * i < length (list_of q) →
      tick_text (shows_fractions (list_of q)) q.axis.kind (nth (list_of q) i) ≡ tick_before q.axis.kind (nth (list_of q) i)
  text i l =
      let v = nth (list_of q) i in
      let k = q.axis.kind in
      let x = subst (λ (b : Bool). Shown b k v) z (shown q i l) in
      ap (λ (b : Bool). tick_text b k v) z ∙ ticks k v x

  rows : (k : ℕ) → 2 * k ≤ length (list_of q) →
      ticks_text number q.axis q.limits (list_of q) k ≡ ticks_before number q.axis q.limits (list_of q) k
  unfolding ticks_text ticks_before
  rows zero l = refl
  rows (suc k) l = rw (rows k (omega arith), text k (omega arith))

  requests : request_text number q ≡ answer_before number (Some q)
  unfolding request_text
  requests = go (ticks_answer q.axis (Bold q.hint) 8194)
    where
      go : (a : Result ℕ Refusal) → listed_text number q a ≡ listed_before number q a
      go (Err r) = refl
      go (Ok c) = rows (length (list_of q) / 2) (omega arith)

pub as_before : AsBefore
unfolding rows_of rows_before
as_before number s e z = rw (← lines s e) (go (read_line s) z)
  where
    go : (l : Option Request) → shows_fractions (list_in l) ≡ false → line_text number l ≡ answer_before number l
    go (Some q) z = requests number q z
    go None z = refl
