-- A tick's text reads back to that tick, on every kind, with a fraction and without. Assumes nothing.
use mathlib.Core.Path.{◌≡◌, refl, sym, ◌∙◌, ap}
use mathlib.Core.Bool.{Bool, true, false, cond}
use mathlib.Core.List.{List, [], ◌++◌}
use mathlib.Core.Logic.{inl, inr}
use Prim.Native.Nat.{ℕ, suc, ◌+◌, ◌*◌, ◌-◌, ◌/◌, ◌%◌, ◌^◌, ◌<◌}
use native.Mathlib.Decide.{dec_le}
use native.Mathlib.Nat.{mul-add-mod_self_right}
use native.Mathlib.Omega.{arith}
use lib.Dec.{eqb}
use lib.IntN.{ℤ, pos, nat_abs}
use lib.Signed.{lt_z}
use borrow.Author.Tests.{eq-eqb, ne_eqb, eqb-true, not-false}
use Rattle.laws.specs.Numbers.{minus, pos_part, neg_part}
use Rattle.laws.specs.Units.{per_second}
use Rattle.laws.proofs.Signed.{same, lt_true, lt_false, is_lt, is_ge, one_is_zero, abs, pos_up, minus_dn, minus_parts}
use Rattle.values.specs.declared.Kind.TheVariants.{Span}
use Rattle.values.specs.declared.Kind.{Kind}
use Rattle.values.specs.declared.Value.{Value}
use Rattle.values.specs.Values.{over_dates, over_date_times, is_duration}
use Rattle.values.specs.Differences.{nanoseconds}
use Rattle.values.proofs.Numbers.{not_below, not_above}
use Rattle.values.proofs.Values.{dates_no_times, dates_no_duration, times_no_duration, duration_no_times, by_form}
use Rattle.values.proofs.Values.{DurationValue, date_value, day_value, duration_value}
use Rattle.values.proofs.Joining.{joint}
use Rattle.calendar.specs.Gregorian.{date_of}
use Rattle.text_read.specs.Bytes.{space_byte}
use Rattle.text_read.specs.Fields.{until_of, read_date, read_stamp, read_span}
use Rattle.std.specs.Prelude.{Option, Some}
use Rattle.text_line.specs.Line.{stamp_value, below_zero, span_value, of_date, of_stamp, of_span, read_value}
use Rattle.text_write.specs.Texts.{date_text, date_time_text, span_text}
use Rattle.text_write.specs.Rows.{tick_text}
use Rattle.text_rows.specs.Answers.{has_fraction}
use Rattle.readback.specs.Claims.{Shown, TickReadsBack, OneText, SpanCounts}
use Rattle.readback.proofs.Forms.{of_day, ymd_read, stamp_read, is_time_law, second_is, above_read, below_read}

-- ---- by kind
module _ (kind : Kind) (s : List ℕ) where
  value_date : over_dates kind ≡ true → read_value kind s ≡ of_date (read_date s)
  unfolding read_value
  value_date h = rw (dates_no_times kind h, dates_no_duration kind h)

  value_stamp : over_date_times kind ≡ true → read_value kind s ≡ of_stamp (read_stamp s)
  unfolding read_value
  value_stamp h = rw h

  value_span : is_duration kind ≡ true → read_value kind s ≡ of_span (read_span s)
  unfolding read_value
  value_span h = rw (duration_no_times kind h, h)

module _ (shown : Bool) (kind : Kind) (v : Value) where
  text_date : over_dates kind ≡ true → tick_text shown kind v ≡ date_text (pos_part v.head)
  unfolding tick_text
  text_date h = rw (dates_no_times kind h, dates_no_duration kind h)

  text_stamp : over_date_times kind ≡ true → tick_text shown kind v ≡ date_time_text shown (pos_part v.head) (pos_part v.tail)
  unfolding tick_text
  text_stamp h = rw h

  text_span : is_duration kind ≡ true → tick_text shown kind v ≡ span_text shown (nanoseconds Span v)
  unfolding tick_text
  text_span h = rw (duration_no_times kind h, h)

-- ---- a value from its numbers
same_value : (v w : Value) → v.head ≡ w.head → v.tail ≡ w.tail → v ≡ w
same_value v w p q = λ i. record { head = p i; tail = q i }

pub no_fraction : (v : Value) → has_fraction v ≡ false → pos_part v.tail % per_second ≡ 0
no_fraction v e = eqb-true _ _ (not-false (eqb (pos_part v.tail % per_second) 0) e)

-- ---- a span's seconds and fraction, away from zero, are the value's own
seconds : (x m : ℕ) → x ≡ m * per_second + 0 → x % per_second ≡ 0
seconds x m e = ap (λ (n : ℕ). n % per_second) e ∙ mul-add-mod_self_right m per_second 0

module _ (v : Value) (d : DurationValue v) where
  abbrev t : ℤ
  t = nanoseconds Span v

  abbrev n : ℕ
  n = nat_abs t / per_second

  abbrev q : ℕ
  q = nat_abs t % per_second

  few : n < 10 ^ 12
  unfolding nanoseconds
  few =
      let j = joint v.head v.tail per_second in
      elim (one_is_zero t) [ inl z ↦ omega (arith, abs t, d) | inr z ↦ omega (arith, abs t, d) ]

  whole : has_fraction v ≡ false → q ≡ 0
  unfolding nanoseconds
  whole e =
      let j = joint v.head v.tail per_second in
      let f : pos_part v.tail ≡ 0 = omega (arith, no_fraction v e, d) in
      elim (one_is_zero t) [
        | inl z ↦
            let h = not_above v.head (omega (arith, d)) in
            seconds (nat_abs t) (neg_part v.head) (omega (arith, abs t, d))
        | inr z ↦
            let h = not_below v.head (omega (arith, d)) in
            seconds (nat_abs t) (pos_part v.head) (omega (arith, abs t, d))
      ]

  above : lt_z t (pos 0) ≡ false → span_value (record { below = false; seconds = n; nano = q }) ≡ v
  unfolding span_value nanoseconds
  above e =
      let j = joint v.head v.tail per_second in
      let z = not_below t (omega (arith, lt_false t (pos 0) e)) in
      let h = not_below v.head (omega (arith, d)) in
      let a : n ≡ pos_part v.head = omega (arith, abs t, d) in
      let b : q ≡ pos_part v.tail = omega (arith, abs t, d) in
      same_value (record { head = pos n; tail = pos q }) v (rw a (pos_up v.head h)) (rw b (pos_up v.tail d.tail_dn))

  below : lt_z t (pos 0) ≡ true → span_value (record { below = true; seconds = n; nano = q }) ≡ v
  unfolding span_value nanoseconds
  below e =
      let j = joint v.head v.tail per_second in
      let z = not_above t (omega (arith, lt_true t (pos 0) e)) in
      let h = not_above v.head (omega (arith, d)) in
      elim (dec_le q 0) [
        | yes l ↦
            let a : neg_part v.head ≡ n = omega (arith, abs t, d) in
            let b : pos_part v.tail ≡ 0 = omega (arith, abs t, d) in
            rw (eq-eqb q 0 (omega arith))
            (same_value (record { head = minus n; tail = pos 0 }) v (ap minus (sym a) ∙ minus_dn v.head h)
            (rw b at (pos_up v.tail d.tail_dn)))
        | no l ↦
            let a : neg_part v.head ≡ suc n = omega (arith, abs t, d) in
            let b : per_second - q ≡ pos_part v.tail = omega (arith, abs t, d) in
            rw (ne_eqb q 0 (λ y. omega arith))
            (same_value (record { head = minus (suc n); tail = pos (per_second - q) }) v (ap minus (sym a) ∙ minus_dn v.head h)
            (rw b (pos_up v.tail d.tail_dn)))
      ]

-- ---- a tick
module _ (shown : Bool) (kind : Kind) (v : Value) (t : List ℕ) (x : Shown shown kind v) (e : until_of space_byte t ≡ 0) where
  dates : over_dates kind ≡ true → read_value kind (tick_text shown kind v ++ t) ≡ Some v
  dates h =
      let d = date_value kind v x.is h in
      let n = pos_part v.head in
      let o = of_day n d.head_least d.head_most in
      value_date kind (tick_text shown kind v ++ t) h
      ∙ rw (text_date shown kind v h, ymd_read (date_of n) t o.short e, o.value 0)
      (ap Some (same_value (record { head = pos n; tail = pos 0 }) v (pos_up v.head d.head_dn) (sym d.no_tail)))

  stamps : over_date_times kind ≡ true → read_value kind (tick_text shown kind v ++ t) ≡ Some v
  unfolding stamp_value
  stamps h =
      let d = day_value kind v x.is (times_no_duration kind h) in
      let n = pos_part v.head in
      let nano = pos_part v.tail in
      let s = nano / per_second in
      let o = of_day n d.head_least d.head_most in
      let whole : s * per_second + nano % per_second ≡ nano = omega arith in
      value_stamp kind (tick_text shown kind v ++ t) h
      ∙ rw (
        text_stamp shown kind v h,
        stamp_read shown n nano t o.short (omega (arith, d.tail_most)) (λ z. no_fraction v (x.whole z)) e,
        is_time_law n s (nano % per_second) (omega (arith, d.tail_most)),
        second_is s,
        whole,
        o.value nano,
      )
      (ap Some (same_value (record { head = pos n; tail = pos nano }) v (pos_up v.head d.head_dn)
      (pos_up v.tail d.tail_dn)))

  spans : is_duration kind ≡ true → read_value kind (tick_text shown kind v ++ t) ≡ Some v
  spans h =
      let d = duration_value kind v x.is h in
      let z = nanoseconds Span v in
      let n = nat_abs z / per_second in
      let q = nat_abs z % per_second in
      let w : shown ≡ false → q ≡ 0 = λ y. whole v d (x.whole y) in
      value_span kind (tick_text shown kind v ++ t) h
      ∙ rw (text_span shown kind v h)
      (elim (dec_le (pos_part z + 1) (neg_part z)) [
        | yes l ↦
            let b : lt_z z (pos 0) ≡ true = is_lt z (pos 0) (omega arith) in
            rw (b, below_read shown n q (few v d) (omega arith) w t e) (ap Some (below v d b))
        | no l ↦
            let b : lt_z z (pos 0) ≡ false = is_ge z (pos 0) (omega arith) in
            rw (b, above_read shown n q (few v d) (omega arith) w t e) (ap Some (above v d b))
      ])

pub tick_reads_back : TickReadsBack
tick_reads_back shown kind v t x e =
    by_form kind v x.is (λ h _. dates shown kind v t x e h) (λ h _. stamps shown kind v t x e h)
    (λ h _. spans shown kind v t x e h)

-- ---- no two look alike
one_value : (s : Option Value) (v w : Value) → s ≡ Some v → s ≡ Some w → v ≡ w
one_value s v w p q = cc

nothing : until_of space_byte [] ≡ 0
unfolding until_of
nothing = refl

pub one_text : OneText
one_text a b kind v w x y e =
    let p = tick_reads_back a kind v [] x nothing in
    let q = tick_reads_back b kind w [] y nothing in
    one_value (read_value kind (tick_text b kind w ++ [])) v w (rw e at p) q

-- ---- a span that is typed
module _ (n q : ℕ) (l : q < per_second) where
  abbrev counted : Value → ℤ
  counted v = nanoseconds Span v

  abbrev size : ℕ
  size = n * per_second + q

  counts_up : counted (record { head = pos n; tail = pos q }) ≡ pos size
  unfolding nanoseconds
  counts_up = same _ (pos size) (omega (arith, joint (pos n) (pos q) per_second))

  counts_down : counted (below_zero n q) ≡ minus size
  unfolding nanoseconds
  counts_down =
      elim (dec_le q 0) [
        | yes m ↦
            rw (eq-eqb q 0 (omega arith))
            (same _ (minus size) (omega (arith, joint (minus n) (pos 0) per_second, minus_parts n, minus_parts size)))
        | no m ↦
            rw (ne_eqb q 0 (λ z. omega arith))
            (same _ (minus size)
            (omega (arith, joint (minus (suc n)) (pos (per_second - q)) per_second, minus_parts (suc n), minus_parts size)))
      ]

pub span_counts : SpanCounts
unfolding span_value
span_counts p l = go p.below
  where
    go : (b : Bool) →
        nanoseconds Span (cond b (below_zero p.seconds p.nano) (record { head = pos p.seconds; tail = pos p.nano }))
        ≡ cond b (minus (p.seconds * per_second + p.nano)) (pos (p.seconds * per_second + p.nano))
    go true = counts_down p.seconds p.nano l
    go false = counts_up p.seconds p.nano l
