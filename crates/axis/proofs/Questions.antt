-- What the tests of questions say in numbers that `omega` reads, and how the code asks 5. Assumes nothing.
use Rattle.std.specs.Prelude.{is_some}
use mathlib.Core.Path.{◌≡◌, refl, sym, ◌∙◌, ap}
use mathlib.Core.Logic.{inl, inr}
use mathlib.Core.Bool.{Bool, true, false, not, ◌&&◌, ◌||◌}
use Prim.Native.Nat.{◌≤◌}
use native.Mathlib.Omega.{arith}
use lib.IntN.{ℤ, pos, negsuc}
use lib.Signed.{lt_z, le_z}
use Rattle.laws.specs.Numbers.{pos_part, neg_part}
use Rattle.laws.proofs.Signed.{lt_true, lt_false, le_true, le_false, is_lt, is_ge}
use Rattle.laws.proofs.Tests.{both_true, either_false}
use Rattle.values.specs.declared.Kind.TheVariants.{Span}
use Rattle.values.specs.declared.Value.{Value}
use Rattle.values.specs.Values.{over_dates, is_duration, is_value, earlier}
use Rattle.values.specs.Differences.{nanoseconds, fits_i64, nanoseconds_of}
use Rattle.values.proofs.Numbers.{is_le, is_gt, within_true, not_below, bounded, either_true, not_both, agree, or_true, or_false}
use Rattle.values.proofs.Fits.{fits_is, fits_range}
use Rattle.values.proofs.Values.{DurationValue, duration_value, is_span}
use Rattle.values.proofs.Joining.{joint}
use Rattle.axis.specs.declared.Axis.{Axis}
use Rattle.axis.specs.declared.Limits.{Limits}
use Rattle.axis.specs.declared.BoldPoints.{BoldPoints}
use Rattle.axis.specs.declared.LightPoints.{LightPoints}
use Rattle.axis.specs.Axes.{span_of}
use Rattle.axis.proofs.Axes.{span_from_0}
use Rattle.axis.specs.Questions.{known, near_zero, near_or_long, ends, in_order, is_count, enough, bold_hint, light_hint}
use Rattle.axis.specs.Questions.{is_pixel, pixels, differ, unmap_pixels, is_index, fits_i32}

-- ---- 4: by the heads, and by the tails where the heads are one
module _ (a : Axis) where
  pub heads_apart : lt_z a.start.head a.end.head ≡ true → true ≡ in_order a
  unfolding in_order earlier
  heads_apart e =
      let h = lt_true a.start.head a.end.head e in
      rw (is_ge a.end.head a.start.head (omega arith), is_gt a.end.head a.start.head h)

  pub heads_not_apart : lt_z a.start.head a.end.head ≡ false →
      le_z a.start.head a.end.head && le_z a.start.tail a.end.tail ≡ in_order a
  unfolding in_order earlier
  heads_not_apart e = go (le_z a.start.head a.end.head) (le_z a.start.tail a.end.tail) refl refl
    where
      after : le_z a.end.head a.start.head ≡ true
      after = is_le a.end.head a.start.head (lt_false a.start.head a.end.head e)

      go : (b t : Bool) → le_z a.start.head a.end.head ≡ b → le_z a.start.tail a.end.tail ≡ t →
          b && t ≡ not (earlier a.end a.start)
      go true true h t = rw (
        after,
        is_ge a.end.head a.start.head (le_true a.start.head a.end.head h),
        is_ge a.end.tail a.start.tail (le_true a.start.tail a.end.tail t),
      )
      go true false h t = rw (
        after,
        is_ge a.end.head a.start.head (le_true a.start.head a.end.head h),
        is_lt a.end.tail a.start.tail (le_false a.start.tail a.end.tail t),
      )
      go false t h u = rw (is_lt a.end.head a.start.head (le_false a.start.head a.end.head h))

-- ---- 5: by seconds, and by nanoseconds only at the bound above
module _ (v : Value) (value : is_value Span v ≡ true) where
  abbrev h : ℤ
  h = v.head

  abbrev t : ℤ
  t = v.tail

  range : DurationValue v
  range = duration_value Span v value refl

  from_below : le_z (negsuc 3999999999) h ≡ le_z (negsuc 3999999999999999999) (nanoseconds Span v)
  unfolding nanoseconds
  from_below =
      let j = joint h t 1000000000 in
      let r = range in
      agree (le_z (negsuc 3999999999) h) (le_z (negsuc 3999999999999999999) (nanoseconds Span v))
      (λ e. is_le (negsuc 3999999999999999999) (nanoseconds Span v) (omega (arith, le_true (negsuc 3999999999) h e)))
      (λ e. is_gt (negsuc 3999999999999999999) (nanoseconds Span v) (omega (arith, le_false (negsuc 3999999999) h e)))

  from_above : lt_z h (pos 4000000000) || (le_z h (pos 4000000000) && le_z t (pos 0)) ≡ le_z (nanoseconds Span v)
      (pos 4000000000000000000)
  unfolding nanoseconds
  from_above =
      let j = joint h t 1000000000 in
      let r = range in
      let n = nanoseconds Span v in
      agree (lt_z h (pos 4000000000) || (le_z h (pos 4000000000) && le_z t (pos 0))) (le_z n (pos 4000000000000000000))
      (λ e. elim (either_true (lt_z h (pos 4000000000)) (le_z h (pos 4000000000) && le_z t (pos 0)) e) [
        | inl x ↦ is_le n (pos 4000000000000000000) (omega (arith, lt_true h (pos 4000000000) x))
        | inr y ↦ (let (x, z) = both_true (le_z h (pos 4000000000)) (le_z t (pos 0)) y in
            is_le n (pos 4000000000000000000) (omega (arith, le_true h (pos 4000000000) x, le_true t (pos 0) z)))
      ])
      (λ e. let (x, y) = either_false (lt_z h (pos 4000000000)) (le_z h (pos 4000000000) && le_z t (pos 0)) e in
      elim (not_both (le_z h (pos 4000000000)) (le_z t (pos 0)) y) [
        | inl z ↦ is_gt n (pos 4000000000000000000) (omega (arith, le_false h (pos 4000000000) z))
        | inr z ↦ is_gt n (pos 4000000000000000000) (omega (arith, lt_false h (pos 4000000000) x, le_false t (pos 0) z))
      ])

  pub near_by_seconds : le_z (negsuc 3999999999) h && (lt_z h (pos 4000000000) || (le_z h (pos 4000000000) && le_z t (pos 0)))
      ≡ near_zero v
  unfolding near_zero
  near_by_seconds = rw (from_below, from_above)

-- a span that is not below 0 is above 2^63 - 1 where it does not fit
long : (d : ℤ) → neg_part d ≡ 0 → not (fits_i64 d) ≡ lt_z (pos 9223372036854775807) d
long d z = rw (is_le (negsuc 9223372036854775807) d (omega arith)) (go (le_z d (pos 9223372036854775807)) refl)
  where
    go : (b : Bool) → le_z d (pos 9223372036854775807) ≡ b → not b ≡ lt_z (pos 9223372036854775807) d
    go true e = sym (is_ge (pos 9223372036854775807) d (omega (arith, le_true d (pos 9223372036854775807) e)))
    go false e = sym (is_lt (pos 9223372036854775807) d (omega (arith, le_false d (pos 9223372036854775807) e)))

module _ (a : Axis) where
  pub other_kind : is_duration a.kind ≡ false → true ≡ near_or_long a
  unfolding near_or_long
  other_kind e = rw e

  pub near_ends : near_zero a.start && near_zero a.end ≡ true → true ≡ near_or_long a
  unfolding near_or_long
  near_ends e = rw e (sym (or_true (not (is_duration a.kind))))

  pub far_ends : is_duration a.kind ≡ true → near_zero a.start && near_zero a.end ≡ false → ends a ≡ true →
      in_order a ≡ true → not (is_some (nanoseconds_of (span_of a))) ≡ near_or_long a
  unfolding near_or_long
  far_ends e n r o = rw (e, n, fits_is (span_of a)) (long (span_of a) (span_from_0 a r o))

  -- the kind is 7, so that its values are durations
  pub of_seven : (v : Value) → is_duration a.kind ≡ true → is_value a.kind v ≡ true → is_value Span v ≡ true
  of_seven v e f =
      rw (is_span a.kind e) at f

-- ---- what a yes says to a caller
-- 5: where the span fits, both ends are near zero
pub near_where_fits : (a : Axis) → is_duration a.kind ≡ true → near_or_long a ≡ true → fits_i64 (span_of a) ≡ true →
    (near_zero a.start ≡ true) × (near_zero a.end ≡ true)
unfolding near_or_long
near_where_fits a e q f =
    let n : lt_z (pos 9223372036854775807) (span_of a) ≡ false =
    is_ge (pos 9223372036854775807) (span_of a) (omega (arith, fits_range (span_of a) f)) in
    let r : (near_zero a.start && near_zero a.end) || false ≡ true = rw (e, n) at q in
    both_true (near_zero a.start) (near_zero a.end) (sym (or_false (near_zero a.start && near_zero a.end)) ∙ r)

pub near_range : (v : Value) → near_zero v ≡ true → (neg_part (nanoseconds Span v) ≤ 4000000000000000000)
    × (pos_part (nanoseconds Span v) ≤ 4000000000000000000)
unfolding near_zero
near_range v e =
    let n = nanoseconds Span v in
    let (a, b) = within_true (negsuc 3999999999999999999) n (pos 4000000000000000000) e in
    bounded n 4000000000000000000 4000000000000000000 (omega arith) (omega arith)

-- 6: counts, and N
count_range : (n : ℤ) → is_count n ≡ true → (neg_part n ≡ 0) × (pos_part n ≤ 4096)
count_range n e =
    let (a, b) = within_true (pos 0) n (pos 4096) e in
    let z : neg_part n ≡ 0 = not_below n (omega arith) in
    (z, omega arith)

pub record Hint (a : Axis) (n : ℤ) : Type 0 where
  pub none_below : neg_part n ≡ 0
  pub most : pos_part n ≤ 4096
  pub some : over_dates a.kind ≡ false → 1 ≤ pos_part n

hint : (a : Axis) (n : ℤ) → known a ≡ true → is_count n ≡ true → enough a n ≡ true → Hint a n
hint a n y c e = let (z, m) = count_range n c in record { none_below = z; most = m; some = λ k. some k (rw (y, k) at e) }
  where
    some : over_dates a.kind ≡ false → le_z (pos 1) n ≡ true → 1 ≤ pos_part n
    some k l = omega (arith, le_true (pos 1) n l)

pub bold_range : (a : Axis) (h : BoldPoints) → known a ≡ true → bold_hint a h ≡ true → Hint a h.n
unfolding bold_hint
bold_range a h y e = let (c, k) = both_true (is_count h.n) (enough a h.n) e in hint a h.n y c k

pub light_range : (a : Axis) (h : LightPoints) → known a ≡ true → light_hint a h ≡ true →
    Hint a h.n × (neg_part h.bold ≡ 0) × (pos_part h.bold ≤ 4096)
unfolding light_hint
light_range a h y e =
    let (b, r) = both_true (is_count h.bold) (is_count h.n && enough a h.n) e in
    let (c, k) = both_true (is_count h.n) (enough a h.n) r in
    let (z, m) = count_range h.bold b in
    (hint a h.n y c k, z, m)

-- 7: limits, a pixel, and different limits
pub pixel_range : (p : ℤ) → is_pixel p ≡ true → (neg_part p ≤ 32767) × (pos_part p ≤ 32767)
pixel_range p e = let (a, b) = within_true (negsuc 32766) p (pos 32767) e in bounded p 32767 32767 (omega arith) (omega arith)

pub unmap_parts : (l : Limits) (p : ℤ) → unmap_pixels l p ≡ true → (pixels l ≡ true) × (is_pixel p ≡ true) × (differ l ≡ true)
unfolding unmap_pixels
unmap_parts l p e =
    let (a, r) = both_true (pixels l) (is_pixel p && differ l) e in
    let (b, c) = both_true (is_pixel p) (differ l) r in
    (a, b, c)

pub differ_apart : (l : Limits) → differ l ≡ true → l.low ≡ l.high → ⊥
unfolding differ
differ_apart l e s =
    elim (either_true (lt_z l.low l.high) (lt_z l.high l.low) e) [
      | inl x ↦ omega (arith, lt_true l.low l.high x, ap pos_part s, ap neg_part s)
      | inr x ↦ omega (arith, lt_true l.high l.low x, ap pos_part s, ap neg_part s)
    ]

-- 8: an index
pub index_range : (i : ℤ) → is_index i ≡ true → (neg_part i ≡ 0) × (pos_part i ≤ 3652059)
index_range i e =
    let (a, b) = within_true (pos 0) i (pos 3652059) e in
    let z : neg_part i ≡ 0 = not_below i (omega arith) in
    (z, omega arith)

-- 10: a number that fits i32
pub i32_range : (n : ℤ) → fits_i32 n ≡ true → (neg_part n ≤ 2147483648) × (pos_part n ≤ 2147483647)
i32_range n e = let (a, b) = within_true (negsuc 2147483647) n (pos 2147483647) e in
    bounded n 2147483648 2147483647 (omega arith) (omega arith)
