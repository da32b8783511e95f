-- How a pixel is drawn: by what the mapping divides, and of the start. Assumes nothing.
use mathlib.Core.Path.{◌≡◌, refl, sym, ap, ◌∙◌}
use mathlib.Core.Bool.{Bool, true, false, not, cond, ◌&&◌, ◌||◌}
use Prim.Native.Nat.{◌/◌, ◌≤◌}
use native.Mathlib.Omega.{arith}
use Rattle.std.specs.Prelude.{Option, Some, None}
use Rattle.std.specs.Option.{option_map}
use lib.Dec.{lit<}
use lib.IntN.{ℤ, pos, negsuc, nat_abs, ◌+ℤ◌}
use lib.Ieee.{Float, binary64, of_int}
use Rattle.laws.specs.Numbers.{is_number}
use Rattle.laws.proofs.Signed.{add, sub, same}
use Rattle.laws.proofs.Tests.{and_false}
use Rattle.floats.specs.Rounding.{with_sign, cut}
use Rattle.floats.specs.Losses.{lost_in}
use Rattle.floats.proofs.Values.{below_zero, int_val, signed_val, cut_signed, cut_within}
use Rattle.floats.proofs.Losses.{small_kept}
use Rattle.values.specs.declared.Value.{Value}
use Rattle.values.specs.Values.{is_duration}
use Rattle.values.specs.Differences.{fits_i64, nanoseconds_of, whole_days}
use Rattle.values.proofs.Differences.{whole_range}
use Rattle.values.proofs.Fits.{answer_none, answer_some}
use Rattle.axis.specs.declared.Axis.{Axis}
use Rattle.axis.specs.declared.Limits.{Limits}
use Rattle.axis.specs.Axes.{span_of, offset_of}
use Rattle.axis.specs.Questions.{ends, pixels, value_on}
use Rattle.axis.proofs.Axes.{both_ends, with_value}
use Rattle.axis.proofs.PixelRanges.{limits_are, between_few}
use Rattle.mapping.specs.Position.{width}
use Rattle.mapping.specs.declared.Span.{Span}
use Rattle.mapping.specs.declared.Ratio.{Ratio}
use Rattle.mapping.specs.Hairlines.{on_pixel, in_nanoseconds, divides_nothing, exact_at, lost_at, hairline_at}
use Rattle.mapping.specs.Mapping.{with_total, ScaleFor, in_nanos, hairline_from}
use Rattle.mapping.proofs.Ranges.{few}

-- ---- nothing is lost in whole days
module _ (a : Axis) (v : Value) (e : ends a ≡ true) (value : value_on a v ≡ true) where
  pub days_kept : lost_in (whole_days (offset_of a v)) || lost_in (whole_days (span_of a)) ≡ false
  unfolding offset_of span_of
  days_kept = rw (
    small_kept (whole_days (offset_of a v))
        (few (whole_days (offset_of a v)) (whole_range a.kind a.start v (with_value a e v value))),
    small_kept (whole_days (span_of a)) (few (whole_days (span_of a)) (whole_range a.kind a.start a.end (both_ends a e))),
  ) refl

-- ---- by what is divided
module _ (a : Axis) (l : Limits) (v : Value) (p : ℤ) where
  pub near_is : in_nanoseconds a v ≡ true → hairline_at a l v p ≡ record {
    pixel = p;
    exact = on_pixel l (offset_of a v) (span_of a) p;
    lost = lost_in (offset_of a v) || lost_in (span_of a);
  }
  unfolding exact_at lost_at
  near_is f = rw f refl

  pub nothing_is : in_nanoseconds a v ≡ false → divides_nothing a ≡ true → hairline_at a l v p ≡ record {
    pixel = p;
    exact = false;
    lost = false;
  }
  unfolding exact_at lost_at
  nothing_is f g = rw (f, g) refl

  pub days_is : in_nanoseconds a v ≡ false → divides_nothing a ≡ false → hairline_at a l v p ≡ record {
    pixel = p;
    exact = not (is_number (whole_days (span_of a)) 0) && on_pixel l (whole_days (offset_of a v)) (whole_days (span_of a)) p;
    lost = lost_in (whole_days (offset_of a v)) || lost_in (whole_days (span_of a));
  }
  unfolding exact_at lost_at
  days_is f g = rw (f, g) refl

-- ---- by a ready scale
module _ {a : Axis} {l : Limits} {w : Float} {s : Option Span} (r : ScaleFor a l w s) where
  pub span_none : s ≡ None → fits_i64 (span_of a) ≡ false
  span_none f = by (nanoseconds_of (span_of a)) refl (sym r.spans ∙ f)
    where
      by : (n : Option ℤ) → n ≡ nanoseconds_of (span_of a) → option_map with_total n ≡ None → fits_i64 (span_of a) ≡ false
      by None e f = answer_none (span_of a) None e refl
      by (Some n) e f = absurd (let z : ⊥ = cc in z)

  pub span_some : (t : Span) → s ≡ Some t → (fits_i64 (span_of a) ≡ true) × (t ≡ with_total (span_of a))
  span_some t f = by (nanoseconds_of (span_of a)) refl (sym r.spans ∙ f)
    where
      by : (n : Option ℤ) → n ≡ nanoseconds_of (span_of a) → option_map with_total n ≡ Some t →
          (fits_i64 (span_of a) ≡ true) × (t ≡ with_total (span_of a))
      by None e f = absurd (let z : ⊥ = cc in z)
      by (Some n) e f =
          let (k, m) = answer_some (span_of a) (Some n) e n refl in
          let z : with_total n ≡ t = cc in
          (k, sym z ∙ ap with_total m)

  -- what is divided in nanoseconds, by the scale's span and an offset as the code has them
  pub nanos_are : (v : Value) (o : ℤ) (t : Span) → o ≡ offset_of a v → t ≡ with_total (span_of a) →
      in_nanos w o t ≡ in_nanos (of_int binary64 (width l)) (offset_of a v) (with_total (span_of a))
  nanos_are v o t offset span = λ i. in_nanos (r.wide i) (offset i) (span i)

-- ---- the hairline of what was divided
module _ (a : Axis) (l : Limits) (v : Value) (x : Float) where
  pub near_from : in_nanoseconds a v ≡ true →
      hairline_from l (record { x = x; ratio = Some (record { offset = offset_of a v; span = span_of a }) })
      ≡ hairline_at a l v (l.low +ℤ cut x)
  near_from f = sym (near_is a l v (l.low +ℤ cut x) f)

  abbrev days_ratio : Bool → Option Ratio
  days_ratio b = cond b None (Some (record { offset = whole_days (offset_of a v); span = whole_days (span_of a) }))

  pub days_from : in_nanoseconds a v ≡ false → divides_nothing a ≡ false → ends a ≡ true → value_on a v ≡ true →
      hairline_from l (record { x = x; ratio = days_ratio (is_number (whole_days (span_of a)) 0) })
      ≡ hairline_at a l v (l.low +ℤ cut x)
  days_from f g e value = by (is_number (whole_days (span_of a)) 0) ∙ sym (days_is a l v p f g)
    where
      p : ℤ
      p = l.low +ℤ cut x

      by : (b : Bool) → hairline_from l (record { x = x; ratio = days_ratio b }) ≡ record {
        pixel = p;
        exact = not b && on_pixel l (whole_days (offset_of a v)) (whole_days (span_of a)) p;
        lost = lost_in (whole_days (offset_of a v)) || lost_in (whole_days (span_of a));
      }
      by true = λ i. record { pixel = p; exact = false; lost = sym (days_kept a v e value) i }
      by false = refl

-- a mapping that does not divide nanoseconds divides days: on all kinds but 7, and on 7 where the span does not fit
pub days_of : (a : Axis) → is_duration a.kind ≡ false → divides_nothing a ≡ false
days_of a d = ap (λ (b : Bool). b && fits_i64 (span_of a)) d

pub far_days : (a : Axis) (v : Value) → fits_i64 (span_of a) ≡ false → (in_nanoseconds a v ≡ false) × (divides_nothing a ≡ false)
far_days a v f =
    let d = is_duration a.kind in
    (ap (λ (b : Bool). b && fits_i64 (offset_of a v)) f, ap (λ (b : Bool). d && b) f ∙ and_false d)

-- a width, cut, leads from the low limit to the high one
pub at_high : (l : Limits) → pixels l ≡ true → l.low +ℤ cut (of_int binary64 (width l)) ≡ l.high
at_high l page =
    let w = width l in
    let few : nat_abs w ≤ 65534 = let (low, high) = limits_are l page in between_few l.high l.low high low in
    let one : nat_abs w / 1 ≡ nat_abs w = omega arith in
    let is : cut (of_int binary64 w) ≡ w =
    signed_val 31 (of_int binary64 w) (below_zero w) (nat_abs w) 1 (lit< tt) (int_val binary64 w (omega arith))
    ∙ ap (cut_signed 31 (below_zero w)) one ∙ cut_within 31 (below_zero w) (nat_abs w) (omega arith) ∙ with_sign_law w in
    ap (λ (z : ℤ). l.low +ℤ z) is ∙ same (l.low +ℤ w) l.high (omega (arith, add l.low w, sub l.high l.low))
  where
    with_sign_law : (z : ℤ) → with_sign (below_zero z) (nat_abs z) ≡ z
    with_sign_law (pos n) = refl
    with_sign_law (negsuc n) = refl

-- the high limit, where nothing is divided
pub nothing_from : (a : Axis) (l : Limits) (v : Value) → pixels l ≡ true → in_nanoseconds a v ≡ false → divides_nothing a ≡ true →
    hairline_from l (record { x = of_int binary64 (width l); ratio = None }) ≡ hairline_at a l v l.high
nothing_from a l v page f g =
    (λ i. record { pixel = at_high l page i; exact = false; lost = false }) ∙ sym (nothing_is a l v l.high f g)
