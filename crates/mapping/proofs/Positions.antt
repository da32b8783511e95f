-- How far a pixel may be off, as mapping answers it. Assumes nothing.
use mathlib.Core.Path.{◌≡◌, refl, sym, ap, ◌∙◌, subst}
use mathlib.Core.Bool.{Bool, true, false, true≢false}
use Prim.Native.Nat.{ℕ, suc, ◌*◌, ◌/◌, ◌^◌, ◌≤◌, ◌<◌}
use native.Mathlib.Nat.{le_trans, lt_of_le_of_lt, mul_assoc, mul-le-mul, mul-le-mul_right, div-mul-le_self, mul-div_cancel}
use native.Mathlib.Decide.{dec_le}
use native.Mathlib.Omega.{arith}
use lib.Dec.{lit<, lit≤}
use lib.IntN.{ℤ, pos, nat_abs, ◌+ℤ◌, ◌-ℤ◌}
use lib.Pow.{pow_pos}
use lib.Ieee as ieee
use lib.Ieee.{binary64, of_int}
use lib.Ieee.Exact.{HasValue}
use Rattle.laws.specs.Numbers.{pos_part, neg_part}
use Rattle.laws.proofs.Signed.{add, sub, mul_up, pos_up, same}
use Rattle.asking.proofs.Asked.{told}
use Rattle.laws.proofs.Quotients.{below_next}
use Rattle.floats.specs.Rounding.{with_sign, quotient_of, cut}
use Rattle.floats.proofs.Values.{below_zero}
use Rattle.floats.proofs.Quotients.{cut_few}
use Rattle.floats.proofs.NearCuts.{unit, CutNear, near_cut, Within, within_apart, near_within, add_cut}
use Rattle.floats.proofs.Cuts.{quotient_units, cut_of, position_val, position_near, cut_is, between}
use Rattle.values.specs.declared.Value.{Value}
use Rattle.values.specs.Values.{over_dates, is_duration, Both}
use Rattle.values.specs.Differences.{nanoseconds, difference, fits_i64, whole_days}
use Rattle.values.proofs.Values.{dates_no_duration}
use Rattle.values.proofs.Differences.{days_near, whole_range, no_earlier_apart, later_apart, dates_apart}
use Rattle.values.proofs.Fits.{fits_yes, fits_range}
use Rattle.axis.specs.declared.Axis.{Axis}
use Rattle.axis.specs.declared.Limits.{Limits}
use Rattle.axis.specs.Axes.{span_of, offset_of}
use Rattle.axis.specs.Questions.{pixels, ends, value_on}
use Rattle.axis.proofs.Axes.{both_ends, with_value}
use Rattle.axis.proofs.PixelRanges.{limits_are, between_few}
use Rattle.mapping.specs.declared.Hairline.{Hairline}
use Rattle.std.specs.Prelude.{Ok}
use Rattle.mapping.specs.Mapping.{nudge, placed, map_questions, mapped}
use Rattle.mapping.specs.Position.{Inside, width, cut_position, WholePosition, days_position}
use Rattle.mapping.specs.Position.{WithinOne, CutOrNearer, HowFarOff}
use Rattle.mapping.proofs.SignedCuts.{quotient_is, one_apart, whole_between, cut_or_nearer}
use Rattle.mapping.proofs.WholeDays.{days_within}
use Rattle.mapping.proofs.Placing.{nudged, in_nanoseconds_law, in_whole_days}
use Rattle.mapping.proofs.Answers.{accepted}

-- ---- the cut of a float quotient, with the 1e-10 of kind 7 or without
nudge_is : HasValue nudge false 7737125245533627 (2 ^ 86)
unfolding nudge ieee.of_int ieee.div ieee.round ieee.units ieee.odd ieee.size ieee.climb ieee.span
nudge_is = (refl, refl)

abbrev pub cut_from : Bool → ℤ → ℤ → ℤ → ℤ
cut_from d z o t = cut (nudged d (quotient_of (of_int binary64 z) o (of_int binary64 t)))

-- o of t, in nanoseconds or in whole days, where the quotient is within five eighths of q / u
cut_from_law : (d : Bool) (z : ℤ) (o t q u : ℕ) → nat_abs z ≤ 65534 → 0 < t → o ≤ t → t ≤ 2 ^ 63 → 0 < u → q ≤ 65534 * u →
    Within q u (quotient_units (nat_abs z) o t) unit → CutNear (cut_from d z (pos o) (pos t)) (below_zero z) q u
cut_from_law false z o t q u W Tp O T Up few w =
    near_cut (quotient_of (of_int binary64 z) (pos o) (of_int binary64 (pos t))) (below_zero z) q u
    (quotient_units (nat_abs z) o t) few (position_val z o t W Tp O T)
    (within_apart q u (quotient_units (nat_abs z) o t) unit Up (pow_pos 1074) w)
cut_from_law true z o t q u W Tp O T Up few w =
    add_cut (quotient_of (of_int binary64 z) (pos o) (of_int binary64 (pos t))) nudge (below_zero z) q u
    (quotient_units (nat_abs z) o t) unit 7737125245533627 (2 ^ 86) Up few (pow_pos 1074) (pow_pos 86)
    (position_val z o t W Tp O T)
    nudge_is (lit≤ tt) w

-- ---- offset and span, where the value lies from start to end
pub record Sizes (a : Axis) (v : Value) : Type 0 where
  pub o : ℕ
  pub t : ℕ
  pub offset_is : offset_of a v ≡ pos o
  pub span_is : span_of a ≡ pos t
  pub some : 0 < t
  pub inside : o ≤ t

sizes : (a : Axis) (v : Value) → Inside a v → ends a ≡ true → value_on a v ≡ true → Sizes a v
unfolding offset_of span_of value_on difference
sizes a v i e f =
    let both = both_ends a e in
    let k = a.kind in
    let first = with_value a e v f in
    let last : Both k v a.end = record { first = f; second = both.second } in
    let (zt, st) = later_apart k a.start a.end both i.some_span in
    let zo = no_earlier_apart k a.start v first i.from_start in
    let zr = no_earlier_apart k v a.end last i.to_end in
    let s = nanoseconds k a.start in
    let u = nanoseconds k a.end in
    let x = nanoseconds k v in
    record {
      o = pos_part (offset_of a v);
      t = pos_part (span_of a);
      offset_is = sym (pos_up (offset_of a v) zo);
      span_is = sym (pos_up (span_of a) zt);
      some = st;
      inside = omega (arith, sub x s, sub u s, sub u x);
    }

-- the days of a span
days_most : (a : Axis) → ends a ≡ true → (t : ℕ) → span_of a ≡ pos t → t / 86400000000000 ≤ 7305000
unfolding span_of
days_most a e t is = omega (
  arith,
  (whole_range a.kind a.start a.end (both_ends a e)).1,
  ap (λ (x : ℤ). pos_part (whole_days x)) is,
)

beyond : (x : ℤ) (n : ℕ) → x ≡ pos n → fits_i64 x ≡ false → 9223372036854775807 < n
beyond x n e f = elim (dec_le n 9223372036854775807) [
  | no h ↦ omega arith
  | yes h ↦ absurd (true≢false (sym (fits_yes (pos n) h (omega arith)) ∙ ap fits_i64 (sym e) ∙ f))
]

pub low_off : (l x p : ℤ) → l +ℤ x ≡ p → p -ℤ l ≡ x
low_off l x p e = same (p -ℤ l) x (omega (arith, add l x, sub p l, ap pos_part e, ap neg_part e))

pub width_few : (l : Limits) → pixels l ≡ true → nat_abs (width l) ≤ 65534
width_few l page = let (low, high) = limits_are l page in between_few l.high l.low high low

-- from units to nanoseconds
in_units : (w o t n D c F : ℕ) → w * o ≡ n * c → t ≡ D * c → (F * D ≤ n) × (n ≤ suc F * D) →
    (F * t ≤ w * o) × (w * o ≤ suc F * t)
in_units w o t n D c F e f (x, y) = rw (e, f) (above (mul-le-mul_right c x), below (mul-le-mul_right c y))
  where
    above : F * D * c ≤ n * c → F * (D * c) ≤ n * c
    above h = omega arith

    below : n * c ≤ suc F * D * c → n * c ≤ suc F * (D * c)
    below h = omega arith

-- the days from the start to a date
abbrev pub days_to : Axis → Value → ℕ
days_to a v = pos_part (v.head -ℤ a.start.head)

-- a date's position n: a cut with the sign of the width, between whole numbers
pub record DateCut (a : Axis) (l : Limits) (v : Value) (n : ℤ) : Type 0 where
  pub cut : ℕ
  pub is : n ≡ with_sign (below_zero (width l)) cut
  pub between : (cut * days_to a a.end ≤ nat_abs (width l) * days_to a v)
      × (nat_abs (width l) * days_to a v ≤ suc cut * days_to a a.end)

-- ---- a value from start to end, its position being the pixel less low
module _ (a : Axis) (l : Limits) (v : Value) (e : ends a ≡ true) (value : value_on a v ≡ true) (page : pixels l ≡ true)
    (i : Inside a v) where
  abbrev position : ℤ
  position = placed a l v -ℤ l.low

  abbrev w : ℕ
  w = nat_abs (width l)

  abbrev s : Bool
  s = below_zero (width l)

  abbrev d : Bool
  d = is_duration a.kind

  W : w ≤ 65534
  W = width_few l page

  pub z : Sizes a v
  z = sizes a v i e value

  few : w * z.o ≤ 65534 * z.t
  few = mul-le-mul W z.inside

  -- in nanoseconds
  module _ (f : fits_i64 (span_of a) ≡ true) where
    T : z.t ≤ 9223372036854775807
    T = omega (arith, (fits_range (span_of a) f).1, ap pos_part z.span_is)

    near_is : position ≡ cut_from d (width l) (pos z.o) (pos z.t)
    near_is =
        let g = ap fits_i64 z.offset_is ∙ fits_yes (pos z.o) (omega (arith, T, z.inside)) (omega arith) in
        low_off l.low _ _ (sym (in_nanoseconds_law a l v f g)) ∙ (λ i. cut_from d (width l) (z.offset_is i) (z.span_is i))

    near_pixel : CutNear position s (w * z.o) z.t
    near_pixel =
        subst (λ (x : ℤ). CutNear x s (w * z.o) z.t) (sym near_is)
        (cut_from_law d (width l) z.o z.t (w * z.o) z.t W z.some z.inside (omega (arith, T)) z.some few
        (near_within (w * z.o) z.t (quotient_units w z.o z.t) unit few
        (position_near (width l) z.o z.t W z.some z.inside (omega (arith, T)))))

  -- in whole days
  module _ (f : fits_i64 (span_of a) ≡ false) where
    abbrev days : ℕ
    days = z.o / 86400000000000

    abbrev all : ℕ
    all = z.t / 86400000000000

    long : 106751 ≤ all
    long = omega (arith, beyond (span_of a) z.t z.span_is f)

    most : all ≤ 7305000
    most = days_most a e z.t z.span_is

    some : 0 < all
    some = omega (arith, long)

    inside : days ≤ all
    inside = omega (arith, z.inside)

    far_is : position ≡ cut_from d (width l) (pos days) (pos all)
    far_is = low_off l.low _ _ (sym (in_whole_days a l v f))
        ∙ (λ i. cut_from d (width l) (whole_days (z.offset_is i)) (whole_days (z.span_is i)))

    far_pixel : CutNear position s (w * z.o) z.t
    far_pixel =
        subst (λ (x : ℤ). CutNear x s (w * z.o) z.t) (sym far_is)
        (cut_from_law d (width l) days all (w * z.o) z.t W some inside (omega (arith, most)) z.some few
        (days_within w z.o z.t 86400000000000 (quotient_units w days all) unit (lit< tt) z.inside W long
        (position_near (width l) days all W some inside (omega (arith, most)))))

    -- on all kinds but 7 the whole-number quotient of these, cut
    far_exact : d ≡ false → position ≡ with_sign s (w * days / all)
    far_exact other = far_is ∙ ap (λ (b : Bool). cut_from b (width l) (pos days) (pos all)) other
        ∙ cut_few (width l) days all W inside some (omega (arith, most))

    pub in_days : d ≡ false → position ≡ days_position a l v
    unfolding days_position
    in_days other = far_exact other ∙ sym (rw (z.offset_is, z.span_is) (quotient_is (width l) days all))

  -- in either
  pub pixel_cut : CutNear position s (w * z.o) z.t
  pixel_cut = go (fits_i64 (span_of a)) refl
    where
      go : (b : Bool) → fits_i64 (span_of a) ≡ b → CutNear position s (w * z.o) z.t
      go true f = near_pixel f
      go false f = far_pixel f

  pub within_one : WithinOne a l v (placed a l v)
  unfolding cut_position
  within_one = let c = pixel_cut in
      rw (c.is, z.offset_is, z.span_is) (one_apart (width l) z.o z.t c.cut z.some c.less c.more)

  -- a cut between whole numbers is the exact one, or one nearer where that is whole
  from_sizes : (f : ℕ) → position ≡ with_sign s f → (f * z.t ≤ w * z.o) × (w * z.o ≤ suc f * z.t) →
      CutOrNearer a l v (placed a l v)
  unfolding cut_position
  from_sizes f is b = rw (is, z.offset_is, z.span_is) (cut_or_nearer (width l) z.o z.t f z.some b)

  pub at_whole : WholePosition a l v → CutOrNearer a l v (placed a l v)
  unfolding cut_position
  at_whole whole = let c = pixel_cut in
      from_sizes c.cut c.is
      (whole_between (width l) z.o z.t c.cut z.some c.less c.more (rw (z.offset_is, z.span_is) at whole))

  -- ---- a date
  module _ (dates : over_dates a.kind ≡ true) where
    no_duration : d ≡ false
    no_duration = dates_no_duration a.kind dates

    offset_days : z.o ≡ days_to a v * 86400000000000
    unfolding offset_of
    offset_days =
        sym (ap pos_part z.offset_is) ∙ ap pos_part (dates_apart a.kind a.start v (with_value a e v value) dates)
        ∙ mul_up (v.head -ℤ a.start.head) 86400000000000

    span_days : z.t ≡ days_to a a.end * 86400000000000
    unfolding span_of
    span_days =
        sym (ap pos_part z.span_is) ∙ ap pos_part (dates_apart a.kind a.start a.end (both_ends a e) dates)
        ∙ mul_up (a.end.head -ℤ a.start.head) 86400000000000

    product_days : w * z.o ≡ w * days_to a v * 86400000000000
    product_days = ap (λ (x : ℕ). w * x) offset_days ∙ sym (mul_assoc w (days_to a v) 86400000000000)

    few_days : w * days_to a v < 2 ^ 50
    few_days =
        let most = (days_near a.kind a.start a.end (both_ends a e) no_duration).heads_up in
        let in_span : days_to a v ≤ days_to a a.end = omega (arith, z.inside, offset_days, span_days) in
        lt_of_le_of_lt (mul-le-mul W (le_trans in_span most)) (lit< tt)

    pub date_cut : DateCut a l v position
    date_cut = go (fits_i64 (span_of a)) refl
      where
        go : (b : Bool) → fits_i64 (span_of a) ≡ b → DateCut a l v position
        go true f =
            let T : z.t ≤ 2 ^ 63 = omega (arith, (fits_range (span_of a) f).1, ap pos_part z.span_is) in
            record {
              cut = cut_of w z.o z.t;
              is = near_is f ∙ ap (λ (b : Bool). cut_from b (width l) (pos z.o) (pos z.t)) no_duration
                  ∙ cut_is (width l) z.o z.t W z.some z.inside T;
              between = between (width l) z.o z.t W z.some z.inside T (w * days_to a v) (days_to a a.end)
                  86400000000000 product_days span_days (lit< tt) few_days;
            }
        go false f =
            let m = days_to a v in
            let D = days_to a a.end in
            let x : z.o / 86400000000000 ≡ m = rw offset_days (mul-div_cancel m (lit< tt)) in
            let y : z.t / 86400000000000 ≡ D = rw span_days (mul-div_cancel D (lit< tt)) in
            let some : 0 < D = omega (arith, z.some, span_days) in
            record {
              cut = w * m / D;
              is = far_exact f no_duration ∙ (λ i. with_sign s (w * x i / y i));
              between = (div-mul-le_self (w * m) D, omega (arith, below_next (w * m) D some));
            }

    pub on_dates : CutOrNearer a l v (placed a l v)
    on_dates = let c = date_cut in
        from_sizes c.cut c.is (in_units w z.o z.t (w * days_to a v) (days_to a a.end) 86400000000000 c.cut
        product_days span_days c.between)

-- THE THEOREM, of every pixel that mapping answers
pub how_far_off : (a : Axis) (l : Limits) (v : Value) (h : Hairline) → mapped a l v ≡ Ok h → HowFarOff a l v h.pixel
how_far_off a l v h m =
    let (none, is) = accepted a l v h m in
    let row = map_questions a l v in
    let e = told 3 row none in
    let value = told 8 row none in
    let page = told 7 row none in
    subst (HowFarOff a l v) is (record {
      one_off = λ i. within_one a l v e value page i;
      if_whole = λ i whole. at_whole a l v e value page i whole;
      in_days = λ other i f. in_days a l v e value page i f other;
      on_dates = λ dates i. on_dates a l v e value page i dates;
    })
