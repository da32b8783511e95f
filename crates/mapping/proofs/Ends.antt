-- The pixels of an axis's ends, of every kind: the start is on the low limit, the end on the high one or one short of it.
-- Assumes nothing.
use mathlib.Core.Path.{◌≡◌, refl, sym, ap, ◌∙◌}
use mathlib.Core.Logic.{◌⊎◌, inl, inr}
use mathlib.Core.Bool.{Bool, true, false, ◌||◌, false≢true}
use mathlib.Core.List.{List}
use Prim.Native.Nat.{ℕ, zero, suc, ◌+◌, ◌*◌, ◌≤◌, ◌<◌}
use native.Mathlib.Nat.{le_of_suc-le-suc, lt_of_mul-lt-mul_right, eq-or-lt_of_le, le_antisymm, mul-zero, zero-mul}
use native.Mathlib.Omega.{arith}
use lib.IntN.{ℤ, pos, negsuc, nat_abs, ◌+ℤ◌, ◌-ℤ◌}
use lib.Signed.{le_z}
use lib.Ieee as ieee
use lib.Ieee.{Float, nan, to_signed}
use borrow.Author.Tests.{not-true}
use Rattle.laws.specs.Numbers.{minus, pos_part, neg_part}
use Rattle.asking.specs.Asking.{Question, passes}
use Rattle.laws.proofs.Signed.{add, sub, neg_up, neg_dn, same, one_is_zero, is_ge}
use Rattle.laws.proofs.Tests.{and_false}
use Rattle.asking.proofs.Asked.{told}
use Rattle.floats.specs.Rounding.{with_sign, cut}
use Rattle.floats.proofs.Values.{below_zero}
use Rattle.floats.proofs.Quotients.{zero_by_zero}
use Rattle.floats.proofs.NearCuts.{CutNear}
use Rattle.values.specs.declared.Value.{Value}
use Rattle.values.specs.Values.{is_duration, earlier}
use Rattle.values.specs.Differences.{nanoseconds, difference, fits_i64}
use Rattle.values.proofs.Differences.{no_earlier_apart}
use Rattle.values.proofs.Numbers.{is_le, bounded, or_true}
use Rattle.axis.specs.declared.Axis.{Axis}
use Rattle.axis.specs.declared.Limits.{Limits}
use Rattle.axis.specs.Axes.{span_of, offset_of}
use Rattle.axis.specs.Questions.{ends, in_order, is_pixel, pixels, value_on, mappable, fits_i32, equals}
use Rattle.axis.proofs.Axes.{both_ends, span_from_0}
use Rattle.axis.proofs.Questions.{pixel_range}
use Rattle.axis.proofs.PixelRanges.{limits_are}
use Rattle.std.specs.Prelude.{Ok}
use Rattle.mapping.specs.Hairlines.{hairline_at}
use Rattle.mapping.specs.Mapping.{placed, hairline, scale_questions, mapped, mapped_by, answered_at}
use Rattle.mapping.specs.Position.{Inside, width, one_nearer}
use Rattle.mapping.proofs.Answers.{in_parts, behind}
use Rattle.mapping.proofs.SignedCuts.{nearer}
use Rattle.mapping.proofs.Placing.{nudged, in_nanoseconds_law}
use Rattle.mapping.proofs.Positions.{cut_from, low_off, width_few, z, pixel_cut}

-- ---- the ends lie in the span
itself : (v : Value) → earlier v v ≡ false
unfolding earlier
itself v = rw (is_ge v.head v.head (omega arith), is_ge v.tail v.tail (omega arith))
    (and_false (le_z v.head v.head))

module _ (a : Axis) (o : in_order a ≡ true) (some : earlier a.start a.end ≡ true) where
  ordered : earlier a.end a.start ≡ false
  unfolding in_order
  ordered = not-true (earlier a.end a.start) o

  start_inside : Inside a a.start
  start_inside = record { some_span = some; from_start = itself a.start; to_end = ordered }

  end_inside : Inside a a.end
  end_inside = record { some_span = some; from_start = ordered; to_end = itself a.end }

-- ---- a whole position k: the cut is k, or one less
at_most : (k q t f : ℕ) → q ≡ k * t → f * t < q + t → f ≤ k
at_most k q t f e l = le_of_suc-le-suc (lt_of_mul-lt-mul_right t (go l))
  where
    go : f * t < q + t → f * t < suc k * t
    go x = omega arith

at_least : (k q t f : ℕ) → q ≡ k * t → q < suc (suc f) * t → k ≤ suc f
at_least k q t f e l = le_of_suc-le-suc (lt_of_mul-lt-mul_right t (go l))
  where
    go : q < suc (suc f) * t → k * t < suc (suc f) * t
    go x = omega arith

-- at 0 it is 0
at_zero : (n : ℤ) (s : Bool) (q t : ℕ) → q ≡ 0 * t → CutNear n s q t → n ≡ pos 0
at_zero n s q t e c = c.is ∙ go s c.cut (at_most 0 q t c.cut e c.less)
  where
    go : (s : Bool) (f : ℕ) → f ≤ 0 → with_sign s f ≡ pos 0
    go true zero h = refl
    go false zero h = refl
    go s (suc f) h = absurd (let x : ⊥ = omega arith in x)

-- at the width it is the width or one nearer
at_width : (z n : ℤ) (q t : ℕ) → q ≡ nat_abs z * t → CutNear n (below_zero z) q t → (n ≡ z) ⊎ (n ≡ one_nearer z)
at_width z n q t e c = elim (eq-or-lt_of_le (at_most (nat_abs z) q t c.cut e c.less)) [
  | inl k ↦ inl (c.is ∙ ap (with_sign (below_zero z)) k ∙ size z)
  | inr h ↦ inr (c.is ∙ nearer (below_zero z) c.cut ∙ ap one_nearer
      (ap (with_sign (below_zero z)) (le_antisymm h (at_least (nat_abs z) q t c.cut e c.more)) ∙ size z))
]
  where
    size : (z : ℤ) → with_sign (below_zero z) (nat_abs z) ≡ z
    size (pos n) = refl
    size (negsuc n) = refl

-- no number is cut to 0
no_number : (d : Bool) → cut (nudged d nan) ≡ pos 0
unfolding ieee.add to_signed
no_number true = refl
no_number false = refl

-- ---- what is answered: where the questions of the axis and the limits accept them, a pixel on the page is
on_page_fits : (p : ℤ) → is_pixel p ≡ true → fits_i32 p ≡ true
on_page_fits p e = let r = pixel_range p e in
    rw (is_le (minus 2147483648) p (omega arith), is_le p (pos 2147483647) (omega arith))

answered : (a : Axis) (l : Limits) (v : Value) (p : ℤ) →
    (passes (scale_questions a l) ≡ true → (value_on a v ≡ true) × (mappable a v ≡ true) × (is_pixel p ≡ true) ×
    (placed a l v ≡ p)) →
    mapped a l v ≡ answered_at a l (hairline_at a l v p)
unfolding hairline mapped_by
answered a l v p f = in_parts a l v ∙ behind (scale_questions a l) (mapped_by a l v) (Ok (hairline_at a l v p)) (λ none.
    let (value, maps, page, is) = f none in rw (is, value, maps, on_page_fits p page) refl)

-- ---- the start
pub no_offset : (a : Axis) → offset_of a a.start ≡ pos 0
unfolding offset_of difference
no_offset a = let x = nanoseconds a.kind a.start in same (x -ℤ x) (pos 0) (omega (arith, sub x x))

-- an end that is the start
no_span : (a : Axis) → ends a ≡ true → in_order a ≡ true → earlier a.start a.end ≡ false → span_of a ≡ pos 0
unfolding span_of difference
no_span a e o nothing =
    let both = both_ends a e in
    let s = nanoseconds a.kind a.start in
    let t = nanoseconds a.kind a.end in
    let back = no_earlier_apart a.kind a.end a.start (record { first = both.second; second = both.first }) nothing in
    same (t -ℤ s) (pos 0) (omega (arith, span_from_0 a e o, back, sub t s, sub s t))

start_placed : (a : Axis) (l : Limits) → ends a ≡ true → in_order a ≡ true → pixels l ≡ true →
    placed a l a.start -ℤ l.low ≡ pos 0
unfolding value_on
start_placed a l e o page = go (earlier a.start a.end) refl
  where
    go : (b : Bool) → earlier a.start a.end ≡ b → placed a l a.start -ℤ l.low ≡ pos 0
    go true some =
        let value = (both_ends a e).first in
        let i = start_inside a o some in
        let n = z a l a.start e value page i in
        let none : n.o ≡ 0 = ap pos_part (sym n.offset_is ∙ no_offset a) in
        at_zero _ (below_zero (width l)) (nat_abs (width l) * n.o) n.t
        (ap (λ (x : ℕ). nat_abs (width l) * x) none ∙ mul-zero (nat_abs (width l)) ∙ sym (zero-mul n.t))
        (pixel_cut a l a.start e value page i)
    go false nothing =
        let s : span_of a ≡ pos 0 = no_span a e o nothing in
        low_off l.low _ _ (sym (in_nanoseconds_law a l a.start (ap fits_i64 s) (ap fits_i64 (no_offset a))))
        ∙ (λ i. cut_from (is_duration a.kind) (width l) (no_offset a i) (s i))
        ∙ ap (λ (x : Float). cut (nudged (is_duration a.kind) x)) (zero_by_zero (width l) (width_few l page))
        ∙ no_number (is_duration a.kind)

at_low : (p low : ℤ) → p -ℤ low ≡ pos 0 → p ≡ low
at_low p low e = same p low (omega (arith, sub p low, ap pos_part e, ap neg_part e))

equals_itself : (v : Value) → equals v v ≡ true
equals_itself v = rw (is_le v.head v.head (omega arith), is_le v.tail v.tail (omega arith))

pub start_at_low : (a : Axis) (l : Limits) → mapped a l a.start ≡ answered_at a l (hairline_at a l a.start l.low)
unfolding value_on mappable
start_at_low a l = answered a l a.start l.low (λ none.
    let row = scale_questions a l in
    let e = told 3 row none in
    let page = told 7 row none in (
      (both_ends a e).first,
      rw equals_itself (or_true (earlier a.start a.end)),
      (limits_are l page).0,
      at_low _ _ (start_placed a l e (told 4 row none) page),
    ))

-- ---- the end
no_wider : (z : ℤ) → (pos_part (one_nearer z) ≤ pos_part z) × (neg_part (one_nearer z) ≤ neg_part z)
no_wider (pos zero) = (omega arith, omega arith)
no_wider (pos (suc n)) = (omega arith, omega arith)
no_wider (negsuc n) = (omega (arith, neg_up (pos n)), omega (arith, neg_dn (pos n)))

at_width_of : (l : Limits) (p : ℤ) → p -ℤ l.low ≡ width l → p ≡ l.high
at_width_of l p e =
    same p l.high (omega (arith, sub p l.low, sub l.high l.low, ap pos_part e, ap neg_part e))

-- one short of the high limit is on the page
one_short : (l : Limits) (p : ℤ) → pixels l ≡ true → p -ℤ l.low ≡ one_nearer (width l) →
    (is_pixel p ≡ true) × (p ≡ l.low +ℤ one_nearer (width l))
one_short l p page f =
    let (low, high) = limits_are l page in
    let x = pixel_range l.low low in
    let y = pixel_range l.high high in
    let w = sub l.high l.low in
    let q = sub p l.low in
    let (n, m) = no_wider (width l) in
    let u : pos_part (p -ℤ l.low) ≡ pos_part (one_nearer (width l)) = ap pos_part f in
    let v : neg_part (p -ℤ l.low) ≡ neg_part (one_nearer (width l)) = ap neg_part f in
    let b : (neg_part p ≤ 32767) × (pos_part p ≤ 32767) = elim (one_is_zero (width l)) [
      | inl z ↦ bounded p 32767 32767 (omega arith) (omega arith)
      | inr z ↦ bounded p 32767 32767 (omega arith) (omega arith)
    ] in (
      rw (is_le (minus 32767) p (omega arith), is_le p (pos 32767) (omega arith)),
      same p (l.low +ℤ one_nearer (width l)) (omega (arith, add l.low (one_nearer (width l)))),
    )

end_placed : (a : Axis) (l : Limits) → earlier a.start a.end ≡ true → ends a ≡ true → in_order a ≡ true → pixels l ≡ true →
    (placed a l a.end -ℤ l.low ≡ width l) ⊎ (placed a l a.end -ℤ l.low ≡ one_nearer (width l))
unfolding value_on span_of offset_of
end_placed a l some e o page =
    let value = (both_ends a e).second in
    let i = end_inside a o some in
    let n = z a l a.end e value page i in
    let all : n.o ≡ n.t = ap pos_part (sym n.offset_is ∙ n.span_is) in
    at_width (width l) _ (nat_abs (width l) * n.o) n.t (ap (λ (x : ℕ). nat_abs (width l) * x) all)
    (pixel_cut a l a.end e value page i)

pub end_at_high : (a : Axis) (l : Limits) → earlier a.start a.end ≡ true →
    (mapped a l a.end ≡ answered_at a l (hairline_at a l a.end l.high))
    ⊎ (mapped a l a.end ≡ answered_at a l (hairline_at a l a.end (l.low +ℤ one_nearer (width l))))
unfolding value_on mappable
end_at_high a l some = go (passes (scale_questions a l)) refl
  where
    row : List Question
    row = scale_questions a l

    -- a pixel of the page
    at : (p : ℤ) → (passes row ≡ true → (is_pixel p ≡ true) × (placed a l a.end ≡ p)) →
        mapped a l a.end ≡ answered_at a l (hairline_at a l a.end p)
    at p f = answered a l a.end p (λ none.
        let (page, is) = f none in
        ((both_ends a (told 3 row none)).second, ap (λ (b : Bool). b || equals a.end a.start) some, page, is))

    go : (b : Bool) → passes row ≡ b →
        (mapped a l a.end ≡ answered_at a l (hairline_at a l a.end l.high))
        ⊎ (mapped a l a.end ≡ answered_at a l (hairline_at a l a.end (l.low +ℤ one_nearer (width l))))
    go false refuses = inl (at l.high (λ none. absurd (false≢true (sym refuses ∙ none))))
    go true none =
        let page = told 7 row none in
        elim (end_placed a l some (told 3 row none) (told 4 row none) page) [
          | inl e ↦ inl (at l.high (λ _. ((limits_are l page).1, at_width_of l _ e)))
          | inr e ↦ inr (let (x, y) = one_short l _ page e in at _ (λ _. (ap is_pixel (sym y) ∙ x, y)))
        ]
