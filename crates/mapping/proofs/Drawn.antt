-- How a pixel is drawn beside the exact position of its value, as mapping answers it; and the start, which is always exact.
-- Assumes nothing.
use mathlib.Core.Path.{◌≡◌, refl, sym, ap, ◌∙◌, subst}
use mathlib.Core.Bool.{Bool, true, false, not, cond, ◌&&◌, ◌||◌, true≢false, false≢true}
use Prim.Native.Nat.{ℕ, zero, suc, ◌+◌, ◌*◌, ◌/◌, ◌^◌, ◌≤◌, ◌<◌}
use native.Mathlib.Nat.{zero-div, mul-div_cancel}
use borrow.Author.Tests.{not-true}
use native.Mathlib.Decide.{dec_le}
use native.Mathlib.Omega.{arith}
use lib.Dec.{lit<}
use lib.IntN.{ℤ, pos, negsuc, nat_abs, ◌-ℤ◌, ◌*ℤ◌, *ℤ-zero, zero-*ℤ}
use lib.Signed.{quot_z}
use Rattle.laws.specs.Numbers.{equal, is_number, pos_part, neg_part}
use mathlib.Core.List.{List}
use Rattle.asking.specs.Asking.{Question}
use Rattle.laws.proofs.Signed.{sub, mul, mul_up, mul_dn, quot_up, quot_dn, abs, same, pos_up, equal_true, true_equal}
use Rattle.laws.proofs.Tests.{both_true, and_true, and_false}
use Rattle.asking.proofs.Asked.{told}
use Rattle.floats.specs.Losses.{lost_in}
use Rattle.floats.proofs.Losses as losses
use Rattle.values.specs.declared.Value.{Value}
use Rattle.values.specs.Values.{over_dates, is_duration, earlier}
use Rattle.values.specs.Differences.{nanoseconds, difference, fits_i64, whole_days}
use Rattle.values.proofs.Values.{dates_no_duration}
use Rattle.values.proofs.Differences.{later_apart, dates_apart}
use Rattle.values.proofs.Fits.{fits_yes, fits_range}
use Rattle.axis.specs.declared.Axis.{Axis}
use Rattle.axis.specs.declared.Limits.{Limits}
use Rattle.axis.specs.Axes.{span_of, offset_of}
use Rattle.axis.specs.Questions.{ends, in_order, value_on, mappable, equals}
use Rattle.axis.proofs.Axes as axes
use Rattle.axis.proofs.Axes.{both_ends, with_value, span_from_0}
use Rattle.mapping.specs.declared.Hairline.{Hairline}
use Rattle.std.specs.Prelude.{Ok}
use Rattle.mapping.specs.Hairlines.{on_pixel, in_nanoseconds, divides_nothing, exact_at, lost_at, hairline_at}
use Rattle.mapping.specs.Mapping.{placed, hairline, scale_questions, map_questions, mapped, answered_at}
use Rattle.mapping.specs.Position.{width, cut_position, days_position}
use Rattle.mapping.specs.Drawn.{OnPosition, OnDays, HowDrawn}
use Rattle.mapping.proofs.Hairlines.{days_kept, days_of}
use Rattle.mapping.proofs.Answers.{behind, answer_at, accepted, accepted_as}
use Rattle.mapping.proofs.Ends.{no_offset, start_at_low}

-- ---- a quotient that leaves nothing
whole_quotient : (n : ℤ) (t : ℕ) → 0 < t → quot_z (n *ℤ pos t) (pos t) ≡ n
whole_quotient n t some =
    let up = quot_up (n *ℤ pos t) t ∙ ap (λ (x : ℕ). x / t) (mul_up n t) ∙ mul-div_cancel (pos_part n) some in
    let dn = quot_dn (n *ℤ pos t) t ∙ ap (λ (x : ℕ). x / t) (mul_dn n t) ∙ mul-div_cancel (neg_part n) some in
    same (quot_z (n *ℤ pos t) (pos t)) n (omega (arith, up, dn))

-- x is n times s: n is the quotient, where a quotient by nothing is nothing
quotient_of : (x n s : ℤ) → neg_part s ≡ 0 → (s ≡ pos 0 → n ≡ pos 0) → x ≡ n *ℤ s → n ≡ quot_z x s
quotient_of x n (pos zero) z f e =
    let none : x ≡ pos 0 = e ∙ *ℤ-zero n in
    f refl ∙ ap pos (sym (zero-div 0)) ∙ ap (λ (y : ℤ). quot_z y (pos 0)) (sym none)
quotient_of x n (pos (suc t)) z f e = sym (ap (λ (y : ℤ). quot_z y (pos (suc t))) e ∙ whole_quotient n (suc t) (omega arith))
quotient_of x n (negsuc t) z f e = absurd (let w : ⊥ = omega arith in w)

-- a factor in both
times_days : (x y : ℤ) (d : ℕ) → x *ℤ (y *ℤ pos d) ≡ (x *ℤ y) *ℤ pos d
times_days x y d =
    let m = mul x (y *ℤ pos d) in
    let n = rw (mul_up y d, mul_dn y d) at m in
    same (x *ℤ (y *ℤ pos d)) ((x *ℤ y) *ℤ pos d)
    (omega (arith, n, mul_up (x *ℤ y) d, mul_dn (x *ℤ y) d, ap (λ (k : ℕ). k * d) (mul x y)))

-- and out of both
same_days : (x y : ℤ) (d : ℕ) → 0 < d → x *ℤ pos d ≡ y *ℤ pos d → x ≡ y
same_days x y d some e = sym (whole_quotient x d some) ∙ ap (λ (z : ℤ). quot_z z (pos d)) e ∙ whole_quotient y d some

-- ---- the parts of a hairline, by what is divided
module _ (a : Axis) (l : Limits) (v : Value) (p : ℤ) where
  exact_by_near : in_nanoseconds a v ≡ true → exact_at a l v p ≡ on_pixel l (offset_of a v) (span_of a) p
  unfolding exact_at
  exact_by_near f = rw f refl

  exact_by_days : in_nanoseconds a v ≡ false → divides_nothing a ≡ false →
      exact_at a l v p ≡ not (is_number (whole_days (span_of a)) 0) && on_pixel l (whole_days (offset_of a v))
      (whole_days (span_of a)) p
  unfolding exact_at
  exact_by_days f g = rw (f, g) refl

  no_exact : in_nanoseconds a v ≡ false → divides_nothing a ≡ true → exact_at a l v p ≡ false
  unfolding exact_at
  no_exact f g = rw (f, g) refl

-- ---- an axis whose start is its end
same_ends : (a : Axis) → equals a.end a.start ≡ true → span_of a ≡ pos 0
unfolding span_of difference
same_ends a e =
    let x = nanoseconds a.kind a.start in
    ap (λ (v : Value). nanoseconds a.kind v -ℤ x) (axes.equal a.end a.start e)
    ∙ same (x -ℤ x) (pos 0) (omega (arith, sub x x))

-- ---- a value that is mapped
module _ (a : Axis) (v : Value) (e : ends a ≡ true) (maps : mappable a v ≡ true) where
  -- without a span it is the start
  only_start : span_of a ≡ pos 0 → v ≡ a.start
  unfolding span_of mappable
  only_start none = go (earlier a.start a.end) refl
    where
      go : (b : Bool) → earlier a.start a.end ≡ b → v ≡ a.start
      go true some = absurd
          (let w : ⊥ = omega (arith, (later_apart a.kind a.start a.end (both_ends a e) some).1, ap pos_part none) in w)
      go false nothing = axes.equal v a.start (rw nothing at maps)

  -- which is in nanoseconds
  start_near : span_of a ≡ pos 0 → in_nanoseconds a v ≡ true
  start_near none = rw (none, only_start none, no_offset a) refl

-- ---- dates
abbrev days_to : Axis → Value → ℤ
days_to a v = v.head -ℤ a.start.head

module _ (a : Axis) (v : Value) (e : ends a ≡ true) (value : value_on a v ≡ true) (dates : over_dates a.kind ≡ true) where
  offset_days : offset_of a v ≡ days_to a v *ℤ pos 86400000000000
  unfolding offset_of
  offset_days = dates_apart a.kind a.start v (with_value a e v value) dates

  span_days : span_of a ≡ days_to a a.end *ℤ pos 86400000000000
  unfolding span_of
  span_days = dates_apart a.kind a.start a.end (both_ends a e) dates

  -- days that fit lose nothing
  kept : (x d : ℤ) → x ≡ d *ℤ pos 86400000000000 → fits_i64 x ≡ true → lost_in x ≡ false
  kept x d is f =
      let (m, n) = fits_range x f in
      let up = ap pos_part is ∙ mul_up d 86400000000000 in
      let dn = ap neg_part is ∙ mul_dn d 86400000000000 in
      losses.days_kept x (pos_part d + neg_part d) (omega (arith, abs x, up, dn)) (size x m n)
    where
      size : (x : ℤ) → neg_part x ≤ 9223372036854775808 → pos_part x ≤ 9223372036854775807 → nat_abs x ≤ 2 ^ 63
      size (pos k) m n = omega arith
      size (negsuc k) m n = omega arith

  pub kept_dates : lost_at a v ≡ false
  unfolding lost_at
  kept_dates = go (in_nanoseconds a v) refl
    where
      go : (b : Bool) → in_nanoseconds a v ≡ b →
          cond b (lost_in (offset_of a v) || lost_in (span_of a))
          (cond (divides_nothing a) false (lost_in (whole_days (offset_of a v)) || lost_in (whole_days (span_of a)))) ≡ false
      go true f = let (x, y) = both_true (fits_i64 (span_of a)) (fits_i64 (offset_of a v)) f in
          rw (kept (offset_of a v) (days_to a v) offset_days y, kept (span_of a) (days_to a a.end) span_days x) refl
      go false f = rw (dates_no_duration a.kind dates, days_kept a v e value) refl

-- ---- the pixel p of a value that is mapped, on the low limit where there is no span
module _ (a : Axis) (l : Limits) (v : Value) (p : ℤ) (e : ends a ≡ true) (o : in_order a ≡ true) (value : value_on a v ≡ true)
    (maps : mappable a v ≡ true) (at_low : span_of a ≡ pos 0 → p -ℤ l.low ≡ pos 0) where
  -- the position multiplied out
  abbrev Multiplied : ℤ → ℤ → Type 0
  Multiplied offset span = width l *ℤ offset ≡ (p -ℤ l.low) *ℤ span

  on_position : Multiplied (offset_of a v) (span_of a) → OnPosition a l v p
  unfolding cut_position
  on_position is =
      let at = quotient_of (width l *ℤ offset_of a v) (p -ℤ l.low) (span_of a) (span_from_0 a e o) at_low is in
      (ap (λ (x : ℤ). x *ℤ span_of a) (sym at) ∙ sym is, at)

  multiplied : OnPosition a l v p → Multiplied (offset_of a v) (span_of a)
  multiplied (whole, at) = sym whole ∙ ap (λ (x : ℤ). x *ℤ span_of a) (sym at)

  exact_near : in_nanoseconds a v ≡ true → exact_at a l v p ≡ true → OnPosition a l v p
  exact_near f x =
      on_position (equal_true (width l *ℤ offset_of a v) ((p -ℤ l.low) *ℤ span_of a) (sym (exact_by_near a l v p f) ∙ x))

  near_exact : in_nanoseconds a v ≡ true → OnPosition a l v p → exact_at a l v p ≡ true
  near_exact f at =
      exact_by_near a l v p f ∙ true_equal (width l *ℤ offset_of a v) ((p -ℤ l.low) *ℤ span_of a) (multiplied at)

  one_value : span_of a ≡ pos 0 → exact_at a l v p ≡ true
  one_value none = exact_by_near a l v p (start_near a v e maps none)
      ∙ true_equal (width l *ℤ offset_of a v) ((p -ℤ l.low) *ℤ span_of a) (zeros (offset_of a v) (span_of a)
      (ap (offset_of a) (only_start a v e maps none) ∙ no_offset a) none)
    where
      zeros : (x s : ℤ) → x ≡ pos 0 → s ≡ pos 0 → width l *ℤ x ≡ (p -ℤ l.low) *ℤ s
      zeros x s f g = rw (f, g) (*ℤ-zero (width l) ∙ sym (*ℤ-zero (p -ℤ l.low)))

  -- in whole days
  module _ (f : in_nanoseconds a v ≡ false) where
    abbrev days : ℤ
    days = whole_days (offset_of a v)

    abbrev all : ℤ
    all = whole_days (span_of a)

    by_days_law : exact_at a l v p ≡ true → (is_number all 0 ≡ false) × Multiplied days all
    by_days_law x = go (divides_nothing a) refl
      where
        go : (b : Bool) → divides_nothing a ≡ b → (is_number all 0 ≡ false) × Multiplied days all
        go true g = absurd (false≢true (sym (no_exact a l v p f g) ∙ x))
        go false g =
            let (some, is) = both_true (not (is_number all 0)) (on_pixel l days all p) (sym (exact_by_days a l v p f g) ∙ x) in
            (not-true (is_number all 0) some, equal_true (width l *ℤ days) ((p -ℤ l.low) *ℤ all) is)

    exact_days : exact_at a l v p ≡ true → OnDays a l v p
    unfolding days_position
    exact_days x =
        let (some, is) = by_days_law x in
        let at = quotient_of (width l *ℤ days) (p -ℤ l.low) all
        (omega (arith, quot_dn (span_of a) 86400000000000, span_from_0 a e o))
        (λ none. absurd (false≢true (sym some ∙ true_equal all (pos 0) none))) is in
        (ap (λ (x : ℤ). x *ℤ all) (sym at) ∙ sym is, at)

    days_exact : divides_nothing a ≡ false → (all ≡ pos 0 → ⊥) → OnDays a l v p → exact_at a l v p ≡ true
    days_exact g some (whole, at) =
        exact_by_days a l v p f g
        ∙ (λ i. yes (is_number all 0) refl i && true_equal (width l *ℤ days) ((p -ℤ l.low) *ℤ all)
        (sym whole ∙ ap (λ (x : ℤ). x *ℤ all) (sym at)) i)
      where
        yes : (b : Bool) → is_number all 0 ≡ b → not b ≡ true
        yes false z = refl
        yes true z = absurd (some (equal_true all (pos 0) z))

    zero_days : all ≡ pos 0 → exact_at a l v p ≡ false
    zero_days none = go (exact_at a l v p) refl
      where
        go : (b : Bool) → exact_at a l v p ≡ b → b ≡ false
        go false x = refl
        go true x = absurd (false≢true (sym (by_days_law x).0 ∙ true_equal all (pos 0) none))

    kept_days : lost_at a v ≡ false
    unfolding lost_at
    kept_days = rw (f, days_kept a v e value) (either_way (divides_nothing a))
      where
        either_way : (b : Bool) → cond b false false ≡ false
        either_way true = refl
        either_way false = refl

  -- on dates in either unit
  module _ (dates : over_dates a.kind ≡ true) where
    days_are : (x d : ℤ) → x ≡ d *ℤ pos 86400000000000 → whole_days x ≡ d
    days_are x d is = ap whole_days is ∙ whole_quotient d 86400000000000 (lit< tt)

    -- from days to nanoseconds and back
    longer : (w n x y c d : ℤ) → x ≡ c *ℤ pos 86400000000000 → y ≡ d *ℤ pos 86400000000000 →
        w *ℤ whole_days x ≡ n *ℤ whole_days y → w *ℤ x ≡ n *ℤ y
    longer w n x y c d u v is =
        ap (λ (z : ℤ). w *ℤ z) u ∙ times_days w c 86400000000000
        ∙ ap (λ (z : ℤ). z *ℤ pos 86400000000000)
        (ap (λ (z : ℤ). w *ℤ z) (sym (days_are x c u)) ∙ is ∙ ap (λ (z : ℤ). n *ℤ z) (days_are y d v))
        ∙ sym (times_days n d 86400000000000) ∙ ap (λ (z : ℤ). n *ℤ z) (sym v)

    shorter : (w n x y c d : ℤ) → x ≡ c *ℤ pos 86400000000000 → y ≡ d *ℤ pos 86400000000000 → w *ℤ x ≡ n *ℤ y →
        w *ℤ whole_days x ≡ n *ℤ whole_days y
    shorter w n x y c d u v is =
        ap (λ (z : ℤ). w *ℤ z) (days_are x c u)
        ∙ same_days (w *ℤ c) (n *ℤ d) 86400000000000 (lit< tt) (sym (times_days w c 86400000000000)
        ∙ ap (λ (z : ℤ). w *ℤ z) (sym u) ∙ is ∙ ap (λ (z : ℤ). n *ℤ z) v ∙ times_days n d 86400000000000)
        ∙ ap (λ (z : ℤ). n *ℤ z) (sym (days_are y d v))

    offset : offset_of a v ≡ days_to a v *ℤ pos 86400000000000
    offset = offset_days a v e value dates

    span : span_of a ≡ days_to a a.end *ℤ pos 86400000000000
    span = span_days a v e value dates

    exact_dates : exact_at a l v p ≡ true → OnPosition a l v p
    exact_dates x = go (in_nanoseconds a v) refl
      where
        go : (b : Bool) → in_nanoseconds a v ≡ b → OnPosition a l v p
        go true f = exact_near f x
        go false f = on_position (longer (width l) (p -ℤ l.low) (offset_of a v) (span_of a) (days_to a v) (days_to a a.end)
            offset span (by_days_law f x).1)

    dates_exact : OnPosition a l v p → exact_at a l v p ≡ true
    dates_exact at = go (in_nanoseconds a v) refl
      where
        some : in_nanoseconds a v ≡ false → (b : Bool) → is_number (whole_days (span_of a)) 0 ≡ b → not b ≡ true
        some f false z = refl
        some f true z =
            let d = sym (days_are (span_of a) (days_to a a.end) span) ∙ equal_true (whole_days (span_of a)) (pos 0) z in
            let none : span_of a ≡ pos 0 = span ∙ ap (λ (x : ℤ). x *ℤ pos 86400000000000) d in
            absurd (true≢false (sym (start_near a v e maps none) ∙ f))

        go : (b : Bool) → in_nanoseconds a v ≡ b → exact_at a l v p ≡ true
        go true f = near_exact f at
        go false f =
            exact_by_days a l v p f (days_of a (dates_no_duration a.kind dates))
            ∙ (λ i. some f (is_number (whole_days (span_of a)) 0) refl i && true_equal (width l *ℤ whole_days (offset_of a v))
            ((p -ℤ l.low) *ℤ whole_days (span_of a))
            (shorter (width l) (p -ℤ l.low) (offset_of a v) (span_of a) (days_to a v) (days_to a a.end) offset span
            (multiplied at)) i)

-- ---- the start is drawn on the low limit
start_low : (a : Axis) (l : Limits) (h : Hairline) → mapped a l a.start ≡ Ok h → h.pixel -ℤ l.low ≡ pos 0
start_low a l h m =
    let is = (answer_at (scale_questions a l) (hairline_at a l a.start l.low) h (sym (start_at_low a l) ∙ m)).1 in
    ap (λ (k : Hairline). k.pixel -ℤ l.low) (sym is) ∙ same (l.low -ℤ l.low) (pos 0) (omega (arith, sub l.low l.low))

-- THE THEOREM, of every pixel that mapping answers
pub how_drawn : (a : Axis) (l : Limits) (v : Value) (h : Hairline) → mapped a l v ≡ Ok h → HowDrawn a l v h
unfolding hairline
how_drawn a l v h m =
    let (none, is) = accepted a l v h m in
    let row = map_questions a l v in
    let e = told 3 row none in
    let o = told 4 row none in
    let value = told 8 row none in
    let maps = told 9 row none in
    let p = placed a l v in
    let low : (span_of a ≡ pos 0 → p -ℤ l.low ≡ pos 0) = λ s.
    ap (λ (q : ℤ). q -ℤ l.low) is ∙ start_low a l h (ap (mapped a l) (sym (only_start a v e maps s)) ∙ m) in
    subst (HowDrawn a l v) (accepted_as a l v h m) (record {
      exact_near = exact_near a l v p e o value maps low;
      near_exact = near_exact a l v p e o value maps low;
      exact_days = exact_days a l v p e o value maps low;
      days_exact = days_exact a l v p e o value maps low;
      zero_days = zero_days a l v p e o value maps low;
      no_division = no_exact a l v p;
      exact_dates = exact_dates a l v p e o value maps low;
      dates_exact = dates_exact a l v p e o value maps low;
      one_value = λ s. one_value a l v p e o value maps low (same_ends a s);
      kept_days = kept_days a l v p e o value maps low;
      kept_dates = kept_dates a v e value;
    })

-- ---- the start is exact: where the span fits, 0 of it; else 0 of its whole days, of which there are some
long : (x : ℤ) → neg_part x ≡ 0 → fits_i64 x ≡ false → 0 < pos_part (whole_days x)
long x z f = elim (dec_le (pos_part x) 9223372036854775807) [
  | yes h ↦ absurd (true≢false (sym (fits_yes x h (omega arith)) ∙ f))
  | no h ↦ omega (arith, quot_up x 86400000000000)
]

some_days : (x : ℤ) → neg_part x ≡ 0 → fits_i64 x ≡ false → (b : Bool) → is_number (whole_days x) 0 ≡ b → not b ≡ true
some_days x z f false e = refl
some_days x z f true e =
    absurd (let w : ⊥ = omega (arith, long x z f, ap pos_part (equal_true (whole_days x) (pos 0) e)) in w)

none_of : (w low x s : ℤ) → x ≡ pos 0 → equal (w *ℤ x) ((low -ℤ low) *ℤ s) ≡ true
none_of w low x s e =
    let none : low -ℤ low ≡ pos 0 = same (low -ℤ low) (pos 0) (omega (arith, sub low low)) in
    true_equal (w *ℤ x) ((low -ℤ low) *ℤ s)
    (ap (λ (y : ℤ). w *ℤ y) e ∙ *ℤ-zero w ∙ sym (ap (λ (y : ℤ). y *ℤ s) none ∙ zero-*ℤ s))

pub start_exact : (a : Axis) (l : Limits) → ends a ≡ true → in_order a ≡ true → exact_at a l a.start l.low ≡ true
start_exact a l e o = go (fits_i64 (span_of a)) refl
  where
    both : (b : Bool) → fits_i64 (span_of a) ≡ b → in_nanoseconds a a.start ≡ b
    both b f = rw (f, no_offset a) (and_true b)

    go : (b : Bool) → fits_i64 (span_of a) ≡ b → exact_at a l a.start l.low ≡ true
    go true f = exact_by_near a l a.start l.low (both true f)
        ∙ none_of (width l) l.low (offset_of a a.start) (span_of a) (no_offset a)
    go false f =
        exact_by_days a l a.start l.low (both false f)
        (ap (λ (b : Bool). is_duration a.kind && b) f ∙ and_false (is_duration a.kind))
        ∙ (λ i. some_days (span_of a) (span_from_0 a e o) f (is_number (whole_days (span_of a)) 0) refl i
        && none_of (width l) l.low (whole_days (offset_of a a.start)) (whole_days (span_of a)) (ap whole_days (no_offset a)) i)

pub start_drawn : (a : Axis) (l : Limits) →
    mapped a l a.start ≡ answered_at a l (record { pixel = l.low; exact = true; lost = lost_at a a.start })
start_drawn a l =
    start_at_low a l
    ∙ behind row (Ok (hairline_at a l a.start l.low)) (Ok (record { pixel = l.low; exact = true; lost = lost_at a a.start }))
    (λ none.
    let x = start_exact a l (told 3 row none) (told 4 row none) in
    λ i. Ok (record { pixel = l.low; exact = x i; lost = lost_at a a.start }))
  where
    row : List Question
    row = scale_questions a l

-- ---- the end is exact just on the high limit: its position is the width
record AtEnd (a : Axis) (l : Limits) (p : ℤ) : Type 0 where
  t : ℕ
  some : 0 < t
  is : exact_at a l a.end p ≡ equal (width l *ℤ pos t) ((p -ℤ l.low) *ℤ pos t)

module _ (a : Axis) (l : Limits) (e : ends a ≡ true) (o : in_order a ≡ true) (later : earlier a.start a.end ≡ true) where
  whole_span : offset_of a a.end ≡ span_of a
  unfolding offset_of span_of
  whole_span = refl

  end_of : (p : ℤ) → AtEnd a l p
  unfolding span_of
  end_of p = go (fits_i64 (span_of a)) refl
    where
      zero_dn : neg_part (span_of a) ≡ 0
      zero_dn = span_from_0 a e o

      both : (b : Bool) → fits_i64 (span_of a) ≡ b → in_nanoseconds a a.end ≡ b
      both true f = rw (f, whole_span, f) refl
      both false f = rw f refl

      go : (b : Bool) → fits_i64 (span_of a) ≡ b → AtEnd a l p
      go true f =
          let s = sym (pos_up (span_of a) zero_dn) in
          record {
            t = pos_part (span_of a);
            some = (later_apart a.kind a.start a.end (both_ends a e) later).1;
            is = exact_by_near a l a.end p (both true f)
                ∙ (λ i. equal (width l *ℤ (whole_span ∙ s) i) ((p -ℤ l.low) *ℤ s i));
          }
      go false f =
          let s = sym (pos_up (whole_days (span_of a)) (omega (arith, quot_dn (span_of a) 86400000000000, zero_dn))) in
          record {
            t = pos_part (whole_days (span_of a));
            some = long (span_of a) zero_dn f;
            is = exact_by_days a l a.end p (both false f)
                (ap (λ (b : Bool). is_duration a.kind && b) f ∙ and_false (is_duration a.kind))
                ∙ (λ i. some_days (span_of a) zero_dn f (is_number (whole_days (span_of a)) 0) refl i
                && equal (width l *ℤ (ap whole_days whole_span ∙ s) i) ((p -ℤ l.low) *ℤ s i));
          }

  high_exact : exact_at a l a.end l.high ≡ true
  high_exact = let x = end_of l.high in x.is ∙ true_equal (width l *ℤ pos x.t) (width l *ℤ pos x.t) refl

  exact_high : (p : ℤ) → exact_at a l a.end p ≡ true → p ≡ l.high
  exact_high p is =
      let x = end_of p in
      let w = same_days (width l) (p -ℤ l.low) x.t x.some
      (equal_true (width l *ℤ pos x.t) ((p -ℤ l.low) *ℤ pos x.t) (sym x.is ∙ is)) in
      same p l.high (omega (arith, sub p l.low, sub l.high l.low, ap pos_part w, ap neg_part w))

pub end_exact : (a : Axis) (l : Limits) (h : Hairline) → earlier a.start a.end ≡ true → mapped a l a.end ≡ Ok h →
    (h.exact ≡ true → h.pixel ≡ l.high) × (h.pixel ≡ l.high → h.exact ≡ true)
unfolding hairline
end_exact a l h later m =
    let none = (accepted a l a.end h m).0 in
    let row = map_questions a l a.end in
    let e = told 3 row none in
    let o = told 4 row none in
    subst (λ (k : Hairline). (k.exact ≡ true → k.pixel ≡ l.high) × (k.pixel ≡ l.high → k.exact ≡ true))
    (accepted_as a l a.end h m) (
      exact_high a l e o later (placed a l a.end),
      λ high. ap (exact_at a l a.end) high ∙ high_exact a l e o later,
    )
