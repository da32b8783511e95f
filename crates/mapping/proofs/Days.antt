-- Two different days of a date axis with more pixels than days have different pixels, as mapping answers them.
-- Assumes nothing.
use mathlib.Core.Path.{◌≡◌, sym, ◌∙◌, ap}
use Prim.Native.Nat.{ℕ, suc, ◌+◌, ◌*◌, ◌≤◌, ◌<◌}
use native.Mathlib.Nat.{mul-le-mul_left}
use native.Mathlib.Decide.{dec_le}
use native.Mathlib.Omega.{arith}
use lib.IntN.{ℤ, nat_abs, ◌-ℤ◌}
use lib.Signed.{le_z}
use Rattle.laws.specs.Numbers.{pos_part, neg_part}
use Rattle.laws.proofs.Signed.{sub, same, abs, is_lt, is_ge}
use Rattle.asking.proofs.Asked.{told}
use Rattle.laws.proofs.Tests.{and_false}
use Rattle.floats.proofs.Values.{below_zero}
use Rattle.values.specs.Values.{earlier, midnight}
use Rattle.values.proofs.Numbers.{within_true, not_below}
use Rattle.values.proofs.Values.{DateValue, date_value}
use Rattle.axis.specs.declared.Axis.{Axis}
use Rattle.axis.specs.declared.Limits.{Limits}
use Rattle.axis.specs.Axes.{last}
use Rattle.axis.proofs.Axes.{both_ends}
use Rattle.axis.proofs.ClosedAxes.{in_written}
use Rattle.mapping.specs.declared.Hairline.{Hairline}
use Rattle.std.specs.Prelude.{Ok}
use Rattle.mapping.specs.Mapping.{mapped, map_questions}
use Rattle.mapping.specs.Days.{DayOf, MorePixels}
use Rattle.mapping.specs.Position.{Inside, width}
use Rattle.mapping.proofs.Answers.{accepted}
use Rattle.mapping.proofs.SignedCuts.{one_sign}
use Rattle.mapping.proofs.Positions.{days_to, date_cut}

-- one cut does not serve two days
no_two : (w d e D F : ℕ) → D < w → d < e → F * D ≤ w * d → w * e ≤ suc F * D → ⊥
no_two w d e D F m l a b = go (mul-le-mul_left w l)
  where
    go : w * suc d ≤ w * e → ⊥
    go h = omega arith

-- a day of the axis lies between its ends, where another one does too
inside : (a : Axis) → DateValue a.start → DateValue a.end → (i : ℤ) → pos_part a.start.head < pos_part a.end.head →
    neg_part i ≡ 0 → pos_part a.start.head ≤ pos_part i → pos_part i ≤ pos_part a.end.head → Inside a (midnight i)
unfolding earlier
inside a s e i l z x y = record {
  some_span = rw (is_lt a.start.head a.end.head (omega arith));
  from_start = rw (is_ge i a.start.head (omega arith), s.no_tail) (and_false (le_z i a.start.head));
  to_end = rw (is_ge a.end.head i (omega arith), e.no_tail) (and_false (le_z a.end.head i));
}

days_from : (x s : ℤ) → neg_part x ≡ 0 → neg_part s ≡ 0 → pos_part s ≤ pos_part x → pos_part (x -ℤ s) + pos_part s ≡ pos_part x
days_from x s a b l = let d = sub x s in let z = not_below (x -ℤ s) (omega arith) in omega arith

-- of two days, the first one earlier
earlier_day : (a : Axis) (l : Limits) (i j : ℤ) (p q : Hairline) → MorePixels a l → DayOf a i → DayOf a j → neg_part i ≡ 0 →
    neg_part j ≡ 0 → pos_part i < pos_part j → mapped a l (midnight i) ≡ Ok p → mapped a l (midnight j) ≡ Ok q →
    p.pixel ≡ q.pixel → ⊥
earlier_day a l i j p q more on-i on-j zi zj less ei ej same_pixel =
    let (nx, x) = accepted a l (midnight i) p ei in
    let (ny, y) = accepted a l (midnight j) q ej in
    let row = map_questions a l (midnight i) in
    let e = told 3 row nx in
    let page = told 7 row nx in
    let both = both_ends a e in
    let first = date_value a.kind a.start both.first on-i.dates in
    let final = date_value a.kind a.end both.second on-i.dates in
    let s = a.start.head in
    let t = a.end.head in
    let u = within_true s i t (in_written a s i on-i.inside) in
    let v = within_true s j t (in_written a s j on-j.inside) in
    let m = date_cut a l (midnight i) e (told 8 row nx) page
    (inside a first final i (omega arith) zi (omega arith) (omega arith)) on-i.dates in
    let n = date_cut a l (midnight j) e (told 8 (map_questions a l (midnight j)) ny) page
    (inside a first final j (omega arith) zj (omega arith) (omega arith)) on-i.dates in
    let one : m.cut ≡ n.cut = one_sign (below_zero (width l)) m.cut n.cut
    (sym m.is ∙ ap (λ (r : ℤ). r -ℤ l.low) (x ∙ same_pixel ∙ sym y) ∙ n.is) in
    no_two (nat_abs (width l)) (days_to a (midnight i)) (days_to a (midnight j)) (days_to a a.end) m.cut
    (omega (arith, more, abs (t -ℤ s)))
    (omega (arith, days_from i s zi first.head_dn (omega arith), days_from j s zj first.head_dn (omega arith)))
    m.between.0 (rw one n.between.1)

-- two different days of a date axis, more pixels than days: their pixels differ
pub days_differ : (a : Axis) (l : Limits) (i j : ℤ) (p q : Hairline) → MorePixels a l → DayOf a i → DayOf a j → (i ≡ j → ⊥)
    → mapped a l (midnight i) ≡ Ok p → mapped a l (midnight j) ≡ Ok q → p.pixel ≡ q.pixel → ⊥
days_differ a l i j p q w on-i on-j ne ei ej e =
    let both = both_ends a (told 3 (map_questions a l (midnight i)) (accepted a l (midnight i) p ei).0) in
    let first = date_value a.kind a.start both.first on-i.dates in
    let zi : neg_part i ≡ 0 = not_below i (omega (arith, within_true a.start.head i (last a).head on-i.inside)) in
    let zj : neg_part j ≡ 0 = not_below j (omega (arith, within_true a.start.head j (last a).head on-j.inside)) in
    let apart : (pos_part i ≡ pos_part j → ⊥) = λ h. ne (same i j (omega arith)) in
    elim (dec_le (pos_part i) (pos_part j)) [
      | yes h ↦ earlier_day a l i j p q w on-i on-j zi zj (omega arith) ei ej e
      | no h ↦ earlier_day a l j i q p w on-j on-i zj zi (omega arith) ej ei (sym e)
    ]
