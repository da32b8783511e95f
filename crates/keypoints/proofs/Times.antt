-- The lists of date-times and durations a period apart are the plan's. Assumes nothing.
use mathlib.Core.Path.{◌≡◌, refl, sym, ap, ◌∙◌}
use mathlib.Core.Bool.{Bool, true, false, cond}
use mathlib.Core.Logic.{inl, inr}
use Prim.Native.Nat.{ℕ, suc, ◌+◌, ◌-◌, ◌*◌, ◌/◌, ◌%◌, ◌≤◌, ◌<◌}
use native.Mathlib.Nat.{eq-or-lt_of_le, mod-lt, mod-le, div-add-mod', mul-add-div_right, mul-add-mod_self_right}
use native.Mathlib.Decide.{dec_le}
use native.Mathlib.Omega.{arith}
use lib.IntN.{ℤ, pos, negsuc, nat_abs, neg_ℤ-neg_ℤ, ◌+ℤ◌, ◌-ℤ◌, ◌*ℤ◌, +ℤ_idr, +ℤ_assoc}
use lib.Signed.{lt_z, rem_z}
use borrow.Author.Tests.{lt-ltb, le-ltb, eq-eqb, ne_eqb}
use Rattle.std.specs.Prelude.{Some}
use Rattle.laws.specs.Numbers.{pos_part, neg_part, as_u64}
use Rattle.laws.specs.Units.{per_second, per_day}
use Rattle.laws.proofs.Signed.{add, sub, same, lt_true, lt_false}
use Rattle.values.specs.declared.Kind.TheVariants.{Span}
use Rattle.values.specs.declared.Value.{Value}
use Rattle.values.specs.Values.{is_duration, earlier, midnight}
use Rattle.values.specs.Differences.{unit, nanoseconds}
use Rattle.values.proofs.Joining.{Before, is_earlier, not_earlier, joint}
use Rattle.axis.specs.declared.Axis.{Axis}
use Rattle.axis.specs.Axes.{span_of}
use Rattle.steps.specs.declared.Steps.{Steps}
use Rattle.steps.specs.Progression.{fitting, tick_of_number, tick_of, ticks}
use Rattle.steps.specs.Promise.{Later, by_head, by_tail}
use Rattle.steps.proofs.Order.{is_smaller, later}
use Rattle.steps.proofs.Fitting.{inside, all_fit, few_steps}
use Rattle.plans.specs.Times.{shift_up, shift_of, shift, time_plan, Timed, period_in}
use Rattle.plans.specs.Plans.{Accepted}
use Rattle.plans.proofs.Cases.{by_test}
use Rattle.plans.proofs.Times.{turned_size, up_most, shift_most}
use Rattle.plans.proofs.Spans.{timed}
use Rattle.plans.proofs.Promise.{Counts, counts, even, at_end_tick, few_periods}
use Rattle.keypoints.specs.Loops.{while}
use Rattle.keypoints.specs.Times.{plus, list_from, aligned_up, date_times_by, aligned, duration_of, durations_by}
use Rattle.keypoints.proofs.Loops.{while_is}

-- ---- `<` of values, by their numbers
module _ (v w : Value) where
  one_way : Before w v 0 → Before v w 1 → ⊥
  one_way (inl a) (inl b) = omega arith
  one_way (inl a) (inr (b, c)) = omega arith
  one_way (inr (a, b)) (inl c) = omega arith
  one_way (inr (a, b)) (inr (c, d)) = omega arith

  pub earlier_yes : Before v w 1 → earlier v w ≡ true
  earlier_yes h = by_test (earlier v w) (λ e. e) (λ e. absurd (one_way (not_earlier w v e) h))

  pub earlier_no : Before w v 0 → earlier v w ≡ false
  earlier_no h = by_test (earlier v w) (λ e. absurd (one_way h (is_earlier v w e))) (λ e. e)

before : (s : ℕ) {v w : Value} → s ≤ 1 → Later v w → Before v w s
before s l (by_head p) = inl (is_smaller p)
before s l (by_tail e q) = inr (omega (arith, ap pos_part e, ap neg_part e), omega (arith, is_smaller q))

-- ---- a loop whose values are the ticks of a progression
module _ (a : Axis) (s : Steps) (l : ℕ) (next : Value → Value) (p : 0 < s.step)
    (all : s.count ≡ fitting (l - s.first) s.step)
    (goes : (x : ℕ) → x < l → earlier (tick_of_number s x) a.end ≡ true)
    (stops : (x : ℕ) → l ≤ x → earlier (tick_of_number s x) a.end ≡ false)
    (step : (x : ℕ) → next (tick_of_number s x) ≡ tick_of_number s (x + s.step)) where
  pub walk_is : (turns : ℕ) (first : Value) → first ≡ tick_of_number s s.first → s.count < turns →
      while turns (λ v. earlier v a.end) (λ v. v) next first ≡ ticks s
  walk_is turns first q t =
      let f = s.first in
      let k = s.step in
      let z : f + 0 * k ≡ f = omega arith in
      let far : l ≤ f + s.count * k = rw all (omega (arith, all_fit (l - f) k p)) in
      rw q (rw z at (while_is (λ (v : Value). earlier v a.end) (λ (v : Value). v) next (tick_of s) (tick_of s) s.count
      (λ i h. goes (f + i * k) (omega (arith, inside (l - f) k i p (rw all at h))))
      (stops (f + s.count * k) far)
      (λ i h. refl)
      (λ i h. let o : f + i * k + k ≡ f + suc i * k = omega arith in rw o at (step (f + i * k)))
      turns t))

-- ---- adding nanoseconds
abbrev counted : ℤ → ℕ → ℕ → Value
counted base per x = record { head = base +ℤ pos (x / per); tail = pos (x % per) }

plus_is : (base : ℤ) (per x k : ℕ) → 0 < per → plus per (counted base per x) k ≡ counted base per (x + k)
unfolding plus
plus_is base per x k p =
    let y = (x % per + k) / per in
    let whole : x + k ≡ x / per * per + (x % per + k) = omega (arith, div-add-mod' x per) in
    let q : (x + k) / per ≡ x / per + y = ap (λ (n : ℕ). n / per) whole ∙ mul-add-div_right p (x / per) (x % per + k) in
    let r : (x + k) % per ≡ (x % per + k) % per =
    ap (λ (n : ℕ). n % per) whole ∙ mul-add-mod_self_right (x / per) per (x % per + k) in
    rw (q, r, +ℤ_assoc base (pos (x / per)) (pos y))

-- ---- the first tick of a date-time
up_is : (x k : ℕ) → aligned_up x k ≡ x + shift_up x k
unfolding aligned_up shift_up
up_is x k =
    elim (dec_le 1 (x % k)) [
      | yes l ↦ rw (lt-ltb 0 (x % k) l, ne_eqb (x % k) 0 (λ e. omega arith)) refl
      | no l ↦
          let e : x % k ≡ 0 = omega arith in
          let b : x % k ≤ 0 = omega arith in
          rw (le-ltb 0 (x % k) b, eq-eqb (x % k) 0 e) (omega arith)
    ]

first_date_time : (h : ℤ) (x k : ℕ) → plus per_day (midnight h) (aligned_up x k) ≡ counted h per_day (x + shift_up x k)
unfolding plus
first_date_time h x k = let z : 0 + aligned_up x k ≡ x + shift_up x k = omega (arith, up_is x k) in rw z refl

-- ---- the first tick of a duration
-- z nanoseconds are these seconds and the rest
record Split (z : ℤ) (v : Value) : Type 0 where
  pub whole : pos_part v.head * per_second + pos_part v.tail + neg_part z ≡ pos_part z + neg_part v.head * per_second
  pub tail_dn : neg_part v.tail ≡ 0
  pub tail_most : pos_part v.tail < per_second

one_split : (z : ℤ) (v w : Value) → Split z v → Split z w → v ≡ w
one_split z v w a b =
    let h : v.head ≡ w.head =
    same v.head w.head (omega (arith, a.whole, b.whole, a.tail_most, b.tail_most)) in
    let t : v.tail ≡ w.tail =
    same v.tail w.tail (omega (arith, a.whole, b.whole, ap pos_part h, ap neg_part h, a.tail_dn, b.tail_dn)) in
    λ i. record { head = h i; tail = t i }

duration_split : (z : ℤ) → Split z (duration_of z)
unfolding duration_of
duration_split (pos n) = record { whole = omega arith; tail_dn = refl; tail_most = omega arith }
duration_split (negsuc n) = record { whole = omega arith; tail_dn = refl; tail_most = omega arith }

duration_at : (h t : ℤ) (x : ℕ) → neg_part t ≡ 0 →
    duration_of (h *ℤ pos per_second +ℤ t +ℤ pos x) ≡ counted h per_second (pos_part t + x)
duration_at h t x z =
    let n = h *ℤ pos per_second +ℤ t in
    one_split (n +ℤ pos x) (duration_of (n +ℤ pos x)) (counted h per_second (pos_part t + x)) (duration_split (n +ℤ pos x))
    (record {
      whole = omega (arith, add n (pos x), joint h t per_second, add h (pos ((pos_part t + x) / per_second)));
      tail_dn = refl;
      tail_most = omega arith;
    })

module _ (k : ℕ) (p : 0 < k) where
  aligned_is : (z : ℤ) → aligned z k ≡ z +ℤ pos (shift_of z k)
  unfolding aligned shift_of
  aligned_is z =
      let x = as_u64 z % k in
      elim (dec_le 1 x) [
        | yes l ↦ rw (lt-ltb 0 x l, ne_eqb x 0 (λ e. omega arith)) (moved z (lt_z (pos 0) z) refl)
        | no l ↦
            let e : x ≡ 0 = omega arith in
            let b : x ≤ 0 = omega arith in
            rw (le-ltb 0 x b, eq-eqb x 0 e) (sym (+ℤ_idr z))
      ]
    where
      moved : (z : ℤ) (b : Bool) → lt_z (pos 0) z ≡ b →
          cond b (z +ℤ (pos k -ℤ rem_z z (pos k))) (z -ℤ rem_z z (pos k))
          ≡ z +ℤ pos (cond b (k - nat_abs (rem_z z (pos k))) (nat_abs (rem_z z (pos k))))
      moved (pos x) true e =
          let r = pos (x % k) in
          let m = mod-lt x p in
          same (pos x +ℤ (pos k -ℤ r)) (pos x +ℤ pos (k - x % k))
          (omega (arith, add (pos x) (pos k -ℤ r), sub (pos k) r))
      moved (pos x) false e =
          same (pos x -ℤ pos (x % k)) (pos x +ℤ pos (x % k))
          (omega (arith, sub (pos x) (pos (x % k)), mod-le x k, lt_false (pos 0) (pos x) e))
      moved (negsuc x) true e = absurd (let z : ⊥ = omega (arith, lt_true (pos 0) (negsuc x) e) in z)
      moved (negsuc x) false e = rw (neg_ℤ-neg_ℤ (pos (suc x % k)), turned_size (suc x % k))

  first_duration : (v : Value) → neg_part v.tail ≡ 0 →
      duration_of (aligned (nanoseconds Span v) k)
      ≡ counted v.head per_second (pos_part v.tail + shift_of (nanoseconds Span v) k)
  unfolding nanoseconds
  first_duration v z =
      let n = nanoseconds Span v in
      rw (aligned_is n) (duration_at v.head v.tail (shift_of n k) z)

-- ---- the laws
module _ (a : Axis) (n turns : ℕ) (q : Accepted a n) (some : 1 ≤ n) (k : ℕ) (h : period_in a n ≡ Some k)
    (t : n + 30 ≤ turns) where
  abbrev axis : Timed a k
  axis = timed a n q some k h

  abbrev few : pos_part (span_of a) < (n + 1) * k
  few = few_periods a n q some k h

  by_period : (per x : ℕ) (first : Value) (c : Counts a per) (near : x ≤ k) →
      first ≡ counted a.start.head per (pos_part a.start.tail + x) →
      list_from turns a per k first ≡ ticks (even a n k per x axis c few near)
  by_period per x first c near b =
      let s = even a n k per x axis c few near in
      let l = pos_part a.start.tail + pos_part (span_of a) in
      let last = at_end_tick a n k per x axis c few near in
      let above : 0 < per = omega (arith, c.least) in
      let room : l - s.first ≤ (n + 1) * k = omega (arith, few) in
      walk_is a s l (λ v. plus per v k) axis.above refl
      (λ y o. rw (← last) (earlier_yes (tick_of_number s y) (tick_of_number s l) (before 1 (omega arith) (later s y l above o))))
      (λ y o. rw (← last) (elim (eq-or-lt_of_le o) [
        | inl e ↦ rw e (earlier_no (tick_of_number s y) (tick_of_number s y) (inr (omega arith, omega arith)))
        | inr g ↦ earlier_no (tick_of_number s y) (tick_of_number s l) (before 0 (omega arith) (later s l y above g))
      ]))
      (λ y. plus_is a.start.head per y k above) turns first b (omega (arith, few_steps (l - s.first) k n axis.above room))

  pub date_times_same : is_duration a.kind ≡ false → date_times_by turns a k ≡ ticks (time_plan a k)
  unfolding date_times_by time_plan shift
  date_times_same d =
      let x = pos_part a.start.tail in
      let per : unit a.kind ≡ per_day = rw d in
      let c : Counts a per_day = rw per at (counts a q.real) in
      rw d (by_period per_day (shift_up x k) _ c (up_most k axis.above x) (first_date_time a.start.head x k))

  pub durations_same : is_duration a.kind ≡ true → durations_by turns a k ≡ ticks (time_plan a k)
  unfolding durations_by time_plan shift
  durations_same d =
      let z = nanoseconds Span a.start in
      let per : unit a.kind ≡ per_second = rw d in
      let c : Counts a per_second = rw per at (counts a q.real) in
      rw d (by_period per_second (shift_of z k) _ c (shift_most k axis.above z) (first_duration k axis.above a.start c.start_dn))
