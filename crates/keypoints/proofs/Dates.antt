-- `RangedDate::key_points` is the list of the days' plan. Assumes nothing.
use mathlib.Core.Path.{◌≡◌, refl, sym, ap, ◌∙◌}
use mathlib.Core.Bool.{Bool, true, false, cond, ◌&&◌}
use mathlib.Core.List.{[], ◌∷◌}
use Prim.Native.Nat.{ℕ, zero, suc, ◌+◌, ◌-◌, ◌*◌, ◌/◌, ◌≤◌, ◌<◌, min}
use native.Mathlib.Nat.{div-one, div-div-eq-div-mul, div-eq_of_lt}
use native.Mathlib.Decide.{dec_le}
use native.Mathlib.Omega.{arith}
use lib.Dec.{ltb, leb, eqb}
use lib.IntN.{pos, ◌-ℤ◌}
use borrow.Author.Tests.{eqb-true, lt-leb, ne_eqb}
use Rattle.laws.specs.Numbers.{is_number}
use Rattle.laws.proofs.Signed.{same, sub}
use Rattle.laws.proofs.Tests.{and_false}
use Rattle.floats.specs.Rounding.{ceil_of}
use Rattle.values.specs.declared.Value.{Value}
use Rattle.values.specs.Values.{midnight}
use Rattle.axis.specs.declared.Axis.{Axis}
use Rattle.counting.specs.Counting.{from_day, to_day}
use Rattle.steps.specs.declared.Steps.{Steps}
use Rattle.steps.specs.Progression.{fitting, tick_of, ticks}
use Rattle.plans.specs.Days.{date_step, whole_heads, evenly, days_by, day_plan}
use Rattle.plans.proofs.Promise.{heads_tick}
use Rattle.keypoints.specs.Loops.{for_to}
use Rattle.keypoints.specs.Dates.{every_few, dates_from, date_key_points}
use Rattle.keypoints.proofs.Loops.{values_same, for_is}

-- the date with a day number
abbrev pub on : ℕ → Value
on day = midnight (pos day)

-- days k apart, of which the last is no more than d after the first
abbrev apart : ℕ → ℕ → ℕ → Steps
apart from d k = evenly (record { heads = whole_heads (pos from); first = 0; end = d + 1; step = k })

day_tick : (from d k i : ℕ) → tick_of (apart from d k) i ≡ on (from + i * k)
day_tick from d k i = heads_tick (pos from) (0 + i * k) ∙ ap on (omega arith)

-- a loop over such days lists them
module _ (from d k last : ℕ) (is : d / k ≡ last) (day : ℕ → ℕ) (each : (i : ℕ) → i ≤ last → day i ≡ from + i * k) where
  for_days : for_to last (λ i. on (day i)) ≡ ticks (apart from d k)
  for_days =
      let z : d + 1 - 0 ≡ suc d = omega arith in
      let c : fitting (d + 1 - 0) k ≡ suc last = rw (z, is) (omega arith) in
      rw (for_is last (λ i. on (day i)), c)
      (values_same (λ i. on (day i)) (tick_of (apart from d k)) (suc last)
      (λ i h. ap on (each i (omega arith)) ∙ sym (day_tick from d k i)))

-- a step of more than w + 1 weeks is as good as one of w + 1, where w are the whole weeks
few_is : (from d p : ℕ) → every_few from (d / 7) p ≡ ticks (apart from d (7 * min p (d / 7 + 1)))
few_is from d p =
    elim (dec_le p (d / 7 + 1)) [
      | yes l ↦
          let e : min p (d / 7 + 1) ≡ p = omega arith in
          let q : d / (7 * p) ≡ d / 7 / p = sym (div-div-eq-div-mul d 7 p) in
          rw e (for_days from d (7 * p) (d / 7 / p) q (λ i. from + 7 * (i * p)) (λ i h. omega arith))
      | no l ↦
          let w : ℕ = d / 7 + 1 in
          let e : min p w ≡ w = omega arith in
          let z : d / 7 / p ≡ 0 = div-eq_of_lt (omega arith) in
          let q : d / (7 * w) ≡ 0 = div-eq_of_lt (omega arith) in
          rw (e, z) (for_days from d (7 * w) 0 q (λ i. from + 7 * (i * p))
          (λ i h. let f : i ≡ 0 = omega arith in rw f (omega arith)))
    ]

-- ---- by the same tests
none_is : (w : ℕ) → is_number (pos w) 0 ≡ eqb w 0
none_is zero = refl
none_is (suc w) =
    let h : 0 < suc w = omega arith in
    rw (lt-leb (suc w) 0 h, ne_eqb (suc w) 0 (λ e. omega arith)) (and_false (leb 0 (suc w)))

dates_by : (from d n : ℕ) → dates_from from (pos d) (pos (d / 7)) n ≡ ticks (days_by from d n)
unfolding dates_from date_step
dates_by from d n =
    rw (none_is (d / 7)) (go (ltb 0 d && leb d n) (ltb 0 (d / 7) && leb (d / 7) n) (eqb (d / 7) 0) (eqb-true (d / 7) 0))
  where
    p : ℕ
    p = ceil_of (d / 7) n

    go : (x y z : Bool) → (z ≡ true → d / 7 ≡ 0)
        → cond x (for_to d (λ i. on (from + i))) (cond y (for_to (d / 7) (λ i. on (from + 7 * i)))
        (cond z (on from ∷ []) (every_few from (d / 7) p)))
        ≡ ticks (apart from d (cond x 1 (cond y 7 (cond z 7 (7 * min p (d / 7 + 1))))))
    go true y z e = for_days from d 1 d (div-one d) (λ i. from + i) (λ i h. omega arith)
    go false true z e = for_days from d 7 (d / 7) refl (λ i. from + 7 * i) (λ i h. omega arith)
    go false false true e = for_days from d 7 0 (e refl) (λ i. from) (λ i h. omega arith)
    go false false false e = few_is from d p

-- ---- the law: an axis of dates lists the days between its ends, which are those of the axis a
pub dates_same : (a b : Axis) (n : ℕ) → b.start.head ≡ pos (from_day a) → b.end.head ≡ pos (to_day a) →
    from_day a ≤ to_day a → date_key_points b n ≡ ticks (day_plan a n)
unfolding date_key_points day_plan
dates_same a b n s e o =
    let d = to_day a - from_day a in
    let z = pos (to_day a) -ℤ pos (from_day a) in
    let f : z ≡ pos d = same z (pos d) (omega (arith, sub (pos (to_day a)) (pos (from_day a)))) in
    rw (s, e, f) (dates_by (from_day a) d n)
