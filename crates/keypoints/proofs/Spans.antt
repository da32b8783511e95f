-- The list of whole days of a long duration is the plan's. Assumes nothing.
use mathlib.Core.Path.{◌≡◌, refl, sym, ◌∙◌}
use mathlib.Core.Bool.{Bool, true, false, cond}
use mathlib.Core.Logic.{inl, inr}
use Prim.Native.Nat.{ℕ, zero, suc, ◌+◌, ◌-◌, ◌*◌, ◌/◌, ◌^◌, ◌≤◌, ◌<◌}
use native.Mathlib.Nat.{eq-or-lt_of_le, div-one, mod-one, div-eq_of_lt, pow-suc}
use native.Mathlib.Omega.{arith}
use lib.Dec.{ltb, eqb}
use lib.ListN.{get_or}
use lib.IntN.{ℤ, pos, ◌+ℤ◌, ◌-ℤ◌, ◌*ℤ◌, +ℤ_idr, +ℤ_one, +ℤ_assoc, suc_ℤ-*ℤ}
use lib.Signed.{lt_z}
use borrow.Author.Tests.{ltb-true, ltb-false, eqb-true, eqb-false}
use Rattle.laws.specs.Numbers.{pos_part, neg_part}
use Rattle.laws.specs.Units.{seconds_per_day}
use Rattle.laws.proofs.Signed.{add, sub, lt_true, lt_false, pos_up}
use Rattle.values.specs.declared.Value.{Value}
use Rattle.values.specs.Values.{earlier, midnight}
use Rattle.values.specs.Differences.{days_in, of_days}
use Rattle.axis.specs.declared.Axis.{Axis}
use Rattle.axis.specs.Questions.{equals}
use Rattle.period.specs.Ladders.{step_at, decimal_ladder, rare, first_fit}
use Rattle.period.proofs.Search.{Come, come_first}
use Rattle.period.proofs.Fits.{fit_here, fit_next, fit_above, fit_room}
use Rattle.steps.specs.Progression.{ticks}
use Rattle.steps.proofs.Fitting.{few_steps}
use Rattle.plans.specs.Days.{whole_heads, evenly}
use Rattle.plans.specs.Times.{first_second, seconds_left, span_days_plan, Long}
use Rattle.plans.proofs.Cases.{both_ways, choose}
use Rattle.plans.proofs.Spans.{left_dn, left_most, total_dn, total_range}
use Rattle.keypoints.specs.Times.{multiplier, days_per_tick, first_whole, whole_days_by}
use Rattle.keypoints.proofs.Years.{step_is}
use Rattle.keypoints.proofs.Times.{earlier_yes, earlier_no, walk_is}

-- ---- the step
module _ (total n : ℕ) (small : total < 10000000) where
  not_last : (i s : ℕ) → step_at (decimal_ladder 1) i ≡ s → i ≤ 21 → n < total / s → i < 21
  not_last i s e l h = elim (eq-or-lt_of_le l) [ inl z ↦ absurd (clash (rw (← e, z) at h)) | inr o ↦ o ]
    where
      clash : n < total / 10000000 → ⊥
      clash g = omega (arith, div-eq_of_lt small)

  -- the loop has come to step i, which is the multiplier r of 10 ^ q
  found : (turns q r i : ℕ) → i ≡ 3 * q + r → r < 3 → 21 < turns + i → Come (rare total n) 21 i →
      days_per_tick turns (pos total) n (10 ^ q) r ≡ first_fit total n
  unfolding days_per_tick
  found zero q r i e l t w = absurd (let z : ⊥ = omega (arith, w.within) in z)
  found (suc turns) q r i e l t w =
      let s = 10 ^ q * get_or multiplier r 0 in
      let step : step_at (decimal_ladder 1) i ≡ s = step_is q r (get_or multiplier r 0) i e l refl in
      choose (λ (x : ℕ). x ≡ first_fit total n) (ltb n (total / s))
      (λ b. let h = ltb-true n (total / s) b in
      let v : Come (rare total n) 21 (suc i) = fit_next total n w (not_last i s step w.within h) (rw step h) in
      both_ways
      (λ (d : Bool). days_per_tick turns (pos total) n (cond d (10 ^ q * 10) (10 ^ q)) (cond d 0 (r + 1)) ≡ first_fit total n)
      (eqb (r + 1) 3)
      (λ d. let o = eqb-true (r + 1) 3 d in
      rw (pow-suc 10 q) at (found turns (suc q) 0 (suc i) (omega arith) (omega arith) (omega arith) v))
      (λ d. let o = eqb-false (r + 1) 3 d in
      found turns q (r + 1) (suc i) (omega arith) (omega arith) (omega arith) v))
      (λ b. sym step ∙ fit_here total n w (rw step (ltb-false n (total / s) b)))

  days_per_tick_law : (turns : ℕ) → 21 < turns → days_per_tick turns (pos total) n 1 0 ≡ first_fit total n
  days_per_tick_law turns t = found turns 0 0 0 refl (omega arith) (omega arith) come_first

-- ---- the first tick
first_whole_law : (v : Value) → first_whole v ≡ midnight (first_second v)
unfolding first_whole first_second
first_whole_law v = go (days_in v) (equals v (of_days (days_in v)))
  where
    go : (d : ℤ) (b : Bool) → of_days (d +ℤ cond b (pos 0) (pos 1))
        ≡ midnight ((of_days d).head +ℤ cond b (pos 0) (pos seconds_per_day))
    go d true = rw (+ℤ_idr d, +ℤ_idr (d *ℤ pos seconds_per_day))
    go d false = rw (+ℤ_one d, suc_ℤ-*ℤ d (pos seconds_per_day))

-- ---- the loop
module _ (a : Axis) (n turns : ℕ) (l : Long a) (t : n + 30 ≤ turns) where
  abbrev first : ℤ
  first = first_second a.start

  -- the seconds from the first tick to the end's head, and whether a tail stands after them
  abbrev left : ℕ
  left = pos_part (a.end.head -ℤ first)

  abbrev tail : Bool
  tail = lt_z (pos 0) a.end.tail

  apart : (x : ℕ) →
      pos_part (first +ℤ pos x) + neg_part a.end.head + left ≡ x + pos_part a.end.head + neg_part (first +ℤ pos x)
  apart x = omega (arith, add first (pos x), sub a.end.head first, left_dn a l)

  goes : (x : ℕ) → x < seconds_left a → earlier (midnight (first +ℤ pos x)) a.end ≡ true
  unfolding seconds_left
  goes x =
      let v = midnight (first +ℤ pos x) in
      choose (λ (k : ℕ). x < left + k → earlier v a.end ≡ true) tail
      (λ e h. earlier_yes v a.end (inr (omega (arith, apart x), omega (arith, lt_true (pos 0) a.end.tail e))))
      (λ e h. earlier_yes v a.end (inl (omega (arith, apart x))))

  stops : (x : ℕ) → seconds_left a ≤ x → earlier (midnight (first +ℤ pos x)) a.end ≡ false
  unfolding seconds_left
  stops x =
      let v = midnight (first +ℤ pos x) in
      choose (λ (k : ℕ). left + k ≤ x → earlier v a.end ≡ false) tail
      (λ e h. earlier_no v a.end (inl (omega (arith, apart x))))
      (λ e h. earlier_no v a.end (inr (omega (arith, apart x), omega (arith, lt_false (pos 0) a.end.tail e))))

  by_days_law : (f : ℕ) → 0 < f → seconds_left a ≤ (n + 1) * (seconds_per_day * f) →
      whole_days_by turns a f
      ≡ ticks (evenly (record { heads = whole_heads first; first = 0; end = seconds_left a; step = seconds_per_day * f }))
  unfolding whole_days_by
  by_days_law f p room =
      let k = seconds_per_day * f in
      let s = evenly (record { heads = whole_heads first; first = 0; end = seconds_left a; step = k }) in
      let above : 0 < k = omega arith in
      let c : seconds_left a - 0 ≤ (n + 1) * k = omega arith in
      walk_is a s (seconds_left a) (λ v. record { head = v.head +ℤ pos k; tail = v.tail }) above refl
      (λ x h. rw (div-one x, mod-one x) (goes x h))
      (λ x h. rw (div-one x, mod-one x) (stops x h))
      (λ x. rw (div-one x, mod-one x, div-one (x + k), mod-one (x + k), +ℤ_assoc first (pos x) (pos k)))
      turns (first_whole a.start) (rw (first_whole_law a.start, +ℤ_idr first))
      (omega (arith, few_steps (seconds_left a - 0) k n above c))

  -- ---- the law
  pub whole_days_same : whole_days_by turns a (days_per_tick turns (days_in a.end -ℤ days_in a.start) n 1 0)
      ≡ ticks (span_days_plan a n)
  unfolding span_days_plan
  whole_days_same =
      let total = days_in a.end -ℤ days_in a.start in
      let (small, fits) = total_range a l in
      let e = pos_up total (total_dn a l) in
      let f = first_fit (pos_part total) n in
      let d : days_per_tick turns total n 1 0 ≡ f =
      rw e at (days_per_tick_law (pos_part total) n (omega arith) turns (omega arith)) in
      rw d (by_days_law f (fit_above (pos_part total) n) (omega
      (arith, left_most a l, fit_room (pos_part total) n (omega arith))))
