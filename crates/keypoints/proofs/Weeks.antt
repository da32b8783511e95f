-- The ticks of a week axis: its Mondays are a week apart, the step is the least that the hint allows, and every m-th Monday
-- is the list of the weeks' plan. Assumes nothing.
use mathlib.Core.Path.{◌≡◌, refl, sym, ap, ◌∙◌, subst}
use mathlib.Core.List.{List, [], ◌∷◌, ◌++◌}
use Prim.Native.Nat.{ℕ, zero, suc, ◌+◌, ◌-◌, ◌*◌, ◌/◌, ◌≤◌, ◌<◌}
use native.Mathlib.Nat.{div-div-eq-div-mul, div-lt_iff_lt-mul, div-eq_of_lt, div-eq-sub-div, mul-le-mul_right}
use native.Mathlib.Decide.{dec_le}
use native.Mathlib.Numerals.{add-one}
use native.Mathlib.Omega.{arith}
use lib.IntN.{pos}
use lib.ListN.{length}
use borrow.Author.Tests.{eqb-true, eqb-false, leb-true, leb-false}
use Rattle.weeks.specs.Weeks.{weekday, first_monday}
use Rattle.weeks.proofs.Mondays.{first_monday_law}
use Rattle.values.specs.declared.Value.{Value}
use Rattle.axis.specs.declared.Axis.{Axis}
use Rattle.counting.specs.Counting.{Dated, from_day, to_day}
use Rattle.counting.proofs.Counting.{from_range}
use Rattle.steps.specs.Progression.{fitting, tick_of, values_of, ticks}
use Rattle.steps.proofs.Fitting.{few_steps, all_fit}
use Rattle.steps.proofs.Pairs.{length_values}
use Rattle.plans.specs.Weeks.{week_step, weeks_by, week_plan}
use Rattle.plans.proofs.Cases.{choose}
use Rattle.plans.proofs.Promise.{heads_tick}
use Rattle.plans.proofs.Weeks.{week_room}
use Rattle.keypoints.specs.Weeks.{mondays_from, every_after, every, least_from, weeks_per_point, Least, mondays_on}
use Rattle.keypoints.specs.Weeks.{week_key_points}
use Rattle.keypoints.proofs.Loops.{values_same}
use Rattle.keypoints.proofs.Dates.{on}

-- a list of values, from its first
values_first : (f : ℕ → Value) (n : ℕ) → values_of f (suc n) ≡ f 0 ∷ values_of (λ i. f (suc i)) n
values_first f zero = refl
values_first f (suc n) = ap (λ (l : List Value). l ++ (f (suc n) ∷ [])) (values_first f n)

-- ---- every m-th of a list
-- past the first of m, a step less fits
step_less : (c m : ℕ) → 1 ≤ m → fitting (c - (m - 1)) m ≡ c / m
step_less c m h =
    elim (dec_le m c) [
      | yes l ↦ let e : c - (m - 1) ≡ suc (c - m) = omega arith in rw (e, div-eq-sub-div h l)
      | no l ↦
          let e : c - (m - 1) ≡ 0 = omega arith in
          let q : c / m ≡ 0 = div-eq_of_lt (omega arith) in
          rw (e, q)
    ]

module _ (m : ℕ) (h : 1 ≤ m) where
  after_length : (left : ℕ) (vs : List Value) → length (every_after left m vs) ≡ fitting (length vs - left) m
  unfolding every_after
  after_length left [] = let z : 0 - left ≡ 0 = omega arith in rw z
  after_length zero (v ∷ vs) =
      let z : suc (length vs) - 0 ≡ suc (length vs) = omega arith in
      rw (z, after_length (m - 1) vs, step_less (length vs) m h) (omega arith)
  after_length (suc left) (v ∷ vs) =
      let z : suc (length vs) - suc left ≡ length vs - left = omega arith in
      rw z (after_length left vs)

  -- of any list, as many as steps of m fit its length
  pub every_length : (vs : List Value) → length (every m vs) ≡ fitting (length vs) m
  every_length vs = let z : length vs - 0 ≡ length vs = omega arith in rw z at (after_length 0 vs)

  after_are : (f : ℕ → Value) (c left : ℕ) →
      every_after left m (values_of f c) ≡ values_of (λ i. f (left + i * m)) (fitting (c - left) m)
  unfolding every_after
  after_are f zero left = let z : 0 - left ≡ 0 = omega arith in rw z
  after_are f (suc c) zero =
      let z : suc c - 0 ≡ suc c = omega arith in
      let g : ℕ → Value = λ i. f (0 + i * m) in
      let one : 0 + 0 * m ≡ 0 = omega arith in
      rw (values_first f c, after_are (λ i. f (suc i)) c (m - 1), step_less c m h, z, add-one (c / m))
      (rw (values_first g (c / m), one)
      (ap (λ (l : List Value). f 0 ∷ l)
      (values_same (λ i. f (suc (m - 1 + i * m))) (λ i. g (suc i)) (c / m) (λ i l. ap f (omega arith)))))
  after_are f (suc c) (suc left) =
      let z : suc c - suc left ≡ c - left = omega arith in
      rw (values_first f c, z, after_are (λ i. f (suc i)) c left)
      (values_same (λ i. f (suc (left + i * m))) (λ i. f (suc left + i * m)) (fitting (c - left) m) (λ i l. ap f (omega arith)))

  -- of the values of a row, those m places apart
  pub every_are : (f : ℕ → Value) (c : ℕ) → every m (values_of f c) ≡ values_of (λ i. f (i * m)) (fitting c m)
  every_are f c =
      let z : c - 0 ≡ c = omega arith in
      rw z at (after_are f c 0)
      ∙ values_same (λ i. f (0 + i * m)) (λ i. f (i * m)) (fitting c m) (λ i l. ap f (omega arith))

-- ---- the least step
module _ (vs : List Value) (n : ℕ) where
  abbrev c : ℕ
  c = length vs

  no_smaller : (k : ℕ) → 1 ≤ k → length (every k vs) ≤ n + 1 → week_step c n ≤ k
  unfolding week_step
  no_smaller k h l =
      let p : 0 < n + 1 = omega arith in
      let f : fitting c k ≤ n + 1 = rw (every_length k h vs) at l in
      let r : c ≤ (n + 1) * k = omega (arith, all_fit c k h, mul-le-mul_right k f) in
      let t : c - 1 < k * (n + 1) = omega arith in
      let q : (c - 1) / (n + 1) < k = (div-lt_iff_lt-mul p).1 t in
      omega arith

  closed_least : Least vs n (week_step c n)
  closed_least =
      let (p, q, _) = week_room c n in
      record { first = p; few = rw (every_length (week_step c n) p vs) (few_steps c (week_step c n) n p q); least = no_smaller }

  -- a number whose list is longer is another
  longer : (m s : ℕ) → Least vs n s → n + 1 < length (every m vs) → s ≡ m → ⊥
  longer m s r l e = let f = subst (λ (x : ℕ). length (every x vs) ≤ n + 1) e r.few in omega arith

  -- the search from m on finds it, where it is not too far
  found : (more m s : ℕ) → Least vs n s → 1 ≤ m → m ≤ s → s ≤ m + more → least_from more vs n m ≡ s
  unfolding least_from
  found zero m s r h a b = omega arith
  found (suc more) m s r h a b =
      choose (λ (x : ℕ). x ≡ s) _ (λ t. omega (arith, r.least m h (leb-true _ _ t)))
      (λ t. found more (m + 1) s r (omega arith) (omega (arith, longer m s r (leb-false _ _ t))) (omega arith))

  pub step_is : weeks_per_point vs n ≡ week_step c n
  unfolding weeks_per_point
  step_is =
      let (p, _, l) = week_room c n in
      found c 1 (week_step c n) closed_least (omega arith) p (omega arith)

  -- no smaller step would do, whatever the list
  pub week_step_least : Least vs n (weeks_per_point vs n)
  week_step_least = rw step_is closed_least

-- ---- the Mondays of a span
monday_here : (n : ℕ) → 1 ≤ n → weekday n ≡ 1 → (first_monday n ≡ n) × (first_monday (n + 1) ≡ n + 7)
unfolding weekday
monday_here n h e = omega (arith, first_monday_law n h, first_monday_law (n + 1) (omega arith))

monday_later : (n : ℕ) → 1 ≤ n → (weekday n ≡ 1 → ⊥) → first_monday (n + 1) ≡ first_monday n
unfolding weekday
monday_later n h e = omega (arith, first_monday_law n h, first_monday_law (n + 1) (omega arith))

-- a week apart from the first: of the k days from n on, the last of which is n + k - 1
pub mondays_are : (k n : ℕ) → 1 ≤ n →
    mondays_from k n ≡ values_of (λ i. on (first_monday n + i * 7)) ((n + k + 6 - first_monday n) / 7)
unfolding mondays_from
mondays_are zero n h =
    let z : (n + 0 + 6 - first_monday n) / 7 ≡ 0 = omega (arith, first_monday_law n h) in
    rw z
mondays_are (suc k) n h =
    choose (λ (l : List Value). l ≡ values_of (λ i. on (first_monday n + i * 7)) ((n + suc k + 6 - first_monday n) / 7)) _
    (λ t. let (x, y) = monday_here n h (eqb-true _ _ t) in
    let z : (n + suc k + 6 - n) / 7 ≡ suc (k / 7) = omega arith in
    let w : (n + 1 + k + 6 - (n + 7)) / 7 ≡ k / 7 = omega arith in
    let g : ℕ → Value = λ i. on (n + i * 7) in
    let one : n + 0 * 7 ≡ n = omega arith in
    rw (mondays_are k (n + 1) (omega arith), x, y, z, w, values_first g (k / 7), one)
    (ap (λ (l : List Value). on n ∷ l)
    (values_same (λ i. on (n + 7 + i * 7)) (λ i. g (suc i)) (k / 7) (λ i l. ap on (omega arith)))))
    (λ t. let e = monday_later n h (eqb-false _ _ t) in
    let z : n + suc k ≡ n + 1 + k = omega arith in
    rw (z, ← e) (mondays_are k (n + 1) (omega arith)))

-- ---- the law
-- a step of m Mondays is one of 7 * m days
days_fit : (f e m : ℕ) → 1 ≤ m → fitting ((e + 7 - f) / 7) m ≡ fitting (e + 1 - f - 0) (7 * m)
days_fit f e m h =
    elim (dec_le f e) [
      | yes l ↦
          let x : (e + 7 - f) / 7 ≡ suc ((e - f) / 7) = omega arith in
          let y : e + 1 - f - 0 ≡ suc (e - f) = omega arith in
          rw (x, y, div-div-eq-div-mul (e - f) 7 m)
      | no l ↦
          let x : (e + 7 - f) / 7 ≡ 0 = omega arith in
          let y : e + 1 - f - 0 ≡ 0 = omega arith in
          rw (x, y)
    ]

-- every m-th of the Mondays from f to e
weeks_by_law : (f e n : ℕ) → let c = (e + 7 - f) / 7 in
    every (week_step c n) (values_of (λ i. on (f + i * 7)) c) ≡ ticks (weeks_by f e n)
weeks_by_law f e n =
    let c = (e + 7 - f) / 7 in
    let m = week_step c n in
    let p = (week_room c n).0 in
    rw (every_are m p (λ i. on (f + i * 7)) c, days_fit f e m p)
    (values_same (λ i. on (f + i * m * 7)) (tick_of (weeks_by f e n)) (weeks_by f e n).count
    (λ i l. ap on (omega arith) ∙ sym (heads_tick (pos f) (0 + i * (7 * m)))))

pub weeks_same : (a : Axis) (n : ℕ) → Dated a → week_key_points a n ≡ ticks (week_plan a n)
unfolding week_key_points mondays_on week_plan
weeks_same a n r =
    let s = from_day a in
    let e = to_day a in
    let (h, _) = from_range a r in
    let x = step_is (mondays_from (e + 1 - s) s) n in
    let z : (s + (e + 1 - s) + 6 - first_monday s) / 7 ≡ (e + 7 - first_monday s) / 7 = omega (arith, first_monday_law s h) in
    rw (x, mondays_are (e + 1 - s) s h, z, length_values (λ i. on (first_monday s + i * 7)) ((e + 7 - first_monday s) / 7))
    (weeks_by_law (first_monday s) e n)
