-- The walks over years and months are the lists of the plans for monthly and yearly axes. Assumes nothing.
use mathlib.Core.Path.{◌≡◌, refl, ◌∙◌}
use mathlib.Core.Bool.{Bool, true, false, cond, ◌&&◌, ◌||◌}
use Prim.Native.Nat.{ℕ, suc, ◌+◌, ◌-◌, ◌*◌, ◌/◌, ◌%◌, ◌^◌, ◌≤◌, ◌<◌}
use native.Mathlib.Nat.{le_refl, lt_of_not-le}
use native.Mathlib.Decide.{dec_le}
use native.Mathlib.Omega.{arith}
use lib.Dec.{leb, ltb, eqb}
use lib.IntN.{ℤ, pos, negsuc, ◌+ℤ◌, ◌-ℤ◌, ◌*ℤ◌}
use borrow.Author.Tests.{le-leb, lt-leb, lt-ltb, le-ltb, eq-eqb, ne_eqb}
use Rattle.laws.specs.Numbers.{pos_part, neg_part, as_u64}
use Rattle.laws.proofs.Signed.{as_u64_law, add, sub, mul_up, mul_dn}
use Rattle.calendar.specs.declared.Date.{Date}
use Rattle.calendar.specs.Gregorian.{Real, date_of}
use Rattle.calendar.proofs.Dates.{date_number}
use Rattle.values.specs.declared.Value.{Value}
use Rattle.values.proofs.Numbers.{not_below}
use Rattle.axis.specs.declared.Axis.{Axis}
use Rattle.axis.specs.Questions.{in_order}
use Rattle.counting.specs.Counting.{Dated, from_day, to_day}
use Rattle.counting.proofs.Counting.{starts, end_value, from_range, to_range, from_next, to_is}
use Rattle.period.specs.Ladders.{first_fit}
use Rattle.period.proofs.Fits.{fit_above, fit_room}
use Rattle.steps.specs.Months.{first_day, month_number, month_of, whole_month}
use Rattle.steps.specs.Progression.{fitting, tick_of, ticks}
use Rattle.steps.proofs.Fitting.{inside, all_fit, few_steps}
use Rattle.plans.specs.Months.{from_month, to_month, year_step, month_step, months_by, month_plan, year_plan}
use Rattle.plans.proofs.Months.{month_wide, months_kept, last_most, first_month, last_month}
use Rattle.plans.proofs.Promise.{heads_in_order}
use Rattle.keypoints.specs.Loops.{while}
use Rattle.keypoints.specs.Months.{first_of, YearMonth, ym, start_of, start_month, end_month, carried, generate_key_points}
use Rattle.keypoints.specs.Months.{last_year, generate_yearly_keypoints, total_month, months_from, month_key_points}
use Rattle.keypoints.specs.Months.{year_key_points}
use Rattle.keypoints.proofs.Loops.{while_is}
use Rattle.keypoints.proofs.Years.{freq_is}

-- the month x in a row
abbrev at : ℕ → YearMonth
at x = ym (x / 12 + 1) (x % 12 + 1)

-- ---- how often a walk from x to e turns, where it goes k months a time
abbrev count : ℕ → ℕ → ℕ → ℕ
count x e k = fitting (e + 1 - x) k

module _ (x e k : ℕ) (p : 0 < k) where
  before : (i : ℕ) → i < count x e k → x + i * k ≤ e
  before i h = omega (arith, inside (e + 1 - x) k i p h)

  beyond : x ≤ e + 1 → e < x + count x e k * k
  beyond h = omega (arith, all_fit (e + 1 - x) k p)

-- ---- generate_key_points
abbrev on : YearMonth → YearMonth → Bool
on end s = ltb s.year end.year || (eqb end.year s.year && leb s.month end.month)

on_yes : (x e : ℕ) → x ≤ e → on (at e) (at x) ≡ true
on_yes x e h =
    let y : ℕ = x / 12 + 1 in
    elim (dec_le (e / 12 + 1) y) [
      | yes l ↦
          let q : e / 12 ≡ x / 12 = omega arith in
          let m : x % 12 + 1 ≤ e % 12 + 1 = omega arith in
          rw (q, le-ltb y y (le_refl y), eq-eqb y y refl, le-leb (x % 12 + 1) (e % 12 + 1) m)
      | no l ↦ rw (lt-ltb y (e / 12 + 1) (lt_of_not-le l))
    ]

on_no : (x e : ℕ) → e < x → on (at e) (at x) ≡ false
on_no x e h =
    let y : ℕ = x / 12 + 1 in
    elim (dec_le y (e / 12 + 1)) [
      | yes l ↦
          let q : e / 12 ≡ x / 12 = omega arith in
          let m : e % 12 + 1 < x % 12 + 1 = omega arith in
          rw (q, le-ltb y y (le_refl y), eq-eqb y y refl, lt-leb (x % 12 + 1) (e % 12 + 1) m)
      | no l ↦
          let g : e / 12 + 1 ≤ y = omega arith in
          rw (le-ltb y (e / 12 + 1) g, ne_eqb (e / 12 + 1) y (λ q. omega arith))
    ]

abbrev next : ℕ → YearMonth → YearMonth
next k s = carried (ym s.year (s.month + k))

next_is : (x k : ℕ) → 0 < k → k ≤ 6 → next k (at x) ≡ at (x + k)
unfolding carried
next_is x k p h =
    elim (dec_le 13 (x % 12 + 1 + k)) [
      | yes l ↦
          let q : x / 12 + 1 + (x % 12 + 1 + k) / 12 ≡ (x + k) / 12 + 1 = omega arith in
          let r : (x % 12 + 1 + k) % 12 ≡ (x + k) % 12 + 1 = omega arith in
          rw (le-leb 13 (x % 12 + 1 + k) l, q, r)
      | no l ↦
          let q : x / 12 ≡ (x + k) / 12 = omega arith in
          let r : x % 12 + 1 + k ≡ (x + k) % 12 + 1 = omega arith in
          let b : x % 12 + 1 + k < 13 = omega arith in
          rw (lt-leb 13 (x % 12 + 1 + k) b, q, r)
    ]

abbrev value : YearMonth → Value
value s = first_of s.year s.month

walk_is : (x e k turns : ℕ) → 0 < k → k ≤ 6 → x ≤ e + 1 → count x e k < turns →
    generate_key_points turns (at x) (at e) k ≡ ticks (months_by x e k)
unfolding generate_key_points first_day
walk_is x e k turns p few h t =
    let z : x + 0 * k ≡ x = omega arith in
    rw z at (while_is (on (at e)) value (next k) (λ (i : ℕ). at (x + i * k)) (tick_of (months_by x e k)) (count x e k)
    (λ i l. on_yes (x + i * k) e (before x e k p i l))
    (on_no (x + count x e k * k) e (beyond x e k p h))
    (λ i l. refl)
    (λ i l. let o : x + suc i * k ≡ x + i * k + k = omega arith in rw o (next_is (x + i * k) k p few))
    turns t)

-- ---- `as usize` below 0
as_minus_one : (z : ℤ) → neg_part z ≡ pos_part z + 1 → as_u64 z ≡ 2 ^ 64 - 1
as_minus_one (pos n) e = absurd (let z : ⊥ = omega arith in z)
as_minus_one (negsuc n) e = omega arith

-- ---- generate_yearly_keypoints
-- the last year with the first month's number up to the last month
last_year_law : (x e : ℕ) → (12 * last_year (at x) (at e) + x % 12 ≤ e + 12) × (e < 12 * last_year (at x) (at e) + x % 12)
unfolding last_year
last_year_law x e =
    elim (dec_le (x % 12 + 1) (e % 12 + 1)) [
      | yes l ↦ rw (le-ltb (e % 12 + 1) (x % 12 + 1) l) (omega arith, omega arith)
      | no l ↦ rw (lt-ltb (e % 12 + 1) (x % 12 + 1) (lt_of_not-le l)) (omega arith, omega arith)
    ]

module _ (x e n turns : ℕ) (h : x ≤ e + 1) (small : e < 120000) (t : n + 10 ≤ turns) where
  abbrev Y : ℕ
  Y = last_year (at x) (at e)

  abbrev y : ℕ
  y = x / 12 + 1

  years_walk : (f : ℕ) → 0 < f → count x e (12 * f) < turns →
      while turns (λ (year : ℕ). leb year Y) (λ (year : ℕ). first_of year (x % 12 + 1)) (λ (year : ℕ). year + f) y
      ≡ ticks (months_by x e (12 * f))
  unfolding first_day
  years_walk f p c =
      let z : y + 0 * f ≡ y = omega arith in
      let (lo, hi) = last_year_law x e in
      let q : 0 < 12 * f = omega arith in
      let k = count x e (12 * f) in
      rw z at (while_is (λ (year : ℕ). leb year Y) (λ (year : ℕ). first_of year (x % 12 + 1)) (λ (year : ℕ). year + f)
      (λ (i : ℕ). y + i * f) (tick_of (months_by x e (12 * f))) k
      (λ i l. le-leb (y + i * f) Y (omega (arith, before x e (12 * f) q i l)))
      (lt-leb (y + k * f) Y (omega (arith, beyond x e (12 * f) q h)))
      (λ i l.
      let u : (x + i * (12 * f)) / 12 + 1 ≡ y + i * f = omega arith in
      let v : (x + i * (12 * f)) % 12 ≡ x % 12 = omega arith in
      rw (u, v))
      (λ i l. omega arith)
      turns c)

  -- the years from the first to the last
  abbrev years : ℤ
  years = pos Y -ℤ pos y +ℤ pos 1

  -- as months in a row tell them: 0 where there is no month
  abbrev total : ℕ
  total = (e + 12 - x) / 12

  total_is : as_u64 years ≡ total
  total_is =
      let (lo, hi) = last_year_law x e in
      let i : pos_part years + y ≡ Y + 1 + neg_part years = omega (arith, add (pos Y -ℤ pos y) (pos 1), sub (pos Y) (pos y)) in
      let z = not_below years (omega arith) in
      as_u64_law years z ∙ omega arith

  -- where there is no month, any step lists none
  any_step : (k j : ℕ) → e < x → ticks (months_by x e k) ≡ ticks (months_by x e j)
  any_step k j l = let z : e + 1 - x ≡ 0 = omega arith in rw z refl

  step_same : ticks (months_by x e (12 * first_fit total n)) ≡ ticks (months_by x e (year_step (e - x) n))
  unfolding year_step
  step_same =
      elim (dec_le x e) [
        | yes l ↦ let q : total ≡ (e - x) / 12 + 1 = omega arith in rw q
        | no l ↦ any_step (12 * first_fit total n) (year_step (e - x) n) (lt_of_not-le l)
      ]

  yearly_is : generate_yearly_keypoints turns n (at x) (at e) ≡ ticks (months_by x e (year_step (e - x) n))
  unfolding generate_yearly_keypoints
  yearly_is =
      let f = first_fit total n in
      let above : 0 < f = fit_above total n in
      let room : e + 1 - x ≤ (n + 1) * (12 * f) = omega (arith, fit_room total n (omega arith)) in
      rw (total_is, freq_is total n (omega arith) turns (omega arith))
      (years_walk f above (omega (arith, few_steps (e + 1 - x) (12 * f) n (omega arith) room)) ∙ step_same)

  -- ---- total_month
  abbrev months : ℤ
  months = (pos (e / 12 + 1) -ℤ pos y) *ℤ pos 12 +ℤ pos (e % 12 + 1) -ℤ pos (x % 12 + 1)

  months_is : pos_part months + x ≡ e + neg_part months
  months_is =
      let d = pos (e / 12 + 1) -ℤ pos y in
      let m = d *ℤ pos 12 +ℤ pos (e % 12 + 1) in
      omega (
        arith,
        sub (pos (e / 12 + 1)) (pos y),
        mul_up d 12,
        mul_dn d 12,
        add (d *ℤ pos 12) (pos (e % 12 + 1)),
        sub m (pos (x % 12 + 1)),
      )

  months_some : x ≤ e → total_month (at x) (at e) ≡ e - x
  unfolding total_month
  months_some l =
      let i = months_is in
      let z = not_below months (omega arith) in
      as_u64_law months z ∙ omega arith

  months_none : e < x → total_month (at x) (at e) ≡ 2 ^ 64 - 1
  unfolding total_month
  months_none l = let i = months_is in as_minus_one months (omega arith)

  -- ---- the monthly list
  monthly_is : n ≤ 4096 → months_from turns n (at x) (at e) ≡ ticks (months_by x e (month_step (e - x) n))
  unfolding months_from month_step
  monthly_is most =
      elim (dec_le x e) [
        | yes l ↦
            rw (months_some l) (go (leb (e - x) n) (leb (e - x) (n * 3)) (leb (e - x) (n * 6))
            (months_kept x e n (month_step (e - x) n) (month_wide (e - x) n (omega arith))).few)
        | no l ↦
            let m = total_month (at x) (at e) in
            let none : n * 6 < m = rw (months_none (lt_of_not-le l)) (omega arith) in
            rw (lt-leb m n (omega arith), lt-leb m (n * 3) (omega arith), lt-leb m (n * 6) none)
            (yearly_is ∙ any_step (year_step (e - x) n) (month_step (e - x) n) (lt_of_not-le l))
      ]
    where
      walk : (k : ℕ) → 0 < k → k ≤ 6 → count x e k ≤ n + 1 → generate_key_points turns (at x) (at e) k ≡ ticks (months_by x e k)
      walk k p l f = walk_is x e k turns p l h (omega arith)

      go : (a b c : Bool) → count x e (cond a 1 (cond b 3 (cond c 6 (year_step (e - x) n)))) ≤ n + 1 →
          cond a (generate_key_points turns (at x) (at e) 1) (cond b (generate_key_points turns (at x) (at e) 3)
          (cond c (generate_key_points turns (at x) (at e) 6) (generate_yearly_keypoints turns n (at x) (at e))))
          ≡ ticks (months_by x e (cond a 1 (cond b 3 (cond c 6 (year_step (e - x) n)))))
      go true b c f = walk 1 (omega arith) (omega arith) f
      go false true c f = walk 3 (omega arith) (omega arith) f
      go false false true f = walk 6 (omega arith) (omega arith) f
      go false false false f = yearly_is

-- ---- the ends
at_is : (y m x : ℕ) → x ≡ month_number y m → 1 ≤ y → 1 ≤ m → m ≤ 12 → ym y m ≡ at x
at_is y m x e a b c =
    let q : x / 12 + 1 ≡ y = omega arith in
    let r : x % 12 + 1 ≡ m = omega arith in
    rw (q, r)

module _ (t : Date) (r : Real t.year t.month t.day) where
  abbrev month : ℕ
  month = month_number t.year t.month

  next_at : cond (eqb (t.month + 1) 13) (ym (t.year + 1) 1) (ym t.year (t.month + 1)) ≡ at (month + 1)
  next_at =
      let p = r.month in
      let q = r.last in
      elim (dec_le t.month 11) [
        | yes l ↦
            rw (ne_eqb (t.month + 1) 13 (λ e. omega arith))
            (at_is t.year (t.month + 1) (month + 1) (omega arith) r.year (omega arith) (omega arith))
        | no l ↦
            let e : t.month + 1 ≡ 13 = omega arith in
            rw (eq-eqb (t.month + 1) 13 e)
            (at_is (t.year + 1) 1 (month + 1) (omega (arith, r.year)) (omega arith) (omega arith) (omega arith))
      ]

  start_at : start_of t ≡ at (month + cond (ltb 1 t.day) 1 0)
  unfolding start_of
  start_at =
      elim (dec_le t.day 1) [
        | yes l ↦
            let e : t.day ≡ 1 = omega (arith, r.day) in
            rw (eq-eqb t.day 1 e, le-ltb 1 t.day l)
            (at_is t.year t.month (month + 0) (omega arith) r.year r.month r.last)
        | no l ↦ rw (ne_eqb t.day 1 (λ e. omega arith), lt-ltb 1 t.day (lt_of_not-le l)) next_at
      ]

module _ (a : Axis) (d : Dated a) where
  start_is : start_month a ≡ at (from_month a)
  unfolding from_month whole_month month_of
  start_is = start_at (date_of (from_day a)) (date_number (from_day a) (from_range a d).0).0

  end_is : end_month a ≡ at (to_month a)
  unfolding to_month month_of
  end_is =
      let t = date_of (to_day a) in
      let r = (date_number (to_day a) (to_range a d).0).0 in
      at_is t.year t.month (to_month a) refl r.year r.month r.last

  -- the first month is at most the one after the last
  in_order_law : in_order a ≡ true → from_month a ≤ to_month a + 1
  in_order_law o =
      elim (dec_le (from_month a) (to_month a + 1)) [
        | yes l ↦ l
        | no l ↦ absurd (clash ((first_month a d).first (to_month a + 1) (omega arith)))
      ]
    where
      clash : first_day (to_month a + 1) < from_day a → ⊥
      clash g =
          let v = starts a d in
          let w = end_value a d in
          omega (arith, (last_month a d).going, from_next a, to_is a, heads_in_order a o)

  small : to_month a < 120000
  small = omega (arith, last_most a d)

  -- ---- the laws, for any number of turns from n + 10 on
  module _ (n turns : ℕ) (o : in_order a ≡ true) (t : n + 10 ≤ turns) where
    pub years_same : year_key_points turns a n ≡ ticks (year_plan a n)
    unfolding year_key_points year_plan
    years_same = rw (start_is, end_is) (yearly_is (from_month a) (to_month a) n turns (in_order_law o) small t)

    pub months_same : n ≤ 4096 → month_key_points turns a n ≡ ticks (month_plan a n)
    unfolding month_key_points month_plan
    months_same m = rw (start_is, end_is) (monthly_is (from_month a) (to_month a) n turns (in_order_law o) small t m)
