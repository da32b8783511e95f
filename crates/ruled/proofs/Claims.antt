-- A ruled list is as specs/Claims.antt says: its tick at place i is the day of the unit that has i * step such days before
-- it. Assumes nothing.
use mathlib.Core.Path.{◌≡◌, refl, sym, ap, ◌∙◌}
use mathlib.Core.Bool.{Bool, true, false, cond, true≢false}
use mathlib.Core.List.{List, ◌∷◌}
use Prim.Native.Nat.{ℕ, zero, suc, ◌+◌, ◌-◌, ◌*◌, ◌/◌, ◌≤◌, ◌<◌}
use native.Mathlib.Nat.{div-add-mod', mul-mod_left}
use native.Mathlib.Decide.{dec_le}
use native.Mathlib.Omega.{arith}
use lib.Dec.{eqb}
use lib.IntN.{ℤ, pos}
use lib.ListN.{length, get_or}
use borrow.Author.Tests.{eqb-true, eq-eqb}
use Rattle.laws.specs.Numbers.{pos_part}
use Rattle.laws.proofs.Tests.{both_true}
use Rattle.calendar.specs.Gregorian.{date_of}
use Rattle.values.specs.declared.Value.{Value}
use Rattle.values.specs.Values.{midnight}
use Rattle.axis.specs.declared.Axis.{Axis}
use Rattle.counting.specs.Counting.{from_day, to_day}
use Rattle.steps.specs.Listing.{numbers}
use Rattle.steps.specs.Promise.{Later, by_head, by_tail}
use Rattle.steps.proofs.Pairs.{length_numbers}
use Rattle.steps.proofs.Order.{smaller, is_smaller}
use Rattle.plans.proofs.Cases.{choose, by_test}
use Rattle.keypoints.specs.Every.{days_from, days_on}
use Rattle.keypoints.specs.Weeks.{every_after, every}
use Rattle.rules.specs.declared.Unit.{Unit}
use Rattle.rules.specs.declared.Unit.TheVariants as unit
use Rattle.ruled.specs.Ruled.{is_of, ruled_ticks}
use Rattle.ruled.specs.Claims.{units_before, TickDay, TickAt, Ruled}

-- ---- ticks at places
tick_here : (n day : ℕ) (l : List Value) → n ≡ day → TickAt (numbers (midnight (pos n) ∷ l)) 0 day
tick_here n day l e = record { inside = omega arith; is = ap (λ (d : ℕ). midnight (pos d)) e }

-- a value before them moves them one place on
tick_next : (v : Value) (l : List Value) {i day : ℕ} → TickAt (numbers l) i day → TickAt (numbers (v ∷ l)) (suc i) day
tick_next v l {i} t =
    let number : (ℕ → ℤ) = λ x. get_or (numbers (v ∷ l)) x (pos 0) in
    let p : 2 * suc i ≡ suc (suc (2 * i)) = omega arith in
    let q : 2 * suc i + 1 ≡ suc (suc (2 * i + 1)) = omega arith in
    record { inside = omega (arith, t.inside); is = (λ j. record { head = number (p j); tail = number (q j) }) ∙ t.is }

-- ---- midnights are in the order of their days
day_later : (x y : ℕ) → x < y → Later (midnight (pos x)) (midnight (pos y))
day_later x y h = by_head (smaller (pos x) (pos y) (omega arith))

later_day : (x y : ℕ) → Later (midnight (pos x)) (midnight (pos y)) → x < y
later_day x y (by_head p) = omega (arith, is_smaller p)
later_day x y (by_tail p q) = absurd (let z : ⊥ = omega (arith, is_smaller q) in z)

-- ---- the days that pass any test
module _ (test : ℕ → Bool) where
  -- how many of the k days from n on
  abbrev passing : ℕ → ℕ → ℕ
  passing k n = length (days_from test k n)

  -- the first counts where it passes
  from_first : (k n : ℕ) → passing (suc k) n ≡ cond (test n) 1 0 + passing k (n + 1)
  unfolding days_from
  from_first k n = by_test (test n) (λ t. rw t (omega arith)) (λ t. rw t (omega arith))

  up_to_law : (n day : ℕ) → n < day → passing (day - n) n ≡ cond (test n) 1 0 + passing (day - (n + 1)) (n + 1)
  up_to_law n day h = let e : day - n ≡ suc (day - (n + 1)) = omega arith in rw e (from_first (day - (n + 1)) n)

  -- of more days no fewer pass
  more_pass : (k c n : ℕ) → k ≤ c → passing k n ≤ passing c n
  unfolding days_from
  more_pass zero c n h = omega arith
  more_pass (suc k) zero n h = absurd (let z : ⊥ = omega arith in z)
  more_pass (suc k) (suc c) n h = omega (arith, from_first k n, from_first c n, more_pass k c (n + 1) (omega arith))

  none_yet : (n : ℕ) → passing (n - n) n ≡ 0
  unfolding days_from
  none_yet n = let e : n - n ≡ 0 = omega arith in rw e

  -- a day that passes, of the k days from n on, and how many of them pass before it
  record Day (k n before day : ℕ) : Type 0 where
    begun : n ≤ day
    not_over : day < n + k
    passes : test day ≡ true
    are_before : passing (day - n) n ≡ before

  -- the first of them, which has none before it
  is_first : {k n b : ℕ} → test n ≡ true → b ≡ 0 → Day (suc k) n b n
  is_first {k} {n} t e =
      record { begun = omega arith; not_over = omega arith; passes = t; are_before = omega (arith, none_yet n) }

  first_is : {k n b day : ℕ} → test n ≡ true → b ≡ 0 → Day k n b day → n ≡ day
  first_is {k} {n} {b} {day} t e d =
      elim (dec_le day n) [
        | yes l ↦ omega (arith, d.begun)
        | no l ↦ absurd (let z : ⊥ = omega (arith, d.are_before, rw t at (up_to_law n day (omega arith))) in z)
      ]

  -- it is another where some are before it, or where the first does not pass
  not_first : {k n b day : ℕ} → 0 < b → Day k n b day → n ≡ day → ⊥
  not_first {k} {n} p d e = omega (arith, rw (← e) at d.are_before, none_yet n)

  not_failed : {k n b day : ℕ} → test n ≡ false → Day k n b day → n ≡ day → ⊥
  not_failed t d e = true≢false (sym d.passes ∙ ap test (sym e) ∙ t)

  as_before : {n b : ℕ} → test n ≡ false → b ≡ cond (test n) 1 0 + b
  as_before t = rw t (omega arith)

  -- counted from a day earlier on, and from a day later
  sooner : {k n b c day : ℕ} → c ≡ cond (test n) 1 0 + b → Day k (n + 1) b day → Day (suc k) n c day
  sooner {k} {n} {b} {c} {day} e d = record {
    begun = omega (arith, d.begun);
    not_over = omega (arith, d.not_over);
    passes = d.passes;
    are_before = omega (arith, d.are_before, up_to_law n day (omega (arith, d.begun)));
  }

  next : {k n b c day : ℕ} → c ≡ cond (test n) 1 0 + b → (n ≡ day → ⊥) → Day (suc k) n c day →
      Day k (n + 1) b day
  next {k} {n} {b} {c} {day} e h d =
      let l : n < day = omega (arith, d.begun, h) in
      record {
        begun = omega arith;
        not_over = omega (arith, d.not_over);
        passes = d.passes;
        are_before = omega (arith, d.are_before, up_to_law n day l);
      }

  -- ---- of these every m-th, where so many are left out before the first
  module _ (m : ℕ) (h : 1 ≤ m) where
    abbrev kept : ℕ → List Value → List ℤ
    kept left vs = numbers (every_after left m vs)

    -- the tick at place i is a day with left + i * m before it
    abbrev TicksPass : ℕ → ℕ → List Value → Type 0
    TicksPass k n vs = (left i : ℕ) → 2 * i < length (kept left vs) →
        (day : ℕ) × (TickAt (kept left vs) i day × Day k n (left + i * m) day)

    -- and such a day is that tick
    abbrev DaysListed : ℕ → ℕ → List Value → Type 0
    DaysListed k n vs = (left i day : ℕ) → Day k n (left + i * m) day → TickAt (kept left vs) i day

    module _ (k n : ℕ) (vs : List Value) (t : test n ≡ true) where
      one_more_passes : TicksPass k (n + 1) vs → TicksPass (suc k) n (midnight (pos n) ∷ vs)
      unfolding every_after
      one_more_passes f zero zero r = (n, (tick_here n n (every_after (m - 1) m vs) refl, is_first t (omega arith)))
      one_more_passes f zero (suc i) r =
          let (day, (x, d)) = f (m - 1) i (omega (arith, r)) in
          (day, (tick_next (midnight (pos n)) (every_after (m - 1) m vs) x, sooner (rw t (omega arith)) d))
      one_more_passes f (suc left) i r = let (day, (x, d)) = f left i r in (day, (x, sooner (rw t (omega arith)) d))

      one_more_listed : DaysListed k (n + 1) vs → DaysListed (suc k) n (midnight (pos n) ∷ vs)
      unfolding every_after
      one_more_listed f zero zero day d = tick_here n day (every_after (m - 1) m vs) (first_is t (omega arith) d)
      one_more_listed f zero (suc i) day d =
          tick_next (midnight (pos n)) (every_after (m - 1) m vs)
          (f (m - 1) i day (next (rw t (omega arith)) (not_first (omega arith) d) d))
      one_more_listed f (suc left) i day d = f left i day (next (rw t (omega arith)) (not_first (omega arith) d) d)

    ticks_pass : (k n : ℕ) → TicksPass k n (days_from test k n)
    unfolding days_from every_after
    ticks_pass zero n left i r = absurd (let z : ⊥ = omega arith in z)
    ticks_pass (suc k) n left i r =
        choose (λ (vs : List Value). TicksPass (suc k) n vs) (test n)
        (λ t. one_more_passes k n (days_from test k (n + 1)) t (ticks_pass k (n + 1)))
        (λ t left i r. let (day, (x, d)) = ticks_pass k (n + 1) left i r in (day, (x, sooner (as_before t) d))) left i r

    days_listed : (k n : ℕ) → DaysListed k n (days_from test k n)
    unfolding days_from
    days_listed zero n left i day d = absurd (let z : ⊥ = omega (arith, d.begun, d.not_over) in z)
    days_listed (suc k) n left i day d =
        choose (λ (vs : List Value). DaysListed (suc k) n vs) (test n)
        (λ t. one_more_listed k n (days_from test k (n + 1)) t (days_listed k (n + 1)))
        (λ t left i day d. days_listed k (n + 1) left i day (next (as_before t) (not_failed t d) d)) left i day d

-- ---- the claims, of the days from `from` to `to`; of none where `to` is before `from`
module _ (unit : Unit) (step from to : ℕ) (h : 1 ≤ step) where
  abbrev days : List Value
  days = days_from (is_of unit) (to + 1 - from) from

  abbrev list : List ℤ
  list = numbers (every step days)

  abbrev UnitDay : ℕ → ℕ → Type 0
  UnitDay before day = Day (is_of unit) (to + 1 - from) from before day

  tick_at : (i : ℕ) → 2 * i < length list → (day : ℕ) × (TickAt list i day × UnitDay (0 + i * step) day)
  tick_at i l = ticks_pass (is_of unit) step h (to + 1 - from) from 0 i l

  is_tick_day : (i day : ℕ) → UnitDay (0 + i * step) day → TickDay unit step from to day
  is_tick_day i day d =
      let e : units_before unit from day ≡ i * step = omega (arith, d.are_before) in
      record {
        begun = d.begun;
        not_over = omega (arith, d.begun, d.not_over);
        of_unit = d.passes;
        at_step = rw e (mul-mod_left i step);
      }

  tick_day_is : (day : ℕ) → TickDay unit step from to day → UnitDay (0 + units_before unit from day / step * step) day
  tick_day_is day d = record {
    begun = d.begun;
    not_over = omega (arith, d.begun, d.not_over);
    passes = d.of_unit;
    are_before = omega (arith, d.at_step, div-add-mod' (units_before unit from day) step);
  }

  -- of two days the one that has more before it is the later
  in_order : {b c x y : ℕ} → UnitDay b x → UnitDay c y → b < c → x < y
  in_order {b} {c} {x} {y} d e l =
      elim (dec_le y x) [
        | yes r ↦
            let s = more_pass (is_of unit) (y - from) (x - from) from (omega arith) in
            absurd (let z : ⊥ = omega (arith, d.are_before, e.are_before) in z)
        | no r ↦ omega arith
      ]

  pub ruled_days : Ruled unit step from to list
  ruled_days = record {
    paired = omega (arith, length_numbers (every step days));
    growing = λ i l.
        let (x, (p, d)) = tick_at i (omega arith) in
        let (y, (q, e)) = tick_at (i + 1) l in
        rw (p.is, q.is) (day_later x y (in_order d e (omega arith)));
    none_after = λ i l r.
        let (x, (p, d)) = tick_at i l in
        omega (arith, d.begun, d.not_over, later_day to x (rw p.is at r));
    none_before = λ i l r. let (x, (p, d)) = tick_at i l in omega (arith, d.begun, later_day x from (rw p.is at r));
    only = λ i l. let (x, (p, d)) = tick_at i l in (x, (p, is_tick_day i x d));
    all = λ day d.
        let i = units_before unit from day / step in
        (i, days_listed (is_of unit) step h (to + 1 - from) from 0 i day (tick_day_is day d));
  }

  -- its place says how many days of the unit are before a tick
  pub ruled_place : (i day : ℕ) → TickAt list i day → units_before unit from day ≡ i * step
  ruled_place i day t =
      let (x, (p, d)) = tick_at i t.inside in
      let e : x ≡ day = ap (λ (v : Value). pos_part v.head) (sym p.is ∙ t.is) in
      rw (← e) (omega (arith, d.are_before))

-- THE CLAIM, of every axis: one that ends before its start has no ticks
pub ruled_list : (unit : Unit) (step : ℕ) (a : Axis) → 1 ≤ step →
    Ruled unit step (from_day a) (to_day a) (numbers (ruled_ticks unit step a))
unfolding ruled_ticks days_on
ruled_list unit step a h = ruled_days unit step (from_day a) (to_day a) h

-- ---- what a day of the unit is, by the calendar
pub of_month : (day : ℕ) → (is_of unit.Month day ≡ true → (date_of day).day ≡ 1)
    × ((date_of day).day ≡ 1 → is_of unit.Month day ≡ true)
unfolding is_of
of_month day = (eqb-true (date_of day).day 1, eq-eqb (date_of day).day 1)

pub of_year : (day : ℕ) → (is_of unit.Year day ≡ true → ((date_of day).day ≡ 1) × ((date_of day).month ≡ 1))
    × (((date_of day).day ≡ 1) × ((date_of day).month ≡ 1) → is_of unit.Year day ≡ true)
unfolding is_of
of_year day =
    let d = (date_of day).day in
    let m = (date_of day).month in (
      λ t. let (x, y) = both_true (eqb d 1) (eqb m 1) t in (eqb-true d 1 x, eqb-true m 1 y),
      λ (p : (d ≡ 1) × (m ≡ 1)). rw (p.0, p.1),
    )

-- ---- with a step of 1 no day of the unit is left out
pub each_of_unit : (unit : Unit) (a : Axis) (day : ℕ) → from_day a ≤ day → day ≤ to_day a → is_of unit day ≡ true →
    (i : ℕ) × TickAt (numbers (ruled_ticks unit 1 a)) i day
each_of_unit unit a day l r t =
    (ruled_list unit 1 a (omega arith)).all day (record { begun = l; not_over = r; of_unit = t; at_step = omega arith })

-- ---- with the unit of days the ticks are the start, step days after it, and so on up to the end
every_day : (k n : ℕ) → length (days_from (is_of unit.Day) k n) ≡ k
unfolding days_from is_of
every_day zero n = refl
every_day (suc k) n = omega (arith, every_day k (n + 1))

module _ (step : ℕ) (a : Axis) (i : ℕ) (h : 1 ≤ step) where
  abbrev there : ℕ
  there = from_day a + i * step

  pub day_tick : there ≤ to_day a → TickAt (numbers (ruled_ticks unit.Day step a)) i there
  unfolding ruled_ticks days_on is_of
  day_tick l =
      days_listed (is_of unit.Day) step h (to_day a + 1 - from_day a) (from_day a) 0 i there (record {
        begun = omega arith;
        not_over = omega arith;
        passes = refl;
        are_before = omega (arith, every_day (there - from_day a) (from_day a));
      })

  pub no_more : 2 * i < length (numbers (ruled_ticks unit.Day step a)) → there ≤ to_day a
  unfolding ruled_ticks days_on
  no_more l =
      let (x, (p, d)) = tick_at unit.Day step (from_day a) (to_day a) h i l in
      omega (arith, d.begun, d.not_over, d.are_before, every_day (x - from_day a) (from_day a))
