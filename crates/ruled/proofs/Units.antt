-- The days of each unit in a row: how the place of the first that is no earlier than a day moves to the next day. Assumes
-- nothing.
use mathlib.Core.Path.{◌≡◌, refl, ◌∙◌}
use mathlib.Core.Bool.{true, false, cond, true≢false}
use Prim.Native.Nat.{ℕ, ◌+◌, ◌*◌, ◌/◌, ◌%◌, ◌≤◌, ◌<◌}
use native.Mathlib.Decide.{dec_le}
use native.Mathlib.Omega.{arith}
use lib.Dec.{eqb, ltb}
use borrow.Author.Tests.{eqb-true, eqb-false, lt-ltb, le-ltb}
use Rattle.laws.proofs.Tests.{both_true}
use Rattle.calendar.specs.Gregorian.{date_of}
use Rattle.calendar.proofs.Dates.{date_number}
use Rattle.steps.specs.Months.{first_day, month_number, month_of, whole_month, FromMonth}
use Rattle.steps.proofs.Months.{first_days, in_month, from_month_law}
use Rattle.plans.proofs.Cases.{by_test}
use Rattle.keypoints.proofs.Every.{Moves}
use Rattle.ruled.specs.Ruled.{is_first, is_new_year}

-- ---- all days
pub each_day : (n : ℕ) → Moves (λ _. true) (λ i. i) (λ i. i) n
each_day n = record { here = λ t. (refl, refl); past = λ t. absurd (true≢false t) }

-- ---- the firsts of months
-- only one month is the first that begins no earlier than a day
not_before : {m k day : ℕ} → FromMonth m day → FromMonth k day → m ≤ k
not_before {m} {k} {day} p q =
    elim (dec_le m k) [ yes l ↦ l | no l ↦ absurd (let z : ⊥ = omega (arith, p.first k (omega arith), q.ahead) in z) ]

one_month : {m k day : ℕ} → FromMonth m day → FromMonth k day → m ≡ k
one_month p q = omega (arith, not_before p q, not_before q p)

whole_is : (n : ℕ) → whole_month n ≡ month_of n + cond (ltb 1 (date_of n).day) 1 0
unfolding whole_month
whole_is n = refl

-- the day after one of the month m
pub month_after : (m n : ℕ) → 1 ≤ n → n < 3652060 → first_day m ≤ n → n < first_day (m + 1)
    → whole_month (n + 1) ≡ m + 1
month_after m n h l b g =
    one_month {k = m + 1} (from_month_law (n + 1) (omega arith) (omega arith)) (record {
      ahead = omega arith;
      first = λ k p. elim (dec_le m k) [
        | yes q ↦ let i : k ≡ m = omega arith in rw i (omega arith)
        | no q ↦ omega (arith, first_days k m (omega arith))
      ];
    })

module _ (n : ℕ) (h : 1 ≤ n) (l : n < 3652060) where
  -- ---- a day that is the first of its month, and one that is not
  begins : is_first n ≡ true → whole_month n ≡ month_of n
  begins t =
      let e : (date_of n).day ≤ 1 = omega (arith, eqb-true (date_of n).day 1 t) in
      whole_is n ∙ rw (le-ltb 1 (date_of n).day e) (omega arith)

  on_first : is_first n ≡ true → first_day (whole_month n) ≡ n
  on_first t =
      let g : n ≤ first_day (whole_month n) = (from_month_law n h (omega arith)).ahead in
      let e = begins t in
      let b : first_day (whole_month n) ≤ n = rw e (in_month n h (omega arith)).begun in
      omega arith

  off_first : is_first n ≡ false → n < first_day (whole_month n)
  off_first t =
      let r = (date_number n h).0 in
      let e : 1 < (date_of n).day = omega (arith, eqb-false (date_of n).day 1 t, r.day) in
      let z : whole_month n ≡ month_of n + 1 = whole_is n ∙ rw (lt-ltb 1 (date_of n).day e) in
      rw z (in_month n h (omega arith)).going

  pub each_month : Moves is_first first_day whole_month n
  each_month = let m = whole_month n in record {
    here = λ t. let e = on_first t in (e, month_after m n h l (omega arith) (omega (arith, first_days m (m + 1) (omega arith))));
    past = λ t. let f = from_month_law n h (omega arith) in
        one_month {k = m} (from_month_law (n + 1) (omega arith) (omega arith))
        (record { ahead = omega (arith, off_first t); first = λ k b. omega (arith, f.first k b) });
  }

  -- ---- the firsts of Januaries, which are every twelfth of them
  month_in : is_first n ≡ true → whole_month n ≡ month_number (date_of n).year (date_of n).month
  unfolding month_of
  month_in t = begins t

  pub each_january : Moves is_new_year (λ i. first_day (12 * i)) (λ d. (whole_month d + 11) / 12) n
  each_january =
      let r = (date_number n h).0 in
      record {
        here = λ t. let (p, q) = both_true (is_first n) (eqb (date_of n).month 1) t in
            let (x, y) = each_month.here p in
            let m : whole_month n % 12 ≡ 0 = omega (arith, month_in p, eqb-true (date_of n).month 1 q) in
            let z : 12 * ((whole_month n + 11) / 12) ≡ whole_month n = omega arith in
            (rw z x, rw y (omega arith));
        past = λ t. by_test (is_first n)
            (λ p. let (x, y) = each_month.here p in
            let q : eqb (date_of n).month 1 ≡ false = rw p at t in
            let m : (whole_month n % 12 ≡ 0 → ⊥) =
            λ e. omega (arith, month_in p, eqb-false (date_of n).month 1 q, r.month, r.last) in
            rw y (omega (arith, m)))
            (λ p. rw (each_month.past p));
      }
