-- Question 8 in the code's order: the ranges of the three numbers, then the month's length; and what a yes says.
-- And the ranges of the answers. Assumes nothing.
use mathlib.Core.Path.{◌≡◌, refl, sym, ◌∙◌, ap, subst}
use mathlib.Core.Bool.{Bool, true, false, ◌&&◌}
use Prim.Native.Nat.{ℕ, ◌≤◌, ◌<◌}
use native.Mathlib.Omega.{arith}
use lib.IntN.{ℤ, pos, negsuc}
use lib.Dec.{leb}
use borrow.Author.Tests.{leb-true, le-leb, lt-leb}
use lib.Signed.{lt_z, le_z}
use mir.Syntax.{w64}
use mir.Val.{SFits, to_z, of_z}
use mir.Facts.{to_z-of_z}
use Rattle.std.specs.Prelude.{Ok}
use Rattle.laws.specs.Numbers.{within, pos_part}
use Rattle.laws.proofs.Tests.{both_true}
use Rattle.laws.proofs.Signed.{le_true, is_ge}
use Rattle.calendar.specs.declared.Ymd.{Ymd}
use Rattle.calendar.specs.declared.Date.{Date}
use Rattle.asking.proofs.Asked.{told, answered_ok}
use Rattle.calendar.specs.Gregorian.{month_length, day_number, date_of, Real}
use Rattle.calendar.specs.Questions.{is_date, last_day, is_day, in_ranges, date_questions, day_questions, number_of, date_at}
use Rattle.calendar.proofs.Formulas.{month_length_range}
use Rattle.calendar.proofs.Dates.{number_most, year_most, date_number}

-- ---- a number that is at least 1
pub least : (z : ℤ) → le_z (pos 1) z ≡ true → (lt_z z (pos 0) ≡ false) × ((pos (pos_part z) ≡ z) × (1 ≤ pos_part z))
least (pos n) e = (is_ge (pos n) (pos 0) (omega arith), (refl, omega (arith, le_true (pos 1) (pos n) e)))
least (negsuc n) e = absurd (let w : ⊥ = omega (arith, le_true (pos 1) (negsuc n) e) in w)

pub most : (z : ℤ) (n : ℕ) → le_z (pos 1) z ≡ true → le_z z (pos n) ≡ true → pos_part z ≤ n
most (pos k) n p q = omega (arith, le_true (pos k) (pos n) q)
most (negsuc k) n p q = omega arith

-- read back from its bits it is no less than 0, and its count is the number that it was made of
pub counts_from_0 : (z : ℤ) → SFits w64 z → lt_z z (pos 0) ≡ false → lt_z (to_z w64 (of_z w64 z)) (pos 0) ≡ false
counts_from_0 z f e = rw (to_z-of_z f) e

pub same_count : (z : ℤ) (n : ℕ) → SFits w64 z → pos (pos_part z) ≡ z → n ≡ pos_part (to_z w64 (of_z w64 z)) → pos n ≡ z
same_count z n f e p = ap pos (p ∙ ap pos_part (to_z-of_z f)) ∙ e

-- a day number that question 8 lets pass
pub day_count : (n : ℤ) → is_day n ≡ true → lt_z n (pos 0) ≡ false
day_count n e = (least n (both_true (le_z (pos 1) n) (le_z n (pos 3652059)) e).0).0

pub day_range : (n : ℤ) → is_day n ≡ true → (1 ≤ pos_part n) × (pos_part n ≤ 3652059)
day_range n e = let (p, q) = both_true (le_z (pos 1) n) (le_z n (pos 3652059)) e in ((least n p).1.1, most n 3652059 p q)

pub day_same : (n : ℤ) → is_day n ≡ true → pos (pos_part n) ≡ n
day_same n e = (least n (both_true (le_z (pos 1) n) (le_z n (pos 3652059)) e).0).1.0

pub day_in : (n : ℕ) → 1 ≤ n → n ≤ last_day → is_day (pos n) ≡ true
day_in n h l = rw (le-leb 1 n h, le-leb n last_day l)

pub day_beyond : (n : ℕ) → last_day < n → is_day (pos n) ≡ false
day_beyond n h = rw (le-leb 1 n (omega arith), lt-leb n last_day h)

-- ---- three numbers in their ranges
pub out_of_ranges : (t : Ymd) → in_ranges t ≡ false → is_date t.year t.month t.day ≡ false
unfolding is_date in_ranges
out_of_ranges t e = go (within (pos 1) t.year (pos 9999)) (within (pos 1) t.month (pos 12)) (le_z (pos 1) t.day) _ e
  where
    go : (a b c r : Bool) → (a && b) && c ≡ false → a && (b && (c && r)) ≡ false
    go false b c r e = refl
    go true false c r e = refl
    go true true c r e = ap (λ (x : Bool). x && r) e

-- only the month's length is left to ask
pub in_month : (t : Ymd) → in_ranges t ≡ true → is_date t.year t.month t.day
    ≡ le_z t.day (pos (month_length (pos_part t.year) (pos_part t.month)))
unfolding is_date in_ranges
in_month t e =
    let (ab, c) = both_true (within (pos 1) t.year (pos 9999) && within (pos 1) t.month (pos 12)) (le_z (pos 1) t.day)
    e in
    let (a, b) = both_true (within (pos 1) t.year (pos 9999)) (within (pos 1) t.month (pos 12)) ab in
    simp (a, b, c)

least_of : (t : Ymd) → in_ranges t ≡ true → le_z (pos 1) t.day ≡ true
unfolding in_ranges
least_of t e = (both_true (within (pos 1) t.year (pos 9999) && within (pos 1) t.month (pos 12)) (le_z (pos 1) t.day) e).1

pub record Ranges (t : Ymd) : Type 0 where
  pub year_count : lt_z t.year (pos 0) ≡ false
  pub month_count : lt_z t.month (pos 0) ≡ false
  pub day_count : lt_z t.day (pos 0) ≡ false
  pub year_is : pos (pos_part t.year) ≡ t.year
  pub month_is : pos (pos_part t.month) ≡ t.month
  pub day_is : pos (pos_part t.day) ≡ t.day
  pub year_first : 1 ≤ pos_part t.year
  pub year_last : pos_part t.year ≤ 9999
  pub month_first : 1 ≤ pos_part t.month
  pub month_last : pos_part t.month ≤ 12
  pub day_first : 1 ≤ pos_part t.day

pub ranges : (t : Ymd) → in_ranges t ≡ true → Ranges t
unfolding in_ranges
ranges t e =
    let (ym, d) = both_true (within (pos 1) t.year (pos 9999) && within (pos 1) t.month (pos 12)) (le_z (pos 1) t.day)
    e in
    let (y, m) = both_true (within (pos 1) t.year (pos 9999)) (within (pos 1) t.month (pos 12)) ym in
    let (y1, y2) = both_true (le_z (pos 1) t.year) (le_z t.year (pos 9999)) y in
    let (m1, m2) = both_true (le_z (pos 1) t.month) (le_z t.month (pos 12)) m in
    record {
      year_count = (least t.year y1).0;
      month_count = (least t.month m1).0;
      day_count = (least t.day d).0;
      year_is = (least t.year y1).1.0;
      month_is = (least t.month m1).1.0;
      day_is = (least t.day d).1.0;
      year_first = (least t.year y1).1.1;
      year_last = most t.year 9999 y1 y2;
      month_first = (least t.month m1).1.1;
      month_last = most t.month 12 m1 m2;
      day_first = (least t.day d).1.1;
    }

-- three numbers with a yes are a real date
real_in_month : (y m d : ℕ) (t : Ymd) → Ranges t → y ≡ pos_part t.year → m ≡ pos_part t.month → d ≡ pos_part t.day →
    d ≤ month_length y m → Real y m d
real_in_month y m d t k p q r h =
    record {
      year = omega (arith, k.year_first);
      month = omega (arith, k.month_first);
      last =
          omega (arith, k.month_last);
      day = omega (arith, k.day_first);
      within = h;
    }

pub is_real : (t : Ymd) → in_ranges t ≡ true → leb (pos_part t.day) (month_length (pos_part t.year) (pos_part t.month))
    ≡ true →
    Real (pos_part t.year) (pos_part t.month) (pos_part t.day)
is_real t e f = real_in_month _ _ _ t (ranges t e) refl refl refl (leb-true _ _ f)

-- ---- what an answer holds
date_most : (t : Ymd) → is_date t.year t.month t.day ≡ true → day_number (pos_part t.year) (pos_part t.month)
    (pos_part t.day)
    ≤ 3652059
date_most t f = go (in_ranges t) refl
  where
    go : (b : Bool) → in_ranges t ≡ b → day_number (pos_part t.year) (pos_part t.month) (pos_part t.day) ≤ 3652059
    go true g =
        let k = ranges t g in
        let h = most t.day (month_length (pos_part t.year) (pos_part t.month)) (least_of t g) (sym (in_month t g) ∙ f) in
        number_most _ _ _ (real_in_month _ _ _ t k refl refl refl h) k.year_last
    go false g = let z : ◌≡◌ {A = ℕ} 0 1 = cc (out_of_ranges t g) in absurd (let w : ⊥ = omega arith in w)

pub number_range : (t : Ymd) (n : ℕ) → number_of t ≡ Ok n → n ≤ 3652059
unfolding number_of
number_range t n e =
    let row = date_questions t.year t.month t.day in
    let (p, a) = answered_ok row (Ok (day_number (pos_part t.year) (pos_part t.month) (pos_part t.day))) n e in
    let same : day_number (pos_part t.year) (pos_part t.month) (pos_part t.day) ≡ n = cc in
    omega (arith, date_most t (told 8 row p))

pub record InRange (t : Date) : Type 0 where
  pub year : t.year ≤ 9999
  pub month : t.month ≤ 12
  pub day : t.day ≤ 31

in_range_law : (n : ℤ) → is_day n ≡ true → InRange (date_of (pos_part n))
in_range_law n e =
    let (h, l) = day_range n e in
    let (r, p) = date_number (pos_part n) h in
    record {
      year = year_most _ _ _ r (omega (arith, p));
      month = r.last;
      day = omega (arith, r.within, month_length_range (date_of (pos_part n)).year (date_of (pos_part n)).month r.last);
    }

pub date_range : (n : ℤ) (t : Date) → date_at n ≡ Ok t → InRange t
unfolding date_at
date_range n t e =
    let row = day_questions n in
    let (p, a) = answered_ok row (Ok (date_of (pos_part n))) t e in
    let same : date_of (pos_part n) ≡ t = cc in
    subst (λ (x : Date). InRange x) same (in_range_law n (told 8 row p))
