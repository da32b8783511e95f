-- The five ladders: which one a power of ten chooses, and that its search ends in time at a number that fits. Assumes nothing.
use mathlib.Core.Path.{◌≡◌, refl}
use mathlib.Core.Bool.{Bool, true, false, cond, ◌&&◌}
use mathlib.Core.List.{List, [], ◌∷◌}
use Prim.Native.Nat.{ℕ, zero, suc, ◌*◌, ◌/◌, ◌^◌, ◌≤◌, ◌<◌, zero-le, suc-le-suc}
use native.Mathlib.Nat.{le_trans, le_refl, le_of_suc-le-suc, lt_of_lt_of_le, div-lt_iff_lt-mul, one-le-pow, pow-suc}
use native.Mathlib.Omega.{arith}
use lib.Dec.{T, leb, ltb, leb→le, le→leb, ltb→lt, lit<, lit≤}
use lib.Ieee.Fits.{and_l, and_r}
use lib.ListN.{length, get_or}
use borrow.Author.Tests.{ltb-true, lt-ltb, le-ltb}
use Rattle.laws.specs.Units.{per_second, per_hour, per_day}
use Rattle.laws.proofs.Tables.{all, at}
use Rattle.period.specs.Ladders.{Ladder, unit_at, count_at, step_at, wide, rung_of, Climbable, decimal_ladder}
use Rattle.period.specs.Periods.{exponent_of, ten_days, second_ladder, hour_ladder, day_ladder, ladder_of, power_of}
use Rattle.period.proofs.Search.{passes}
use Rattle.period.proofs.Exponents.{below, span_below}
use Rattle.period.proofs.Climbing.{place_is}

-- ---- the choice
module _ (p : ℕ) where
  pub is_decimal : p < per_second → ladder_of p ≡ decimal_ladder p
  unfolding ladder_of
  is_decimal h = rw (lt-ltb p per_second h) refl

  pub is_seconds : per_second ≤ p → p < per_hour → ladder_of p ≡ second_ladder
  unfolding ladder_of
  is_seconds l h = rw (le-ltb p per_second l, lt-ltb p per_hour h) refl

  pub is_hours : per_hour ≤ p → p < per_day → ladder_of p ≡ hour_ladder
  unfolding ladder_of
  is_hours l h = rw (le-ltb p per_second (le_trans (lit≤ tt) l), le-ltb p per_hour l, lt-ltb p per_day h) refl

  pub is_days : per_day ≤ p → p < ten_days → ladder_of p ≡ day_ladder
  unfolding ladder_of
  is_days l h = rw (
    le-ltb p per_second (le_trans (lit≤ tt) l),
    le-ltb p per_hour (le_trans (lit≤ tt) l),
    le-ltb p per_day l,
    lt-ltb p ten_days h,
  ) refl

  pub is_longest : ten_days ≤ p → ladder_of p ≡ decimal_ladder ten_days
  unfolding ladder_of
  is_longest l = rw (
    le-ltb p per_second (le_trans (lit≤ tt) l),
    le-ltb p per_hour (le_trans (lit≤ tt) l),
    le-ltb p per_day (le_trans (lit≤ tt) l),
    le-ltb p ten_days l,
  ) refl

  by_cases : (P : Ladder → Type 0) → (p < per_second → P (decimal_ladder p)) → (p < per_hour → P second_ladder) →
      (p < per_day → P hour_ladder) →
      (p < ten_days → P day_ladder) → P (decimal_ladder ten_days) → P (ladder_of p)
  unfolding ladder_of
  by_cases P a b c d e = go (ltb p per_second) (ltb p per_hour) (ltb p per_day) (ltb p ten_days) (ltb-true p per_second)
      (ltb-true p per_hour)
      (ltb-true p per_day) (ltb-true p ten_days)
    where
      go : (t u v w : Bool) → (t ≡ true → p < per_second) → (u ≡ true → p < per_hour) → (v ≡ true → p < per_day) →
          (w ≡ true → p < ten_days)
          → P (cond t (decimal_ladder p) (cond u second_ladder
          (cond v hour_ladder (cond w day_ladder (decimal_ladder ten_days)))))
      go true u v w f g h i = a (f refl)
      go false true v w f g h i = b (g refl)
      go false false true w f g h i = c (h refl)
      go false false false true f g h i = d (i refl)
      go false false false false f g h i = e

-- ---- one ladder, with a step m that is wide enough: the steps up to it are one computed test
abbrev small : List ℕ → Bool
small [] = true
small (x ∷ xs) = leb x 30 && small xs

small_at : (xs : List ℕ) → T (small xs) → (k : ℕ) → get_or xs k 0 ≤ 30
small_at [] t k = zero-le
small_at (x ∷ xs) t zero = leb→le x 30 (and_l (leb x 30) (small xs) t)
small_at (x ∷ xs) t (suc k) = small_at xs (and_r (leb x 30) (small xs) t) k

-- above 0, and in 63 bits
abbrev fits : Ladder → ℕ → Bool
fits l i = ltb 0 (step_at l i) && ltb (step_at l i) (2 ^ 63)

module _ (span n : ℕ) (hint : n ≤ 4096) where
  module _ (l : Ladder) (m : ℕ) (unit : 0 < l.unit) (base : 0 < l.base) (some : 0 < length l.counts)
      (counts : T (small l.counts)) (m-le : m ≤ 16) (steps : T (all (fits l) (suc m)))
      (reached : span < suc (n * count_at l m) * unit_at l m) where
    step_fits : (i : ℕ) → i ≤ m → T (fits l i)
    step_fits i h = at (fits l) (suc m) steps i (suc-le-suc h)

    step_above : (i : ℕ) → i ≤ m → 0 < step_at l i
    step_above i h = ltb→lt 0 (step_at l i) (and_l (ltb 0 (step_at l i)) (ltb (step_at l i) (2 ^ 63)) (step_fits i h))

    wide_at_m : T (wide span n l m)
    wide_at_m = le→leb (span / unit_at l m) (n * count_at l m)
        (le_of_suc-le-suc ((div-lt_iff_lt-mul (factor (count_at l m) (unit_at l m) (step_above m (le_refl m)))).1 reached))
      where
        factor : (k u : ℕ) → 0 < k * u → 0 < u
        factor k zero h = absurd (let z : ⊥ = omega arith in z)
        factor k (suc u) h = omega arith

    ends : Climbable span n l
    ends =
        let (there, early) = rw (place_is span n l) at (passes (wide span n l) 16 0 m zero-le m-le wide_at_m) in
        let i = rung_of span n l in
        record {
          hint = hint;
          unit = unit;
          base = base;
          some = some;
          small = small_at l.counts counts;
          ends = there;
          above = step_above i early;
          fits = ltb→lt (step_at l i) (2 ^ 63) (and_r (ltb 0 (step_at l i)) (ltb (step_at l i) (2 ^ 63)) (step_fits i early));
        }

  -- ---- the five, each with a step that is wide enough for every span that chooses it
  module _ (p : ℕ) (is : p ≡ power_of span n) where
    decimal_ends : p < per_second → Climbable span n (decimal_ladder p)
    unfolding all
    decimal_ends h =
        let (low, next) = below span n 8 (lit< tt) (rw is at h) in
        rw is (ends (decimal_ladder (10 ^ exponent_of span n)) 3 (one-le-pow (exponent_of span n) 10 (lit< tt)) (lit< tt)
        (lit< tt) tt
        (lit≤ tt) (at (λ (e : ℕ). all (fits (decimal_ladder (10 ^ e))) 4) 9 tt (exponent_of span n) (suc-le-suc low))
        (lt_of_lt_of_le next (rw (pow-suc 10 (exponent_of span n)) (wider (10 ^ exponent_of span n)))))
      where
        wider : (x : ℕ) → x * 10 * n ≤ suc (n * 1) * (x * 10)
        wider x = omega arith

    seconds_end : p < per_hour → Climbable span n second_ladder
    unfolding all
    seconds_end h =
        let short = span_below span n 12 (lit< tt) (lt_of_lt_of_le (rw is at h) (lit≤ tt)) in
        ends second_ladder 16 (lit< tt) (lit< tt) (lit< tt) tt (lit≤ tt) tt (omega arith)

    hours_end : p < per_day → Climbable span n hour_ladder
    unfolding all
    hours_end h =
        let short = span_below span n 13 (lit< tt) (lt_of_lt_of_le (rw is at h) (lit≤ tt)) in
        ends hour_ladder 6 (lit< tt) (lit< tt) (lit< tt) tt (lit≤ tt) tt (omega arith)

    days_end : p < ten_days → Climbable span n day_ladder
    unfolding all
    days_end h =
        let short = span_below span n 14 (lit< tt) (lt_of_lt_of_le (rw is at h) (lit≤ tt)) in
        ends day_ladder 5 (lit< tt) (lit< tt) (lit< tt) tt (lit≤ tt) tt (omega arith)

    longest_ends : 0 < n → span < 2 ^ 63 → Climbable span n (decimal_ladder ten_days)
    unfolding all
    longest_ends N h = ends (decimal_ladder ten_days) 12 (lit< tt) (lit< tt) (lit< tt) tt (lit≤ tt) tt (omega arith)

    pub chosen_ends : 0 < n → span < 2 ^ 63 → Climbable span n (ladder_of p)
    chosen_ends N h = by_cases p (Climbable span n) decimal_ends seconds_end hours_end days_end (longest_ends N h)
