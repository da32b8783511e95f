-- The calendar's definitions in closed form, and the formulas of the code, by years that begin in March.
-- Month rules are one computed test over a common year and a leap year. Assumes nothing.
use mathlib.Core.Path.{◌≡◌, refl, ap}
use mathlib.Core.Logic.{inl, inr}
use mathlib.Core.Bool.{Bool, true, false, not, ◌&&◌, ◌||◌, cond}
use Prim.Native.Nat.{ℕ, zero, suc, ◌+◌, ◌-◌, ◌*◌, ◌/◌, ◌%◌, ◌≤◌, ◌<◌, zero-le}
use native.Mathlib.Nat.{eq-or-lt_of_le, not-suc-le-zero, add-zero}
use native.Mathlib.Numerals.{add-one, sub-one}
use native.Mathlib.Omega.{arith}
use lib.Dec.{T, eqb, leb, ltb, leb→le, eqb→eq}
use lib.Ieee.Fits.{and_l, and_r}
use mir.Val.{bool_byte}
use borrow.Author.Tests.{leb-true, leb-false, lt-ltb}
use Rattle.laws.proofs.Tables.{all, at, meant}
use Rattle.calendar.specs.Gregorian.{leap, leap_day, month_length, months, year_length, years, day_number, Real}

-- ---- a year's months are those of the year 1, or of the year 4
pub leap_day_le : (y : ℕ) → leap_day y < 2
unfolding leap_day
leap_day_le y = go (leap y)
  where
    go : (b : Bool) → cond b 1 0 < 2
    go true = omega arith
    go false = omega arith

abbrev like : ℕ → ℕ
like l = 1 + 3 * l

like_leap : (y : ℕ) → leap_day y ≡ leap_day (like (leap_day y))
unfolding leap_day leap
like_leap y = go (leap y)
  where
    go : (b : Bool) → cond b 1 0 ≡ leap_day (like (cond b 1 0))
    go true = refl
    go false = refl

length_like : (y m : ℕ) → month_length y m ≡ month_length (like (leap_day y)) m
unfolding month_length
length_like y m = rw (← like_leap y)

months_like : (y k : ℕ) → months y k ≡ months (like (leap_day y)) k
unfolding months
months_like y zero = refl
months_like y (suc k) = omega (arith, months_like y k, length_like y (suc k))

-- a computed test for both kinds of year
both : (ℕ → ℕ → Bool) → ℕ → ℕ → Bool
unfolding all
both p n l = all (p l) n

in_year : (p : ℕ → ℕ → Bool) (n : ℕ) → T (all (both p n) 2) → (y k : ℕ) → k < n → T (p (leap_day y) k)
unfolding both
in_year p n t y k h = at (p (leap_day y)) n (at (both p n) 2 t (leap_day y) (leap_day_le y)) k h

-- ---- 400 years are a cycle of 146097 days
leap_again : (y : ℕ) → leap_day (y + 400) ≡ leap_day y
unfolding leap_day leap
leap_again y =
    let by4 : (y + 400) % 4 ≡ y % 4 = omega arith in
    let by100 : (y + 400) % 100 ≡ y % 100 = omega arith in
    let by400 : (y + 400) % 400 ≡ y % 400 = omega arith in
    rw (by4, by100, by400)

pub year_length_is : (y : ℕ) → year_length y ≡ 365 + leap_day y
unfolding year_length
year_length_is y = omega arith

pub years_next : (k : ℕ) → years (suc k) ≡ years k + year_length (suc k)
unfolding years
years_next k = refl

years_again : (k : ℕ) → years (k + 400) ≡ years k + 146097
unfolding years
years_again zero = refl
years_again (suc k) =
    let more : suc k + 400 ≡ suc (k + 400) = omega arith in
    rw more (omega (
      arith,
      years_again k,
      year_length_is (suc k),
      year_length_is (suc (k + 400)),
      rw more at (leap_again (suc k)),
    ))

right_years : ℕ → Bool
right_years k = eqb (years k + k / 100) (365 * k + k / 4)

cycle : T (all right_years 400)
unfolding all right_years years leap_day
cycle = tt

pub years_closed : (a b : ℕ) → b < 400 → years (400 * a + b) + b / 100 ≡ 146097 * a + 365 * b + b / 4
unfolding right_years
years_closed zero b h = let all_of : 400 * 0 + b ≡ b = omega arith in
    rw all_of (omega (arith, eqb→eq (years b + b / 100) (365 * b + b / 4) (at right_years 400 cycle b h)))
years_closed (suc a) b h =
    let more : 400 * suc a + b ≡ 400 * a + b + 400 = omega arith in
    rw more (omega (arith, years_again (400 * a + b), years_closed a b h))

-- the year, from the four quotients of the cycles of 400, 100, 4 and 1 years
years_split : (k a b c f : ℕ) → k ≡ 400 * a + 100 * b + 4 * c + f → b ≤ 3 → c ≤ 24 → f ≤ 3 → years k ≡ 146097 * a + 36524 * b
    + 1461 * c + 365 * f
years_split k a b c f K B C E =
    let is : k ≡ 400 * a + (100 * b + 4 * c + f) = omega arith in
    let by4 : (100 * b + 4 * c + f) / 4 ≡ 25 * b + c = omega arith in
    let by100 : (100 * b + 4 * c + f) / 100 ≡ b = omega arith in
    rw is (omega (arith, rw (by4, by100) at (years_closed a (100 * b + 4 * c + f) (omega arith))))

pub years_to : (y : ℕ) → 1 ≤ y → years y ≡ years (y - 1) + year_length y
years_to zero h = absurd (not-suc-le-zero h)
years_to (suc k) h = rw sub-one (years_next k)

-- ---- the March year: N days after 0000-03-01, t = 4 N + 3, c centuries, and u = 1461 Y + q
module _ (N c r a b Y q : ℕ)
    (A : 4 * N + 3 ≡ 146097 * c + r) (A' : r < 146097) (B : c ≡ 4 * a + b) (B' : b ≤ 3)
    (U : 4 * N + 3 + 4 * (c - a) ≡ 1461 * Y + q) (U' : q < 1461) where
  abbrev k : ℕ
  k = r / 4

  abbrev z : ℕ
  z = (4 * k + 3) / 1461

  abbrev x : ℕ
  x = z / 4

  abbrev w : ℕ
  w = z % 4

  abbrev e : ℕ
  e = q / 4

  k_is : r + b ≡ 4 * k + 3
  k_is = omega arith

  whole : 1461 * Y + q ≡ 146100 * c + (4 * k + 3)
  whole = omega (arith, k_is)

  Y-is : (Y ≡ 100 * c + z) × (4 * k + 3 ≡ 1461 * z + q)
  Y-is = omega (arith, whole)

  e_is : q + w ≡ 4 * e + 3
  e_is = omega (arith, Y-is.1)

  x_le : x ≤ 24
  x_le = omega arith

  w_le : w ≤ 3
  w_le = omega arith

  parts : Y ≡ 400 * a + 100 * b + 4 * x + w
  parts = omega (arith, Y-is.0)

  pub low : years Y + e ≡ N
  low = omega (arith, years_split Y a b x w parts B' x_le w_le, k_is, e_is, Y-is.1)

  pub high : N < years (suc Y)
  high =
      elim (eq-or-lt_of_le w_le) [
        | inr h ↦ omega (
          arith,
          years_split (suc Y) a b x (suc w) (omega (arith, parts)) B' x_le h,
          years_split Y a b x w parts B' x_le w_le,
          low,
          e_is,
        )
        | inl p ↦
            elim (eq-or-lt_of_le x_le) [
              | inr h ↦ omega (
                arith,
                years_split (suc Y) a b (suc x) 0 (omega (arith, parts)) B' h zero-le,
                years_split Y a b x w parts B' x_le w_le,
                low,
                e_is,
              )
              | inl s ↦
                  elim (eq-or-lt_of_le B') [
                    | inr h ↦ omega (arith, years_split (suc Y) a (suc b) 0 0 (omega (arith, parts)) h zero-le zero-le, k_is)
                    | inl v ↦ omega (
                      arith,
                      years_split (suc Y) (suc a) 0 0 0 (omega (arith, parts)) zero-le zero-le zero-le,
                      k_is,
                    )
                  ]
            ]
      ]

-- ---- a product for two quotients: 2939745 * 1461 is 2^32 + 149
module _ (q r : ℕ) (Q : q ≤ 10100) (R : r < 1461) where
  over : (2939745 * (1461 * q + r) / 4294967296 ≡ q) × (2939745 * (1461 * q + r) % 4294967296 ≡ 149 * q + 2939745 * r)
  over = omega arith

  under : (149 * q + 2939745 * r) / 11758980 ≡ r / 4
  under = omega arith

-- ---- a month has 28 to 31 days
usual : ℕ → ℕ → Bool
usual l m = leb 28 (month_length (like l) m) && leb (month_length (like l) m) 31

usuals : T (all (both usual 13) 2)
unfolding both usual month_length leap_day all
usuals = tt

pub month_length_range : (y m : ℕ) → m ≤ 12 → (28 ≤ month_length y m) × (month_length y m ≤ 31)
unfolding usual
month_length_range y m h =
    let n = month_length (like (leap_day y)) m in
    let t = in_year usual 13 usuals y m (omega arith) in
    rw (length_like y m) (leb→le _ _ (and_l (leb 28 n) (leb n 31) t), leb→le _ _ (and_r (leb 28 n) (leb n 31) t))

pub month_length_le : (y m : ℕ) → m ≤ 12 → month_length y m ≤ 31
month_length_le y m h = (month_length_range y m h).1

-- ---- the days from 1 March to the month m, and 92 more; January and February are the months 13 and 14 of the year before
abbrev since_march : ℕ → ℕ
since_march m = (979 * (m + 12 * bool_byte (ltb m 3)) + 25) / 32

right_number : ℕ → ℕ → Bool
right_number l k = eqb (months (like l) k + 398) (since_march (suc k) + cond (ltb (suc k) 3) 0 (365 + l))

right_numbers : T (all (both right_number 12) 2)
unfolding both right_number months leap_day
right_numbers = tt

number_law : (y m : ℕ) → 1 ≤ m → m ≤ 12 → months y (m - 1) + 398 ≡ since_march m + cond (ltb m 3) 0 (365 + leap_day y)
unfolding right_number
number_law y zero h l = absurd (not-suc-le-zero h)
number_law y (suc k) h l = rw (sub-one, months_like y k) (eqb→eq _ _ (in_year right_number 12 right_numbers y k l))

-- 5243 * 100 is 2^19 + 12
years_fast : (p : ℕ) → p ≤ 10000 → 1461 * p / 4 - p * 5243 / 524288 + p * 5243 / 524288 / 4 ≡ years p
years_fast p h = rw by100 (go (p / 400) (p % 400) (omega arith) (omega arith))
  where
    by100 : p * 5243 / 524288 ≡ p / 100
    by100 = omega arith

    go : (a b : ℕ) → p ≡ 400 * a + b → b < 400 → 1461 * p / 4 - p / 100 + p / 100 / 4 ≡ years p
    go a b e l =
        let by4 : 1461 * (400 * a + b) / 4 ≡ 146100 * a + 365 * b + b / 4 = omega arith in
        let by100 : (400 * a + b) / 100 ≡ 4 * a + b / 100 = omega arith in
        rw (e, by4, by100) (omega (arith, years_closed a b l))

number_meet : (y m d s : ℕ) (b : Bool) → 1 ≤ y → months y (m - 1) + 398 ≡ s + cond b 0 (365 + leap_day y)
    → day_number y m d + 398 ≡ years (y - bool_byte b) + s + d
unfolding day_number
number_meet y m d s true h p = omega arith
number_meet y m d s false h p = let all_of : y - bool_byte false ≡ y = omega arith in
    rw all_of (omega (arith, years_to y h, year_length_is y))

pub flag_le : (b : Bool) → bool_byte b ≤ 1
flag_le true = omega arith
flag_le false = omega arith

abbrev march_year : ℕ → ℕ → ℕ
march_year y m = y - bool_byte (ltb m 3)

pub number_is : (y m d : ℕ) → Real y m d → y ≤ 10000
    → day_number y m d + 398 ≡ 1461 * march_year y m / 4 - march_year y m * 5243 / 524288 + march_year y m * 5243 / 524288 / 4
    + since_march m + d
number_is y m d r h =
    rw (years_fast (march_year y m) (omega arith)) (number_meet y m d _ (ltb m 3) r.year (number_law y m r.month r.last))

-- ---- the month and the day of the day e of a March year
abbrev pub scale : ℕ → ℕ
scale e = 2141 * e + 197913

abbrev pub month_of : ℕ → ℕ
month_of e = scale e / 65536 - 12 * bool_byte (leb 306 e)

abbrev pub day_of : ℕ → ℕ
day_of e = scale e % 65536 / 2141 + 1

right_date : ℕ → ℕ → Bool
right_date l f =
    not (ltb f (365 + l))
    || (leb (day_of f) (month_length (like l) (month_of f))
    && eqb (months (like l) (month_of f - 1) + day_of f + 305) (f + cond (leb 306 f) 0 (365 + l)))

right_dates : T (all (both right_date 366) 2)
unfolding both right_date months leap_day
right_dates = tt

date_law : (y f : ℕ) → f < 365 + leap_day y
    → (day_of f ≤ month_length y (month_of f)) × (months y (month_of f - 1) + day_of f + 305 ≡ f + cond (leb 306 f) 0
    (365 + leap_day y))
unfolding right_date
date_law y f h =
    let l = leap_day y in
    let a = leb (day_of f) (month_length (like l) (month_of f)) in
    let b = eqb (months (like l) (month_of f - 1) + day_of f + 305) (f + cond (leb 306 f) 0 (365 + l)) in
    let t = meant (ltb f (365 + l)) (a && b) (lt-ltb f (365 + l) h)
    (in_year right_date 366 right_dates y f (omega (arith, leap_day_le y))) in
    (rw (length_like y (month_of f)) (leb→le _ _ (and_l a b t)), rw (months_like y (month_of f - 1)) (eqb→eq _ _ (and_r a b t)))

-- ---- the code's numbers, from the day number n
abbrev pub centuries : ℕ → ℕ
centuries n = (4 * n + 1223) / 146097

abbrev pub quarters : ℕ → ℕ
quarters n = 4 * n + 1223 + 4 * (centuries n - centuries n / 4)

abbrev pub year_at : ℕ → ℕ
year_at n = 2939745 * quarters n / 4294967296

abbrev pub day_at : ℕ → ℕ
day_at n = 2939745 * quarters n % 4294967296 / 11758980

pub product_law : (u : ℕ) → u < 14700000 → (2939745 * u / 4294967296 ≡ u / 1461)
    × (2939745 * u % 4294967296 / 11758980 ≡ u % 1461 / 4)
product_law u h = go (u / 1461) (u % 1461) (omega arith) (omega arith) (omega arith)
  where
    go : (q r : ℕ) → u ≡ 1461 * q + r → q ≤ 10100 → r < 1461 → (2939745 * u / 4294967296 ≡ q)
        × (2939745 * u % 4294967296 / 11758980 ≡ r / 4)
    go q r p Q R = rw p ((over q r Q R).0, rw (over q r Q R).1 (under q r Q R))

module _ (n : ℕ) (n-le : n ≤ 3652425) where
  quarters_le : quarters n < 14700000
  quarters_le = omega arith

  cut : (4 * (n + 305) + 3 ≡ 146097 * centuries n + (4 * n + 1223) % 146097) × ((4 * n + 1223) % 146097 < 146097)
  cut = omega arith

  cut4 : (v : ℕ) → (v ≡ 4 * (v / 4) + v % 4) × (v % 4 ≤ 3)
  cut4 v = omega arith

  cut1461 : (v : ℕ) → 4 * (n + 305) + 3 + 4 * (centuries n - centuries n / 4) ≡ v →
      (4 * (n + 305) + 3 + 4 * (centuries n - centuries n / 4) ≡ 1461 * (v / 1461) + v % 1461) × (v % 1461 < 1461)
  cut1461 v p = omega arith

  year_law : (years (year_at n) + day_at n ≡ n + 305) × (day_at n < 365 + leap_day (suc (year_at n)))
  year_law =
      let (p, q) = product_law (quarters n) quarters_le in
      let (c4, c3) = cut4 (centuries n) in
      let (u, v) = cut1461 (quarters n) (omega arith) in
      let lo = low (n + 305) (centuries n) _ (centuries n / 4) (centuries n % 4) (quarters n / 1461) (quarters n % 1461)
      cut.0 cut.1 c4 c3 u v in
      let hi = high (n + 305) (centuries n) _ (centuries n / 4) (centuries n % 4) (quarters n / 1461) (quarters n % 1461)
      cut.0 cut.1 c4 c3 u v in
      rw (p, q) (lo, omega (arith, lo, hi, years_next (quarters n / 1461), year_length_is (suc (quarters n / 1461))))

month_range : (f : ℕ) (b : Bool) → (b ≡ true → 306 ≤ f) → (b ≡ false → f < 306) → f < 366
    → (12 * bool_byte b ≤ scale f / 65536) × ((1 ≤ scale f / 65536 - 12 * bool_byte b) ×
    (scale f / 65536 - 12 * bool_byte b ≤ 12))
month_range f true h l r = omega (arith, h refl)
month_range f false h l r = omega (arith, l refl)

none : (n f : ℕ) → 1 ≤ n → years 0 + f ≡ n + 305 → f < 306 → ⊥
unfolding years
none n f a s l = omega arith

date_meet : (n y f m d : ℕ) (b : Bool) → (b ≡ false → f < 306) → 1 ≤ n → years y + f ≡ n + 305
    → 1 ≤ m → m ≤ 12 → 1 ≤ d → d ≤ month_length (y + bool_byte b) m
    → months (y + bool_byte b) (m - 1) + d + 305 ≡ f + cond b 0 (365 + leap_day (y + bool_byte b))
    → Real (y + bool_byte b) m d × (day_number (y + bool_byte b) m d ≡ n)
unfolding day_number
date_meet n y f m d true h a s p q r t u =
    let y≡ : y + 1 - 1 ≡ y = omega arith in
    (record { year = omega arith; month = p; last = q; day = r; within = t }, rw y≡ (omega arith))
date_meet n zero f m d false h a s p q r t u = absurd (none n f a s (h refl))
date_meet n (suc k) f m d false h a s p q r t u =
    let y≡ : suc k + 0 - 1 ≡ k = omega arith in
    let leap≡ = ap leap_day (add-zero (suc k)) in (
      record { year = omega arith; month = p; last = q; day = r; within = t },
      rw y≡ (omega (arith, years_next k, year_length_is (suc k))),
    )

-- the year that begins in March is not longer than the year in which it ends
day_range : (y f : ℕ) (b : Bool) → (b ≡ false → f < 306) → f < 365 + leap_day (suc y) → f < 365 + leap_day (y + bool_byte b)
day_range y f true h l = rw add-one l
day_range y f false h l = omega (arith, h refl)

module _ (n : ℕ) (n-ge : 1 ≤ n) (n-le : n ≤ 3652425) where
  abbrev late : Bool
  late = leb 306 (day_at n)

  day_le : day_at n < 366
  day_le = omega (arith, (year_law n n-le).1, leap_day_le (suc (year_at n)))

  pub month_fits : (12 * bool_byte late ≤ scale (day_at n) / 65536) × ((1 ≤ month_of (day_at n)) × (month_of (day_at n) ≤ 12))
  month_fits = month_range (day_at n) late (leb-true 306 (day_at n)) (leb-false 306 (day_at n)) day_le

  pub date_is : Real (year_at n + bool_byte late) (month_of (day_at n)) (day_of (day_at n))
      × (day_number (year_at n + bool_byte late) (month_of (day_at n)) (day_of (day_at n)) ≡ n)
  date_is =
      let (s, l) = year_law n n-le in
      let (w, u) = date_law (year_at n + bool_byte late) (day_at n)
      (day_range (year_at n) (day_at n) late (leb-false 306 (day_at n)) l) in
      date_meet n (year_at n) (day_at n) (month_of (day_at n)) (day_of (day_at n)) late (leb-false 306 (day_at n)) n-ge s
      month_fits.1.0 month_fits.1.1 (omega arith) w u
