-- The year of a day, and the days of it before, by the code's formulas. Assumes nothing.
use mathlib.Core.Path.{◌≡◌, refl, sym, subst}
use Prim.Native.Nat.{ℕ, ◌+◌, ◌-◌, ◌*◌, ◌/◌, ◌%◌, ◌≤◌, ◌<◌}
use native.Mathlib.Decide.{dec_le}
use native.Mathlib.Omega.{arith}
use Rattle.calendar.specs.Gregorian.{years, date_of}
use Rattle.calendar.proofs.Formulas.{years_closed, product_law}
use Rattle.calendar.proofs.Dates.{year_is_that}

-- every fourth year has a day more, but of the hundredth ones only every fourth
years_of : (a b : ℕ) → b < 400 → let m = 400 * a + b in years m + m / 100 ≡ 365 * m + m / 4 + m / 400
years_of a b h =
    let m = 400 * a + b in
    let p : (400 * a + b) / 100 ≡ 4 * a + b / 100 = omega arith in
    let q : (400 * a + b) / 4 ≡ 100 * a + b / 4 = omega arith in
    let r : (400 * a + b) / 400 ≡ a = omega arith in
    rw (p, q, r) (omega (arith, years_closed a b h))

pub years_are : (m : ℕ) → years m + m / 100 ≡ 365 * m + m / 4 + m / 400
years_are m =
    let e : 400 * (m / 400) + m % 400 ≡ m = omega arith in
    subst (λ (x : ℕ). years x + x / 100 ≡ 365 * x + x / 4 + x / 400) e (years_of (m / 400) (m % 400) (omega arith))

-- ---- n - 1 days before a day: c centuries, and with the leap days that they leave out put back u quarters, m years, which
-- are y days
before : (n c u m y : ℕ) → 1 ≤ n → u ≡ 4 * n - 1 + 4 * (c - c / 4) → m ≡ u / 1461 → y + c ≡ 365 * m + m / 4 + c / 4 →
    y + u % 1461 / 4 + 1 ≡ n
before n c u m y h a b e = omega arith

-- with one year more they are not less, in a century or at its end
in_century : (n c u m y : ℕ) → 1 ≤ n → u ≡ 4 * n - 1 + 4 * (c - c / 4) → u < 1461 * m → y + c ≡ 365 * m + m / 4 + c / 4 → n ≤ y
in_century n c u m y h a b e = omega arith

at_end : (n c y : ℕ) → 4 * n - 1 < 146097 * c → y + c ≡ 36525 * c + c / 4 → n ≤ y
at_end n c y h e = omega arith

hundreds : (n c u m : ℕ) → 1 ≤ n → u ≡ 4 * n - 1 + 4 * (c - c / 4) → 146097 * c ≤ 4 * n - 1 → 4 * n - 1 < 146097 * (c + 1) →
    m ≡ u / 1461 → (100 * c ≤ m) × (m < 100 * (c + 1))
hundreds n c u m h a f t b = (omega arith, omega arith)

-- the years of a century
in_hundred : (c m : ℕ) → 100 * c ≤ m → m < 100 * (c + 1) → years m + c ≡ 365 * m + m / 4 + c / 4
in_hundred c m f t =
    let p : m / 100 ≡ c = omega arith in
    let q : m / 400 ≡ c / 4 = omega arith in
    rw (p, q) at (years_are m)

hundred : (c : ℕ) → years (100 * c) + c ≡ 36525 * c + c / 4
hundred c = omega (arith, in_hundred c (100 * c) (omega arith) (omega arith))

last : (n c u m : ℕ) → 1 ≤ n → u ≡ 4 * n - 1 + 4 * (c - c / 4) → 4 * n - 1 < 146097 * (c + 1) → m ≡ u / 1461 → 100 * c ≤ m →
    m < 100 * (c + 1) → n ≤ years (m + 1)
last n c u m h a t b f g = elim (dec_le (m + 2) (100 * (c + 1))) [
  | yes l ↦ in_century n c u (m + 1) (years (m + 1)) h a (omega arith) (in_hundred c (m + 1) (omega arith) (omega arith))
  | no l ↦
      let e : m + 1 ≡ 100 * (c + 1) = omega arith in
      rw e (at_end n (c + 1) (years (100 * (c + 1))) t (hundred (c + 1)))
]

-- ---- the code's numbers
module _ (n : ℕ) (h : 1 ≤ n) (l : n ≤ 3652425) where
  abbrev centuries : ℕ
  centuries = (4 * n - 1) / 146097

  abbrev quarters : ℕ
  quarters = 4 * n - 1 + 4 * (centuries - centuries / 4)

  abbrev pub product : ℕ
  product = 2939745 * quarters

  pub quarters_most : quarters < 14700000
  quarters_most = omega arith

  -- the year, and the days before in it
  pub year_day_is : (product / 4294967296 + 1 ≡ (date_of n).year)
      × (years (product / 4294967296 + 1 - 1) + product % 4294967296 / 11758980 + 1 ≡ n)
  year_day_is =
      let (p, q) = product_law quarters quarters_most in
      let m = quarters / 1461 in
      let z : m + 1 - 1 ≡ m = omega arith in
      let from : 146097 * centuries ≤ 4 * n - 1 = omega arith in
      let to : 4 * n - 1 < 146097 * (centuries + 1) = omega arith in
      let (f, g) = hundreds n centuries quarters m h refl from to refl in
      let b = before n centuries quarters m (years m) h refl refl (in_hundred centuries m f g) in
      let e = last n centuries quarters m h refl to refl f g in
      let y = sym (year_is_that n (m + 1) h (rw z (omega (arith, b))) e) in
      rw (p, q, z) (y, b)
