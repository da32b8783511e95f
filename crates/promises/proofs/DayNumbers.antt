-- The dates of four day numbers, by a law of the calendar: counting 738,000 days is too long. Assumes nothing.
use mathlib.Core.Path.{◌≡◌, refl, sym}
use mathlib.Core.Bool.{◌&&◌}
use Prim.Native.Nat.{ℕ, ◌≤◌}
use native.Mathlib.Omega.{arith}
use lib.Dec.{T, leb}
use borrow.Author.Tests.{leb-true}
use Rattle.laws.proofs.Tests.{both_true, holds}
use Rattle.calendar.specs.Gregorian.{leap, leap_day, month_length, months, year_length, years, day_number, Real, date, date_of}
use Rattle.calendar.proofs.Dates.{the_date}

-- a real date, by one computed test
real_date : (y m d : ℕ) → T (((leb 1 y && leb 1 m) && (leb m 12 && leb 1 d)) && leb d (month_length y m)) → Real y m d
real_date y m d t =
    let e = holds _ t in
    let (p, within) = both_true ((leb 1 y && leb 1 m) && (leb m 12 && leb 1 d)) (leb d (month_length y m)) e in
    let (q, r) = both_true (leb 1 y && leb 1 m) (leb m 12 && leb 1 d) p in
    let (year, month) = both_true (leb 1 y) (leb 1 m) q in
    let (last, day) = both_true (leb m 12) (leb 1 d) r in
    record {
      year = leb-true 1 y year;
      month = leb-true 1 m month;
      last = leb-true m 12 last;
      day = leb-true 1 d day;
      within = leb-true d (month_length y m) within;
    }

dated : (n y m d : ℕ) → 1 ≤ n → Real y m d → day_number y m d ≡ n → date_of n ≡ date y m d
dated n y m d l r e = sym (the_date n (date y m d) l r e)

pub december_2019 : date_of 737424 ≡ date 2019 12 31
unfolding leap leap_day month_length months year_length years day_number
december_2019 = dated 737424 2019 12 31 (omega arith) (real_date 2019 12 31 tt) refl

pub january_2020 : date_of 737425 ≡ date 2020 1 1
unfolding leap leap_day month_length months year_length years day_number
january_2020 = dated 737425 2020 1 1 (omega arith) (real_date 2020 1 1 tt) refl

pub december_2021 : date_of 738155 ≡ date 2021 12 31
unfolding leap leap_day month_length months year_length years day_number
december_2021 = dated 738155 2021 12 31 (omega arith) (real_date 2021 12 31 tt) refl

pub january_2022 : date_of 738156 ≡ date 2022 1 1
unfolding leap leap_day month_length months year_length years day_number
january_2022 = dated 738156 2022 1 1 (omega arith) (real_date 2022 1 1 tt) refl
