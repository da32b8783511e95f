-- `bold_key_points` of `Monthly`, `key_points` of `Yearly` and `generate_yearly_keypoints`, as the Rust has them.
-- Years are natural numbers, as on every axis; differences of years and months are signed. Definitions only.
use Rattle.std.specs.Prelude.{ℕ, zero, suc, ◌+◌, ◌-◌, ◌*◌, ◌/◌, ◌%◌, cond, ◌&&◌, ◌||◌, List, [], ◌∷◌, eqb, ltb, leb, pos, ◌+ℤ◌}
use Rattle.std.specs.Prelude.{◌-ℤ◌, ◌*ℤ◌}
use Rattle.laws.specs.Numbers.{as_u64}
use Rattle.calendar.specs.declared.Date.{Date}
use Rattle.calendar.specs.Gregorian.{day_number, date_of}
use Rattle.values.specs.declared.Value.{Value}
use Rattle.values.specs.Values.{midnight}
use Rattle.axis.specs.declared.Axis.{Axis}
use Rattle.counting.specs.Counting.{from_day, to_day}
use Rattle.keypoints.specs.Loops.{while}

-- T::earliest_after_date(builder.ymd(year, month, 1))
abbrev pub first_of : ℕ → ℕ → Value
first_of year month = midnight (pos (day_number year month 1))

-- a year and a month of it
pub record YearMonth : Type 0 where
  pub year : ℕ
  pub month : ℕ

-- the same as a function
abbrev pub ym : ℕ → ℕ → YearMonth
ym year month = record { year = year; month = month }

-- ---- where a walk begins and ends: start_date is date_ceil of the start, end_date is date_floor of the end
-- if start_day != 1 { start_month += 1; if start_month == 13 { start_month = 1; start_year += 1; } }
unfoldable pub start_of : Date → YearMonth
start_of date =
    cond (eqb date.day 1) (ym date.year date.month)
    (cond (eqb (date.month + 1) 13) (ym (date.year + 1) 1)
    (ym date.year (date.month + 1)))

-- start_year, start_month
abbrev pub start_month : Axis → YearMonth
start_month a = start_of (date_of (from_day a))

-- end_year, end_month
abbrev pub end_month : Axis → YearMonth
end_month a = ym (date_of (to_day a)).year (date_of (to_day a)).month

-- ---- generate_key_points
-- if start_month >= 13 { start_year += start_month / 12; start_month %= 12; }
unfoldable pub carried : YearMonth → YearMonth
carried s = cond (leb 13 s.month) (ym (s.year + s.month / 12) (s.month % 12)) s

-- while end_year > start_year || (end_year == start_year && end_month >= start_month) { .. start_month += step; .. }
unfoldable pub generate_key_points : ℕ → YearMonth → YearMonth → ℕ → List Value
generate_key_points turns start end step =
    while turns
    (λ s. ltb s.year end.year || (eqb end.year s.year && leb s.month end.month))
    (λ s. first_of s.year s.month)
    (λ s. carried (ym s.year (s.month + step)))
    start

-- ---- generate_yearly_keypoints
-- if start_month > end_month { end_year -= 1; }
unfoldable pub last_year : YearMonth → YearMonth → ℕ
last_year start end = cond (ltb end.month start.month) (end.year - 1) end.year

-- while total / (exp10 * 10) > max_points { exp10 *= 10; }, where total is (end_year - start_year + 1) as usize
unfoldable pub exp10_from : ℕ → ℕ → ℕ → ℕ → ℕ
exp10_from zero total maxPoints exp10 = exp10
exp10_from (suc turns) total maxPoints exp10 =
    cond (ltb maxPoints (total / (exp10 * 10))) (exp10_from turns total maxPoints (exp10 * 10)) exp10

-- for try_freq in .. { freq = *try_freq * exp10; if total / (exp10 * *try_freq) <= max_points { break; } }
unfoldable pub try_freq : ℕ → ℕ → ℕ → List ℕ → ℕ → ℕ
try_freq total maxPoints exp10 [] freq = freq
try_freq total maxPoints exp10 (try ∷ more) freq =
    cond (leb (total / (exp10 * try)) maxPoints) (try * exp10) (try_freq total maxPoints exp10 more (try * exp10))

-- let mut freq = exp10; for try_freq in &[1, 2, 5, 10] { .. }
unfoldable pub freq_of : ℕ → ℕ → ℕ → ℕ
freq_of turns total maxPoints =
    let exp10 = exp10_from turns total maxPoints 1 in
    try_freq total maxPoints exp10 (1 ∷ 2 ∷ 5 ∷ 10 ∷ []) exp10

-- while start_year <= end_year { ret.push(ymd(start_year, start_month, 1)); start_year += freq as i32; }
unfoldable pub generate_yearly_keypoints : ℕ → ℕ → YearMonth → YearMonth → List Value
generate_yearly_keypoints turns maxPoints start end =
    let endYear = last_year start end in
    let freq = freq_of turns (as_u64 (pos endYear -ℤ pos start.year +ℤ pos 1)) maxPoints in
    while turns
    (λ year. leb year endYear)
    (λ year. first_of year start.month)
    (λ year. year + freq)
    start.year

-- ---- the lists
-- ((end_year - start_year) * 12 + end_month as i32 - start_month as i32) as usize
unfoldable pub total_month : YearMonth → YearMonth → ℕ
total_month start end =
    as_u64 ((pos end.year -ℤ pos start.year) *ℤ pos 12 +ℤ pos end.month -ℤ pos start.month)

-- every month, quarter, half-year, or every few years
unfoldable pub months_from : ℕ → ℕ → YearMonth → YearMonth → List Value
months_from turns maxPoints start end =
    cond (leb (total_month start end) maxPoints) (generate_key_points turns start end 1)
    (cond (leb (total_month start end) (maxPoints * 3)) (generate_key_points turns start end 3)
    (cond (leb (total_month start end) (maxPoints * 6)) (generate_key_points turns start end 6)
    (generate_yearly_keypoints turns maxPoints start end)))

-- Monthly
unfoldable pub month_key_points : ℕ → Axis → ℕ → List Value
month_key_points turns a maxPoints = months_from turns maxPoints (start_month a) (end_month a)

-- Yearly
unfoldable pub year_key_points : ℕ → Axis → ℕ → List Value
year_key_points turns a maxPoints = generate_yearly_keypoints turns maxPoints (start_month a) (end_month a)
