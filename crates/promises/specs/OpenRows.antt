-- The settled examples that leave something open, said of all of it: every start, every end, every N that has room.
-- Definitions only.
use Rattle.std.specs.Prelude.{◌≡◌, true, false, List, ◌∷◌, ℕ, ◌+◌, ◌*◌, ◌^◌, ◌≤◌, ℤ, pos, length, drop, Some, Ok}
use Rattle.laws.specs.Units.{per_hour}
use Rattle.values.specs.declared.Kind.TheVariants as kind
use Rattle.values.specs.Values.{midnight}
use Rattle.axis.specs.declared.Axis.{Axis}
use Rattle.axis.specs.Axes.{span_of}
use Rattle.axis.specs.Questions.{ends, in_order}
use Rattle.ticks.specs.Answers.{period_answer}
use Rattle.discrete.specs.Answers.{index_answer}
use Rattle.promises.specs.Examples.{axis_from, bold_of, listed_into, new_year}

-- dates k days apart
abbrev pub dates_apart : ℕ → ℕ → Axis
dates_apart day k = axis_from kind.Date (midnight (pos day)) (midnight (pos (day + k)))

-- 'dates 6 days apart, N 0': start, from every day, and the lent numbers behind it as they were
abbrev pub SixDays : Type 0
SixDays =
    (day : ℕ) (d : List ℤ) → 1 ≤ day → day + 6 ≤ 3652059 → 2 ≤ length d
    → listed_into (dates_apart day 6) (bold_of 0) d ≡ pos 0 ∷ (pos 1 ∷ (pos day ∷ (pos 0 ∷ drop 2 d)))

-- 'dates 14 days apart, N 1': start, end
abbrev pub TwoWeeks : Type 0
TwoWeeks =
    (day : ℕ) (d : List ℤ) → 1 ≤ day → day + 14 ≤ 3652059 → 4 ≤ length d
    → listed_into (dates_apart day 14) (bold_of 1) d
    ≡ pos 0 ∷ (pos 2 ∷ (pos day ∷ (pos 0 ∷ (pos (day + 14) ∷ (pos 0 ∷ drop 4 d)))))

-- a span of kind 4 with N 100 has the period k, between any two date-times in order that are so far apart, the end included
abbrev pub PeriodOf : ℕ → ℕ → Type 0
PeriodOf span k =
    (a : Axis) → a.kind ≡ kind.Stamp → ends a ≡ true → in_order a ≡ true → a.end_excluded ≡ false → span_of a ≡ pos span
    → period_answer a (record { n = pos 100 }) ≡ Ok (Some k)

-- 'span 10^15 − 1 ns, N 100, kind 4': 5 h
abbrev pub BelowThePower : Type 0
BelowThePower = PeriodOf 999999999999999 (5 * per_hour)

-- 'span 10^15 ns, same': 4 h
abbrev pub AtThePower : Type 0
AtThePower = PeriodOf (10 ^ 15) (4 * per_hour)

-- 'kind 2 from 2020-01-01, index of 2019-12-31': 11, with every end
abbrev pub EarlierYear : Type 0
EarlierYear =
    (last : ℕ) → 737425 ≤ last → last ≤ 3652059
    → index_answer (axis_from kind.Month (midnight (pos 737425)) (midnight (pos last))) (midnight (pos 737424)) ≡ Ok (Some 11)

-- 'kind 5, 2021-12-31 10:00 to 12:00': no bold ticks, for every N from 1 to 4,096
abbrev pub NoWholeMonth : Type 0
NoWholeMonth =
    (n : ℕ) (d : List ℤ) → 1 ≤ n → n ≤ 4096 → listed_into new_year (bold_of n) d ≡ pos 0 ∷ (pos 0 ∷ d)
