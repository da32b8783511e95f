-- The definitions of indices, by what the axis counts; and that an index above the last day has no value of the calendar.
-- Assumes nothing.
use mathlib.Core.Path.{◌≡◌, refl, ◌∙◌, ap}
use mathlib.Core.Bool.{Bool, true, false}
use Prim.Native.Nat.{ℕ, ◌+◌, ◌-◌, ◌*◌, ◌/◌, ◌%◌, ◌≤◌, ◌<◌}
use native.Mathlib.Omega.{arith}
use borrow.Author.Tests.{eq-eqb, ne_eqb, le-leb, lt-leb}
use lib.IntN.{pos}
use Rattle.laws.specs.Numbers.{pos_part}
use Rattle.calendar.specs.Gregorian.{day_number}
use Rattle.calendar.specs.Questions.{is_day}
use Rattle.weeks.specs.Weeks.{monday}
use Rattle.values.specs.declared.Value.{Value}
use Rattle.values.specs.Values.{midnight}
use Rattle.axis.specs.declared.Axis.{Axis}
use Rattle.axis.specs.Questions.{value_on}
use Rattle.calendar.proofs.Questions.{day_beyond}
use Rattle.counting.specs.Counting.{Dated, monthly, yearly, weekly, from_day, first_date}
use Rattle.counting.proofs.Dates.{first_beyond}
use Rattle.counting.proofs.Counting.{starts, first_near, origin_least, position_most}
use Rattle.discrete.specs.Indices.{index_of, month_at, january, year_at, week_at, value_at}

module _ (a : Axis) where
  pub value_months : (i : ℕ) → monthly a ≡ true → value_at a i ≡ month_at a i
  unfolding value_at
  value_months i m = rw m

  pub value_years : (i : ℕ) → monthly a ≡ false → yearly a ≡ true → value_at a i ≡ year_at a i
  unfolding value_at
  value_years i m y = rw (m, y)

  pub value_weeks : (i : ℕ) → monthly a ≡ false → yearly a ≡ false → weekly a ≡ true → value_at a i ≡ week_at a i
  unfolding value_at
  value_weeks i m y w = rw (m, y, w)

  pub value_days : (i : ℕ) → monthly a ≡ false → yearly a ≡ false → weekly a ≡ false →
      value_at a i ≡ midnight (pos (pos_part a.start.head + i))
  unfolding value_at
  value_days i m y w = rw (m, y, w)

  pub week_first : (i : ℕ) → i ≡ 0 → week_at a i ≡ a.start
  unfolding week_at
  week_first i e = rw (eq-eqb i 0 e)

  pub week_later : (i : ℕ) → (i ≡ 0 → ⊥) → week_at a i ≡ midnight (pos (monday (pos_part a.start.head) + 7 * i))
  unfolding week_at
  week_later i e = rw (ne_eqb i 0 e)

  pub month_first : (i : ℕ) → i ≡ 0 → month_at a i ≡ midnight (pos (from_day a))
  unfolding month_at
  month_first i e = rw (eq-eqb i 0 e)

  pub month_later : (i : ℕ) → (i ≡ 0 → ⊥) →
      month_at a i ≡ midnight (pos (day_number ((first_date a).year + (i + ((first_date a).month - 1)) / 12)
      ((i + ((first_date a).month - 1)) % 12 + 1) 1))
  unfolding month_at
  month_later i e = rw (ne_eqb i 0 e)

  pub january_start : (y : ℕ) → day_number y 1 1 ≤ pos_part a.start.head → january a y ≡ a.start
  unfolding january
  january_start y h = rw (le-leb (day_number y 1 1) (pos_part a.start.head) h)

  pub january_later : (y : ℕ) → pos_part a.start.head < day_number y 1 1 → january a y ≡ midnight (pos (day_number y 1 1))
  unfolding january
  january_later y h = rw (lt-leb (day_number y 1 1) (pos_part a.start.head) h)

  pub year_start : (i : ℕ) → day_number ((first_date a).year + i) 1 1 ≤ pos_part a.start.head → year_at a i ≡ a.start
  year_start i h = january_start ((first_date a).year + i) h

  pub year_later : (i : ℕ) → pos_part a.start.head < day_number ((first_date a).year + i) 1 1 →
      year_at a i ≡ midnight (pos (day_number ((first_date a).year + i) 1 1))
  year_later i h = january_later ((first_date a).year + i) h

module _ (a : Axis) (d : Dated a) where
  pub index_most : (v : Value) → value_on a v ≡ true → index_of a v ≤ 3652058
  unfolding index_of
  index_most v e = omega (arith, position_most a d v e, origin_least a d)

  -- ---- an index above the last day's number
  no_day : (v w : Value) → v ≡ w → is_day w.head ≡ false → is_day v.head ≡ false
  no_day v w e h = ap (λ (x : Value). is_day x.head) e ∙ h

  pub far : (i : ℕ) → 3652059 < i → is_day (value_at a i).head ≡ false
  far i h = go (monthly a) (yearly a) (weekly a) refl refl refl
    where
      go : (m y w : Bool) → monthly a ≡ m → yearly a ≡ y → weekly a ≡ w → is_day (value_at a i).head ≡ false
      go true y w e f g =
          let r = first_near a d in
          let k = i + ((first_date a).month - 1) in
          no_day (value_at a i) _ (value_months a i e ∙ month_later a i (λ z. omega arith))
          (day_beyond _ (first_beyond ((first_date a).year + k / 12) (k % 12 + 1) (omega arith) (omega arith) (omega arith)
          (omega arith)))
      go false true w e f g =
          let r = first_near a d in
          let s = starts a d in
          let y = (first_date a).year + i in
          let b = first_beyond y 1 (omega arith) (omega arith) (omega arith) (omega arith) in
          no_day (value_at a i) _ (value_years a i e f ∙ year_later a i (omega arith)) (day_beyond (day_number y 1 1) b)
      go false false true e f g = no_day (value_at a i) _ (value_weeks a i e f g ∙ week_later a i (λ z. omega arith))
          (day_beyond (monday (pos_part a.start.head) + 7 * i) (omega arith))
      go false false false e f g =
          no_day (value_at a i) _ (value_days a i e f g) (day_beyond (pos_part a.start.head + i) (omega arith))
