-- A property of the plan of an axis, by the plan that its kind has. Assumes nothing.
use mathlib.Core.Path.{◌≡◌, refl, sym, ap, ◌∙◌}
use mathlib.Core.Logic.{◌⊎◌, inl, inr}
use mathlib.Core.Bool.{true, false, ◌||◌, true≢false}
use Prim.Native.Nat.{ℕ, ◌≤◌}
use native.Mathlib.Omega.{arith}
use Rattle.values.specs.declared.Kind.{Kind}
use Rattle.values.specs.declared.Kind.TheVariants as kind
use Rattle.values.specs.Values.{is_kind, over_dates, is_stamp, is_duration}
use Rattle.axis.specs.declared.Axis.{Axis}
use Rattle.axis.specs.Questions.{known, has_period}
use Rattle.calendar.specs.Questions.{last_day}
use Rattle.counting.specs.Counting.{counts_months, counts_years, counts_weeks, monthly, yearly, weekly, Dated, from_day}
use Rattle.counting.proofs.Counting.{date_from, starts}
use Rattle.steps.specs.declared.Steps.{Steps}
use Rattle.plans.specs.Days.{day_plan}
use Rattle.plans.specs.Weeks.{week_plan}
use Rattle.plans.specs.Months.{month_plan, year_plan}
use Rattle.plans.specs.Plans.{period_plan, plan_of_kind, plan_of}
use Rattle.plans.proofs.Months.{few_months, month_above, year_above, month_plan_is, year_plan_is}

pub by_plan : (P : Steps → Type 0) (a : Axis) (n : ℕ) → known a ≡ true → (over_dates a.kind ≡ true → P (day_plan a n)) →
    (is_duration a.kind ≡ false → P (month_plan a n)) → (is_duration a.kind ≡ false → P (year_plan a n)) →
    (over_dates a.kind ≡ true → P (week_plan a n)) →
    (has_period a ≡ true → over_dates a.kind ≡ false → P (period_plan a n)) → P (plan_of a n)
unfolding plan_of has_period
by_plan P a n is days months years weeks period = go a.kind refl
  where
    go : (k : Kind) → a.kind ≡ k → P (plan_of_kind k a n)
    go kind.Date e = days (rw e)
    go kind.Month e = months (rw e)
    go kind.Year e = years (rw e)
    go kind.Stamp e = period (rw e) (rw e)
    go kind.StampMonth e = months (rw e)
    go kind.StampYear e = years (rw e)
    go kind.Span e = period (rw e) (rw e)
    go kind.Week e = weeks (rw e)
    go kind.Unknown e = absurd (true≢false (sym is ∙ ap is_kind e))

-- ---- no kind but 4 and 7 is left
module _ (a : Axis) where
  pub four_or_seven : known a ≡ true → (a.kind ≡ kind.Date → ⊥) → monthly a ≡ false → yearly a ≡ false → weekly a ≡ false →
      (a.kind ≡ kind.Stamp) ⊎ (a.kind ≡ kind.Span)
  unfolding monthly yearly weekly
  four_or_seven is o m y w = go a.kind is o m y w
    where
      go : (k : Kind) → is_kind k ≡ true → (k ≡ kind.Date → ⊥) → counts_months k ≡ false → counts_years k ≡ false →
          counts_weeks k ≡ false →
          (k ≡ kind.Stamp) ⊎ (k ≡ kind.Span)
      go kind.Date is o m y w = absurd (o refl)
      go kind.Month is o m y w = absurd (true≢false m)
      go kind.Year is o m y w = absurd (true≢false y)
      go kind.Stamp is o m y w = inl refl
      go kind.StampMonth is o m y w = absurd (true≢false m)
      go kind.StampYear is o m y w = absurd (true≢false y)
      go kind.Span is o m y w = inr refl
      go kind.Week is o m y w = absurd (true≢false w)
      go kind.Unknown is o m y w = absurd (true≢false (sym is))

  -- and both have a period
  pub none_left : known a ≡ true → (a.kind ≡ kind.Date → ⊥) → monthly a ≡ false → yearly a ≡ false → weekly a ≡ false →
      has_period a ≡ false → ⊥
  unfolding has_period
  none_left is o m y w e = both a.kind (four_or_seven is o m y w) e
    where
      both : (k : Kind) → (k ≡ kind.Stamp) ⊎ (k ≡ kind.Span) → is_stamp k || is_duration k ≡ false → ⊥
      both k (inl z) e = true≢false (sym (ap (λ (x : Kind). is_stamp x || is_duration x) z) ∙ e)
      both k (inr z) e = true≢false (sym (ap (λ (x : Kind). is_stamp x || is_duration x) z) ∙ e)

-- the first day of an axis over dates is one of the calendar's
pub day_known : (a : Axis) → Dated a → over_dates a.kind ≡ true → from_day a ≤ last_day
day_known a d e = omega (arith, date_from a d.real e, (starts a d).head_most)

-- what the plan of a kind knows
pub ruleset by_kind = (day_known, few_months, month_above, year_above, month_plan_is, year_plan_is)
