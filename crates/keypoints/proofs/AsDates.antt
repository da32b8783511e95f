-- A date-time axis without a period lists what the axis of its dates lists. Assumes nothing.
use mathlib.Core.Path.{◌≡◌, refl, sym, ap, subst, ◌∙◌}
use mathlib.Core.Bool.{true}
use Prim.Native.Nat.{ℕ, ◌*◌, ◌≤◌}
use borrow.Author.Tests.{le-leb}
use Rattle.std.specs.Prelude.{None}
use Rattle.laws.specs.Numbers.{pos_part}
use Rattle.values.specs.declared.Kind.{Kind}
use Rattle.values.specs.declared.Kind.TheVariants as kind
use Rattle.axis.specs.declared.Axis.{Axis}
use Rattle.axis.specs.declared.LightPoints.{LightPoints}
use Rattle.axis.specs.declared.Hint.{Hint}
use Rattle.axis.specs.declared.Hint.TheVariants.{Bold, Light}
use Rattle.counting.specs.Counting.{monthly, yearly, weekly, from_day, to_day, size_of}
use Rattle.keypoints.specs.Dates.{date_range}
use Rattle.keypoints.specs.Times.{period_on, date_time_key_points}
use Rattle.keypoints.specs.KeyPoints.{key_points}
use Rattle.keypoints.specs.Hints.{of_kind, finer, monthly_light, yearly_light, light_key_points, key_points_in}
use Rattle.keypoints.specs.AsDates.{date_times, ListsTimes, times, months, years, bold_points}

module _ (turns : ℕ) (a : Axis) where
  -- kind 4 itself
  as_dates : (n : ℕ) → period_on turns (date_times a) n true ≡ None →
      key_points turns (date_times a) n ≡ key_points turns (date_range a) n
  unfolding key_points date_time_key_points monthly yearly weekly from_day to_day
  as_dates n e = rw e

  -- an axis by its kind
  is_kind : (k : Kind) → a.kind ≡ k → a ≡ of_kind k a
  is_kind k e = λ i. of_kind (e i) a

  -- what a light hint lists
  light_times : (b n : ℕ) → light_key_points turns (date_times a) b n ≡ key_points turns (date_times a) n
  unfolding light_key_points monthly yearly
  light_times b n = refl

  light_months : (b n : ℕ) → size_of (of_kind kind.StampMonth a) ≤ b * 2 →
      light_key_points turns (of_kind kind.StampMonth a) b n ≡ key_points turns (date_times a) n
  unfolding light_key_points monthly_light monthly yearly
  light_months b n f = rw (le-leb (size_of (of_kind kind.StampMonth a)) (b * 2) f)

  light_years : (b n : ℕ) → size_of (of_kind kind.StampYear a) ≤ b * 2 → size_of (of_kind kind.StampMonth a) ≤ b * 2 →
      light_key_points turns (of_kind kind.StampYear a) b n ≡ key_points turns (date_times a) n
  unfolding light_key_points monthly_light yearly_light monthly yearly
  light_years b n f g =
      rw (le-leb (size_of (of_kind kind.StampYear a)) (b * 2) f, le-leb (size_of (of_kind kind.StampMonth a)) (b * 2) g)

  -- an axis that lists as kind 4
  by_light : (h : Hint) (l : LightPoints) (k : Kind) → h ≡ Light l → a.kind ≡ k →
      light_key_points turns (of_kind k a) (pos_part l.bold) (pos_part l.n) ≡ key_points turns (date_times a) (pos_part l.n) →
      key_points_in turns a h ≡ key_points turns (date_times a) (pos_part (bold_points h).n)
  by_light h l k e s p =
      subst (λ x. key_points_in turns a x ≡ key_points turns (date_times a) (pos_part (bold_points x).n)) (sym e)
      (ap (λ (x : Axis). key_points_in turns x (Light l)) (is_kind k s) ∙ p)

  as_times : (h : Hint) → ListsTimes a h → key_points_in turns a h ≡ key_points turns (date_times a) (pos_part (bold_points h).n)
  as_times (Bold h) (times k) = ap (λ (x : Axis). key_points turns x (pos_part h.n)) (is_kind kind.Stamp k)
  as_times (Light h) (times k) = by_light (Light h) h kind.Stamp refl k (light_times (pos_part h.bold) (pos_part h.n))
  as_times h (months l e k f) =
      let b = pos_part l.bold in
      let s = is_kind kind.StampMonth k in
      by_light h l kind.StampMonth e k (light_months b (pos_part l.n) (subst (λ x. size_of x ≤ b * 2) s f))
  as_times h (years l e k f g) =
      let b = pos_part l.bold in
      let s = is_kind kind.StampYear k in
      by_light h l kind.StampYear e k
      (light_years b (pos_part l.n) (subst (λ x. size_of x ≤ b * 2) s f) (subst (λ x. size_of (finer x) ≤ b * 2) s g))

  -- ---- the law: where such an axis has no period, for N, its list is that of its dates for N
  pub lists_dates : (h : Hint) → ListsTimes a h → period_on turns (date_times a) (pos_part (bold_points h).n) true ≡ None →
      key_points_in turns a h ≡ key_points_in turns (date_range a) (Bold (bold_points h))
  lists_dates h t e = as_times h t ∙ as_dates (pos_part (bold_points h).n) e
