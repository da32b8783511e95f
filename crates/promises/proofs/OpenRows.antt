-- The open rows of the settled examples, for all of what they leave open. Assumes nothing.
use mathlib.Core.Path.{◌≡◌, refl, sym, ◌∙◌}
use mathlib.Core.Bool.{true, false}
use mathlib.Core.List.{List, [], ◌∷◌, ◌++◌}
use Prim.Native.Nat.{ℕ, ◌+◌, ◌*◌, ◌/◌, ◌^◌, ◌≤◌}
use native.Mathlib.Omega.{arith}
use lib.Dec.{leb}
use lib.IntN.{ℤ, pos, ◌-ℤ◌}
use lib.ListN.{length, drop}
use lib.Ieee as ieee
use borrow.Author.Tests.{le-leb, le-ltb}
use Rattle.std.specs.Prelude.{Some, Ok}
use Rattle.laws.specs.Units.{per_hour}
use Rattle.laws.proofs.Signed.{same, sub}
use Rattle.laws.proofs.Tests.{and_false}
use Rattle.asking.specs.Asking.{passes}
use Rattle.asking.proofs.Asked.{passed}
use Rattle.floats.specs.Rounding.{ceil_f, ceil_of}
use Rattle.values.specs.declared.Kind.TheVariants as kind
use Rattle.values.specs.declared.Value.{Value}
use Rattle.values.specs.Values.{is_value, earlier, midnight}
use Rattle.values.specs.Differences.{fits_i64}
use Rattle.axis.specs.declared.Axis.{Axis}
use Rattle.axis.specs.declared.Hint.{Hint}
use Rattle.axis.specs.Axes.{closed}
use Rattle.axis.specs.Questions.{has_index, has_period, ends, in_order, excludable, near_or_long, is_count, hint_on}
use Rattle.axis.specs.Questions.{bold_hint, value_on}
use Rattle.axis.proofs.Questions.{other_kind}
use Rattle.counting.specs.Counting.{from_day, to_day, monthly, yearly, first_date, date_on, origin, position, size_of}
use Rattle.steps.specs.Months.{month_of, whole_month}
use Rattle.steps.specs.Listing.{numbers, listed_of}
use Rattle.plans.specs.Months.{from_month, to_month, month_plan}
use Rattle.plans.specs.Plans.{plan_of}
use Rattle.keypoints.specs.Dates.{dates_from, date_key_points}
use Rattle.keypoints.specs.Periods.{exponent_from, determine_actual_ns_per_point, period_from, compute_period_per_point}
use Rattle.keypoints.specs.Times.{period_on}
use Rattle.keypoints.specs.KeyPoints.{key_points}
use Rattle.keypoints.specs.Hints.{key_points_for}
use Rattle.ticks.specs.Answers.{tick_questions, ticks_of, ticks_answer, ticks_written, period_questions, period_answer}
use Rattle.ticks.proofs.KeyPoints.{ticks_same}
use Rattle.discrete.specs.Indices.{is_indexed, index_of}
use Rattle.discrete.specs.Answers.{index_in, index_answer, size_answer}
use Rattle.promises.specs.Examples.{bold_of, listed_into, new_year}
use Rattle.promises.specs.OpenRows.{dates_apart, SixDays, TwoWeeks, PeriodOf, BelowThePower, AtThePower, EarlierYear}
use Rattle.promises.specs.OpenRows.{NoWholeMonth}
use Rattle.promises.proofs.DayNumbers.{december_2019, january_2020, december_2021, january_2022}
use Rattle.promises.proofs.DateAxes.{dates_accepted}

-- ---- a list that the questions accept and the lent numbers have room for
listed : (a : Axis) (h : Hint) (l : List Value) (d : List ℤ) → passes (tick_questions a h) ≡ true → ticks_of a h ≡ l →
    2 * length l ≤ length d → listed_into a h d ≡ pos 0 ∷ (pos (length l) ∷ (numbers l ++ drop (2 * length l) d))
unfolding ticks_answer ticks_written
listed a h l d z e r =
    rw (← passed (tick_questions a h) (listed_of (ticks_of a h) (length d)) z, z, e, le-leb (2 * length l) (length d) r)

-- ---- dates
module _ (day k n : ℕ) (first : 1 ≤ day) (last : day + k ≤ 3652059) (few : n ≤ 4096) where
  abbrev a : Axis
  a = dates_apart day k

  accepted : passes (tick_questions a (bold_of n)) ≡ true
  accepted =
      let c : is_count (pos n) ≡ true = rw (le-leb 0 n (omega arith), le-leb n 4096 few) in
      dates_accepted day (day + k) first (omega arith) last (record { n = pos n }) c

  days : ticks_of a (bold_of n) ≡ dates_from day (pos k) (pos (k / 7)) n
  unfolding closed ticks_of key_points_for key_points date_key_points
  days =
      let e : pos (day + k) -ℤ pos day ≡ pos k = same (pos (day + k) -ℤ pos day) (pos k)
      (omega (arith, sub (pos (day + k)) (pos day))) in
      rw e

pub six_days : SixDays
unfolding dates_from
six_days day d first last room =
    let few : 0 ≤ 4096 = omega arith in
    listed (dates_apart day 6) (bold_of 0) (midnight (pos day) ∷ []) d (accepted day 6 0 first last few)
    (days day 6 0 first last few) room

-- two weeks to a tick
two_per_tick : ceil_of 2 1 ≡ 2
unfolding ceil_of ceil_f ieee.span ieee.climb ieee.size ieee.odd ieee.units ieee.round ieee.div ieee.of_int ieee.to_unsigned
two_per_tick = refl

both_ends : (day : ℕ) → dates_from day (pos 14) (pos 2) 1 ≡ midnight (pos day) ∷ (midnight (pos (day + 14)) ∷ [])
unfolding dates_from
both_ends day = let f : day + 0 ≡ day = omega arith in rw (two_per_tick, f)

pub two_weeks : TwoWeeks
two_weeks day d first last room =
    let few : 1 ≤ 4096 = omega arith in
    listed (dates_apart day 14) (bold_of 1) (midnight (pos day) ∷ (midnight (pos (day + 14)) ∷ [])) d
    (accepted day 14 1 first last few) (days day 14 1 first last few ∙ both_ends day) room

-- ---- the periods
has_period_law : (a : Axis) → a.kind ≡ kind.Stamp → ends a ≡ true → in_order a ≡ true → a.end_excluded ≡ false →
    passes (period_questions a (record { n = pos 100 })) ≡ true
unfolding has_period excludable bold_hint
has_period_law a stamp real order kept =
    let near : near_or_long a ≡ true = sym (other_kind a (rw stamp)) in
    rw (real, order, near, kept, stamp)

-- where the span has a period, the axis has
spanned : (span k : ℕ) → fits_i64 (pos span) ≡ true → compute_period_per_point 130 span 100 true ≡ Some k → PeriodOf span k
unfolding period_answer period_on
spanned span k f e a stamp real order kept s =
    sym (passed (period_questions a (record { n = pos 100 })) _ (has_period_law a stamp real order kept)) ∙ rw (s, f, stamp, e)

pub below_the_power : BelowThePower
unfolding exponent_from determine_actual_ns_per_point period_from compute_period_per_point
below_the_power = spanned 999999999999999 (5 * per_hour) refl refl

pub at_the_power : AtThePower
unfolding exponent_from determine_actual_ns_per_point period_from compute_period_per_point
at_the_power = spanned (10 ^ 15) (4 * per_hour) refl refl

-- ---- an index
pub earlier_year : EarlierYear
unfolding closed index_answer index_in is_indexed index_of has_index ends is_value in_order excludable earlier value_on
    monthly yearly from_day first_date date_on origin position
earlier_year last least most =
    rw (
      le-leb 1 last (omega arith),
      le-leb last 3652059 most,
      le-ltb last 737425 least,
      and_false (leb last 737425),
      december_2019,
      january_2020,
    )

-- ---- no month
first_month : from_month new_year ≡ 24252
unfolding from_day from_month whole_month month_of
first_month = rw january_2022

last_month : to_month new_year ≡ 24251
unfolding to_day to_month month_of
last_month = rw december_2021

module _ (n : ℕ) (least : 1 ≤ n) (few : n ≤ 4096) where
  any_hint : hint_on new_year (bold_of n) ≡ true
  unfolding bold_hint
  any_hint = rw (le-leb 0 n (omega arith), le-leb 1 n least, le-leb n 4096 few)

  year_accepted : passes (tick_questions new_year (bold_of n)) ≡ true
  unfolding near_or_long ends is_value in_order excludable earlier
  year_accepted = rw any_hint

  no_ticks : ticks_of new_year (bold_of n) ≡ []
  unfolding closed plan_of monthly month_plan
  no_ticks = ticks_same new_year (bold_of n) year_accepted ∙ (rw (first_month, last_month))

pub no_whole_month : NoWholeMonth
no_whole_month n d least few =
    listed new_year (bold_of n) [] d (year_accepted n least few) (no_ticks n least few) (omega arith)

-- its size is 12
pub twelve : size_answer new_year ≡ Ok 12
unfolding closed size_answer size_of has_index ends is_value in_order excludable earlier monthly first_date date_on from_day
twelve = rw (december_2021, january_2022)
