-- The wrong answers are ruled out: the definitions compute each answer, and one computed test tells it from both wrong ones.
-- Answers of tables are those that are settled. Assumes nothing.
use mathlib.Core.Path.{◌≡◌, refl, sym, ap, ◌∙◌}
use mathlib.Core.Bool.{Bool, true, false, not, ◌&&◌}
use mathlib.Core.List.{List, [], ◌∷◌, ◌++◌}
use Prim.Native.Nat.{ℕ}
use native.Mathlib.Omega.{arith}
use lib.Dec.{T, eqb}
use lib.IntN.{ℤ, pos, negsuc}
use borrow.Author.Tests.{eq-eqb}
use lib.Ieee as ieee
use Rattle.laws.proofs.Tests.{both_true, is_true}
use Rattle.calendar.specs.Gregorian as calendar
use Rattle.calendar.specs.Questions.{is_date, in_ranges, number_of, date_at}
use Rattle.weeks.specs.Weeks as weeks
use Rattle.weeks.specs.Questions.{is_week_date, week_day_number, week_date_at}
use Rattle.floats.specs.Rounding as rounding
use Rattle.values.specs.Differences.{nanoseconds, difference, nanoseconds_of}
use Rattle.values.specs.Values.{is_value, earlier}
use Rattle.axis.specs.Axes.{span_of, offset_of, closed}
use Rattle.axis.specs.Questions as asks
use Rattle.floats.specs.Losses.{is_whole, lost_in}
use Rattle.mapping.specs.Hairlines.{exact_at, lost_at}
use Rattle.mapping.specs.Mapping as mapping
use Rattle.counting.specs.Counting as count
use Rattle.floats.specs.Rounding.{ceil_of}
use Rattle.keypoints.specs.Loops.{while}
use Rattle.keypoints.specs.Dates as dates
use Rattle.keypoints.specs.Months as months
use Rattle.keypoints.specs.Weeks as mondays
use Rattle.keypoints.specs.Periods as periods
use Rattle.keypoints.specs.Times as times
use Rattle.keypoints.specs.KeyPoints.{key_points}
use Rattle.keypoints.specs.Hints.{light_key_points, monthly_light, key_points_for}
use Rattle.ticks.specs.Answers as ticks
use Rattle.discrete.specs.Indices as index
use Rattle.discrete.specs.Answers as discrete
use Rattle.segmented.specs.Segments as segments
use Rattle.segmented.specs.Answers as segmented
use Rattle.promises.specs.Examples.{Example, Holds}
use Rattle.promises.specs.RulesExamples as rules
use Rattle.promises.specs.WrongAnswers.{Row, computed_rows, ruled_rows, wrong_table, RuledOut, AllRuledOut}
use Rattle.promises.proofs.RulesExamples.{names_alone, row_twice, date_times, days_listed, second_januaries}

-- ---- lists of numbers that a test tells apart are not equal
abbrev same_number : ℤ → ℤ → Bool
same_number (pos m) (pos n) = eqb m n
same_number (pos m) (negsuc n) = false
same_number (negsuc m) (pos n) = false
same_number (negsuc m) (negsuc n) = eqb m n

abbrev same : List ℤ → List ℤ → Bool
same [] [] = true
same [] (y ∷ ys) = false
same (x ∷ xs) [] = false
same (x ∷ xs) (y ∷ ys) = same_number x y && same xs ys

number_same : (z : ℤ) → same_number z z ≡ true
number_same (pos n) = eq-eqb n n refl
number_same (negsuc n) = eq-eqb n n refl

list_same : (xs : List ℤ) → same xs xs ≡ true
list_same [] = refl
list_same (x ∷ xs) = rw (number_same x, list_same xs)

no_truth : (b : Bool) → b ≡ true → T (not b) → ⊥
no_truth true e t = t
no_truth false e t = let z : ◌≡◌ {A = ℕ} 0 1 = cc in absurd (let w : ⊥ = omega arith in w)

apart : (xs ys : List ℤ) → T (not (same xs ys)) → xs ≡ ys → ⊥
apart xs ys t e = no_truth (same xs ys) (ap (same xs) (sym e) ∙ list_same xs) t

-- ---- the table
abbrev told : Row → Bool
told r = not (same r.answer r.wrong) && not (same r.answer r.other)

abbrev all_told : List Row → Bool
all_told [] = true
all_told (r ∷ rs) = told r && all_told rs

ruled : (rs : List Row) → all_told rs ≡ true → AllRuledOut rs
ruled [] e = tt
ruled (r ∷ rs) e =
    let (here, later) = both_true (told r) (all_told rs) e in
    let (a, b) = both_true (not (same r.answer r.wrong)) (not (same r.answer r.other)) here in
    ((apart r.answer r.wrong (is_true _ a), apart r.answer r.other (is_true _ b)), ruled rs later)

computed_out : AllRuledOut computed_rows
unfolding closed calendar.leap calendar.leap_day calendar.month_length calendar.months calendar.year_length calendar.years
    calendar.day_number calendar.next_day calendar.days_later calendar.date_of is_date in_ranges number_of date_at
    weeks.weekday weeks.monday weeks.thursday weeks.counted weeks.day_from weeks.week_year weeks.thursdays weeks.week_number
    weeks.week_date_of weeks.weeks_of weeks.first_thursday weeks.week_day is_week_date week_day_number week_date_at
    weeks.mondays_to ieee.span ieee.climb ieee.size ieee.odd ieee.units ieee.round ieee.mul ieee.div ieee.of_int
    ieee.to_unsigned ieee.to_signed rounding.floor_f rounding.ceil_f rounding.ceil_of rounding.round_f rounding.quotient_of
    nanoseconds difference nanoseconds_of is_value earlier span_of offset_of asks.has_unmap asks.has_index asks.has_period
    asks.ends asks.in_order asks.excludable asks.near_or_long asks.bold_hint asks.light_hint asks.pixels asks.differ
    asks.unmap_pixels asks.value_on asks.mappable asks.checked asks.checked_if mapping.map_coord
    mapping.placed mapping.hairline mapping.mapped exact_at lost_at is_whole lost_in count.monthly count.yearly count.weekly
    count.from_day count.to_day count.first_date count.date_on count.origin count.position count.size_of while
    mondays.mondays_from mondays.every_after mondays.least_from mondays.weeks_per_point mondays.mondays_on
    mondays.week_key_points dates.dates_from dates.date_key_points months.start_of months.carried months.generate_key_points
    months.last_year months.exp10_from months.try_freq months.freq_of months.generate_yearly_keypoints months.total_month
    months.months_from months.month_key_points periods.exponent_from periods.determine_actual_ns_per_point periods.days_from
    periods.period_from periods.compute_period_per_point times.plus times.period_on times.aligned_up times.date_times_by
    times.date_time_key_points times.aligned times.duration_of times.durations_by times.duration_key_points key_points
    monthly_light light_key_points key_points_for ticks.ticks_of ticks.ticks_answer ticks.ticks_written ticks.period_answer
    index.is_indexed index.index_of index.month_at index.january index.week_at index.value_at index.index_at
    index.index_under discrete.index_in discrete.next_in discrete.previous_in discrete.value_in discrete.size_answer
    discrete.index_answer discrete.from_index_answer discrete.next_answer discrete.previous_answer discrete.values_answer
    discrete.value_under discrete.unmap_answer segments.segment_on segments.segment_of segments.segment_mappable
    segments.margin_of segments.inner segments.segment_worked segmented.segment_map_answer segmented.segment_size_answer
    segmented.segment_index_in segmented.segment_index_answer segmented.segment_at segmented.segment_from_answer
    segmented.segment_ticks_answer segmented.segment_ticks_written
computed_out = ruled computed_rows refl

-- ---- answers that are settled
settled_out : (e : Example) (wrong other : List ℤ) → Holds e → T (not (same e.settled wrong)) →
    T (not (same e.settled other)) → RuledOut (record { answer = e.answer; wrong = wrong; other = other })
settled_out e wrong other h x y =
    (λ p. apart e.settled wrong x (sym h ∙ p), λ p. apart e.settled other y (sym h ∙ p))

tables_out : AllRuledOut ruled_rows
tables_out =
    let names = settled_out rules.names_alone _ _ names_alone tt tt in
    let twice = settled_out rules.row_twice _ _ row_twice tt tt in
    let days = settled_out rules.second_days _ _ days_listed.0 tt tt in
    let excluded = settled_out rules.row_before_end _ _ days_listed.1 tt tt in
    let januaries = settled_out rules.second_januaries _ _ second_januaries tt tt in
    let times = settled_out rules.date_times _ _ date_times tt tt in
    (names, (twice, (days, (excluded, (januaries, (times, tt))))))

both_out : (rs ss : List Row) → AllRuledOut rs → AllRuledOut ss → AllRuledOut (rs ++ ss)
both_out [] ss f g = g
both_out (r ∷ rs) ss (here, later) g = (here, both_out rs ss later g)

-- THE THEOREM, of all exports
pub ruled_out : AllRuledOut wrong_table
ruled_out = both_out computed_rows ruled_rows computed_out tables_out
