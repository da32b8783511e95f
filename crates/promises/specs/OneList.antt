-- One list, not two: where a date-time axis lists dates, the calls answer and leave what they answer and leave of the axis of
-- these dates. Definitions only.
use Rattle.std.specs.Prelude.{◌≡◌, Bool, true, false, List, ℕ, ◌*◌, ◌^◌, ◌≤◌, ℤ, pos, None, Ok}
use Rattle.asking.specs.Asking.{passes}
use Rattle.laws.specs.Numbers.{minus, pos_part}
use Rattle.calendar.specs.DateTimes.{date_floor, date_ceil}
use Rattle.values.specs.declared.Kind.{Kind}
use Rattle.values.specs.declared.Kind.TheVariants as kind
use Rattle.values.specs.Values.{midnight}
use Rattle.axis.specs.declared.Axis.{Axis}
use Rattle.axis.specs.declared.BoldPoints.{BoldPoints}
use Rattle.axis.specs.declared.Hint.{Hint}
use Rattle.axis.specs.declared.Hint.TheVariants.{Bold, Light}
use Rattle.axis.specs.Axes.{span_of}
use Rattle.axis.specs.Questions.{has_index}
use Rattle.counting.specs.Counting.{date_time}
use Rattle.keypoints.specs.AsDates.{date_times, ListsTimes, bold_points}
use Rattle.ticks.specs.Answers.{tick_questions, ticks_answer, ticks_written, ticks_handed, period_questions, period_answer}
use Rattle.segmented.specs.Answers.{segment_ticks_answer, segment_ticks_written}
use Rattle.promises.specs.declared.Lists.{Lists}
use Rattle.promises.specs.Examples.{axis_from, bold_of, light_of}

-- where dates are listed: the questions before 11 accept the axis and the hint, it lists as kind 4, and there the period is none
pub record ListsDates (a : Axis) (h : Hint) : Type 0 where
  pub accepted : passes (tick_questions a h) ≡ true
  pub as_times : ListsTimes a h
  pub no_period : period_answer (date_times a) (bold_points h) ≡ Ok None

-- kind 1 between two days; is the last excluded?
abbrev pub days : ℤ → ℤ → Bool → Axis
days from to x = record { kind = kind.Date; start = midnight from; end = midnight to; end_excluded = x }

-- date_ceil of the start
abbrev pub ceil_of_start : Axis → ℤ
ceil_of_start a = pos (date_ceil (date_time a.start))

-- date_floor of the end
abbrev pub floor_of_end : Axis → ℤ
floor_of_end a = pos (date_floor (date_time a.end))

-- a bold hint of N
abbrev pub by_n : Hint → Hint
by_n h = Bold (bold_points h)

-- one of a light hint's bold count
abbrev pub by_count : Hint → Hint
by_count (Bold h) = Bold h
by_count (Light h) = Bold (record { n = h.bold })

-- an axis and a hint answer as others do, which the questions accept: the count of ticks for any number of lent ones, all lent
-- numbers after the list, what is handed back, and the lists of segments, where the kind has them
pub record Alike (a : Axis) (h : Hint) (b : Axis) (g : Hint) : Type 0 where
  pub accepted : passes (tick_questions b g) ≡ true
  pub count : (k : ℕ) → ticks_answer a h k ≡ ticks_answer b g k
  pub written : (d : List ℤ) → ticks_written a h d ≡ ticks_written b g d
  pub handed : (k : ℕ) → ticks_handed a h k ≡ ticks_handed b g k
  pub segment_count : has_index a ≡ true → (k : ℕ) → segment_ticks_answer a h k ≡ segment_ticks_answer b g k
  pub segment_written : has_index a ≡ true → (d : List ℤ) → segment_ticks_written a h d ≡ segment_ticks_written b g d

-- "the list, its count and each lent number are those of kind 1 with bold hint N, from date_ceil of start to date_floor of end,
-- both included": of any axis and any hint
abbrev pub OneList : Type 0
OneList =
    (a : Axis) (h : Hint) → ListsDates a h → Alike a h (days (ceil_of_start a) (floor_of_end a) false) (by_n h)

-- the same of three calls: of the period on kind 4, of the list, and of the list of the days from `from` to `to`. r is what they
-- answered; d and e were lent to the two lists, l and m are what they left
abbrev pub SameLists : Axis → Hint → ℤ → ℤ → List ℤ → List ℤ → Lists → List ℤ → List ℤ → Type 0
SameLists a h from to d e r l m =
    passes (tick_questions a h) ≡ true → ListsTimes a h → r.period.status ≡ minus 1
    → from ≡ ceil_of_start a → to ≡ floor_of_end a → d ≡ e → (r.times ≡ r.dates) × (l ≡ m)

-- ---- where that is, in numbers: on kind 4 the period is none just from 10^14 ns for each of the N on
abbrev pub NoneFrom : Type 0
NoneFrom =
    (a : Axis) (h : BoldPoints) → a.kind ≡ kind.Stamp →
    let none = period_answer a h ≡ Ok None in
    let long = 10 ^ 14 * pos_part h.n ≤ pos_part (span_of a) in
    passes (period_questions a h) ≡ true → (none → long) × (long → none)

-- ---- the claim of other dates or another hint, each of them false
abbrev pub Writes : (Axis → Axis) → (Hint → Hint) → Type 0
Writes dates hint = (a : Axis) (h : Hint) (d : List ℤ) → ListsDates a h → ticks_written a h d ≡ ticks_written (dates a) (hint h) d

-- from date_floor of the start, to date_ceil of the end, without the end, for the bold count
pub record NoOtherList : Type 0 where
  pub from_floor : Writes (λ a. days (pos (date_floor (date_time a.start))) (floor_of_end a) false) by_n → ⊥
  pub to_ceil : Writes (λ a. days (ceil_of_start a) (pos (date_ceil (date_time a.end))) false) by_n → ⊥
  pub end_left_out : Writes (λ a. days (ceil_of_start a) (floor_of_end a) true) by_n → ⊥
  pub bold_count : Writes (λ a. days (ceil_of_start a) (floor_of_end a) false) by_count → ⊥

-- ---- dates are listed on each of the three kinds: from day 1 to day 3, N 1
abbrev pub three_days : Kind → Axis
three_days k = axis_from k (midnight (pos 1)) (midnight (pos 3))

-- with either hint on kind 4, and with a light one on kinds 5 and 6
pub record OnEachKind : Type 0 where
  pub bold : ListsDates (three_days kind.Stamp) (bold_of 1)
  pub light : ListsDates (three_days kind.Stamp) (light_of 0 1)
  pub months : ListsDates (three_days kind.StampMonth) (light_of 1 1)
  pub years : ListsDates (three_days kind.StampYear) (light_of 1 1)
