-- An end that is not in the span: what each operation answers of an excluded end, as an equation with the axis that ends a day
-- earlier, or with the end as written. Of every axis and of any six numbers, refused calls too. Definitions only.
use Rattle.std.specs.Prelude.{◌≡◌, true, false, cond, ◌&&◌, Option, Some, None, List, [], ◌∷◌, ◌++◌, length, take}
use Rattle.std.specs.Prelude.{Ok, ℕ, ◌*◌, ◌≤◌, ◌<◌, ℤ, pos, nat_abs, ◌-ℤ◌}
use Rattle.asking.specs.Asking.{asked, passes}
use Rattle.calendar.specs.Questions.{is_day}
use Rattle.values.specs.declared.Kind.{Kind}
use Rattle.values.specs.declared.Kind.TheVariants as kind
use Rattle.values.specs.declared.Value.{Value}
use Rattle.values.specs.Values.{midnight}
use Rattle.axis.specs.declared.Axis.{Axis}
use Rattle.axis.specs.declared.Hint.{Hint}
use Rattle.axis.specs.declared.Limits.{Limits}
use Rattle.axis.specs.Axes.{axis_of, day_earlier}
use Rattle.axis.specs.Questions.{has_index, has_unmap, plain_questions, axis_questions}
use Rattle.mapping.specs.declared.Hairline.{Hairline}
use Rattle.mapping.specs.Mapping.{hairline, mapped}
use Rattle.mapping.specs.Days.{DayOf}
use Rattle.counting.specs.Counting.{size_of}
use Rattle.steps.specs.Promise.{Later, nth}
use Rattle.ticks.specs.Answers.{ticks_answer, ticks_written, ticks_handed}
use Rattle.rules.specs.Table.{table_questions}
use Rattle.ruled.specs.Answers.{has_rules, ruled_questions, ruled_answer, ruled_written}
use Rattle.discrete.specs.declared.Cursor.{Cursor}
use Rattle.discrete.specs.Answers.{size_questions, size_answer, index_answer, from_index_answer, next_answer, previous_answer}
use Rattle.discrete.specs.Answers.{next_in, values_answer, unmap_answer}
use Rattle.segmented.specs.declared.Segment.{Segment}
use Rattle.segmented.specs.declared.SegmentValue.{SegmentValue}
use Rattle.segmented.specs.declared.SegmentValue.TheVariants.{Exact, CenterOf, Last}
use Rattle.segmented.specs.Segments.{margin_of, inner, Worked, worked, alone, between, beside, segment_worked}
use Rattle.segmented.specs.Answers.{segment_map_answer, segment_size_answer, segment_index_answer}
use Rattle.segmented.specs.Answers.{segment_from_answer, segment_ticks_answer, segment_ticks_written}
use Rattle.ordered.specs.Replies.{number_reply, pixel_reply}
use Rattle.promises.specs.Examples.{Example, count_numbers, pixel_numbers, bold_of, limits_of, listed_into, sevens}

-- ---- beside an axis whose end is excluded stand the one that ends a day earlier, and the one whose written end belongs to it
abbrev pub to_written : Axis → Axis
to_written a = record a { end_excluded = false }

-- the numbers of both: an end a day less, or as it is, and 0 as the last number
abbrev pub InNumbers : Type 0
InNumbers =
    (k sh st eh et x : ℤ) → let a = axis_of k sh st eh et x in
    (axis_of k sh st (eh -ℤ pos 1) et (pos 0) ≡ day_earlier a) × (axis_of k sh st eh et (pos 0) ≡ to_written a)

-- P of an axis, of the one that ends a day earlier and of the one to the end as written: of each axis, and of what six numbers
-- make, these with a day less at the end, and these with the end as it is, both with 0 as the last number
pub record OfEach (P : Axis → Axis → Axis → Type 0) : Type 0 where
  pub axes : (a : Axis) → P a (day_earlier a) (to_written a)
  pub numbers : (k sh st eh et x : ℤ) →
      P (axis_of k sh st eh et x) (axis_of k sh st (eh -ℤ pos 1) et (pos 0)) (axis_of k sh st eh et (pos 0))

-- ---- "ticks, size and indices are those of the axis ending a day earlier and unmapping goes by that size"
-- each operation asks the questions of the axis first, and then answers what it answers of the other
pub record AsOf (a b : Axis) : Type 0 where
  pub size : size_answer a ≡ asked (size_questions a) (size_answer b)
  pub index : (v : Value) → index_answer a v ≡ asked (size_questions a) (index_answer b v)
  pub from_index : (i : ℤ) → from_index_answer a i ≡ asked (size_questions a) (from_index_answer b i)
  pub next : (v : Value) → next_answer a v ≡ asked (size_questions a) (next_answer b v)
  pub previous : (v : Value) → previous_answer a v ≡ asked (size_questions a) (previous_answer b v)
  pub values : (c : Cursor) → values_answer a c ≡ asked (size_questions a) (values_answer b c)
  pub unmap : (l : Limits) (p : ℤ) →
      unmap_answer a l p ≡ asked (plain_questions (has_unmap a) a) (unmap_answer b l p)
  pub count : (h : Hint) (k : ℕ) → ticks_answer a h k ≡ asked (axis_questions true a) (ticks_answer b h k)
  pub written : (h : Hint) (d : List ℤ) → ticks_written a h d ≡ cond (passes (axis_questions true a)) (ticks_written b h d) d
  pub handed : (h : Hint) (k : ℕ) → ticks_handed a h k ≡ cond (passes (axis_questions true a)) (ticks_handed b h k) []
  pub segment_size : segment_size_answer a ≡ asked (size_questions a) (segment_size_answer b)
  pub segment_index : (s : Segment) → segment_index_answer a s ≡ asked (size_questions a)
      (segment_index_answer b s)
  pub segment_from : (i : ℤ) → segment_from_answer a i ≡ asked (size_questions a) (segment_from_answer b i)
  pub segment_count : (h : Hint) (k : ℕ) →
      segment_ticks_answer a h k ≡ asked (axis_questions (has_index a) a) (segment_ticks_answer b h k)
  pub segment_written : (h : Hint) (d : List ℤ) →
      segment_ticks_written a h d ≡ cond (passes (axis_questions (has_index a) a)) (segment_ticks_written b h d) d
  -- t is a table of house rules, which is asked before the axis
  pub ruled_count : (t : List ℕ) (k : ℕ) →
      ruled_answer t a k ≡ asked (ruled_questions t a) (ruled_answer t b k)
  -- the table first, then question 1 and the others of the axis
  pub ruled_first : (t : List ℕ) (k : ℕ) →
      ruled_answer t a k ≡ asked (table_questions t) (asked (plain_questions (has_rules a) a) (ruled_answer t b k))
  pub ruled_written_law : (t : List ℕ) (d : List ℤ) →
      ruled_written t a d ≡ cond (passes (ruled_questions t a)) (ruled_written t b d) d

-- of any axis whose end is excluded, and of any six numbers that exclude it
abbrev pub AsDayEarlier : Type 0
AsDayEarlier = OfEach (λ a b w. a.end_excluded ≡ true → AsOf a b)

-- ---- "while mapped pixels are still measured to the written end"
abbrev pub ToWrittenEnd : Type 0
ToWrittenEnd = (l : Limits) (v : Value) → OfEach (λ a b w. mapped a l v ≡ asked (axis_questions true a) (mapped w l v))

-- ---- "segments' pixels mix both": margin and follower of the axis b that ends a day earlier, pixels of the axis w with its end
-- the centre of a segment that begins at a hairline, by the next value
abbrev pub midway : Axis → Limits → ℤ → Hairline → Option Value → Worked
midway w inside margin left (Some u) =
    let c = between left (hairline w inside u) in worked c.hairline (is_day u.head && c.fits)
midway w inside margin left None = beside left margin

-- the pixel of a segment value; the last is at the high limit
abbrev pub mixed : Axis → Axis → Limits → SegmentValue → Worked
mixed b w l (Exact v) = alone (hairline w (inner (size_of b) l) v)
mixed b w l (CenterOf v) =
    let inside = inner (size_of b) l in midway w inside (margin_of (size_of b) l) (hairline w inside v) (next_in b v)
mixed b w l Last = worked (record { pixel = l.high; exact = true; lost = false }) true

-- of any axis whose end is excluded, and of any six numbers that exclude it
abbrev pub SegmentsMix : Type 0
SegmentsMix = (l : Limits) (v : SegmentValue) → OfEach (λ a b w. a.end_excluded ≡ true → segment_worked a l v ≡ mixed b w l v)

-- ---- demand 3: no tick on or after an excluded end
abbrev pub NoneFromEnd : Type 0
NoneFromEnd =
    (a : Axis) (h : Hint) (d : List ℤ) (c i : ℕ) → a.end_excluded ≡ true → ticks_answer a h (length d) ≡ Ok c
    → let l = take (2 * c) (ticks_written a h d) in
    2 * i < length l → Later (nth l i) a.end

-- ---- "the bound still counts the days between the written ends": it is strict. With as many pixels as these, days before the
-- end can share one; the claim is false, and 2,615 days are the fewest that show it
abbrev pub AsManyPixels : Type 0
AsManyPixels =
    (a : Axis) (l : Limits) (i j : ℤ) (p q : Hairline) → a.end_excluded ≡ true
    → nat_abs (a.end.head -ℤ a.start.head) ≤ nat_abs (l.high -ℤ l.low) → DayOf a i → DayOf a j
    → mapped a l (midnight i) ≡ Ok p → mapped a l (midnight j) ≡ Ok q → p.pixel ≡ q.pixel → i ≡ j

-- ---- rows
-- an axis of dates to a day that is not in it
abbrev pub before : Kind → ℕ → ℕ → Axis
before k s e = record { kind = k; start = midnight (pos s); end = midnight (pos e); end_excluded = true }

-- kind 2 from 0001-01-01 to 0001-04-01, which is day 91: 3 months
abbrev pub three_months : Example
three_months =
    record {
      answer = count_numbers (number_reply (size_answer (before kind.Month 1 91)));
      settled = pos 0 ∷ (pos 3 ∷ []);
    }

-- their ticks for N 12: the firsts of January, February and March
abbrev pub three_ticks : Example
three_ticks =
    record {
      answer = listed_into (before kind.Month 1 91) (bold_of 12) sevens;
      settled = pos 0 ∷ (pos 3 ∷ (pos 1 ∷ (pos 0 ∷ (pos 32 ∷ (pos 0 ∷ (pos 60 ∷ (pos 0 ∷ [])))))));
    }

-- and April 1 at the high limit
abbrev pub at_high : Example
at_high =
    record {
      answer = pixel_numbers (pixel_reply (mapped (before kind.Month 1 91) (limits_of (pos 0) (pos 100)) (midnight (pos 91))));
      settled = pos 0 ∷ (pos 100 ∷ []);
    }

-- a segment of days 1 to 3, "to day 4", between 0 and 90
abbrev pub segment_pixel : ℕ → ℕ → List ℤ
segment_pixel case day =
    pixel_numbers (pixel_reply (segment_map_answer (before kind.Date 1 4) (limits_of (pos 0) (pos 90))
    (record { case = pos case; head = pos day; tail = pos 0 })))

-- the lefts at 0, 20 and 40, and the last at 90
abbrev pub lefts : Example
lefts =
    record {
      answer = segment_pixel 1 1 ++ segment_pixel 1 2 ++ segment_pixel 1 3 ++ segment_pixel 3 0;
      settled = pos 0 ∷ (pos 0 ∷ (pos 0 ∷ (pos 20 ∷ (pos 0 ∷ (pos 40 ∷ (pos 0 ∷ (pos 90 ∷ [])))))));
    }

-- an end that is the start, and one of a kind over date-times: 14
abbrev pub refused_ends : Example
refused_ends =
    record {
      answer =
          count_numbers (number_reply (size_answer (before kind.Date 5 5)))
          ++ count_numbers (number_reply (size_answer (before kind.StampMonth 5 6)));
      settled = pos 14 ∷ (pos 0 ∷ (pos 14 ∷ (pos 0 ∷ [])));
    }

-- 4 before 14
abbrev pub four_first : Example
four_first =
    record {
      answer = count_numbers (number_reply (size_answer (before kind.StampMonth 6 5)));
      settled = pos 4 ∷ (pos 0 ∷ []);
    }

-- all of them
abbrev pub excluded_table : List Example
excluded_table = three_months ∷ (three_ticks ∷ (at_high ∷ (lefts ∷ (refused_ends ∷ (four_first ∷ [])))))
