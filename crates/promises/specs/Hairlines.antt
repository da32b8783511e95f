-- Hairlines: how a pixel is drawn, of what `ordered_map` and `ordered_segment_map` answer. What a yes says of the exact position
-- is defined in mapping/specs/Drawn.antt. Definitions only.
use Rattle.std.specs.Prelude.{◌≡◌, ◌⊎◌, true, false, List, [], ◌∷◌, ℕ, ℤ, pos, Ok}
use Rattle.laws.specs.Numbers.{minus}
use Rattle.values.specs.declared.Kind.TheVariants as kind
use Rattle.values.specs.declared.Value.{Value}
use Rattle.values.specs.Values.{over_dates, earlier, midnight}
use Rattle.values.specs.Differences.{whole_days}
use Rattle.axis.specs.declared.Axis.{Axis}
use Rattle.axis.specs.declared.Limits.{Limits}
use Rattle.axis.specs.Axes.{span_of}
use Rattle.axis.specs.Questions.{equals}
use Rattle.mapping.specs.declared.Hairline.{Hairline}
use Rattle.mapping.specs.Hairlines.{in_nanoseconds, divides_nothing}
use Rattle.mapping.specs.Mapping.{mapped}
use Rattle.mapping.specs.Position.{WholePosition}
use Rattle.mapping.specs.Drawn.{OnPosition, OnDays}
use Rattle.segmented.specs.declared.Segment.{Segment}
use Rattle.segmented.specs.Answers.{segment_map_answer}
use Rattle.ordered.specs.declared.OrderedPixel.{OrderedPixel}
use Rattle.ordered.specs.Replies.{pixel_reply}
use Rattle.promises.specs.Examples.{Example, hairline_numbers, axis_from, at_nano, limits_of}

-- both are 1 for yes or 0 for no, and 0 where the call was refused
pub record Flags (r : OrderedPixel) : Type 0 where
  pub exact : (r.exact ≡ pos 0) ⊎ (r.exact ≡ pos 1)
  pub lost : (r.lost ≡ pos 0) ⊎ (r.lost ≡ pos 1)
  pub refused : (r.status ≡ pos 0 → ⊥) → (r.exact ≡ pos 0) × (r.lost ≡ pos 0)

-- a mapping of the value v that answered r, where it was not refused
pub record DrawnAs (a : Axis) (l : Limits) (v : Value) (r : OrderedPixel) : Type 0 where
  -- in nanoseconds `exact` is 1 just where the position is whole and is the pixel less low
  pub exact_near : in_nanoseconds a v ≡ true → r.exact ≡ pos 1 → OnPosition a l v r.pixel
  pub near_exact : in_nanoseconds a v ≡ true → OnPosition a l v r.pixel → r.exact ≡ pos 1
  -- in whole days just where that holds in days; not by zero whole days, and not where nothing is divided
  pub exact_days : in_nanoseconds a v ≡ false → r.exact ≡ pos 1 → OnDays a l v r.pixel
  pub days_exact :
      in_nanoseconds a v ≡ false → divides_nothing a ≡ false → (whole_days (span_of a) ≡ pos 0 → ⊥) → OnDays a l v r.pixel
      → r.exact ≡ pos 1
  pub zero_days : in_nanoseconds a v ≡ false → whole_days (span_of a) ≡ pos 0 → r.exact ≡ pos 0
  pub no_division : in_nanoseconds a v ≡ false → divides_nothing a ≡ true → r.exact ≡ pos 0
  -- on kinds 1, 2, 3 and 8 the first in either unit
  pub exact_dates : over_dates a.kind ≡ true → r.exact ≡ pos 1 → OnPosition a l v r.pixel
  pub dates_exact : over_dates a.kind ≡ true → OnPosition a l v r.pixel → r.exact ≡ pos 1
  -- where start equals end it is 1
  pub one_value : equals a.end a.start ≡ true → r.exact ≡ pos 1
  -- `lost` is 0 in whole days, where nothing is divided, and on kinds 1, 2, 3 and 8
  pub kept_days : in_nanoseconds a v ≡ false → r.lost ≡ pos 0
  pub kept_dates : over_dates a.kind ≡ true → r.lost ≡ pos 0

-- of every answer
pub record DrawnOf (a : Axis) (l : Limits) (v : Value) (r : OrderedPixel) : Type 0 where
  pub flags : Flags r
  pub answered : r.status ≡ pos 0 → DrawnAs a l v r

-- mappings of the start, which answered x, and of the end, which answered y: the start is always exact, the end just where it is
-- on the high limit
pub record EndsDrawn (a : Axis) (l : Limits) (x y : OrderedPixel) : Type 0 where
  pub start_exact : x.status ≡ pos 0 → x.exact ≡ pos 1
  pub exact_high : earlier a.start a.end ≡ true → y.status ≡ pos 0 → y.exact ≡ pos 1 → y.pixel ≡ l.high
  pub high_exact : earlier a.start a.end ≡ true → y.status ≡ pos 0 → y.pixel ≡ l.high → y.exact ≡ pos 1

-- of any axis, limits, value and segment; on kinds 1, 2, 3 and 8 segments lose nothing
pub record Drawn (a : Axis) (l : Limits) (v : Value) (s : Segment) : Type 0 where
  pub of_value : DrawnOf a l v (pixel_reply (mapped a l v))
  pub of_ends : EndsDrawn a l (pixel_reply (mapped a l a.start)) (pixel_reply (mapped a l a.end))
  pub of_segment : Flags (pixel_reply (segment_map_answer a l s))
  pub kept_segment : over_dates a.kind ≡ true → (pixel_reply (segment_map_answer a l s)).lost ≡ pos 0

-- ---- what one may not expect: each of these is false
pub record NotExpected : Type 0 where
  -- "a whole position is drawn exact", on dates: the pixel may be one short of it
  pub whole_exact :
      ((a : Axis) (l : Limits) (v : Value) (h : Hairline) → over_dates a.kind ≡ true
      → WholePosition a l v → mapped a l v ≡ Ok h → h.exact ≡ true)
      → ⊥
  -- "what lost something is not exact"
  pub lost_not_exact :
      ((a : Axis) (l : Limits) (v : Value) (h : Hairline) → mapped a l v ≡ Ok h → h.lost ≡ true → h.exact ≡ false) → ⊥
  -- "where start equals end, everything is exact": a centre is halved
  pub centre_exact :
      ((a : Axis) (l : Limits) (s : Segment) (h : Hairline) → equals a.end a.start ≡ true
      → segment_map_answer a l s ≡ Ok h → h.exact ≡ true)
      → ⊥

-- ---- rows: status, pixel, exact, lost
abbrev pub drawn_at : Axis → ℤ → ℤ → Value → List ℤ
drawn_at a low high v = hairline_numbers (pixel_reply (mapped a (limits_of low high) v))

-- of a segment: 1 exact, 2 centre, 3 last
abbrev pub segment_drawn : Axis → ℤ → ℤ → ℕ → Value → List ℤ
segment_drawn a low high case v =
    hairline_numbers (pixel_reply (segment_map_answer a (limits_of low high)
    (record { case = pos case; head = v.head; tail = v.tail })))

-- the four numbers of an answer
abbrev pub four_of : ℤ → ℤ → ℤ → List ℤ
four_of pixel exact lost = pos 0 ∷ (pixel ∷ (exact ∷ (lost ∷ [])))

-- an offset of -2^63 ns, which has no size of 64 bits, of a span of 2^62 ns, between 0 and 1
abbrev pub least_offset : Example
least_offset =
    record {
      answer = drawn_at (axis_from kind.Stamp (midnight (pos 1500000)) (at_nano (midnight (pos 1553375)) 86018427387904)) (pos 0)
          (pos 1) (at_nano (midnight (pos 1393248)) 763145224192);
      settled = four_of (minus 2) (pos 1) (pos 0);
    }

-- days 1 to 1808 between 0 and 3781, day 1808: its position is 3781, and its pixel falls one short
abbrev pub one_short : Example
one_short =
    record {
      answer = drawn_at (axis_from kind.Date (midnight (pos 1)) (midnight (pos 1808))) (pos 0) (pos 3781) (midnight (pos 1808));
      settled = four_of (pos 3780) (pos 0) (pos 0);
    }

-- day 10 to day 10 between 0 and 7: day 10 is exact, its centre is halved, the last is exact
abbrev pub one_day : Axis
one_day = axis_from kind.Date (midnight (pos 10)) (midnight (pos 10))

-- the day
abbrev pub one_day_law : Example
one_day_law = record { answer = drawn_at one_day (pos 0) (pos 7) (midnight (pos 10)); settled = four_of (pos 0) (pos 1) (pos 0) }

-- its centre
abbrev pub halved_centre : Example
halved_centre =
    record { answer = segment_drawn one_day (pos 0) (pos 7) 2 (midnight (pos 10)); settled = four_of (pos 3) (pos 0) (pos 0) }

-- the last
abbrev pub last_exact : Example
last_exact =
    record { answer = segment_drawn one_day (pos 0) (pos 7) 3 (midnight (pos 10)); settled = four_of (pos 7) (pos 1) (pos 0) }

-- a span of 1 ns, 0 whole days, and an offset of 106,752 days, which is none of 64 bits; W is 0
abbrev pub zero_days : Example
zero_days =
    record {
      answer = drawn_at (axis_from kind.Stamp (midnight (pos 1)) (at_nano (midnight (pos 1)) 1)) (pos 0) (pos 0)
          (midnight (pos 106753));
      settled = four_of (pos 0) (pos 0) (pos 0);
    }

-- one day, and an offset of 2^53 + 1 ns, between 0 and 1 and between 0 and 0
abbrev pub lost_between : ℕ → List ℤ
lost_between high =
    drawn_at (axis_from kind.Stamp (midnight (pos 1)) (midnight (pos 2))) (pos 0) (pos high)
    (at_nano (midnight (pos 105)) 21599254740993)

-- between 0 and 1
abbrev pub some_lost : Example
some_lost = record { answer = lost_between 1; settled = four_of (pos 104) (pos 0) (pos 1) }

-- between 0 and 0, where it is exact all the same
abbrev pub lost_exact : Example
lost_exact = record { answer = lost_between 0; settled = four_of (pos 0) (pos 1) (pos 1) }

-- kind 7, 0 to 1 s between 0 and 7, and a duration beyond 64 bits: at the high limit
abbrev pub beyond_high : Example
beyond_high =
    record {
      answer = drawn_at (axis_from kind.Span (midnight (pos 0)) (midnight (pos 1))) (pos 0) (pos 7) (midnight (pos 9223372037));
      settled = four_of (pos 7) (pos 0) (pos 0);
    }

-- kind 7, 0 to 1 s between 1 and 0: the end, from whose position -1 the added 1e-10 moves it
abbrev pub high_below_low : Example
high_below_low =
    record {
      answer = drawn_at (axis_from kind.Span (midnight (pos 0)) (midnight (pos 1))) (pos 1) (pos 0) (midnight (pos 1));
      settled = four_of (pos 1) (pos 0) (pos 0);
    }

-- all of them
abbrev pub hairline_table : List Example
hairline_table =
    least_offset
    ∷ (one_short
    ∷ (one_day_law
    ∷ (halved_centre
    ∷ (last_exact
    ∷ (zero_days
    ∷ (some_lost
    ∷ (lost_exact
    ∷ (beyond_high
    ∷ (high_below_low
    ∷ [])))))))))
