-- Demand 3 as one claim, of the numbers that the calls answer and leave. Definitions only.
-- Its words are defined where they belong: lists in steps/specs/Promise.antt, days and pixels in mapping/specs/Days.antt.
use Rattle.std.specs.Prelude.{◌≡◌, List, ℕ, ◌+◌, ◌*◌, ◌≤◌, ℤ, pos, length, take}
use Rattle.values.specs.declared.Value.{Value}
use Rattle.values.specs.Values.{midnight}
use Rattle.axis.specs.declared.Axis.{Axis}
use Rattle.axis.specs.declared.Hint.{Hint}
use Rattle.axis.specs.declared.Limits.{Limits}
use Rattle.axis.specs.Axes.{last}
use Rattle.mapping.specs.Mapping.{mapped}
use Rattle.mapping.specs.Days.{DayOf, MorePixels}
use Rattle.steps.specs.Promise.{Fine}
use Rattle.keypoints.specs.Hints.{limit}
use Rattle.ticks.specs.Answers.{ticks_answer, ticks_written, ticks_handed}
use Rattle.segmented.specs.Answers.{segment_ticks_answer, segment_ticks_written}
use Rattle.ordered.specs.declared.OrderedNumber.{OrderedNumber}
use Rattle.ordered.specs.declared.OrderedPixel.{OrderedPixel}
use Rattle.ordered.specs.Replies.{number_reply, pixel_reply}

-- a count that is answered, where N is n and l are the lent numbers after the call: at most N + 1, the lent numbers hold two
-- for each tick, and these are later each, none after the last value of the axis, none before the whole second of the start
pub record FineCount (n : ℕ) (start last : Value) (value : ℤ) (l : List ℤ) : Type 0 where
  pub count : ℕ
  pub counted : value ≡ pos count
  pub few : count ≤ n + 1
  pub held : 2 * count ≤ length l
  pub fine : Fine n start last (take (2 * count) l)

-- a call with the hint h that answered r and left l in the lent numbers, where it was not refused. The last value of an axis
-- is its end, or the day before an excluded end
abbrev pub FineList : Axis → Hint → OrderedNumber → List ℤ → Type 0
FineList a h r l = r.status ≡ pos 0 → FineCount (limit h) a.start (last a) r.value l

-- the part that is handed back, which is empty where the call was refused
abbrev pub FinePart : Axis → Hint → List ℤ → Type 0
FinePart a h part = Fine (limit h) a.start (last a) part

-- mappings that answered x for the day i and y for the day j: where none was refused, the days are different days of a date
-- axis, and there are more pixels than days, the pixels differ
abbrev pub DaysApart : Axis → Limits → ℤ → ℤ → OrderedPixel → OrderedPixel → Type 0
DaysApart a l i j x y =
    MorePixels a l → DayOf a i → DayOf a j → (i ≡ j → ⊥)
    → x.status ≡ pos 0 → y.status ≡ pos 0 → x.pixel ≡ y.pixel → ⊥

-- the demand, of an axis, a hint, lent numbers, limits and two days: `ordered_ticks_bold` and `_light`, the same of segments,
-- `key_points`, and `ordered_map`; only pixels of segment values are apart
pub record Demand3 (a : Axis) (h : Hint) (d : List ℤ) (l : Limits) (i j : ℤ) : Type 0 where
  pub listed : FineList a h (number_reply (ticks_answer a h (length d))) (ticks_written a h d)
  pub segments : FineList a h (number_reply (segment_ticks_answer a h (length d))) (segment_ticks_written a h d)
  pub handed : FinePart a h (ticks_handed a h (length d))
  pub apart : DaysApart a l i j (pixel_reply (mapped a l (midnight i))) (pixel_reply (mapped a l (midnight j)))
