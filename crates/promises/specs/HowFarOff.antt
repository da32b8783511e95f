-- How far a pixel may be off, of what `ordered_map` answers; and the narrower claims that one could make, each of them false.
-- Positions and what a pixel may be beside them are defined in mapping/specs/Position.antt. Definitions only.
use Rattle.std.specs.Prelude.{◌≡◌, ◌⊎◌, Bool, true, suc, ◌≤◌, ℤ, pos, negsuc, nat_abs, ◌+ℤ◌, ◌-ℤ◌, ◌*ℤ◌, Ok}
use Rattle.values.specs.declared.Kind.{Kind}
use Rattle.values.specs.declared.Value.{Value}
use Rattle.values.specs.Values.{over_dates, over_date_times, earlier}
use Rattle.axis.specs.declared.Axis.{Axis}
use Rattle.axis.specs.declared.Limits.{Limits}
use Rattle.axis.specs.Axes.{span_of, offset_of}
use Rattle.mapping.specs.declared.Hairline.{Hairline}
use Rattle.mapping.specs.Hairlines.{hairline_at}
use Rattle.mapping.specs.Mapping.{mapped, answered_at}
use Rattle.mapping.specs.Position.{Inside, width, cut_position, WholePosition, one_nearer, CutOrNearer, HowFarOff}
use Rattle.ordered.specs.declared.OrderedPixel.{OrderedPixel}
use Rattle.ordered.specs.Replies.{pixel_reply}

-- a mapping of the value v that answered r, where it was not refused
abbrev pub OffOf : Axis → Limits → Value → OrderedPixel → Type 0
OffOf a l v r = r.status ≡ pos 0 → HowFarOff a l v r.pixel

-- mappings of the start, which answered x, and of the end, which answered y: "the end of an axis lands on the high limit or one
-- short of it, and the start on the low limit exactly". Only the questions of the axis and the limits can refuse them
pub record AtEnds (a : Axis) (l : Limits) (x y : OrderedPixel) : Type 0 where
  pub at_start : x ≡ pixel_reply (answered_at a l (hairline_at a l a.start l.low))
  pub at_end :
      earlier a.start a.end ≡ true
      → (y ≡ pixel_reply (answered_at a l (hairline_at a l a.end l.high)))
      ⊎ (y ≡ pixel_reply (answered_at a l (hairline_at a l a.end (l.low +ℤ one_nearer (width l)))))

-- of any axis, limits and value
pub record Off (a : Axis) (l : Limits) (v : Value) : Type 0 where
  pub of_value : OffOf a l v (pixel_reply (mapped a l v))
  pub of_ends : AtEnds a l (pixel_reply (mapped a l a.start)) (pixel_reply (mapped a l a.end))

-- ---- narrower claims
-- something claimed of the pixel of every value of a span, on some kinds
abbrev pub Claimed : (Kind → Bool) → (Axis → Limits → Value → ℤ → Type 0) → Type 0
Claimed kinds claim =
    (a : Axis) (l : Limits) (v : Value) (h : Hairline)
    → kinds a.kind ≡ true → Inside a v → mapped a l v ≡ Ok h → claim a l v h.pixel

-- it is the cut position
abbrev pub AtCut : Axis → Limits → Value → ℤ → Type 0
AtCut a l v p = p -ℤ l.low ≡ cut_position a l v

-- one farther from the low limit
abbrev pub one_farther : ℤ → ℤ
one_farther (pos n) = pos (suc n)
one_farther (negsuc n) = negsuc (suc n)

-- "one farther" in place of one nearer
abbrev pub CutOrFarther : Axis → Limits → Value → ℤ → Type 0
CutOrFarther a l v p =
    (p -ℤ l.low ≡ cut_position a l v)
    ⊎ (WholePosition a l v × (p -ℤ l.low ≡ one_farther (cut_position a l v)))

-- it is no farther from the low limit than the cut position
abbrev pub NoFarther : Axis → Limits → Value → ℤ → Type 0
NoFarther a l v p = nat_abs (p -ℤ l.low) ≤ nat_abs (cut_position a l v)

-- it is within one of the position itself, which is not cut
abbrev pub WithinOneUncut : Axis → Limits → Value → ℤ → Type 0
WithinOneUncut a l v p = nat_abs ((p -ℤ l.low) *ℤ span_of a -ℤ width l *ℤ offset_of a v) ≤ nat_abs (span_of a)

-- "it is always the cut position", on date-times and on dates; claim 2 on date-times; one farther; and two more
pub record NoNarrower : Type 0 where
  pub always_cut : Claimed over_date_times AtCut → ⊥
  pub always_cut_on_dates : Claimed over_dates AtCut → ⊥
  pub nearer_on_date_times : Claimed over_date_times CutOrNearer → ⊥
  pub one_farther_law : Claimed over_dates CutOrFarther → ⊥
  pub no_farther : Claimed over_date_times NoFarther → ⊥
  pub uncut : Claimed over_date_times WithinOneUncut → ⊥
