-- How a pixel is drawn, beside the exact position of its value: what a hairline's yes says, and when nothing is lost.
-- Definitions only.
use Rattle.std.specs.Prelude.{◌≡◌, true, false, ℤ, pos, ◌-ℤ◌, ◌*ℤ◌}
use Rattle.values.specs.declared.Value.{Value}
use Rattle.values.specs.Values.{over_dates}
use Rattle.values.specs.Differences.{whole_days}
use Rattle.axis.specs.declared.Axis.{Axis}
use Rattle.axis.specs.declared.Limits.{Limits}
use Rattle.axis.specs.Axes.{span_of, offset_of}
use Rattle.axis.specs.Questions.{equals}
use Rattle.mapping.specs.declared.Hairline.{Hairline}
use Rattle.mapping.specs.Hairlines.{in_nanoseconds, divides_nothing}
use Rattle.mapping.specs.Position.{width, cut_position, WholePosition, days_position}

-- "item 5's exact position plus low is a whole number and is the pixel given": nothing is cut, and the pixel less low is there
abbrev pub OnPosition : Axis → Limits → Value → ℤ → Type 0
OnPosition a l v p = WholePosition a l v × (p -ℤ l.low ≡ cut_position a l v)

-- the same in whole days
abbrev pub OnDays : Axis → Limits → Value → ℤ → Type 0
OnDays a l v p =
    (days_position a l v *ℤ whole_days (span_of a) ≡ width l *ℤ whole_days (offset_of a v)) × (p -ℤ l.low ≡ days_position a l v)

-- how the value v is drawn as h
pub record HowDrawn (a : Axis) (l : Limits) (v : Value) (h : Hairline) : Type 0 where
  -- in nanoseconds a yes says just that
  pub exact_near : in_nanoseconds a v ≡ true → h.exact ≡ true → OnPosition a l v h.pixel
  pub near_exact : in_nanoseconds a v ≡ true → OnPosition a l v h.pixel → h.exact ≡ true
  -- in whole days just the same in days, where there are some; else no, and no where nothing is divided
  pub exact_days : in_nanoseconds a v ≡ false → h.exact ≡ true → OnDays a l v h.pixel
  pub days_exact :
      in_nanoseconds a v ≡ false → divides_nothing a ≡ false → (whole_days (span_of a) ≡ pos 0 → ⊥) → OnDays a l v h.pixel
      → h.exact ≡ true
  pub zero_days : in_nanoseconds a v ≡ false → whole_days (span_of a) ≡ pos 0 → h.exact ≡ false
  pub no_division : in_nanoseconds a v ≡ false → divides_nothing a ≡ true → h.exact ≡ false
  -- on kinds 1, 2, 3 and 8 the first in either unit
  pub exact_dates : over_dates a.kind ≡ true → h.exact ≡ true → OnPosition a l v h.pixel
  pub dates_exact : over_dates a.kind ≡ true → OnPosition a l v h.pixel → h.exact ≡ true
  -- where start equals end, yes
  pub one_value : equals a.end a.start ≡ true → h.exact ≡ true
  -- nothing is lost in whole days, where nothing is divided, and on kinds 1, 2, 3 and 8
  pub kept_days : in_nanoseconds a v ≡ false → h.lost ≡ false
  pub kept_dates : over_dates a.kind ≡ true → h.lost ≡ false
