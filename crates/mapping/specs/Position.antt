-- Where a value lies between two limits exactly, in whole numbers: W × offset ÷ span; and how far from there its pixel may be.
-- Definitions only.
use Rattle.std.specs.Prelude.{◌≡◌, ◌⊎◌, true, false, zero, suc, ◌≤◌, ℤ, pos, negsuc, nat_abs, ◌-ℤ◌, ◌*ℤ◌}
use Rattle.std.specs.Int.Signed.{quot_z}
use Rattle.laws.specs.Numbers.{minus}
use Rattle.values.specs.declared.Value.{Value}
use Rattle.values.specs.Values.{over_dates, is_duration, earlier}
use Rattle.values.specs.Differences.{fits_i64, whole_days}
use Rattle.axis.specs.declared.Axis.{Axis}
use Rattle.axis.specs.declared.Limits.{Limits}
use Rattle.axis.specs.Axes.{span_of, offset_of}

-- "a value in a span whose start is before its end": from the start to the written end, both included
pub record Inside (a : Axis) (v : Value) : Type 0 where
  pub some_span : earlier a.start a.end ≡ true
  pub from_start : earlier v a.start ≡ false
  pub to_end : earlier a.end v ≡ false

-- W: how far the high limit is above the low one
abbrev pub width : Limits → ℤ
width l = l.high -ℤ l.low

-- "the exact position, W × offset ÷ span, cut toward zero": offset and span in nanoseconds, the position from the low limit
unfoldable pub cut_position : Axis → Limits → Value → ℤ
cut_position a l v = quot_z (width l *ℤ offset_of a v) (span_of a)

-- "the position is a whole pixel": nothing is cut
abbrev pub WholePosition : Axis → Limits → Value → Type 0
WholePosition a l v = cut_position a l v *ℤ span_of a ≡ width l *ℤ offset_of a v

-- the same in whole days
unfoldable pub days_position : Axis → Limits → Value → ℤ
days_position a l v = quot_z (width l *ℤ whole_days (offset_of a v)) (whole_days (span_of a))

-- "one nearer the low limit", which is at 0; from there it goes no nearer
abbrev pub one_nearer : ℤ → ℤ
one_nearer (pos zero) = pos zero
one_nearer (pos (suc n)) = pos n
one_nearer (negsuc n) = minus n

-- ---- of a pixel p
-- "the pixel less low is within one of the exact position, cut toward zero", to either side
abbrev pub WithinOne : Axis → Limits → Value → ℤ → Type 0
WithinOne a l v p = nat_abs ((p -ℤ l.low) -ℤ cut_position a l v) ≤ 1

-- "it is the cut position, or the position is a whole pixel and the answer lies one nearer the low limit"
abbrev pub CutOrNearer : Axis → Limits → Value → ℤ → Type 0
CutOrNearer a l v p =
    (p -ℤ l.low ≡ cut_position a l v)
    ⊎ (WholePosition a l v × (p -ℤ l.low ≡ one_nearer (cut_position a l v)))

-- how far the pixel p of a value may be off: on every kind, whether mapped in nanoseconds or in whole days; on all kinds but 7 in
-- whole days, which it is where the span is none of 64 bits; and on kinds 1, 2, 3 and 8
pub record HowFarOff (a : Axis) (l : Limits) (v : Value) (p : ℤ) : Type 0 where
  pub one_off : Inside a v → WithinOne a l v p
  pub if_whole : Inside a v → WholePosition a l v → CutOrNearer a l v p
  pub in_days : is_duration a.kind ≡ false → Inside a v → fits_i64 (span_of a) ≡ false → p -ℤ l.low ≡ days_position a l v
  pub on_dates : over_dates a.kind ≡ true → Inside a v → CutOrNearer a l v p
