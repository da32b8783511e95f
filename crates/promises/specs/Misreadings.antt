-- Document 01's three misreadings of the Rust, as one would claim them. Each is false: proofs/Misreadings.antt has, for each,
-- the smallest input that shows it, by the sum of its numbers. Definitions only.
use Rattle.std.specs.Prelude.{◌≡◌, false, List, ℕ, ◌<◌, ℤ, pos, ◌+ℤ◌, ◌<ℤ◌, length, Ok}
use Rattle.values.specs.declared.Value.{Value}
use Rattle.values.specs.Values.{is_duration}
use Rattle.axis.specs.declared.Axis.{Axis}
use Rattle.axis.specs.declared.Hint.{Hint}
use Rattle.axis.specs.declared.Limits.{Limits}
use Rattle.axis.specs.Axes.{span_of}
use Rattle.mapping.specs.declared.Hairline.{Hairline}
use Rattle.mapping.specs.Mapping.{mapped}
use Rattle.mapping.specs.Position.{cut_position}
use Rattle.steps.specs.Promise.{Later, nth}
use Rattle.ticks.specs.Answers.{ticks_answer, ticks_written}
use Rattle.discrete.specs.Answers.{unmap_answer}

-- 'Unmapping inverts mapping': where both answer, the value under a value's pixel is that value
abbrev pub UnmapInverts : Type 0
UnmapInverts =
    (a : Axis) (l : Limits) (v w : Value) (h : Hairline)
    → mapped a l v ≡ Ok h → unmap_answer a l h.pixel ≡ Ok w → w ≡ v

-- 'Ticks never precede start'
abbrev pub NeverBefore : Type 0
NeverBefore =
    (a : Axis) (h : Hint) (d : List ℤ) (c i : ℕ) → ticks_answer a h (length d) ≡ Ok c → i < c
    → Later (nth (ticks_written a h d) i) a.start → ⊥

-- the low limit, and the exact position, cut toward zero
abbrev pub exact_pixel : Axis → Limits → Value → ℤ
exact_pixel a l v = l.low +ℤ cut_position a l v

-- 'Float pixels equal the exact quotient cut', over dates and date-times that have a span
abbrev pub AlwaysExact : Type 0
AlwaysExact =
    (a : Axis) (l : Limits) (v : Value) (h : Hairline) → is_duration a.kind ≡ false → pos 0 <ℤ span_of a
    → mapped a l v ≡ Ok h → h.pixel ≡ exact_pixel a l v
