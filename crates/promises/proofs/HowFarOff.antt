-- How far a pixel may be off, of what mapping answers, and that no narrower claim holds, each by its smallest input.
-- Assumes nothing.
use mathlib.Core.Path.{◌≡◌, refl, sym, ap, subst}
use mathlib.Core.Logic.{inl, inr}
use mathlib.Core.Bool.{true, false}
use Prim.Native.Nat.{ℕ}
use native.Mathlib.Omega.{arith}
use lib.Ieee as ieee
use lib.IntN.{pos}
use Rattle.std.specs.Prelude.{Result}
use Rattle.laws.specs.Numbers.{pos_part}
use Rattle.asking.specs.declared.Refusal.{Refusal}
use Rattle.floats.specs.Rounding as rounding
use Rattle.values.specs.declared.Kind.TheVariants as kind
use Rattle.values.specs.declared.Value.{Value}
use Rattle.values.specs.Differences.{nanoseconds, difference, nanoseconds_of}
use Rattle.values.specs.Values.{is_value, earlier, midnight}
use Rattle.axis.specs.declared.Axis.{Axis}
use Rattle.axis.specs.declared.Limits.{Limits}
use Rattle.axis.specs.Axes.{span_of, offset_of}
use Rattle.axis.specs.Questions as asks
use Rattle.mapping.specs.Mapping as mapping
use Rattle.mapping.specs.declared.Hairline.{Hairline}
use Rattle.mapping.specs.Position.{Inside, cut_position, HowFarOff}
use Rattle.mapping.proofs.Positions.{how_far_off}
use Rattle.mapping.proofs.Ends.{start_at_low, end_at_high}
use Rattle.ordered.specs.declared.OrderedPixel.{OrderedPixel}
use Rattle.ordered.specs.Replies.{pixel_reply}
use Rattle.promises.specs.Examples.{axis_from, at_nano, limits_of}
use Rattle.promises.specs.HowFarOff.{OffOf, AtEnds, Off, NoNarrower}
use Rattle.promises.proofs.Demand.{is_at}

pub off_of : (a : Axis) (l : Limits) (v : Value) → OffOf a l v (pixel_reply (mapping.mapped a l v))
off_of a l v s =
    let m = is_at a l v s in
    subst (λ (r : Result Hairline Refusal). HowFarOff a l v (pixel_reply r).pixel) (sym m) (how_far_off a l v _ m)

pub at_ends : (a : Axis) (l : Limits) →
    AtEnds a l (pixel_reply (mapping.mapped a l a.start)) (pixel_reply (mapping.mapped a l a.end))
at_ends a l = record {
  at_start = ap pixel_reply (start_at_low a l);
  at_end = λ some. elim (end_at_high a l some) [ inl e ↦ inl (ap pixel_reply e) | inr e ↦ inr (ap pixel_reply e) ];
}

-- THE THEOREM, of all axes, limits and values
pub off : (a : Axis) (l : Limits) (v : Value) → Off a l v
off a l v = record { of_value = off_of a l v; of_ends = at_ends a l }

-- ---- of what a call handed back, which is as defined
pub off_as : (a : Axis) (l : Limits) (v : Value) {r s : OrderedPixel} → r ≡ s → OffOf a l v s → OffOf a l v r
off_as a l v e f = rw e f

pub ends_as : (a : Axis) (l : Limits) {x y u v : OrderedPixel} → x ≡ u → y ≡ v → AtEnds a l u v → AtEnds a l x y
ends_as a l p q f = rw (p, q) f

-- ---- narrower claims
-- date-times from a nanosecond of day 1 to a later midnight
abbrev times : ℕ → ℕ → Axis
times nano day = axis_from kind.Stamp (at_nano (midnight (pos 1)) nano) (midnight (pos day))

-- dates from day 1
abbrev dates : ℕ → Axis
dates day = axis_from kind.Date (midnight (pos 1)) (midnight (pos day))

abbrev up_to : ℕ → Limits
up_to high = limits_of (pos 0) (pos high)

inside : {a : Axis} {v : Value} → earlier a.start a.end ≡ true → earlier v a.start ≡ false → earlier a.end v ≡ false →
    Inside a v
inside x y z = record { some_span = x; from_start = y; to_end = z }

-- 7 days less 1 ns between 0 and 15: the end, whose position is 15, is at 14. 1,807 days between 0 and 3,781: the end is at
-- 3,780. 38 days less 7 ns between 0 and 19: a value whose position is just above 11 is at 10. 13 days less 1 ns between 0 and
-- 13: one whose position is just below 12 is at 12
pub no_narrower : NoNarrower
unfolding ieee.span ieee.climb ieee.size ieee.odd ieee.units ieee.round ieee.mul ieee.div ieee.of_int ieee.to_signed
    rounding.quotient_of nanoseconds difference nanoseconds_of is_value earlier span_of offset_of asks.ends asks.in_order
    asks.excludable asks.near_or_long asks.pixels asks.value_on asks.mappable mapping.map_coord
    mapping.placed mapping.hairline mapping.mapped cut_position
no_narrower = record {
  always_cut = λ f.
      let e : pos 14 ≡ pos 15 = f (times 1 8) (up_to 15) (midnight (pos 8)) _ refl (inside refl refl refl) refl in
      let z = ap pos_part e in omega arith;
  always_cut_on_dates = λ f.
      let e : pos 3780 ≡ pos 3781 =
      f (dates 1808) (up_to 3781) (midnight (pos 1808)) _ refl (inside refl refl refl) refl in
      let z = ap pos_part e in omega arith;
  nearer_on_date_times = λ f.
      elim (f (times 7 39) (up_to 19) (at_nano (midnight (pos 23)) 3) _ refl (inside refl refl refl) refl) [
        | inl e ↦ (let z = ap pos_part e in omega arith)
        | inr (whole, e) ↦ (let z = ap pos_part whole in omega arith)
      ];
  one_farther_law = λ f.
      elim (f (dates 1808) (up_to 3781) (midnight (pos 1808)) _ refl (inside refl refl refl) refl) [
        | inl e ↦ (let z = ap pos_part e in omega arith)
        | inr (whole, e) ↦ (let z = ap pos_part e in omega arith)
      ];
  no_farther = λ f.
      let h = f (times 1 14) (up_to 13) (midnight (pos 13)) _ refl (inside refl refl refl) refl in omega arith;
  uncut = λ f.
      let h = f (times 7 39) (up_to 19) (at_nano (midnight (pos 23)) 3) _ refl (inside refl refl refl) refl in omega arith;
}
