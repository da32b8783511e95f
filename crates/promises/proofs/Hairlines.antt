-- How a pixel is drawn, of what mapping and the mapping of segments answer. Assumes nothing.
use mathlib.Core.Path.{◌≡◌, refl, sym, ap, subst}
use mathlib.Core.Logic.{◌⊎◌, inl, inr}
use mathlib.Core.Bool.{Bool, true, false, true≢false, false≢true}
use native.Mathlib.Omega.{arith}
use lib.Ieee as ieee
use lib.IntN.{pos}
use Rattle.std.specs.Prelude.{Result, Ok, Err}
use Rattle.laws.specs.Numbers.{pos_part}
use Rattle.asking.specs.declared.Refusal.{Refusal}
use Rattle.floats.specs.Rounding as rounding
use Rattle.floats.specs.Losses.{is_whole, lost_in}
use Rattle.values.specs.declared.Kind.TheVariants as kind
use Rattle.values.specs.declared.Value.{Value}
use Rattle.values.specs.Differences.{nanoseconds, difference, nanoseconds_of}
use Rattle.values.specs.Values.{is_value, earlier, midnight}
use Rattle.axis.specs.declared.Axis.{Axis}
use Rattle.axis.specs.declared.Limits.{Limits}
use Rattle.axis.specs.Axes.{span_of, offset_of, closed}
use Rattle.axis.specs.Questions as asks
use Rattle.mapping.specs.declared.Hairline.{Hairline}
use Rattle.mapping.specs.Hairlines.{exact_at, lost_at}
use Rattle.mapping.specs.Mapping as mapping
use Rattle.mapping.specs.Mapping.{scale_questions, mapped}
use Rattle.mapping.specs.Position.{cut_position}
use Rattle.mapping.specs.Drawn.{HowDrawn}
use Rattle.mapping.proofs.Drawn.{how_drawn, start_drawn, end_exact}
use Rattle.counting.specs.Counting as count
use Rattle.ticks.proofs.Answers.{by_row}
use Rattle.discrete.specs.Indices as index
use Rattle.discrete.specs.Answers as discrete
use Rattle.segmented.specs.declared.Segment.{Segment}
use Rattle.segmented.specs.Segments as segments
use Rattle.segmented.specs.Answers.{segment_map_answer}
use Rattle.segmented.proofs.Drawn.{segments_kept}
use Rattle.ordered.specs.declared.OrderedPixel.{OrderedPixel}
use Rattle.ordered.specs.Replies.{flag, pixel_reply}
use Rattle.promises.specs.Examples.{AllHold, axis_from, at_nano, limits_of, centre_at}
use Rattle.promises.specs.Hairlines.{Flags, DrawnAs, DrawnOf, EndsDrawn, Drawn, NotExpected, one_day, hairline_table}
use Rattle.promises.proofs.Rows.{no_refusal}
use Rattle.promises.proofs.Demand.{is_at}

-- ---- 1 for yes, 0 for no
one : (b : Bool) → flag b ≡ pos 1 → b ≡ true
one true e = refl
one false e = absurd (let z : ⊥ = omega (arith, ap pos_part e) in z)

either : (b : Bool) → (flag b ≡ pos 0) ⊎ (flag b ≡ pos 1)
either true = inr refl
either false = inl refl

pub flags_of : (p : Result Hairline Refusal) → Flags (pixel_reply p)
flags_of (Ok h) = record { exact = either h.exact; lost = either h.lost; refused = λ no. absurd (no refl) }
flags_of (Err q) = record { exact = inl refl; lost = inl refl; refused = λ no. (refl, refl) }

-- ---- of a hairline, by its numbers
as_numbers : (a : Axis) (l : Limits) (v : Value) (h : Hairline) → HowDrawn a l v h → DrawnAs a l v (pixel_reply (Ok h))
as_numbers a l v h d = record {
  exact_near = λ f e. d.exact_near f (one h.exact e);
  near_exact = λ f at. ap flag (d.near_exact f at);
  exact_days = λ f e. d.exact_days f (one h.exact e);
  days_exact = λ f g some at. ap flag (d.days_exact f g some at);
  zero_days = λ f none. ap flag (d.zero_days f none);
  no_division = λ f g. ap flag (d.no_division f g);
  exact_dates = λ f e. d.exact_dates f (one h.exact e);
  dates_exact = λ f at. ap flag (d.dates_exact f at);
  one_value = λ f. ap flag (d.one_value f);
  kept_days = λ f. ap flag (d.kept_days f);
  kept_dates = λ f. ap flag (d.kept_dates f);
}

pub drawn_of : (a : Axis) (l : Limits) (v : Value) → DrawnOf a l v (pixel_reply (mapped a l v))
drawn_of a l v = record {
  flags = flags_of (mapped a l v);
  answered = λ s.
      let m = is_at a l v s in
      subst (λ (r : Result Hairline Refusal). DrawnAs a l v (pixel_reply r)) (sym m) (as_numbers a l v _ (how_drawn a l v _ m));
}

-- the start, where it is answered
start_one : (a : Axis) (l : Limits) → (pixel_reply (mapped a l a.start)).status ≡ pos 0 →
    (pixel_reply (mapped a l a.start)).exact ≡ pos 1
start_one a l =
    let P : (Result Hairline Refusal → Type 0) = λ r. (pixel_reply r).status ≡ pos 0 → (pixel_reply r).exact ≡ pos 1 in
    subst P (sym (start_drawn a l))
    (by_row (scale_questions a l) (Ok (record { pixel = l.low; exact = true; lost = lost_at a a.start }))
    (λ (b : Bool) (r : Result Hairline Refusal). P r) (λ s. refl) (λ q s. absurd (no_refusal q s)))

pub ends_of : (a : Axis) (l : Limits) → EndsDrawn a l (pixel_reply (mapped a l a.start)) (pixel_reply (mapped a l a.end))
ends_of a l = record {
  start_exact = start_one a l;
  exact_high = λ later s.
      let m = is_at a l a.end s in
      subst (λ (r : Result Hairline Refusal). (pixel_reply r).exact ≡ pos 1 → (pixel_reply r).pixel ≡ l.high) (sym m)
      (λ e. (end_exact a l _ later m).0 (one _ e));
  high_exact = λ later s.
      let m = is_at a l a.end s in
      subst (λ (r : Result Hairline Refusal). (pixel_reply r).pixel ≡ l.high → (pixel_reply r).exact ≡ pos 1) (sym m)
      (λ e. ap flag ((end_exact a l _ later m).1 e));
}

kept_reply : (p : Result Hairline Refusal) → ((h : Hairline) → p ≡ Ok h → h.lost ≡ false) → (pixel_reply p).lost ≡ pos 0
kept_reply (Ok h) f = ap flag (f h refl)
kept_reply (Err q) f = refl

-- THE THEOREM, of all axes, limits, values and segments
pub drawn : (a : Axis) (l : Limits) (v : Value) (s : Segment) → Drawn a l v s
drawn a l v s = record {
  of_value = drawn_of a l v;
  of_ends = ends_of a l;
  of_segment = flags_of (segment_map_answer a l s);
  kept_segment = λ dates. kept_reply (segment_map_answer a l s) (λ h e. segments_kept a l s h dates e);
}

-- ---- of what a call handed back, which is as defined
pub drawn_as : (a : Axis) (l : Limits) (v : Value) {r s : OrderedPixel} → r ≡ s → DrawnOf a l v s → DrawnOf a l v r
drawn_as a l v e f = rw e f

pub drawn_ends_as : (a : Axis) (l : Limits) {x y u v : OrderedPixel} → x ≡ u → y ≡ v → EndsDrawn a l u v → EndsDrawn a l x y
drawn_ends_as a l p q f = rw (p, q) f

-- ---- what one may not expect
pub not_expected : NotExpected
unfolding closed ieee.span ieee.climb ieee.size ieee.odd ieee.units ieee.round ieee.mul ieee.div ieee.of_int ieee.to_signed
    rounding.round_f rounding.quotient_of is_whole lost_in nanoseconds difference nanoseconds_of is_value earlier span_of
    offset_of asks.has_period asks.has_index asks.ends asks.in_order asks.excludable asks.near_or_long asks.pixels
    asks.value_on asks.mappable asks.checked mapping.map_coord mapping.placed mapping.hairline
    mapping.mapped exact_at lost_at cut_position count.monthly count.yearly count.weekly count.origin count.position
    count.size_of index.is_indexed index.index_of index.value_at discrete.next_in segments.segment_on segments.segment_of
    segments.segment_mappable segments.margin_of segments.inner segments.segment_worked segment_map_answer
not_expected = record {
  whole_exact = λ f. false≢true (f (axis_from kind.Date (midnight (pos 1)) (midnight (pos 1808))) (limits_of (pos 0) (pos 3781))
      (midnight (pos 1808)) _ refl refl refl);
  lost_not_exact = λ f. true≢false (f (axis_from kind.Stamp (midnight (pos 1)) (midnight (pos 2))) (limits_of (pos 0) (pos 0))
      (at_nano (midnight (pos 105)) 21599254740993) _ refl refl);
  centre_exact = λ f. false≢true (f one_day (limits_of (pos 0) (pos 7)) (centre_at (midnight (pos 10))) _ refl refl);
}

-- ---- the table
pub hairlines_settled : AllHold hairline_table
unfolding closed ieee.span ieee.climb ieee.size ieee.odd ieee.units ieee.round ieee.add ieee.mul ieee.div ieee.of_int
    ieee.to_signed rounding.round_f rounding.quotient_of is_whole lost_in nanoseconds difference nanoseconds_of is_value
    earlier span_of offset_of asks.has_period asks.has_index asks.ends asks.in_order asks.excludable asks.near_zero
    asks.near_or_long asks.pixels asks.value_on asks.mappable asks.checked mapping.nudge mapping.map_coord
    mapping.map_duration mapping.placed mapping.hairline mapping.mapped exact_at lost_at count.monthly count.yearly
    count.weekly count.origin count.position count.size_of index.is_indexed index.index_of index.value_at discrete.next_in
    segments.segment_on segments.segment_of segments.segment_mappable segments.margin_of segments.inner
    segments.segment_worked segment_map_answer
hairlines_settled = (refl, (refl, (refl, (refl, (refl, (refl, (refl, (refl, (refl, (refl, tt))))))))))
