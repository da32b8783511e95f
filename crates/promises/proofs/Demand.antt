-- Demand 3, proved of the definitions that the exports cite. Assumes nothing.
use mathlib.Core.Path.{◌≡◌, refl, sym, ap, ◌∙◌}
use mathlib.Core.Bool.{Bool, cond}
use mathlib.Core.List.{List}
use Prim.Native.Nat.{ℕ, ◌*◌, ◌≤◌}
use native.Mathlib.Omega.{arith}
use lib.IntN.{ℤ, pos}
use lib.ListN.{length, take}
use lib.Seq.{length-take-le}
use Rattle.std.specs.Prelude.{Result, Ok, Err}
use Rattle.asking.specs.declared.Refusal.{Refusal}
use Rattle.values.specs.declared.Value.{Value}
use Rattle.values.specs.Values.{midnight}
use Rattle.axis.specs.declared.Axis.{Axis}
use Rattle.axis.specs.declared.Hint.{Hint}
use Rattle.axis.specs.declared.Limits.{Limits}
use Rattle.axis.specs.Axes.{last}
use Rattle.mapping.specs.declared.Hairline.{Hairline}
use Rattle.mapping.specs.Mapping.{hairline, map_questions, mapped}
use Rattle.mapping.proofs.Days.{days_differ}
use Rattle.steps.specs.Listing.{count_of}
use Rattle.steps.specs.Promise.{Fine}
use Rattle.steps.proofs.Demand.{none_fine}
use Rattle.keypoints.specs.Hints.{limit}
use Rattle.ticks.specs.Answers.{ticks_answer, ticks_written}
use Rattle.ticks.proofs.Answers.{by_row, in_lent, written_length}
use Rattle.ticks.proofs.Promise.{list_fine, handed_fine}
use Rattle.segmented.specs.Answers.{segment_kind_questions, segment_ticks_answer, segment_ticks_written}
use Rattle.ordered.specs.declared.OrderedPixel.{OrderedPixel}
use Rattle.ordered.specs.Replies.{number_reply, pixel_reply}
use Rattle.promises.specs.Demand.{FineList, DaysApart, Demand3}
use Rattle.promises.proofs.Rows.{no_refusal}

-- ---- from an answer to its numbers
-- a refused call counts none
reply_fine : (a : Axis) (h : Hint) (r : Result ℕ Refusal) (l : List ℤ) → 2 * count_of r ≤ length l →
    ((c : ℕ) → r ≡ Ok c → Fine (limit h) a.start (last a) (take (2 * c) l)) → FineList a h (number_reply r) l
reply_fine a h (Err q) l room f s = record {
  count = 0;
  counted = refl;
  few = omega arith;
  held = omega arith;
  fine = none_fine (limit h) a.start (last a);
}
reply_fine a h (Ok c) l room f s =
    let g = f c refl in
    record {
      count = c;
      counted = refl;
      few = omega (arith, g.few, length-take-le (2 * c) l room);
      held = room;
      fine = g;
    }

module _ (a : Axis) (h : Hint) (d : List ℤ) where
  room : 2 * count_of (ticks_answer a h (length d)) ≤ length (ticks_written a h d)
  room = omega (arith, in_lent a h d, written_length a h d)

  pub ticks_fine : FineList a h (number_reply (ticks_answer a h (length d))) (ticks_written a h d)
  ticks_fine = reply_fine a h (ticks_answer a h (length d)) (ticks_written a h d) room (list_fine a h d)

  pub segments_fine : FineList a h (number_reply (segment_ticks_answer a h (length d))) (segment_ticks_written a h d)
  unfolding segment_ticks_answer segment_ticks_written
  segments_fine =
      by_row (segment_kind_questions a) (ticks_answer a h (length d))
      (λ (b : Bool) (r : Result ℕ Refusal). FineList a h (number_reply r) (cond b (ticks_written a h d) d)) ticks_fine
      (λ q. reply_fine a h (Err q) d (omega arith) (λ c e. absurd (let z : ⊥ = cc in z)))

-- a pixel whose status is 0 is a mapping's answer
pub is_at : (a : Axis) (l : Limits) (v : Value) → (pixel_reply (mapped a l v)).status ≡ pos 0 →
    mapped a l v ≡ Ok (hairline a l v)
unfolding mapped
is_at a l v =
    by_row (map_questions a l v) (Ok (hairline a l v))
    (λ (b : Bool) (r : Result Hairline Refusal). (pixel_reply r).status ≡ pos 0 → r ≡ Ok (hairline a l v)) (λ s. refl)
    (λ q s. absurd (no_refusal q s))

pub days_apart : (a : Axis) (l : Limits) (i j : ℤ) →
    DaysApart a l i j (pixel_reply (mapped a l (midnight i))) (pixel_reply (mapped a l (midnight j)))
days_apart a l i j w I J n s t e =
    let x = is_at a l (midnight i) s in
    let y = is_at a l (midnight j) t in
    let pixelOf : (Result Hairline Refusal → ℤ) = λ r. (pixel_reply r).pixel in
    days_differ a l i j _ _ w I J n x y (sym (ap pixelOf x) ∙ e ∙ ap pixelOf y)

-- THE THEOREM, of all kinds, spans, hints, lent slices, limits and pairs of days
pub demand_3 : (a : Axis) (h : Hint) (d : List ℤ) (l : Limits) (i j : ℤ) → Demand3 a h d l i j
demand_3 a h d l i j = record {
  listed = ticks_fine a h d;
  segments = segments_fine a h d;
  handed = handed_fine a h (length d);
  apart = days_apart a l i j;
}

-- ---- of what a call handed back, which is as defined
pub pixels_as : (a : Axis) (l : Limits) (i j : ℤ) {x y u v : OrderedPixel} → x ≡ u → y ≡ v → DaysApart a l i j u v →
    DaysApart a l i j x y
pixels_as a l i j p q f = rw (p, q) f
