-- What the operations answer, by where a value stands, and the axis of an accepted call. Assumes nothing.
use mathlib.Core.Path.{◌≡◌, refl, sym, ◌∙◌, ap}
use mathlib.Core.Bool.{Bool, true, false, cond, ◌&&◌}
use Prim.Native.Nat.{ℕ, ◌+◌, ◌-◌, ◌≤◌, ◌<◌}
use native.Mathlib.Decide.{dec_le}
use native.Mathlib.Omega.{arith}
use lib.Dec.{leb}
use lib.IntN.{ℤ}
use borrow.Author.Tests.{le-leb, lt-leb, lt-ltb, le-ltb}
use Rattle.std.specs.Prelude.{Some, None, Ok}
use Rattle.laws.specs.Numbers.{pos_part}
use Rattle.laws.proofs.Tests.{and_false}
use Rattle.asking.specs.declared.Refusal.TheVariants as refusal
use Rattle.asking.specs.Asking.{ask, asked, passes}
use Rattle.asking.proofs.Asked.{told, fewer, answered_ok}
use Rattle.calendar.specs.Questions.{last_day}
use Rattle.values.specs.declared.Value.{Value}
use Rattle.axis.specs.declared.Axis.{Axis}
use Rattle.axis.specs.Axes.{closed}
use Rattle.axis.specs.Questions.{ends, has_index, value_on, is_index}
use Rattle.axis.proofs.Questions.{index_range}
use Rattle.counting.specs.Counting.{Dated, origin, position, size_of}
use Rattle.counting.proofs.Sizes.{size_is}
use Rattle.counting.proofs.Counting.{index_dated, closed_dated, value_on_law}
use Rattle.discrete.specs.Indices.{is_indexed, index_of, value_at}
use Rattle.discrete.specs.Answers.{size_questions, value_questions, index_questions}
use Rattle.discrete.specs.Answers.{index_in, neighbour, next_in, previous_in, value_in}

-- ---- the axis by which an accepted call counts
pub counted : (a : Axis) → passes (size_questions a) ≡ true → Dated (closed a)
counted a e = closed_dated a (has_index a) (index_dated a (told 2 (size_questions a) e)) e

-- and a value on it
pub value_asked : (a : Axis) (v : Value) → passes (value_questions a v) ≡ true → Dated (closed a) × (value_on (closed a) v ≡ true)
value_asked a v e =
    let (s, o) = fewer (size_questions a) (ask refusal.Value (value_on a v)) e in
    (counted a s, value_on_law a v ∙ o)

-- and an index of it, as a count
pub record Indexed (a : Axis) (i : ℤ) (k : ℕ) : Type 0 where
  pub row : passes (index_questions a i) ≡ true
  pub real : ends a ≡ true
  pub dated : Dated (closed a)
  pub index : is_index i ≡ true
  pub count : k ≡ pos_part i
  pub most : k ≤ last_day

pub index_asked : (a : Axis) (i : ℤ) (k : ℕ) → asked (index_questions a i) (Ok (pos_part i)) ≡ Ok k → Indexed a i k
index_asked a i k e =
    let (r, f) = answered_ok (index_questions a i) (Ok (pos_part i)) k e in
    let (s, o) = fewer (size_questions a) (ask refusal.Value (is_index i)) r in
    let same : pos_part i ≡ k = cc in
    record {
      row = r;
      real = told 3 (size_questions a) s;
      dated = counted a s;
      index = o;
      count = sym same;
      most = omega (arith, same, (index_range i o).1);
    }

-- ---- neighbours, by where a value stands
module _ (a : Axis) (v : Value) where
  pub index_none : position a v < origin a → None ≡ index_in a v
  unfolding index_in is_indexed
  index_none h = rw (lt-leb (origin a) (position a v) h)

  pub index_is : origin a ≤ position a v → Some (position a v - origin a) ≡ index_in a v
  unfolding index_in is_indexed index_of
  index_is h = rw (le-leb (origin a) (position a v) h)

  pub next_before : position a v < origin a → next_in a v ≡ None
  unfolding next_in is_indexed
  next_before h = rw (lt-leb (origin a) (position a v) h)

  next_last : origin a ≤ position a v → size_of a ≤ position a v - origin a + 1 → next_in a v ≡ None
  unfolding next_in is_indexed index_of
  next_last h l = rw (le-leb (origin a) (position a v) h, le-ltb (position a v - origin a + 1) (size_of a) l)

  pub next_is : origin a ≤ position a v → position a v - origin a + 1 < size_of a →
      next_in a v ≡ Some (value_at a (position a v - origin a + 1))
  unfolding next_in is_indexed index_of
  next_is h l = rw (le-leb (origin a) (position a v) h, lt-ltb (position a v - origin a + 1) (size_of a) l)

  -- the same by where the end stands
  pub next_end : origin a ≤ position a v → position a a.end ≤ position a v → next_in a v ≡ None
  next_end h l = next_last h (omega (arith, size_is a))

  pub next_inside : origin a ≤ position a v → position a v < position a a.end →
      next_in a v ≡ Some (value_at a (position a v - origin a + 1))
  next_inside h l = next_is h (omega (arith, size_is a))

  pub previous_none : position a v ≤ origin a → previous_in a v ≡ None
  unfolding previous_in is_indexed index_of
  previous_none h = rw (le-ltb 0 (position a v - origin a) (omega arith)) (none (leb (origin a) (position a v)))
    where
      none : (b : Bool) → cond (b && false) (Some (value_at a (position a v - origin a - 1))) None ≡ None
      none true = refl
      none false = refl

  pub previous_is : origin a < position a v → previous_in a v ≡ Some (value_at a (position a v - origin a - 1))
  unfolding previous_in is_indexed index_of
  previous_is h = rw (le-leb (origin a) (position a v) (omega arith), lt-ltb 0 (position a v - origin a) (omega arith))

-- ---- the value behind a place, by that of the first and of the last
module _ (at from to : ℕ) (w : Value) where
  pub neighbour_before : at < from → neighbour at from to w ≡ None
  unfolding neighbour
  neighbour_before h = rw (lt-leb from at h)

  pub neighbour_end : to ≤ at → neighbour at from to w ≡ None
  unfolding neighbour
  neighbour_end h = rw (le-ltb at to h, and_false (leb from at))

  pub neighbour_is : from ≤ at → at < to → neighbour at from to w ≡ Some w
  unfolding neighbour
  neighbour_is h l = rw (le-leb from at h, lt-ltb at to l)

  -- it is the value of the next index, where the places are those of the value and of the axis
  pub neighbour_next : (a : Axis) (v : Value) → at ≡ position a v → from ≡ origin a → to ≡ position a a.end →
      (origin a ≤ position a v → w ≡ value_at a (position a v - origin a + 1)) → neighbour at from to w ≡ next_in a v
  neighbour_next a v at_is from_is to_is next = elim (dec_le from at) [
    | no l ↦ neighbour_before (omega (arith, l)) ∙ sym (next_before a v (omega (arith, l, at_is, from_is)))
    | yes l ↦ (let begun : origin a ≤ position a v = omega (arith, l, at_is, from_is) in
        elim (dec_le to at) [
          | yes k ↦ neighbour_end k ∙ sym (next_end a v begun (omega (arith, k, at_is, to_is)))
          | no k ↦ neighbour_is l (omega (arith, k)) ∙ ap Some (next begun)
              ∙ sym (next_inside a v begun (omega (arith, k, at_is, to_is)))
        ])
  ]

module _ (a : Axis) (i : ℕ) where
  pub value_none : size_of a ≤ i → value_in a i ≡ None
  unfolding value_in
  value_none h = rw (le-ltb i (size_of a) h)

  pub value_is : i < size_of a → value_in a i ≡ Some (value_at a i)
  unfolding value_in
  value_is h = rw (lt-ltb i (size_of a) h)
