-- Demand 3's one law for tick lists: a progression whose step is above 0, whose count is what fits and at most N + 1, and
-- whose ends lie in the span, and the same of the numbers that are read after the call. Assumes nothing.
use mathlib.Core.Path.{◌≡◌, refl, sym, ap, subst}
use mathlib.Core.Bool.{Bool, true, false, cond}
use mathlib.Core.Logic.{inl, inr}
use mathlib.Core.List.{List, []}
use Prim.Native.Nat.{ℕ, zero, suc, ◌+◌, ◌-◌, ◌*◌, ◌/◌, ◌^◌, ◌≤◌, ◌<◌}
use native.Mathlib.Nat.{eq-or-lt_of_le, zero-mul, div-lt_iff_lt-mul}
use native.Mathlib.Numerals.{sub-one}
use native.Mathlib.Omega.{arith}
use lib.IntN.{ℤ}
use lib.Signed.{mag}
use lib.ListN.{length, take}
use Rattle.steps.specs.declared.Heads.{Heads}
use Rattle.steps.specs.declared.Steps.{Steps}
use Rattle.values.specs.declared.Value.{Value}
use Rattle.std.specs.Prelude.{Ok}
use Rattle.steps.specs.Progression.{fitting, number_at, tick_of_number, tick_of, ticks, InRange}
use Rattle.steps.specs.Listing.{numbers, has_room, listed_of, lent_after, front, count_of}
use Rattle.steps.specs.Promise.{Later, whole_second, Fine}
use Rattle.steps.proofs.Fitting.{inside}
use Rattle.steps.proofs.Places.{next_place}
use Rattle.steps.proofs.Pairs.{pairs, pairs_are, length_pairs, nth_pairs}
use Rattle.steps.proofs.Fronts.{front_is}
use Rattle.steps.proofs.Order.{per_of, trans, later}

-- a step k above 0 and a count: all the steps that the room has, and at most n + 1
pub record Kept (k count n room : ℕ) : Type 0 where
  pub stride : 0 < k
  pub all : count ≡ fitting room k
  pub few : count ≤ n + 1

-- ---- a list of pairs, from what is known of the tick at each place
pairs_fine : (f : ℕ → Value) (count n : ℕ) (start end : Value) → count ≤ n + 1
    → ((i : ℕ) → i + 1 < count → Later (f i) (f (i + 1)))
    → ((i : ℕ) → i < count → Later end (f i) → ⊥)
    → ((i : ℕ) → i < count → Later (f i) (whole_second start) → ⊥)
    → Fine n start end (pairs f count)
pairs_fine f count n start end few growing to from =
    let l = length_pairs f count in
    record {
      paired = omega arith;
      few = omega arith;
      growing = λ i h.
          let a : i + 1 < count = omega arith in
          let b : i < count = omega arith in
          rw (nth_pairs f count i b, nth_pairs f count (i + 1) a) (growing i a);
      to = λ i h. let b : i < count = omega arith in rw (nth_pairs f count i b) (to i b);
      from = λ i h. let b : i < count = omega arith in rw (nth_pairs f count i b) (from i b);
    }

-- ---- any progression: its first tick is not before the whole second of the start, and its numbers have room up to one,
-- last, whose tick is not after the end
module _ (s : Steps) (n room last : ℕ) (start end : Value) (p : 0 < per_of s.numbering) (k : Kept s.step s.count n room)
    (fits : 0 < room → s.first + room ≤ last + 1)
    (from : Later (tick_of_number s s.first) (whole_second start) → ⊥)
    (to : Later end (tick_of_number s last) → ⊥) where
  step_up : (i : ℕ) → number_at s i < number_at s (i + 1)
  step_up i = omega (arith, next_place s i, k.stride)

  in_room : (i : ℕ) → i < s.count → number_at s i ≤ last
  in_room i h = let a = inside room s.step i k.stride (rw k.all at h) in omega (arith, fits (omega arith))

  not_before : (x : ℕ) → s.first ≤ x → Later (tick_of_number s x) (whole_second start) → ⊥
  not_before x h l =
      elim (eq-or-lt_of_le h) [
        | inl e ↦ from (subst (λ (z : ℕ). Later (tick_of_number s z) (whole_second start)) (sym e) l)
        | inr q ↦ from (trans (later s s.first x p q) l)
      ]

  not_after : (x : ℕ) → x ≤ last → Later end (tick_of_number s x) → ⊥
  not_after x h l =
      elim (eq-or-lt_of_le h) [
        | inl e ↦ to (subst (λ (z : ℕ). Later end (tick_of_number s z)) e l)
        | inr q ↦ to (trans l (later s x last p q))
      ]

  pub steps_fine : Fine n start end (numbers (ticks s))
  steps_fine =
      rw (pairs_are (tick_of s) s.count)
      (pairs_fine (tick_of s) s.count n start end k.few
      (λ i h. later s (number_at s i) (number_at s (i + 1)) p (step_up i))
      (λ i h. not_after (number_at s i) (in_room i h))
      (λ i h. let a : s.first ≤ number_at s i = omega arith in not_before (number_at s i) a))

-- ---- what a caller reads after the call
pub none_fine : (n : ℕ) (start end : Value) → Fine n start end []
none_fine n start end = record {
  paired = refl;
  few = omega arith;
  growing = λ i h. absurd (let z : ⊥ = omega arith in z);
  to = λ i h. absurd (let z : ⊥ = omega arith in z);
  from = λ i h. absurd (let z : ⊥ = omega arith in z);
}

-- the part that is handed back; a refused call's is empty
pub front_fine : (l : List Value) (k n : ℕ) (start end : Value) → Fine n start end (numbers l) → Fine n start end (front l k)
front_fine l k n start end f = go (has_room l k)
  where
    go : (b : Bool) → Fine n start end (cond b (numbers l) [])
    go true = f
    go false = none_fine n start end

-- the part that the answer counts, of all lent numbers
counted_fine : (l : List Value) (d : List ℤ) (n : ℕ) (start end : Value) → Fine n start end (numbers l)
    → Fine n start end (take (2 * count_of (listed_of l (length d))) (lent_after l d))
counted_fine l d n start end f = rw (front_is l d) (front_fine l (length d) n start end f)

-- the same where the answer is a count
pub read_fine : (l : List Value) (d : List ℤ) (n c : ℕ) (start end : Value) → Fine n start end (numbers l)
    → listed_of l (length d) ≡ Ok c → Fine n start end (take (2 * c) (lent_after l d))
read_fine l d n c start end f e = subst (λ (x : ℕ). Fine n start end (take (2 * x) (lent_after l d))) (ap count_of e)
    (counted_fine l d n start end f)

-- ---- the same facts keep a progression in range
last_in : (k c n room : ℕ) → Kept k c n room → (c - 1) * k ≤ room
last_in k zero n room h = omega (arith, zero-mul k)
last_in k (suc c) n room h =
    let a : c < fitting room k = omega (arith, h.all) in
    rw sub-one (omega (arith, inside room k c h.stride a))

pub kept_months : (s : Steps) (n room : ℕ) → Kept s.step s.count n room → s.first + room < 120000 →
    number_at s (s.count - 1) < 120000
kept_months s n room k top = omega (arith, last_in s.step s.count n room k)

pub kept_even : (h : Heads) (s : Steps) (n room : ℕ) → Kept s.step s.count n room → 0 < h.per → h.per < 2 ^ 60 →
    mag h.base < 2 ^ 60 → s.step / h.per < 2 ^ 60 → (s.first + room) / h.per < 2 ^ 60 → InRange h s
kept_even h s n room k p small base stride top =
    let l = last_in s.step s.count n room k in
    let a : s.first + room < 2 ^ 60 * h.per = (div-lt_iff_lt-mul p).0 top in
    let b : number_at s (s.count - 1) < 2 ^ 60 * h.per = omega arith in
    record { divides = p; small = small; base = base; stride = stride; last = (div-lt_iff_lt-mul p).1 b }
