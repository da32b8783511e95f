-- What users lean on: the index of the value of an index, next and previous, each of the other, and the walk of the
-- cursor. All of them are said of what calls answer. Assumes nothing.
use mathlib.Core.Path.{◌≡◌, refl, sym, ap, subst, ◌∙◌}
use mathlib.Core.Logic.{inl}
use mathlib.Core.Bool.{Bool, true, false, cond, ◌&&◌, true≢false}
use mathlib.Core.List.{List, [], ◌∷◌}
use Prim.Native.Nat.{ℕ, zero, suc, ◌+◌, ◌-◌, ◌≤◌, ◌<◌}
use native.Mathlib.Omega.{arith}
use lib.Dec.{ltb, leb}
use lib.IntN.{ℤ, pos}
use lib.ListN.{length, get_or}
use borrow.Author.Tests.{ltb-true, leb-true}
use Rattle.std.specs.Prelude.{Option, Some, None, Result, Ok, Err}
use Rattle.std.proofs.lemmas.Option.{same_Some}
use Rattle.asking.specs.declared.Refusal.{Refusal}
use Rattle.asking.specs.declared.Refusal.TheVariants as refusal
use Rattle.asking.specs.Asking.{ask, passes}
use Rattle.laws.specs.Numbers.{pos_part}
use Rattle.laws.proofs.Signed.{same}
use Rattle.weeks.specs.Weeks.{weekday, monday}
use Rattle.weeks.proofs.Mondays.{same_week, weeks_on}
use Rattle.values.specs.declared.Kind.TheVariants as kind
use Rattle.values.specs.declared.Value.{Value}
use Rattle.calendar.specs.Questions.{is_day}
use Rattle.values.proofs.Numbers.{is_le}
use Rattle.values.proofs.Values.{date_value}
use Rattle.axis.specs.declared.Axis.{Axis}
use Rattle.axis.specs.Axes.{closed}
use Rattle.axis.specs.Questions.{is_index, value_on, checked, checked_if}
use Rattle.axis.proofs.Questions.{index_range}
use Rattle.axis.proofs.ClosedAxes.{same_kind, same_start}
use Rattle.counting.specs.Counting.{Dated, monthly, from_day, origin, position, size_of}
use Rattle.discrete.specs.Indices.{is_indexed, index_of, value_at}
use Rattle.values.specs.Values.{over_dates, midnight}
use Rattle.discrete.specs.Answers.{size_questions, value_questions, index_questions}
use Rattle.discrete.specs.Answers.{index_in, next_in, previous_in, value_in, stepped, size_answer, index_answer}
use Rattle.discrete.specs.Answers.{from_index_answer, next_answer, previous_answer, values_answer}
use Rattle.discrete.specs.Walking.{cursor_at, onward, walk, values_from, Inside}
use Rattle.counting.proofs.Counting.{size_most, origin_days, position_days, position_weeks, starts, on_day, is_day_law}
use Rattle.counting.proofs.Counting.{value_on_law, in_days, in_weeks}
use Rattle.discrete.proofs.Indices as indices
use Rattle.discrete.proofs.Indices.{value_months, value_weeks, value_days, month_first, week_first, week_later}
use Rattle.asking.proofs.Asked.{fewer, passes_append, passed, answered_ok}
use Rattle.calendar.proofs.Questions.{day_beyond}
use Rattle.axis.proofs.Checked.{no_value, in_range_law, out_of_range, in_range_if, out_of_range_if}
use Rattle.axis.proofs.Checked.{checked_if_at, answered_at, answered_if}
use Rattle.discrete.proofs.Answers.{counted, index_is, next_is, previous_is, value_is, value_none}
use Rattle.discrete.proofs.AtIndex.{at_index, of_kind, dates_inside, below_size}

-- ---- what one call's answer says
pub index_in_law : (a : Axis) (v : Value) (i : ℕ) → index_in a v ≡ Some i → (origin a ≤ position a v)
    × (position a v - origin a ≡ i)
unfolding index_in is_indexed index_of
index_in_law a v i e = go (leb (origin a) (position a v)) (leb-true (origin a) (position a v)) e
  where
    go : (b : Bool) → (b ≡ true → origin a ≤ position a v) → cond b (Some (position a v - origin a)) None
        ≡ Some i → (origin a ≤ position a v) × (position a v - origin a ≡ i)
    go true h e = (h refl, same_Some (position a v - origin a) i e)
    go false h e = absurd (let z : ⊥ = cc in z)

next_in_law : (a : Axis) (v w : Value) → next_in a v ≡ Some w → (position a v - origin a + 1 < size_of a)
    × (value_at a (position a v - origin a + 1) ≡ w)
unfolding next_in is_indexed index_of
next_in_law a v w e = go (leb (origin a) (position a v)) (ltb (position a v - origin a + 1) (size_of a))
    (ltb-true (position a v - origin a + 1) (size_of a)) e
  where
    go : (b t : Bool) → (t ≡ true → position a v - origin a + 1 < size_of a) →
        cond (b && t) (Some (value_at a (position a v - origin a + 1))) None ≡ Some w →
        (position a v - origin a + 1 < size_of a) × (value_at a (position a v - origin a + 1) ≡ w)
    go true true h e = (h refl, same_Some (value_at a (position a v - origin a + 1)) w e)
    go true false h e = absurd (let z : ⊥ = cc in z)
    go false t h e = absurd (let z : ⊥ = cc in z)

-- a next value is one of the kind
pub next_on : (a : Axis) (v w : Value) → Dated a → checked_if (next_in a v) ≡ Ok (Some w) → value_on a w ≡ true
next_on a v w c e =
    let (f, d) = checked_if_at (next_in a v) w e in
    let (l, g) = next_in_law a v w f in
    subst (λ (u : Value). value_on a u ≡ true) g (of_kind a c (position a v - origin a + 1) (rw g d))

previous_in_law : (a : Axis) (v w : Value) → previous_in a v ≡ Some w → (0 < position a v - origin a)
    × (value_at a (position a v - origin a - 1) ≡ w)
unfolding previous_in is_indexed index_of
previous_in_law a v w e = go (leb (origin a) (position a v)) (ltb 0 (position a v - origin a))
    (ltb-true 0 (position a v - origin a)) e
  where
    go : (b t : Bool) → (t ≡ true → 0 < position a v - origin a) →
        cond (b && t) (Some (value_at a (position a v - origin a - 1))) None ≡ Some w →
        (0 < position a v - origin a) × (value_at a (position a v - origin a - 1) ≡ w)
    go true true h e = (h refl, same_Some (value_at a (position a v - origin a - 1)) w e)
    go true false h e = absurd (let z : ⊥ = cc in z)
    go false t h e = absurd (let z : ⊥ = cc in z)

-- ---- the rows of an accepted axis
module _ (a : Axis) where
  on_row : (v : Value) → passes (size_questions a) ≡ true → value_on a v ≡ true → passes (value_questions a v) ≡ true
  on_row v s o = passes_append (size_questions a) (ask refusal.Value (value_on a v) ∷ []) ∙ (λ j. s j && (o j && true))

  index_at_law : (i : ℕ) → i ≤ 3652059 → is_index (pos i) ≡ true
  index_at_law i h =
      let x = is_le (pos 0) (pos i) (omega arith) in
      let y = is_le (pos i) (pos 3652059) (omega arith) in
      rw (x, y)

  at_row : (i : ℕ) → passes (size_questions a) ≡ true → i ≤ 3652059 → passes (index_questions a (pos i)) ≡ true
  at_row i s h = passes_append (size_questions a) (ask refusal.Value (is_index (pos i)) ∷ [])
      ∙ (λ j. s j && (index_at_law i h j && true))

  sized : (n : ℕ) → size_answer a ≡ Ok n → (passes (size_questions a) ≡ true) × (size_of (closed a) ≡ n)
  unfolding size_answer
  sized n e =
      let (r, f) = answered_ok (size_questions a) (Ok (size_of (closed a))) n e in
      let z : size_of (closed a) ≡ n = cc in
      (r, z)

  -- from_index where only question 10 is left
  from_place : (i : ℕ) → passes (size_questions a) ≡ true → i ≤ 3652059 → from_index_answer a (pos i)
      ≡ checked (value_at (closed a) i)
  unfolding from_index_answer
  from_place i s h = sym (passed (index_questions a (pos i)) (checked (value_at (closed a) i)) (at_row i s h))

  -- a value that from_index answers
  record Listed (i : ℕ) (v : Value) : Type 0 where
    row : passes (size_questions a) ≡ true
    low : i ≤ 3652059
    is : value_at (closed a) i ≡ v
    day : is_day v.head ≡ true

  listed : (i : ℤ) (v : Value) → from_index_answer a i ≡ Ok v → Listed (pos_part i) v
  unfolding from_index_answer
  listed i v e =
      let (r, (f, d)) = answered_at (index_questions a i) (value_at (closed a) (pos_part i)) v e in
      let (s, k) = fewer (size_questions a) (ask refusal.Value (is_index i)) r in
      record { row = s; low = (index_range i k).1; is = f; day = d }

  -- a value of an index: it is one of the kind, and stands there
  record Standing (i : ℕ) (v : Value) : Type 0 where
    row : passes (value_questions a v) ≡ true
    place : position (closed a) v ≡ origin (closed a) + i

  standing : (i : ℕ) (v : Value) → passes (size_questions a) ≡ true → value_at (closed a) i ≡ v → is_day v.head ≡ true →
      Standing i v
  standing i v s e d =
      let c = counted a s in
      let o = of_kind (closed a) c i (ap (λ (w : Value). is_day w.head) e ∙ d) in
      record {
        row = on_row v s (sym (value_on_law a v) ∙ ap (value_on (closed a)) (sym e) ∙ o);
        place = ap (position (closed a)) (sym e) ∙ at_index (closed a) c i;
      }

  index_there : (i : ℕ) (v : Value) → Standing i v → index_answer a v ≡ Ok (Some i)
  unfolding index_answer
  index_there i v t =
      let e : position (closed a) v - origin (closed a) ≡ i = omega (arith, t.place) in
      sym (passed (value_questions a v) (Ok (index_in (closed a) v)) t.row)
      ∙ ap Ok (sym (index_is (closed a) v (omega (arith, t.place))) ∙ ap Some e)

-- ---- RANGES of the numbers that are answered
pub size_range : (a : Axis) (n : ℕ) → size_answer a ≡ Ok n → n ≤ 3652059
size_range a n e = let (r, f) = sized a n e in omega (arith, f, size_most (closed a) (counted a r))

-- ---- INDICES: index_of the value of an index is that index. On every kind, wherever from_index answers.
pub index_of_from_index : (a : Axis) (i : ℤ) (v : Value) → from_index_answer a i ≡ Ok v →
    index_answer a v ≡ Ok (Some (pos_part i))
index_of_from_index a i v e =
    let l = listed a i v e in
    index_there a (pos_part i) v (standing a (pos_part i) v l.row l.is l.day)

-- ---- an answered value, as one that may be none
abbrev pub in_some : Result Value Refusal → Result (Option Value) Refusal
in_some (Ok v) = Ok (Some v)
in_some (Err q) = Err q

in_some_law : (v : Value) → in_some (checked v) ≡ checked_if (Some v)
in_some_law v = go (is_day v.head) refl
  where
    go : (b : Bool) → is_day v.head ≡ b → in_some (checked v) ≡ checked_if (Some v)
    go true e = ap in_some (sym (in_range_law v e)) ∙ in_range_if v e
    go false e = ap in_some (sym (out_of_range v e)) ∙ out_of_range_if v e

-- ---- NEIGHBOURS: of any value that has an index. The value after it stands one place on, and the one before that is
-- the value of its own place.
module _ (a : Axis) (v : Value) (i : ℕ) (has : index_answer a v ≡ Ok (Some i)) where
  record Indexed : Type 0 where
    row : passes (size_questions a) ≡ true
    on : value_on (closed a) v ≡ true
    from : origin (closed a) ≤ position (closed a) v
    at : position (closed a) v - origin (closed a) ≡ i
    most : i ≤ 3652058

  indexed : Indexed
  unfolding index_answer index_of
  indexed =
      let (r, f) = answered_ok (value_questions a v) (Ok (index_in (closed a) v)) (Some i) has in
      let (s, o) = fewer (size_questions a) (ask refusal.Value (value_on a v)) r in
      let some : index_in (closed a) v ≡ Some i = cc in
      let (h, e) = index_in_law (closed a) v i some in
      let on = value_on_law a v ∙ o in
      record { row = s; on = on; from = h; at = e; most = omega (arith, e, indices.index_most (closed a) (counted a s) v on) }

  pub index_most : i ≤ 3652058
  index_most = indexed.most

  pub record Next (w : Value) : Type 0 where
    pub place : from_index_answer a (pos (i + 1)) ≡ Ok w
    pub index : index_answer a w ≡ Ok (Some (i + 1))
    pub back : previous_answer a w ≡ in_some (from_index_answer a (pos i))

  pub next_index : (w : Value) → next_answer a v ≡ Ok (Some w) → Next w
  unfolding next_answer previous_answer
  next_index w e =
      let x = indexed in
      let (r, (f, d)) = answered_if (value_questions a v) (next_in (closed a) v) w e in
      let (l, g) = next_in_law (closed a) v w f in
      let here : value_at (closed a) (i + 1) ≡ w = ap (λ (k : ℕ). value_at (closed a) (k + 1)) (sym x.at) ∙ g in
      let t = standing a (i + 1) w x.row here d in
      let before : position (closed a) w - origin (closed a) - 1 ≡ i = omega (arith, t.place) in
      record {
        place = from_place a (i + 1) x.row (omega (arith, x.most)) ∙ ap checked here ∙ sym (in_range_law w d);
        index = index_there a (i + 1) w t;
        back = sym (passed (value_questions a w) (checked_if (previous_in (closed a) w)) t.row)
            ∙ ap checked_if (previous_is (closed a) w (omega (arith, t.place))
            ∙ ap (λ (k : ℕ). Some (value_at (closed a) k)) before)
            ∙ sym (ap in_some (from_place a i x.row (omega (arith, x.most))) ∙ in_some_law (value_at (closed a) i));
      }

  pub record Previous (w : Value) : Type 0 where
    pub place : from_index_answer a (pos (i - 1)) ≡ Ok w
    pub index : index_answer a w ≡ Ok (Some (i - 1))
    pub back : (n : ℕ) → size_answer a ≡ Ok n → i < n → next_answer a w ≡ in_some (from_index_answer a (pos i))

  pub previous_index : (w : Value) → previous_answer a v ≡ Ok (Some w) → Previous w
  unfolding next_answer previous_answer
  previous_index w e =
      let x = indexed in
      let (r, (f, d)) = answered_if (value_questions a v) (previous_in (closed a) v) w e in
      let (l, g) = previous_in_law (closed a) v w f in
      let here : value_at (closed a) (i - 1) ≡ w = ap (λ (k : ℕ). value_at (closed a) (k - 1)) (sym x.at) ∙ g in
      let t = standing a (i - 1) w x.row here d in
      let after : position (closed a) w - origin (closed a) + 1 ≡ i = omega (arith, t.place, x.at) in
      record {
        place = from_place a (i - 1) x.row (omega (arith, x.most)) ∙ ap checked here ∙ sym (in_range_law w d);
        index = index_there a (i - 1) w t;
        back = λ n s h. sym (passed (value_questions a w) (checked_if (next_in (closed a) w)) t.row)
            ∙ ap checked_if (next_is (closed a) w (omega (arith, t.place)) (omega (arith, after, (sized a n s).1))
            ∙ ap (λ (k : ℕ). Some (value_at (closed a) k)) after)
            ∙ sym (ap in_some (from_place a i x.row (omega (arith, x.most))) ∙ in_some_law (value_at (closed a) i));
      }

-- Of a value of an index they undo each other. Of another they do not: kind 2 from day 1 to 32, day 2: the next is 32,
-- and the one before that 1.
pub next_undone : (a : Axis) (i : ℕ) (v w : Value) → from_index_answer a (pos i) ≡ Ok v → next_answer a v ≡ Ok (Some w) →
    previous_answer a w ≡ Ok (Some v)
next_undone a i v w e n = (next_index a v i (index_of_from_index a (pos i) v e) w n).back ∙ ap in_some e

pub previous_undone : (a : Axis) (i n : ℕ) (v w : Value) → size_answer a ≡ Ok n → i < n → from_index_answer a (pos i) ≡ Ok v →
    previous_answer a v ≡ Ok (Some w) → next_answer a w ≡ Ok (Some v)
previous_undone a i n v w s h e p = (previous_index a v i (index_of_from_index a (pos i) v e) w p).back n s h ∙ ap in_some e

-- ---- THE WALK. Its axis: kinds 1, 2, 3 and 8; kind 6; and kind 5 where the first day is one of question 3.
pub dates_walk : (a : Axis) (n : ℕ) → size_answer a ≡ Ok n → over_dates a.kind ≡ true → Inside (closed a)
dates_walk a n size k m = dates_inside (closed a) (counted a (sized a n size).0) (rw (same_kind a) k)

pub years_walk : (a : Axis) → monthly (closed a) ≡ false → Inside (closed a)
years_walk a y m = absurd (true≢false (sym m ∙ y))

-- else the cursor gives no value: kind 5 from (3652059, 1000000000) to the same has the size 12, and index 0 gets 10
pub outside : (a : Axis) (n : ℕ) → size_answer a ≡ Ok n → monthly (closed a) ≡ true → 3652059 < from_day (closed a) →
    from_index_answer a (pos 0) ≡ Err refusal.Range
outside a n size m h =
    from_place a 0 (sized a n size).0 (omega arith)
    ∙ ap checked (value_months (closed a) 0 m ∙ month_first (closed a) 0 refl)
    ∙ sym (out_of_range (midnight (pos (from_day (closed a)))) (day_beyond (from_day (closed a)) h))

module _ (a : Axis) (n : ℕ) (size : size_answer a ≡ Ok n) (inside : Inside (closed a)) where
  row : passes (size_questions a) ≡ true
  row = (sized a n size).0

  many : size_of (closed a) ≡ n
  many = (sized a n size).1

  few : n ≤ 3652059
  few = omega (arith, many, size_most (closed a) (counted a row))

  below_days : (i : ℕ) → i < n → is_day (value_at (closed a) i).head ≡ true
  below_days i h = below_size (closed a) (counted a row) inside i (omega (arith, many))

  -- each place below the size has a value
  pub each : (i : ℕ) → i < n → from_index_answer a (pos i) ≡ Ok (value_at (closed a) i)
  each i h = from_place a i row (omega (arith, few)) ∙ sym (in_range_law (value_at (closed a) i) (below_days i h))

  -- one step gives it, and moves on by one place
  step_on : (i : ℕ) → i < n → values_answer a (cursor_at i) ≡ Ok (Some (value_at (closed a) i), cursor_at (i + 1))
  unfolding values_answer
  step_on i h =
      ap (stepped (cursor_at i))
      (sym (passed (index_questions a (pos i)) (checked_if (value_in (closed a) i)) (at_row a i row (omega (arith, few))))
      ∙ ap checked_if (value_is (closed a) i (omega (arith, many)))
      ∙ sym (in_range_if (value_at (closed a) i) (below_days i h)))

  -- at and past the size there is none, and the cursor stays
  pub step_end : (i : ℕ) → n ≤ i → i ≤ 3652059 → values_answer a (cursor_at i) ≡ Ok (None, cursor_at i)
  unfolding values_answer
  step_end i h l =
      ap (stepped (cursor_at i))
      (sym (passed (index_questions a (pos i)) (checked_if (value_in (closed a) i)) (at_row a i row l))
      ∙ ap checked_if (value_none (closed a) i (omega (arith, many)))
      ∙ sym no_value)

  walk_from : (m k i : ℕ) → i + m ≡ n → m < k → walk a k (cursor_at i) ≡ values_from (closed a) i m
  walk_from m zero i e h = absurd (let w : ⊥ = omega arith in w)
  walk_from zero (suc k) i e h = ap (onward (walk a k)) (step_end i (omega arith) (omega (arith, few)))
  walk_from (suc m) (suc k) i e h =
      ap (onward (walk a k)) (step_on i (omega arith)) ∙ ap (λ (l : List Value). value_at (closed a) i ∷ l)
      (walk_from m k (i + 1) (omega arith) (omega arith))

  -- from 0 the cursor gives the values of all indices below the size, and then no more
  pub walked : (k : ℕ) → n < k → walk a k (cursor_at 0) ≡ values_from (closed a) 0 n
  walked k h = walk_from n k 0 (omega arith) h

-- as many as the size, each that of its index
pub how_many : (a : Axis) (i n : ℕ) → length (values_from a i n) ≡ n
how_many a i zero = refl
how_many a i (suc n) = ap suc (how_many a (i + 1) n)

pub the_value : (a : Axis) (i n j : ℕ) (d : Value) → j < n → get_or (values_from a i n) j d ≡ value_at a (i + j)
the_value a i zero j d h = absurd (let w : ⊥ = omega arith in w)
the_value a i (suc n) zero d h = let e : i ≡ i + zero = omega arith in ap (value_at a) e
the_value a i (suc n) (suc j) d h =
    let e : i + 1 + j ≡ i + suc j = omega arith in
    the_value a (i + 1) n j d (omega arith) ∙ ap (value_at a) e

-- ---- on kind 1 every value from the start on is the value of its index, so that these laws hold of it too
no_tail : (a : Axis) (v : Value) → a.kind ≡ kind.Date → value_on a v ≡ true → v.tail ≡ pos 0
unfolding value_on
no_tail a v k o = (date_value a.kind v o (rw k)).no_tail

pub from_index_of : (a : Axis) (v : Value) (i : ℕ) → a.kind ≡ kind.Date → index_answer a v ≡ Ok (Some i) →
    from_index_answer a (pos i) ≡ Ok v
from_index_of a v i k has =
    let x = indexed a v i has in
    let date = same_kind a ∙ k in
    let (m, y, u) = in_days (closed a) (inl date) in
    let c = counted a x.row in
    let d = on_day (closed a) c v x.on in
    let here : pos_part (closed a).start.head + i ≡ pos_part v.head =
    omega (arith, x.at, x.from, origin_days (closed a) m y u, position_days (closed a) v m y u) in
    let same-day : pos (pos_part (closed a).start.head + i) ≡ v.head =
    same (pos (pos_part (closed a).start.head + i)) v.head (omega arith) in
    let e : value_at (closed a) i ≡ v =
    value_days (closed a) i m y u ∙ (λ j. record { head = same-day j; tail = sym (no_tail (closed a) v date x.on) j }) in
    from_place a i x.row (omega (arith, x.most)) ∙ ap checked e ∙ sym
    (in_range_law v (is_day_law v d))

-- ---- on kind 8 the value of a date's index is in the date's week, and that is all: from day 3 to 10 the index of day 2 is
-- 0 and gives day 3, the start, which is no Monday, and the index of day 10 is 1 and gives day 8
pub week_of_index : (a : Axis) (v w : Value) (i : ℕ) → a.kind ≡ kind.Week → index_answer a v ≡ Ok (Some i) →
    from_index_answer a (pos i) ≡ Ok w → monday (pos_part w.head) ≡ monday (pos_part v.head)
week_of_index a v w i k has e =
    let (m, y, u) = in_weeks (closed a) (same_kind a ∙ k) in
    let x = indexed a v i has in
    let z = indexed a w i (index_of_from_index a (pos i) w e) in
    let c = counted a x.row in
    same_week (pos_part w.head) (pos_part v.head) (on_day (closed a) c w z.on).head_least
    (on_day (closed a) c v x.on).head_least
    (omega (arith, x.at, x.from, z.at, z.from, position_weeks (closed a) v m y u, position_weeks (closed a) w m y u))

-- index 0 gives the start, and every other one a Monday
pub first_of_weeks : (a : Axis) (n : ℕ) → a.kind ≡ kind.Week → size_answer a ≡ Ok n →
    from_index_answer a (pos 0) ≡ Ok a.start
first_of_weeks a n k size =
    let (m, y, u) = in_weeks (closed a) (same_kind a ∙ k) in
    let s = (sized a n size).0 in
    from_place a 0 s (omega arith)
    ∙ ap checked (value_weeks (closed a) 0 m y u ∙ week_first (closed a) 0 refl)
    ∙ sym (in_range_law (closed a).start (is_day_law (closed a).start (starts (closed a) (counted a s))))
    ∙ ap Ok (same_start a)

pub others_are_mondays : (a : Axis) (i : ℕ) (w : Value) → a.kind ≡ kind.Week → from_index_answer a (pos (suc i)) ≡ Ok w →
    weekday (pos_part w.head) ≡ 1
others_are_mondays a i w k e =
    let (m, y, u) = in_weeks (closed a) (same_kind a ∙ k) in
    let l = listed a (pos (suc i)) w e in
    let s = pos_part (closed a).start.head in
    let here = sym l.is ∙ value_weeks (closed a) (suc i) m y u ∙ week_later (closed a) (suc i) (λ z. omega arith) in
    rw here (weeks_on s (suc i) (starts (closed a) (counted a l.row)).head_least)
