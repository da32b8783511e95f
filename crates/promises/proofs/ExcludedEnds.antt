-- An excluded end answers as the axis that ends a day earlier, or to the end as written. Assumes nothing.
use mathlib.Core.Path.{◌≡◌, refl, sym, ap, subst, ◌∙◌}
use mathlib.Core.Bool.{Bool, true, false, not, cond, ◌&&◌}
use mathlib.Core.List.{List, [], ◌∷◌, ◌++◌}
use Prim.Native.Nat.{ℕ, ◌+◌, ◌*◌}
use native.Mathlib.Omega.{arith}
use lib.IntN.{ℤ, pos, ◌-ℤ◌}
use lib.Ieee as ieee
use lib.Signed.{lt_z}
use lib.ListN.{take}
use Rattle.std.specs.Prelude.{Option, Some, None, Result, Ok, Err}
use Rattle.laws.specs.Numbers.{within, pos_part, neg_part}
use Rattle.laws.proofs.Signed.{sub, lt_false}
use Rattle.laws.proofs.Tests.{is_true}
use Rattle.asking.specs.declared.Refusal.{Refusal}
use Rattle.asking.specs.declared.Refusal.TheVariants as refusal
use Rattle.asking.specs.Asking.{Question, ask, asked, passes}
use Rattle.asking.proofs.Asked.{told, asked_append, passes_append, passed}
use Rattle.calendar.specs.Questions.{is_day}
use Rattle.values.specs.declared.Kind.{Kind}
use Rattle.values.specs.declared.Kind.TheVariants as kind
use Rattle.values.specs.declared.Value.{Value}
use Rattle.values.specs.Values.{is_value, earlier}
use Rattle.values.specs.Differences.{nanoseconds, difference, nanoseconds_of}
use Rattle.floats.specs.Rounding as rounding
use Rattle.axis.specs.declared.Axis.{Axis}
use Rattle.axis.specs.declared.Hint.{Hint}
use Rattle.axis.specs.declared.Limits.{Limits}
use Rattle.axis.specs.Axes.{axis_of, day_earlier, span_of, offset_of, closed, last}
use Rattle.axis.specs.Questions as asks
use Rattle.axis.specs.Questions.{known, has_index, has_unmap, has_period, value_on, is_index, unmap_pixels, hint_on}
use Rattle.axis.specs.Questions.{checked, checked_if, plain_questions, axis_questions}
use Rattle.axis.proofs.ClosedAxes.{same_kind, shortened, closed_twice, plain_passed, axis_passed}
use Rattle.mapping.specs.Mapping as mapping
use Rattle.mapping.specs.declared.Hairline.{Hairline}
use Rattle.mapping.specs.Hairlines.{exact_at, lost_at}
use Rattle.mapping.specs.Mapping.{hairline}
use Rattle.mapping.specs.Days.{DayOf}
use Rattle.calendar.specs.Gregorian as calendar
use Rattle.counting.specs.Counting as counts
use Rattle.counting.specs.Counting.{size_of}
use Rattle.counting.proofs.Counting.{value_on_law}
use Rattle.steps.specs.Listing.{listed_of, lent_after, front}
use Rattle.steps.specs.Promise.{Later, by_head, nth}
use Rattle.steps.proofs.Order.{smaller}
use Rattle.keypoints.specs.Loops.{while}
use Rattle.keypoints.specs.Months as months
use Rattle.keypoints.specs.KeyPoints.{key_points}
use Rattle.keypoints.specs.Hints.{key_points_for}
use Rattle.ticks.specs.Answers.{ticks_of, ticks_answer, ticks_written, ticks_handed}
use Rattle.ticks.proofs.Hints.{same_hint}
use Rattle.ticks.proofs.Promise.{list_fine}
use Rattle.rules.specs.Table.{table_questions}
use Rattle.ruled.specs.Answers.{has_rules, ruled_questions, ruled_on, ruled_answer, ruled_written}
use Rattle.ruled.proofs.Answers.{of_two}
use Rattle.discrete.specs.declared.Cursor.{Cursor}
use Rattle.discrete.specs.Indices.{value_at}
use Rattle.discrete.specs.Answers.{size_questions, index_questions, stepped}
use Rattle.discrete.specs.Answers.{index_in, next_in, previous_in, value_in, value_under}
use Rattle.discrete.specs.Answers as discrete
use Rattle.segmented.specs.declared.Segment.{Segment}
use Rattle.segmented.specs.Segments as segmentRows
use Rattle.segmented.specs.declared.SegmentValue.TheVariants.{Exact, CenterOf, Last}
use Rattle.segmented.specs.Segments.{head_tail, segment_on, segment_of, segments, margin_of, inner, worked}
use Rattle.segmented.specs.Segments.{alone, between, beside, centred, segment_worked}
use Rattle.segmented.specs.Answers.{segment_index_in, segment_at, segment_checked, segment_kind_questions}
use Rattle.segmented.specs.Answers as segmented
use Rattle.promises.specs.Examples.{limits_of, AllHold}
use Rattle.promises.specs.ExcludedEnds.{AsOf, AsDayEarlier, ToWrittenEnd, SegmentsMix, NoneFromEnd, AsManyPixels}
use Rattle.promises.specs.ExcludedEnds.{InNumbers, OfEach, to_written, midway, before, excluded_table}
use Rattle.promises.proofs.Rows.{same_behind, more_on, more_pass}

module _ (a : Axis) where
  abbrev b : Axis
  b = closed a

  twice : b ≡ closed b
  twice = sym (closed_twice a)

  same_index : has_index b ≡ has_index a
  unfolding has_index has_period
  same_index = rw (same_kind a)

  same_unmap : has_unmap b ≡ has_unmap a
  unfolding has_unmap
  same_unmap = rw (same_kind a)

  size_passed : passes (size_questions a) ≡ true → passes (size_questions b) ≡ true
  size_passed z = rw same_index (plain_passed a (has_index a) z)

  unmap_passed : passes (plain_questions (has_unmap a) a) ≡ true → passes (plain_questions (has_unmap b) b) ≡ true
  unmap_passed z = rw same_unmap (plain_passed a (has_unmap a) z)

  -- ---- sizes and indices
  module _ {A : Type 0} (f : Axis → Result A Refusal) where
    -- an answer that no further question is asked of
    by_size : asked (size_questions a) (f b) ≡ asked (size_questions a) (asked (size_questions b) (f (closed b)))
    by_size = same_behind (size_questions a) (f b) (asked (size_questions b) (f (closed b)))
        (λ z. ap f twice ∙ passed (size_questions b) (f (closed b)) (size_passed z))

    -- and one after question 8, of a value or an index
    module _ (eight nine : Bool) (same : eight ≡ nine) where
      by_value : asked (size_questions a ++ (ask refusal.Value eight ∷ [])) (f b)
          ≡ asked (size_questions a) (asked (size_questions b ++ (ask refusal.Value nine ∷ [])) (f (closed b)))
      by_value = more_on (size_questions a) (size_questions b) (ask refusal.Value eight ∷ []) (ask refusal.Value nine ∷ []) (f b)
          (f (closed b)) size_passed (λ i. asked (ask refusal.Value (same i) ∷ []) (f (twice i)))

  size_of_law : discrete.size_answer a ≡ asked (size_questions a) (discrete.size_answer b)
  unfolding discrete.size_answer
  size_of_law = by_size (λ x. Ok (size_of x))

  index_of : (v : Value) → discrete.index_answer a v ≡ asked (size_questions a) (discrete.index_answer b v)
  unfolding discrete.index_answer
  index_of v = by_value (λ x. Ok (index_in x v)) (value_on a v) (value_on b v) (sym (value_on_law a v))

  from_index : (i : ℤ) → discrete.from_index_answer a i ≡ asked (size_questions a) (discrete.from_index_answer b i)
  unfolding discrete.from_index_answer
  from_index i = by_value (λ x. checked (value_at x (pos_part i))) (is_index i) (is_index i) refl

  next : (v : Value) → discrete.next_answer a v ≡ asked (size_questions a) (discrete.next_answer b v)
  unfolding discrete.next_answer
  next v = by_value (λ x. checked_if (next_in x v)) (value_on a v) (value_on b v) (sym (value_on_law a v))

  previous : (v : Value) → discrete.previous_answer a v ≡ asked (size_questions a) (discrete.previous_answer b v)
  unfolding discrete.previous_answer
  previous v = by_value (λ x. checked_if (previous_in x v)) (value_on a v) (value_on b v) (sym (value_on_law a v))

  -- a refused step is that refusal
  stepped_behind : (c : Cursor) (row : List Question) (x : Result (Option Value) Refusal) →
      stepped c (asked row x) ≡ asked row (stepped c x)
  stepped_behind c [] x = refl
  stepped_behind c (q ∷ row) x = by_test q.yes (stepped_behind c row x)
    where
      by_test : (y : Bool) → stepped c (asked row x) ≡ asked row (stepped c x) →
          stepped c (cond y (asked row x) (Err q.refusal)) ≡ cond y (asked row (stepped c x)) (Err q.refusal)
      by_test true e = e
      by_test false e = refl

  values : (c : Cursor) → discrete.values_answer a c ≡ asked (size_questions a) (discrete.values_answer b c)
  unfolding discrete.values_answer
  values c =
      let i = c.place in
      ap (stepped c) (by_value (λ x. checked_if (value_in x (pos_part i))) (is_index i) (is_index i) refl)
      ∙ stepped_behind c (size_questions a) (asked (index_questions b i) (checked_if (value_in (closed b) (pos_part i))))

  unmap : (l : Limits) (p : ℤ) →
      discrete.unmap_answer a l p ≡ asked (plain_questions (has_unmap a) a) (discrete.unmap_answer b l p)
  unfolding discrete.unmap_answer
  unmap l p =
      let under : (Axis → Result Value Refusal) = λ x. checked (value_under x l p) in
      more_on (plain_questions (has_unmap a) a) (plain_questions (has_unmap b) b) (ask refusal.Limits (unmap_pixels l p) ∷ [])
      (ask refusal.Limits (unmap_pixels l p) ∷ []) (under b) (under (closed b)) unmap_passed
      (λ i. asked (ask refusal.Limits (unmap_pixels l p) ∷ []) (under (twice i)))

  -- ---- lists
  module _ (h : Hint) where
    same_ticks : ticks_of a h ≡ ticks_of b h
    unfolding ticks_of
    same_ticks = ap (λ (x : Axis). key_points_for x h) twice

    abbrev six : Axis → List Question
    six x = ask refusal.Hint (hint_on x h) ∷ []

    -- what is written and handed back, or what was there where the call is refused
    by_list : {A : Type 0} (answer : List Value → A) (left : A) →
        cond (passes (axis_questions true a ++ six a)) (answer (ticks_of a h)) left
        ≡ cond (passes (axis_questions true a)) (cond (passes (axis_questions true b ++ six b)) (answer (ticks_of b h)) left) left
    by_list answer left = more_pass (axis_questions true a) (axis_questions true b) (six a) (six b) (answer (ticks_of a h))
        (answer (ticks_of b h)) left (axis_passed a true)
        (λ i. cond (passes (ask refusal.Hint (sym (same_hint a h) i) ∷ [])) (answer (same_ticks i)) left)

  count : (h : Hint) (k : ℕ) → ticks_answer a h k ≡ asked (axis_questions true a) (ticks_answer b h k)
  unfolding ticks_answer
  count h k = more_on (axis_questions true a) (axis_questions true b) (six h a) (six h b) (listed_of (ticks_of a h) k)
      (listed_of (ticks_of b h) k) (axis_passed a true)
      (λ i. asked (ask refusal.Hint (sym (same_hint a h) i) ∷ []) (listed_of (same_ticks h i) k))

  written : (h : Hint) (d : List ℤ) → ticks_written a h d ≡ cond (passes (axis_questions true a)) (ticks_written b h d) d
  unfolding ticks_written
  written h d = by_list h (λ l. lent_after l d) d

  handed : (h : Hint) (k : ℕ) → ticks_handed a h k ≡ cond (passes (axis_questions true a)) (ticks_handed b h k) []
  unfolding ticks_handed
  handed h k = by_list h (λ l. front l k) []

  -- ---- segments
  segment_size : segmented.segment_size_answer a ≡ asked (size_questions a) (segmented.segment_size_answer b)
  unfolding segmented.segment_size_answer
  segment_size = by_size (λ x. Ok (size_of x + 1))

  same_segment : (s : Segment) → segment_on a s ≡ segment_on b s
  unfolding segment_on
  same_segment s = rw (value_on_law a (head_tail s))

  segment_index : (s : Segment) →
      segmented.segment_index_answer a s ≡ asked (size_questions a) (segmented.segment_index_answer b s)
  unfolding segmented.segment_index_answer
  segment_index s =
      by_value (λ x. Ok (segment_index_in x (segment_of s))) (segment_on a s) (segment_on b s) (same_segment s)

  segment_from : (i : ℤ) → segmented.segment_from_answer a i ≡ asked (size_questions a) (segmented.segment_from_answer b i)
  unfolding segmented.segment_from_answer
  segment_from i = by_value (λ x. segment_checked (segment_at x (pos_part i))) (is_index i) (is_index i) refl

  -- where the kind has segments, what is left are the questions of the axis
  kind_passed : known a ≡ true → has_index a ≡ true → passes (segment_kind_questions b) ≡ true
  kind_passed k h = rw (same_index, same_kind a, k, h)

  segment_count : (h : Hint) (k : ℕ) →
      segmented.segment_ticks_answer a h k ≡ asked (axis_questions (has_index a) a) (segmented.segment_ticks_answer b h k)
  unfolding segmented.segment_ticks_answer
  segment_count h n = go (known a) (has_index a) refl refl
    where
      go : (y i : Bool) → known a ≡ y → has_index a ≡ i →
          asked (ask refusal.Kind y ∷ (ask refusal.Operation i ∷ [])) (ticks_answer a h n)
          ≡ asked (axis_questions i a) (asked (segment_kind_questions b) (ticks_answer b h n))
      go true true k i = count h n ∙ ap (asked (axis_questions true a))
          (passed (segment_kind_questions b) (ticks_answer b h n) (kind_passed k i))
      go true false k i = rw k
      go false i k _ = rw k

  segment_written : (h : Hint) (d : List ℤ) →
      segmented.segment_ticks_written a h d
      ≡ cond (passes (axis_questions (has_index a) a)) (segmented.segment_ticks_written b h d) d
  unfolding segmented.segment_ticks_written
  segment_written h d = go (known a) (has_index a) refl refl
    where
      go : (y i : Bool) → known a ≡ y → has_index a ≡ i →
          cond (passes (ask refusal.Kind y ∷ (ask refusal.Operation i ∷ []))) (ticks_written a h d) d
          ≡ cond (passes (axis_questions i a)) (cond (passes (segment_kind_questions b)) (ticks_written b h d) d) d
      go true true k i = written h d ∙ rw (kind_passed k i)
      go true false k i = rw k
      go false i k _ = rw k

  -- ---- lists by house rules
  same_rules : has_rules b ≡ has_rules a
  unfolding has_rules
  same_rules = rw (same_kind a)

  module _ (t : List ℕ) where
    rules_passed : passes (ruled_questions t a) ≡ true → passes (ruled_questions t b) ≡ true
    rules_passed z =
        let (p, q) = of_two t a z in
        passes_append (table_questions t) (plain_questions (has_rules b) b)
        ∙ rw (p, same_rules, plain_passed a (has_rules a) q)

    same_list : ruled_on t a ≡ ruled_on t b
    unfolding ruled_on
    same_list = rw (closed_twice a)

    ruled_count : (k : ℕ) → ruled_answer t a k ≡ asked (ruled_questions t a) (ruled_answer t b k)
    unfolding ruled_answer
    ruled_count k =
        let list = listed_of (ruled_on t b) k in
        same_behind (ruled_questions t a) (listed_of (ruled_on t a) k) (asked (ruled_questions t b) list)
        (λ z. ap (λ l. listed_of l k) same_list ∙ passed (ruled_questions t b) list (rules_passed z))

    ruled_first : (k : ℕ) →
        ruled_answer t a k ≡ asked (table_questions t) (asked (plain_questions (has_rules a) a) (ruled_answer t b k))
    ruled_first k = ruled_count k ∙ asked_append (table_questions t) (plain_questions (has_rules a) a) (ruled_answer t b k)

    ruled_written_law : (d : List ℤ) → ruled_written t a d ≡ cond (passes (ruled_questions t a)) (ruled_written t b d) d
    unfolding ruled_written
    ruled_written_law d = go (passes (ruled_questions t a)) rules_passed
      where
        go : (p : Bool) → (p ≡ true → passes (ruled_questions t b) ≡ true) →
            cond p (lent_after (ruled_on t a) d) d
            ≡ cond p (cond (passes (ruled_questions t b)) (lent_after (ruled_on t b) d) d) d
        go true f = rw (f refl) (ap (λ l. lent_after l d) same_list)
        go false f = refl

  as_closed : AsOf a b
  as_closed = record {
    size = size_of_law;
    index = index_of;
    from_index = from_index;
    next = next;
    previous = previous;
    values = values;
    unmap = unmap;
    count = count;
    written = written;
    handed = handed;
    segment_size = segment_size;
    segment_index = segment_index;
    segment_from = segment_from;
    segment_count = segment_count;
    segment_written = segment_written;
    ruled_count = ruled_count;
    ruled_first = ruled_first;
    ruled_written_law = ruled_written_law;
  }

-- the axis that ends a day earlier, and the one to the end as written, in numbers
pub in_numbers : InNumbers
in_numbers k sh st eh et x = (refl, refl)

-- what holds beside each axis holds of any six numbers too
of_each : (P : Axis → Axis → Axis → Type 0) → ((a : Axis) → P a (day_earlier a) (to_written a)) → OfEach P
of_each P f = record { axes = f; numbers = λ k sh st eh et x. f (axis_of k sh st eh et x) }

earlier_as : (a : Axis) → a.end_excluded ≡ true → AsOf a (day_earlier a)
earlier_as a e = subst (AsOf a) (sym (shortened a e)) (as_closed a)

-- THE THEOREM, of all operations that count or list
pub as_day_earlier : AsDayEarlier
as_day_earlier = of_each _ earlier_as

-- ---- mapping goes to the end as written
pub to_written_end : ToWrittenEnd
unfolding is_value earlier span_of offset_of asks.ends asks.in_order asks.excludable asks.near_or_long asks.value_on
    asks.mappable mapping.placed mapping.hairline mapping.mapped exact_at lost_at
to_written_end l v = of_each _ (λ a.
    let w = to_written a in
    let p = mapping.placed a l v in
    let h = Ok (mapping.hairline a l v) in
    let rest =
    ask refusal.Limits (asks.pixels l)
    ∷ (ask refusal.Value (value_on a v)
    ∷ (ask refusal.Length (asks.mappable a v)
    ∷ (ask refusal.Range (asks.fits_i32 p)
    ∷ []))) in
    more_on (axis_questions true a) (axis_questions true w) rest rest h h (λ z.
    let row = axis_questions true a in rw (told 1 row z, told 3 row z, told 4 row z, told 5 row z)) refl)

-- ---- segments go by both
by_next : (a w b : Axis) (l : Limits) (left : Hairline) (n : Option Value) →
    ((m : Limits) (u : Value) → hairline a m u ≡ hairline w m u) → closed a ≡ b →
    centred a l left n ≡ midway w (inner (size_of b) l) (margin_of (size_of b) l) left n
by_next a w b l left (Some u) p e =
    λ i. let c = between left ((ap (λ (x : Axis). hairline a (inner (size_of x) l) u) e ∙ p (inner (size_of b) l) u) i) in
    worked c.hairline (is_day u.head && c.fits)
by_next a w b l left None p e = λ i. beside left (margin_of (size_of (e i)) l)

-- a pixel does not look at whether the end is excluded
same_pixel : (a : Axis) (m : Limits) (u : Value) → hairline a m u ≡ hairline (to_written a) m u
unfolding span_of offset_of mapping.placed mapping.hairline exact_at lost_at
same_pixel a m u = refl

pub segments_mix : SegmentsMix
unfolding segment_worked
segments_mix l (Exact v) = of_each _ (λ a y.
    let e = sym (shortened a y) in
    ap alone (ap (λ (z : Axis). hairline a (inner (size_of z) l) v) e ∙ same_pixel a _ v))
segments_mix l (CenterOf v) = of_each _ (λ a y.
    let b = day_earlier a in
    let e = sym (shortened a y) in
    let left = ap (λ (z : Axis). hairline a (inner (size_of z) l) v) e ∙ same_pixel a (inner (size_of b) l) v in
    (λ i. centred a l (left i) (next_in (e i) v))
    ∙ by_next a (to_written a) b l (hairline (to_written a) (inner (size_of b) l) v) (next_in b v) (same_pixel a) e)
segments_mix l Last = of_each _ (λ a y. refl)

-- ---- demand 3, of an excluded end
pub none_from_end : NoneFromEnd
none_from_end a h d c i x e l = go (lt_z (last a).head t.head) refl
  where
    t : Value
    t = nth (take (2 * c) (ticks_written a h d)) i

    day : (last a).head ≡ a.end.head -ℤ pos 1
    day = ap (λ (z : Axis). z.end.head) (sym (shortened a x))

    go : (b : Bool) → lt_z (last a).head t.head ≡ b → Later t a.end
    go true f = absurd ((list_fine a h d c e).to i l (by_head (record { lt = is_true _ f })))
    go false f = by_head (smaller t.head a.end.head
        (omega (arith, lt_false (last a).head t.head f, ap pos_part day, ap neg_part day, sub a.end.head (pos 1))))

-- ---- as many pixels as days between the ends: days 2613 and 2614 of 1 to 2616 are both at 2612
pub days_share : AsManyPixels → ⊥
unfolding closed ieee.span ieee.climb ieee.size ieee.odd ieee.units ieee.round ieee.mul ieee.div ieee.of_int ieee.to_signed
    rounding.quotient_of nanoseconds difference nanoseconds_of is_value earlier span_of offset_of asks.ends asks.in_order
    asks.excludable asks.near_or_long asks.pixels asks.value_on asks.mappable mapping.map_coord
    mapping.placed mapping.hairline mapping.mapped
days_share f =
    let day : (i : ℤ) → within (pos 1) i (pos 2615) ≡ true → DayOf (before kind.Date 1 2616) i =
    λ i e. record { dates = refl; inside = e } in
    let e : pos 2613 ≡ pos 2614 =
    f (before kind.Date 1 2616) (limits_of (pos 0) (pos 2615)) (pos 2613) (pos 2614) _ _ refl (omega arith) (day (pos 2613) refl)
    (day (pos 2614) refl) refl refl refl in
    let z = ap pos_part e in
    omega arith

-- ---- the table
pub excluded_settled : AllHold excluded_table
unfolding closed calendar.leap calendar.leap_day calendar.month_length calendar.months calendar.year_length calendar.years
    calendar.day_number calendar.next_day calendar.days_later calendar.date_of ieee.span ieee.climb ieee.size ieee.odd
    ieee.units ieee.round ieee.mul ieee.div ieee.of_int ieee.to_unsigned ieee.to_signed rounding.round_f rounding.quotient_of
    nanoseconds difference nanoseconds_of is_value earlier span_of offset_of asks.has_period asks.has_index asks.ends
    asks.in_order asks.excludable asks.near_or_long asks.bold_hint asks.pixels asks.value_on asks.mappable
    mapping.map_coord mapping.placed mapping.hairline mapping.mapped counts.monthly counts.yearly counts.weekly
    counts.from_day counts.to_day counts.first_date counts.date_on counts.origin counts.position counts.size_of while
    months.start_of months.carried months.generate_key_points months.total_month months.months_from months.month_key_points
    key_points key_points_for ticks_of ticks_answer ticks_written discrete.size_answer segment_on segment_of
    segmentRows.segment_mappable segmentRows.margin_of segmentRows.inner segmentRows.segment_worked
    segmented.segment_map_answer
excluded_settled = (refl, (refl, (refl, (refl, (refl, (refl, tt))))))
