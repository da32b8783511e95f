-- How the code asks question 3 of a kind but 7, and a quick yes for most durations. Assumes nothing.
use mathlib.Core.Path.{◌≡◌, refl, sym, ◌∙◌}
use mathlib.Core.Bool.{Bool, true, false, cond, ◌&&◌}
use Prim.Native.Nat.{◌+◌, ◌≤◌}
use native.Mathlib.Omega.{arith}
use lib.IntN.{ℤ, pos, negsuc}
use lib.Signed.{lt_z, le_z}
use borrow.Author.Tests.{not-true}
use Rattle.laws.specs.Numbers.{within, pos_part, neg_part}
use Rattle.laws.proofs.Signed.{lt_true, lt_false, le_true, is_lt}
use Rattle.laws.proofs.Tests.{both_true, either_false}
use Rattle.calendar.specs.Questions.{is_day}
use Rattle.values.specs.declared.Kind.{Kind}
use Rattle.values.specs.declared.Value.{Value}
use Rattle.values.specs.Values.{over_dates, is_duration, is_value, earlier}
use Rattle.values.proofs.Numbers.{is_le}
use Rattle.values.proofs.Values.{of_dates, of_date_times, of_durations, times_left}
use Rattle.axis.specs.declared.Axis.{Axis}
use Rattle.axis.specs.Questions.{known, ends, in_order, near_zero, near_or_long}
use Rattle.axis.proofs.Questions.{near_by_seconds, near_ends, of_seven}

-- seconds near zero, and nanoseconds of a second, are a duration
near_value : (kind : Kind) (v : Value) → is_duration kind ≡ true → neg_part v.head ≤ 4000000000 + pos_part v.head →
    pos_part v.head ≤ 4000000000 + neg_part v.head → within (pos 0) v.tail (pos 999999999) ≡ true → is_value kind v ≡ true
near_value kind v d l m t =
    let p : le_z (negsuc 315575999999) v.head ≡ true = is_le (negsuc 315575999999) v.head (omega arith) in
    let q : le_z v.head (pos 315576000000) ≡ true = is_le v.head (pos 315576000000) (omega arith) in
    of_durations kind v d ∙ rw (p, q, t)

module _ (a : Axis) where
  -- ---- question 3, of a kind but 7
  -- both ends, with at most so many nanoseconds
  abbrev within_days : Bool → Bool
  within_days dates = let most = cond dates (pos 0) (pos 86399999999999) in
      (is_day a.start.head && within (pos 0) a.start.tail most)
      && (is_day a.end.head && within (pos 0) a.end.tail most)

  pub day_ends_law : known a ≡ true → is_duration a.kind ≡ false → within_days (over_dates a.kind) ≡ ends a
  unfolding ends
  day_ends_law k n = go (over_dates a.kind) refl
    where
      go : (b : Bool) → over_dates a.kind ≡ b → within_days b ≡ is_value a.kind a.start && is_value a.kind a.end
      go true e = rw (of_dates a.kind a.start e, of_dates a.kind a.end e)
      go false e = let t = times_left a.kind k n e in rw (of_date_times a.kind a.start t, of_date_times a.kind a.end t)

  -- ---- durations: by one row of tests, where start's seconds are the least, and end's the greatest
  -- start's head is no more than end's
  heads : in_order a ≡ true →
      pos_part a.start.head + neg_part a.end.head ≤ pos_part a.end.head + neg_part a.start.head
  unfolding in_order earlier
  heads o = lt_false a.end.head a.start.head (either_false _ _ (not-true _ o)).0

  abbrev seconds : Bool
  seconds = (in_order a && le_z (negsuc 3999999999) a.start.head) && lt_z a.end.head (pos 4000000000)

  abbrev nanos : ℤ → Bool
  nanos t = within (pos 0) t (pos 999999999)

  pub spans_usual : is_duration a.kind ≡ true → (seconds && nanos a.start.tail) && nanos a.end.tail ≡ true →
      (ends a ≡ true) × (in_order a ≡ true) × (near_or_long a ≡ true)
  unfolding ends
  spans_usual d r =
      let (w, u) = both_true (seconds && nanos a.start.tail) (nanos a.end.tail) r in
      let (v, t) = both_true seconds (nanos a.start.tail) w in
      let (z, q) = both_true _ (lt_z a.end.head (pos 4000000000)) v in
      let (o, p) = both_true (in_order a) (le_z (negsuc 3999999999) a.start.head) z in
      let h = heads o in
      let least = le_true (negsuc 3999999999) a.start.head p in
      let most = lt_true a.end.head (pos 4000000000) q in
      let s : is_value a.kind a.start ≡ true = near_value a.kind a.start d (omega arith) (omega arith) t in
      let e : is_value a.kind a.end ≡ true = near_value a.kind a.end d (omega arith) (omega arith) u in
      let l : lt_z a.start.head (pos 4000000000) ≡ true = is_lt a.start.head (pos 4000000000) (omega arith) in
      let m : le_z (negsuc 3999999999) a.end.head ≡ true = is_le (negsuc 3999999999) a.end.head (omega arith) in
      let x : near_zero a.start ≡ true = sym (near_by_seconds a.start (of_seven a a.start d s)) ∙ rw (p, l) in
      let y : near_zero a.end ≡ true = sym (near_by_seconds a.end (of_seven a a.end d e)) ∙ rw (m, q) in
      (rw (s, e), o, sym (near_ends a (rw (x, y))))
