-- The axis by which an axis counts and lists: it has the kind and the start of the axis, and passes what the axis passed.
-- Assumes nothing.
use mathlib.Core.Path.{◌≡◌, refl, sym, ◌∙◌}
use mathlib.Core.Logic.{inl, inr}
use mathlib.Core.Bool.{Bool, true, false, not, cond}
use mathlib.Core.List.{[], ◌∷◌}
use Prim.Native.Nat.{◌≤◌, ◌<◌}
use native.Mathlib.Omega.{arith}
use lib.IntN.{ℤ, pos, ◌-ℤ◌}
use lib.Signed.{le_z}
use mir.Syntax.{w64}
use mir.Val.{SFits}
use borrow.Author.Tests.{not-true}
use Rattle.asking.specs.Asking.{ask, passes}
use Rattle.asking.specs.declared.Refusal.TheVariants as refusal
use Rattle.laws.specs.Numbers.{within, pos_part, neg_part}
use Rattle.asking.proofs.Asked.{told, fewer, passes_append}
use Rattle.laws.proofs.Signed.{sub, is_ge, lt_false, le_true, le_false}
use Rattle.laws.proofs.Tests.{both_true, either_false, and_true, and_false}
use Rattle.values.specs.Values.{over_dates, earlier}
use Rattle.values.proofs.Numbers.{is_le, not_both}
use Rattle.values.proofs.Joining.{one_less}
use Rattle.values.proofs.Values.{of_dates, date_value, day_value, duration_value, times_no_duration, dates_no_duration, by_form}
use Rattle.axis.specs.declared.Axis.{Axis}
use Rattle.axis.specs.Axes.{day_earlier, closed, last}
use Rattle.axis.specs.Questions.{ends, in_order, equals, excludable, near_or_long, plain_questions, axis_questions}
use Rattle.axis.proofs.Axes.{both_ends}
use Rattle.axis.proofs.Questions.{other_kind}

-- by whether the end is excluded
pub by_end : (P : Axis → Type 0) (a : Axis) → (a.end_excluded ≡ false → P a) → (a.end_excluded ≡ true → P (day_earlier a)) →
    P (closed a)
unfolding closed
by_end P a f g = go a.end_excluded f g
  where
    go : (b : Bool) → (b ≡ false → P a) → (b ≡ true → P (day_earlier a)) → P (cond b (day_earlier a) a)
    go true f g = g refl
    go false f g = f refl

-- what does not look at the end
pub same_kind : (a : Axis) → (closed a).kind ≡ a.kind
same_kind a = by_end (λ x. x.kind ≡ a.kind) a (λ _. refl) (λ _. refl)

pub same_start : (a : Axis) → (closed a).start ≡ a.start
same_start a = by_end (λ x. x.start ≡ a.start) a (λ _. refl) (λ _. refl)

-- by the code's test
module _ (a : Axis) where
  pub kept : a.end_excluded ≡ false → a ≡ closed a
  unfolding closed
  kept e = rw e

  pub shortened : a.end_excluded ≡ true → day_earlier a ≡ closed a
  unfolding closed
  shortened e = rw e

  -- an axis that is counted by itself
  pub closed_twice : closed (closed a) ≡ closed a
  unfolding closed
  closed_twice = by_end (λ x. closed x ≡ x) a (λ e. sym (kept e)) (λ _. refl)

-- what is not after the last value is not after the end
pub in_written : (a : Axis) (s i : ℤ) → within s i (last a).head ≡ true → within s i a.end.head ≡ true
in_written a s i = by_end (λ x. within s i x.end.head ≡ true → within s i a.end.head ≡ true) a (λ _ e. e) (λ _. go)
  where
    go : within s i (a.end.head -ℤ pos 1) ≡ true → within s i a.end.head ≡ true
    go e = let (l, h) = both_true (le_z s i) (le_z i (a.end.head -ℤ pos 1)) e in
        let m = le_true i (a.end.head -ℤ pos 1) h in
        rw (l, is_le i a.end.head (omega (arith, sub a.end.head (pos 1))))

-- ---- an excluded end that question 14 lets pass
pub record Before (a : Axis) : Type 0 where
  pub dates : over_dates a.kind ≡ true
  pub start_least : 1 ≤ pos_part a.start.head
  pub start_dn : neg_part a.start.head ≡ 0
  pub end_dn : neg_part a.end.head ≡ 0
  pub end_most : pos_part a.end.head ≤ 3652059
  pub no_tail : a.end.tail ≡ pos 0
  pub apart : pos_part a.start.head < pos_part a.end.head

module _ (a : Axis) (e : ends a ≡ true) where
  -- dates in order that are not one
  apart : over_dates a.kind ≡ true → in_order a ≡ true → equals a.end a.start ≡ false →
      pos_part a.start.head < pos_part a.end.head
  unfolding in_order earlier
  apart d o n =
      let s = date_value a.kind a.start (both_ends a e).first d in
      let t = date_value a.kind a.end (both_ends a e).second d in
      let l = lt_false a.end.head a.start.head (either_false _ _ (not-true _ o)).0 in
      let h : within a.start.head a.end.head a.start.head ≡ false =
      sym (and_true _) ∙ (rw (s.no_tail, t.no_tail) at n) in
      elim (not_both (le_z a.start.head a.end.head) (le_z a.end.head a.start.head) h) [
        | inl x ↦ absurd (let z : ⊥ = omega (arith, le_false a.start.head a.end.head x) in z)
        | inr x ↦ omega (arith, le_false a.end.head a.start.head x)
      ]

  pub before : in_order a ≡ true → excludable a ≡ true → a.end_excluded ≡ true → Before a
  unfolding excludable
  before o q x =
      let (d, n) = both_true (over_dates a.kind) (not (equals a.end a.start)) (rw x at q) in
      let s = date_value a.kind a.start (both_ends a e).first d in
      let t = date_value a.kind a.end (both_ends a e).second d in
      record {
        dates = d;
        start_least = s.head_least;
        start_dn = s.head_dn;
        end_dn = t.head_dn;
        end_most = t.head_most;
        no_tail = t.no_tail;
        apart = apart d o (not-true _ n);
      }

  -- a day off the end fits
  pub end_fits : SFits w64 (a.end.head -ℤ pos 1)
  end_fits =
      let k = a.kind in
      let v = (both_ends a e).second in
      by_form k a.end v
      (λ d _. let r = date_value k a.end v d in one_less a.end.head (omega (arith, r)) (omega (arith, r)))
      (λ t _. let r = day_value k a.end v (times_no_duration k t) in
      one_less a.end.head (omega (arith, r)) (omega (arith, r)))
      (λ d _. let r = duration_value k a.end v d in one_less a.end.head (omega (arith, r)) (omega (arith, r)))

  -- the questions of the axis that ends a day earlier
  module _ (b : Before a) where
    ends_earlier : ends (day_earlier a) ≡ true
    unfolding ends
    ends_earlier =
        let z = sub a.end.head (pos 1) in
        let l = is_le (pos 1) (a.end.head -ℤ pos 1) (omega (arith, b)) in
        let h = is_le (a.end.head -ℤ pos 1) (pos 3652059) (omega (arith, b)) in
        rw ((both_ends a e).first, of_dates a.kind (day_earlier a).end b.dates, l, h, b.no_tail)

    in_order_earlier : in_order (day_earlier a) ≡ true
    unfolding in_order earlier
    in_order_earlier =
        let z = sub a.end.head (pos 1) in
        let s = date_value a.kind a.start (both_ends a e).first b.dates in
        let h = is_ge (a.end.head -ℤ pos 1) a.start.head (omega (arith, b)) in
        rw (h, b.no_tail, s.no_tail, and_false)

-- ---- what an axis passed, the axis that it counts by passes too
module _ (a : Axis) (has : Bool) where
  pub plain_passed : passes (plain_questions has a) ≡ true → passes (plain_questions has (closed a)) ≡ true
  unfolding excludable
  plain_passed z = by_end (λ x. passes (plain_questions has x) ≡ true) a (λ _. z) go
    where
      go : a.end_excluded ≡ true → passes (plain_questions has (day_earlier a)) ≡ true
      go x =
          let row = plain_questions has a in
          let e = told 3 row z in
          let b = before a e (told 4 row z) (told 14 row z) x in
          rw (told 1 row z, told 2 row z, ends_earlier a e b, in_order_earlier a e b)

  pub axis_passed : passes (axis_questions has a) ≡ true → passes (axis_questions has (closed a)) ≡ true
  axis_passed z =
      let (p, n) = fewer (plain_questions has a) (ask refusal.Duration (near_or_long a)) z in
      let e : ends a ≡ true = told 3 (plain_questions has a) p in
      passes_append (plain_questions has (closed a)) (ask refusal.Duration (near_or_long (closed a)) ∷ [])
      ∙ rw (plain_passed p, near e p n)
    where
      near : ends a ≡ true → passes (plain_questions has a) ≡ true → near_or_long a ≡ true → near_or_long (closed a) ≡ true
      near e p n = by_end (λ x. near_or_long x ≡ true) a (λ _. n) (λ x. sym (other_kind (day_earlier a)
          (dates_no_duration a.kind (before a e (told 4 (plain_questions has a) p)
          (told 14 (plain_questions has a) p) x).dates)))
