-- 'The Mondays in the span' are all of them, and nothing else. Assumes nothing.
use mathlib.Core.Path.{◌≡◌, ap, ◌∙◌}
use mathlib.Core.Logic.{inl, inr}
use mathlib.Core.List.{List, Memᴰ}
use Prim.Native.Nat.{ℕ, zero, suc, ◌+◌, ◌-◌, ◌≤◌, ◌<◌}
use native.Mathlib.Decide.{dec_le}
use native.Mathlib.Omega.{arith}
use lib.IntN.{pos}
use borrow.Author.Tests.{eqb-true, eqb-false}
use Rattle.weeks.specs.Weeks.{weekday}
use Rattle.values.specs.declared.Value.{Value}
use Rattle.values.specs.Values.{midnight}
use Rattle.axis.specs.declared.Axis.{Axis}
use Rattle.counting.specs.Counting.{from_day, to_day}
use Rattle.plans.proofs.Cases.{choose}
use Rattle.keypoints.specs.Weeks.{mondays_from, mondays_on}

-- v is a Monday from the day s to the day e
pub record MondayIn (s e : ℕ) (v : Value) : Type 0 where
  pub day : ℕ
  pub is : v ≡ midnight (pos day)
  pub from : s ≤ day
  pub to : day ≤ e
  pub monday : weekday day ≡ 1

sooner : {s e : ℕ} {v : Value} → MondayIn (s + 1) e v → MondayIn s e v
sooner x = record { day = x.day; is = x.is; from = omega (arith, x.from); to = x.to; monday = x.monday }

-- the k days from n on, where they end by e
only : (k n e : ℕ) (v : Value) → (0 < k → n + k ≤ e + 1) → Memᴰ v (mondays_from k n) → MondayIn n e v
unfolding mondays_from
only zero n e v b m = absurd (mathlib.Core.List.Memᴰ.not-nil m)
only (suc k) n e v b m =
    let l : n + suc k ≤ e + 1 = b (omega arith) in
    let rest : Memᴰ v (mondays_from k (n + 1)) → MondayIn n e v =
    λ x. sooner (only k (n + 1) e v (λ p. omega arith) x) in
    choose (λ (l : List Value). Memᴰ v l → MondayIn n e v) _
    (λ t x. elim (mathlib.Core.List.Memᴰ.cases_cons {b = midnight (pos n)} {l = mondays_from k (n + 1)} x) [
      | inl p ↦ record { day = n; is = p; from = omega arith; to = omega arith; monday = eqb-true _ _ t }
      | inr y ↦ rest y
    ])
    (λ t x. rest x) m

later : {n e : ℕ} {v : Value} (x : MondayIn n e v) → (n ≡ x.day → ⊥) → MondayIn (n + 1) e v
later x h = record { day = x.day; is = x.is; from = omega (arith, x.from, h); to = x.to; monday = x.monday }

-- the same where they do not end before e
all : (k n e : ℕ) (v : Value) → e + 1 ≤ n + k → MondayIn n e v → Memᴰ v (mondays_from k n)
unfolding mondays_from
all zero n e v b x = absurd (let z : ⊥ = omega (arith, x.from, x.to) in z)
all (suc k) n e v b x =
    let rest : (n ≡ x.day → ⊥) → Memᴰ v (mondays_from k (n + 1)) =
    λ h. all k (n + 1) e v (omega arith) (later x h) in
    choose (Memᴰ v) _ (λ t. elim (dec_le x.day n) [
      | yes l ↦ let i : x.day ≡ n = omega (arith, x.from) in
          mathlib.Core.List.Memᴰ.head (x.is ∙ ap (λ (d : ℕ). midnight (pos d)) i)
      | no l ↦ mathlib.Core.List.Memᴰ.tail (rest (λ i. omega arith))
    ])
    (λ t. rest (λ i. eqb-false _ _ t (ap weekday i ∙ x.monday)))

-- each is a Monday of the span
pub mondays_only : (a : Axis) (v : Value) → Memᴰ v (mondays_on a) → MondayIn (from_day a) (to_day a) v
unfolding mondays_on
mondays_only a v m = only (to_day a + 1 - from_day a) (from_day a) (to_day a) v (λ p. omega arith) m

-- and each Monday of the span is one
pub mondays_all : (a : Axis) (v : Value) → MondayIn (from_day a) (to_day a) v → Memᴰ v (mondays_on a)
unfolding mondays_on
mondays_all a v x = all (to_day a + 1 - from_day a) (from_day a) (to_day a) v (omega arith) x
