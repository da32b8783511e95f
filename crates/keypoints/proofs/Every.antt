-- The days of a span that pass a test are all of them and nothing else, and a row where it is known which comes next.
-- Assumes nothing.
use mathlib.Core.Path.{◌≡◌, refl, sym, ap, ◌∙◌}
use mathlib.Core.Logic.{inl, inr}
use mathlib.Core.Bool.{Bool, true, false, true≢false}
use mathlib.Core.List.{List, [], ◌∷◌, ◌++◌}
use mathlib.Core.List.{Memᴰ}
use Prim.Native.Nat.{ℕ, zero, suc, ◌+◌, ◌-◌, ◌*◌, ◌/◌, ◌≤◌, ◌<◌}
use native.Mathlib.Nat.{le_refl, div-eq_of_lt, div-eq-sub-div, div-div-eq-div-mul}
use native.Mathlib.Decide.{dec_le}
use native.Mathlib.Numerals.{add-one}
use native.Mathlib.Omega.{arith}
use lib.IntN.{pos}
use Rattle.values.specs.declared.Value.{Value}
use Rattle.values.specs.Values.{midnight}
use Rattle.axis.specs.declared.Axis.{Axis}
use Rattle.counting.specs.Counting.{from_day, to_day}
use Rattle.steps.specs.Progression.{fitting, values_of}
use Rattle.plans.proofs.Cases.{choose, by_test}
use Rattle.keypoints.specs.Every.{days_from, days_on}
use Rattle.keypoints.proofs.Loops.{values_same}
use Rattle.keypoints.proofs.Dates.{on}

-- ---- the days that pass
-- v is such a day from the day s to the day e
pub record DayIn (test : ℕ → Bool) (s e : ℕ) (v : Value) : Type 0 where
  pub day : ℕ
  pub is : v ≡ midnight (pos day)
  pub from : s ≤ day
  pub to : day ≤ e
  pub passes : test day ≡ true

module _ (test : ℕ → Bool) where
  sooner : {s e : ℕ} {v : Value} → DayIn test (s + 1) e v → DayIn test s e v
  sooner x = record { day = x.day; is = x.is; from = omega (arith, x.from); to = x.to; passes = x.passes }

  -- the k days from n on, where they end by e
  only : (k n e : ℕ) (v : Value) → (0 < k → n + k ≤ e + 1) → Memᴰ v (days_from test k n) → DayIn test n e v
  unfolding days_from
  only zero n e v b m = absurd (mathlib.Core.List.Memᴰ.not-nil m)
  only (suc k) n e v b m =
      let l : n + suc k ≤ e + 1 = b (omega arith) in
      let rest : Memᴰ v (days_from test k (n + 1)) → DayIn test n e v =
      λ x. sooner (only k (n + 1) e v (λ p. omega arith) x) in
      choose (λ (l : List Value). Memᴰ v l → DayIn test n e v) _
      (λ t x. elim (mathlib.Core.List.Memᴰ.cases_cons {b = midnight (pos n)} {l = days_from test k (n + 1)} x) [
        | inl p ↦ record { day = n; is = p; from = omega arith; to = omega arith; passes = t }
        | inr y ↦ rest y
      ])
      (λ t x. rest x) m

  later : {n e : ℕ} {v : Value} (x : DayIn test n e v) → (n ≡ x.day → ⊥) → DayIn test (n + 1) e v
  later x h = record { day = x.day; is = x.is; from = omega (arith, x.from, h); to = x.to; passes = x.passes }

  -- the same where they do not end before e
  all : (k n e : ℕ) (v : Value) → e + 1 ≤ n + k → DayIn test n e v → Memᴰ v (days_from test k n)
  unfolding days_from
  all zero n e v b x = absurd (let z : ⊥ = omega (arith, x.from, x.to) in z)
  all (suc k) n e v b x =
      let rest : (n ≡ x.day → ⊥) → Memᴰ v (days_from test k (n + 1)) =
      λ h. all k (n + 1) e v (omega arith) (later x h) in
      choose (Memᴰ v) _ (λ t. elim (dec_le x.day n) [
        | yes l ↦
            let i : x.day ≡ n = omega (arith, x.from) in
            mathlib.Core.List.Memᴰ.head (x.is ∙ ap (λ (d : ℕ). midnight (pos d)) i)
        | no l ↦ mathlib.Core.List.Memᴰ.tail (rest (λ i. omega arith))
      ])
      (λ t. rest (λ i. true≢false (sym x.passes ∙ ap test (sym i) ∙ t)))

  -- each is one of the span
  pub days_only : (a : Axis) (v : Value) → Memᴰ v (days_on test a) → DayIn test (from_day a) (to_day a) v
  unfolding days_on
  days_only a v m = only (to_day a + 1 - from_day a) (from_day a) (to_day a) v (λ p. omega arith) m

  -- and each of the span is there
  pub days_all : (a : Axis) (v : Value) → DayIn test (from_day a) (to_day a) v → Memᴰ v (days_on test a)
  unfolding days_on
  days_all a v x = all (to_day a + 1 - from_day a) (from_day a) (to_day a) v (omega arith) x

-- a list of values, from its first
pub values_first : (f : ℕ → Value) (n : ℕ) → values_of f (suc n) ≡ f 0 ∷ values_of (λ i. f (suc i)) n
values_first f zero = refl
values_first f (suc n) = ap (λ (l : List Value). l ++ (f (suc n) ∷ [])) (values_first f n)

-- of those w apart from f to e, as many as steps of w * m fit
pub apart_fit : (f e w m : ℕ) → 1 ≤ w → fitting ((e + w - f) / w) m ≡ fitting (e + 1 - f) (w * m)
apart_fit f e w m h =
    elim (dec_le f e) [
      | yes l ↦
          let d : e + w - f - w ≡ e - f = omega arith in
          let b : w ≤ e + w - f = omega arith in
          let x : (e + w - f) / w ≡ suc ((e - f) / w) = rw d at (div-eq-sub-div h b) ∙ add-one ((e - f) / w) in
          let y : e + 1 - f ≡ suc (e - f) = omega arith in
          rw (x, y, div-div-eq-div-mul (e - f) w m)
      | no l ↦
          let x : (e + w - f) / w ≡ 0 = div-eq_of_lt (omega arith) in
          let y : e + 1 - f ≡ 0 = omega arith in
          rw (x, y)
    ]

-- ---- days that pass a test, in a row
-- f lists them, and next n is the place of the first that is no earlier than the day n: how it moves to the next day
pub record Moves (test : ℕ → Bool) (f next : ℕ → ℕ) (n : ℕ) : Type 0 where
  pub here : test n ≡ true → (f (next n) ≡ n) × (next (n + 1) ≡ next n + 1)
  pub past : test n ≡ false → next (n + 1) ≡ next n

module _ (test : ℕ → Bool) (f next : ℕ → ℕ) (top : ℕ)
    (moves : (n : ℕ) → 1 ≤ n → n < top → Moves test f next n) where
  one_on : (n : ℕ) → 1 ≤ n → n < top → next n ≤ next (n + 1)
  one_on n h l = by_test (test n) (λ t. omega (arith, ((moves n h l).here t).1)) (λ t. omega (arith, (moves n h l).past t))

  onward : (k n : ℕ) → 1 ≤ n → n + k ≤ top → next n ≤ next (n + k)
  onward zero n h l = let z : n + 0 ≡ n = omega arith in rw z (le_refl (next n))
  onward (suc k) n h l =
      let z : n + suc k ≡ n + 1 + k = omega arith in
      rw z (omega (arith, one_on n h (omega arith), onward k (n + 1) (omega arith) (omega arith)))

  -- among the k days from n on
  pub days_are : (k n : ℕ) → 1 ≤ n → n + k ≤ top →
      days_from test k n ≡ values_of (λ i. on (f (next n + i))) (next (n + k) - next n)
  unfolding days_from
  days_are zero n h l =
      let z : n + 0 ≡ n = omega arith in
      let y : next n - next n ≡ 0 = omega arith in
      rw (z, y)
  days_are (suc k) n h l =
      let z : n + suc k ≡ n + 1 + k = omega arith in
      let m = moves n h (omega arith) in
      let rest = days_are k (n + 1) (omega arith) (omega arith) in
      let g : ℕ → Value = λ i. on (f (next n + i)) in
      rw z
      (choose (λ (v : List Value). v ≡ values_of g (next (n + 1 + k) - next n)) (test n)
      (λ t. let (x, y) = m.here t in
      let c : next (n + 1 + k) - next n ≡ suc (next (n + 1 + k) - next (n + 1)) =
      omega (arith, onward k (n + 1) (omega arith) (omega arith)) in
      let one : next n + 0 ≡ next n = omega arith in
      rw (rest, c, values_first g (next (n + 1 + k) - next (n + 1)), one, x)
      (ap (λ (v : List Value). on n ∷ v)
      (values_same (λ i. on (f (next (n + 1) + i))) (λ i. g (suc i)) (next (n + 1 + k) - next (n + 1))
      (λ i b. ap (λ (p : ℕ). on (f p)) (omega arith)))))
      (λ t. let y = m.past t in rw (rest, y)))

  -- from the day s to the day e
  pub span_are : (s e : ℕ) → 1 ≤ s → s ≤ top → e + 1 ≤ top →
      days_from test (e + 1 - s) s ≡ values_of (λ i. on (f (next s + i))) (next (e + 1) - next s)
  unfolding days_from
  span_are s e h l b =
      elim (dec_le s (e + 1)) [
        | yes p ↦ let z : s + (e + 1 - s) ≡ e + 1 = omega arith in rw z at (days_are (e + 1 - s) s h (omega arith))
        | no p ↦
            let z : e + 1 + (s - (e + 1)) ≡ s = omega arith in
            let g : next (e + 1) ≤ next s = rw z at (onward (s - (e + 1)) (e + 1) (omega arith) (omega arith)) in
            let none : e + 1 - s ≡ 0 = omega arith in
            let c : next (e + 1) - next s ≡ 0 = omega arith in
            rw (none, c)
      ]
