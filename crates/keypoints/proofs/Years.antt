-- The two searches of the yearly list for its step, by powers of ten and then by 1, 2, 5 and 10, find `first_fit`.
-- Assumes nothing.
use mathlib.Core.Path.{◌≡◌, refl, sym, ◌∙◌}
use mathlib.Core.Bool.{cond}
use mathlib.Core.List.{[], ◌∷◌}
use mathlib.Core.Logic.{inl, inr}
use Prim.Native.Nat.{ℕ, zero, suc, ◌+◌, ◌*◌, ◌/◌, ◌%◌, ◌^◌, ◌≤◌, ◌<◌}
use native.Mathlib.Nat.{pow-suc, div-eq_of_lt, one-le-pow, mul-le-mul_left, eq-or-lt_of_le}
use native.Mathlib.Omega.{arith}
use lib.Dec.{leb, ltb, lit<, lit≤}
use lib.Ieee.Nearest.{div_mono}
use lib.ListN.{get_or}
use borrow.Author.Tests.{leb-true, leb-false, ltb-true, ltb-false}
use Rattle.period.specs.Ladders.{step_at, decimal_ladder, rare, first_fit}
use Rattle.period.proofs.Search.{Come, come_first}
use Rattle.period.proofs.Fits.{fit_here, fit_next}
use Rattle.plans.proofs.Cases.{choose}
use Rattle.keypoints.specs.Months.{exp10_from, try_freq, freq_of}

-- step k is c times 10 ^ i
pub step_is : (i r c k : ℕ) → k ≡ 3 * i + r → r < 3 → get_or (1 ∷ 2 ∷ 5 ∷ []) r 0 ≡ c → step_at (decimal_ladder 1) k ≡ 10 ^ i * c
step_is i r c k f h e =
    let q : k / 3 ≡ i = omega arith in
    let m : k % 3 ≡ r = omega arith in
    rw (q, m, e) (omega arith)

-- a longer step goes in no more often
fewer : (total x y n : ℕ) → 0 < x → x ≤ y → n < total / y → n < total / x
fewer total x y n p l h = omega (arith, div_mono total y total x (omega arith) p (mul-le-mul_left total l))

module _ (total n : ℕ) (small : total < 10000000) where
  -- no step before k fits
  abbrev At : ℕ → Type 0
  At k = Come (rare total n) 21 k

  -- no step before 10 ^ i fits, and 10 ^ (i + 1) does
  record Found (i : ℕ) : Type 0 where
    most : i ≤ 6
    come : At (3 * i)
    fits : total / (10 ^ i * 10) ≤ n

  module _ (k s : ℕ) (w : At k) (e : step_at (decimal_ladder 1) k ≡ s) where
    taken : total / s ≤ n → s ≡ first_fit total n
    taken h = sym e ∙ fit_here total n w (rw e h)

    passed : k < 21 → n < total / s → At (suc k)
    passed l h = fit_next total n w l (rw e h)

  -- ---- a power more where the next one goes in too often
  module _ (i : ℕ) (l : i ≤ 6) (c : At (3 * i)) (h : n < total / (10 ^ i * 10)) where
    more : suc i ≤ 6
    more = elim (eq-or-lt_of_le l) [ inl e ↦ absurd (clash (rw e at h)) | inr q ↦ q ]
      where
        clash : n < total / 10000000 → ⊥
        clash g = omega (arith, div-eq_of_lt small)

    each : (k r c : ℕ) → k ≡ 3 * i + r → r < 3 → get_or (1 ∷ 2 ∷ 5 ∷ []) r 0 ≡ c → 0 < c → c ≤ 10 → At k → At (suc k)
    each k r c f b e p m w =
        let x : 0 < 10 ^ i = one-le-pow i 10 (lit< tt) in
        let y : 10 ^ i * 1 ≤ 10 ^ i * c = mul-le-mul_left (10 ^ i) p in
        passed k (10 ^ i * c) w (step_is i r c k f b e) (omega arith)
        (fewer total (10 ^ i * c) (10 ^ i * 10) n (omega arith) (mul-le-mul_left (10 ^ i) m) h)

    three : At (3 * suc i)
    three =
        let z : suc (suc (suc (3 * i))) ≡ 3 * suc i = omega arith in
        rw z at (each (suc (suc (3 * i))) 2 5 (omega arith) (lit< tt) refl (lit< tt) (lit≤ tt)
        (each (suc (3 * i)) 1 2 (omega arith) (lit< tt) refl (lit< tt) (lit≤ tt)
        (each (3 * i) 0 1 (omega arith) (lit< tt) refl (lit< tt) (lit≤ tt) c)))

  exp10_found : (P : ℕ → Type 0) (turns i : ℕ) → 6 < turns + i → i ≤ 6 → At (3 * i) → ((j : ℕ) → Found j → P (10 ^ j)) →
      P (exp10_from turns total n (10 ^ i))
  unfolding exp10_from
  exp10_found P zero i t l c k = absurd (let z : ⊥ = omega arith in z)
  exp10_found P (suc turns) i t l c k =
      let next = total / (10 ^ i * 10) in
      choose P (ltb n next)
      (λ e. let h = ltb-true n next e in
      rw (pow-suc 10 i) at (exp10_found P turns (suc i) (omega arith) (more i l c h) (three i l c h) k))
      (λ e. k i (record { most = l; come = c; fits = ltb-false n next e }))

  -- ---- the tries with a power
  module _ (i : ℕ) (f : Found i) where
    -- one try: step k is c times 10 ^ i
    try : (k c y : ℕ) → At k → step_at (decimal_ladder 1) k ≡ 10 ^ i * c → k < 21 → (At (suc k) → y ≡ first_fit total n) →
        cond (leb (total / (10 ^ i * c)) n) (c * 10 ^ i) y ≡ first_fit total n
    try k c y w e l m =
        let o : c * 10 ^ i ≡ 10 ^ i * c = omega arith in
        let times = total / (10 ^ i * c) in
        choose (λ (s : ℕ). s ≡ first_fit total n) (leb times n)
        (λ t. o ∙ taken k (10 ^ i * c) w e (leb-true times n t))
        (λ t. m (passed k (10 ^ i * c) w e l (leb-false times n t)))

    last : At (suc (suc (suc (3 * i)))) → 10 * 10 ^ i ≡ first_fit total n
    last w =
        let k = suc (suc (suc (3 * i))) in
        let s = step_is (suc i) 0 1 k (omega arith) (lit< tt) refl in
        let e : 10 ^ suc i * 1 ≡ 10 ^ i * 10 = rw (pow-suc 10 i) (omega arith) in
        let o : 10 * 10 ^ i ≡ 10 ^ i * 10 = omega arith in
        o ∙ taken k (10 ^ i * 10) w (s ∙ e) f.fits

    try_found : try_freq total n (10 ^ i) (1 ∷ 2 ∷ 5 ∷ 10 ∷ []) (10 ^ i) ≡ first_fit total n
    unfolding try_freq
    try_found =
        let l = f.most in
        try (3 * i) 1 _ f.come (step_is i 0 1 (3 * i) (omega arith) (lit< tt) refl) (omega arith)
        (λ u. try (suc (3 * i)) 2 _ u (step_is i 1 2 (suc (3 * i)) (omega arith) (lit< tt) refl) (omega arith)
        (λ v. try (suc (suc (3 * i))) 5 _ v (step_is i 2 5 (suc (suc (3 * i))) (omega arith) (lit< tt) refl) (omega arith)
        (λ w. choose (λ (s : ℕ). s ≡ first_fit total n) (leb (total / (10 ^ i * 10)) n) (λ t. last w) (λ t. last w))))

  pub freq_is : (turns : ℕ) → 6 < turns → freq_of turns total n ≡ first_fit total n
  unfolding freq_of
  freq_is turns h =
      exp10_found (λ (e : ℕ). try_freq total n e (1 ∷ 2 ∷ 5 ∷ 10 ∷ []) e ≡ first_fit total n) turns 0 (omega arith) (omega arith)
      come_first try_found
