-- The places of a progression: in range before its count, and each from the one before by sums. Assumes nothing.
use mathlib.Core.Path.{◌≡◌, ap, ◌∙◌}
use Prim.Native.Nat.{ℕ, ◌+◌, ◌-◌, ◌*◌, ◌/◌, ◌%◌, ◌^◌, ◌≤◌, ◌<◌}
use native.Mathlib.Nat.{mul-le-mul_right, div-lt_iff_lt-mul, mod-lt, add-mul, one-mul, div-add-mod'}
use native.Mathlib.Nat.{mul-add-div_right, mul-add-mod_self_right, div-eq_of_lt, mod-eq_of_lt, div-eq-sub-div}
use native.Mathlib.Nat.{mod-eq-sub-mod}
use native.Mathlib.Omega.{arith}
use lib.IntN.{ℤ, pos, negsuc, ◌+ℤ◌}
use lib.Signed.{mag}
use mir.Syntax.{w64}
use mir.Val.{SFits}
use Rattle.laws.specs.Numbers.{pos_part, neg_part}
use Rattle.laws.proofs.Signed.{add, fits}
use Rattle.steps.specs.declared.Heads.{Heads}
use Rattle.steps.specs.declared.Steps.{Steps}
use Rattle.steps.specs.Progression.{number_at, InRange}

-- ---- a sum's whole heads and its rest
module _ (x k per : ℕ) (p : 0 < per) where
  whole : x + k ≡ (x / per + k / per) * per + (x % per + k % per)
  whole = omega (arith, div-add-mod' x per, div-add-mod' k per, add-mul (x / per) (k / per) per)

  heads : (x + k) / per ≡ x / per + k / per + (x % per + k % per) / per
  heads = ap (λ (n : ℕ). n / per) whole ∙ mul-add-div_right p (x / per + k / per) (x % per + k % per)

  rest : (x + k) % per ≡ (x % per + k % per) % per
  rest = ap (λ (n : ℕ). n % per) whole ∙ mul-add-mod_self_right (x / per + k / per) per (x % per + k % per)

  -- the rests are less than a head
  kept : x % per + k % per < per → (x / per + k / per ≡ (x + k) / per) × (x % per + k % per ≡ (x + k) % per)
  kept h = (omega (arith, heads, div-eq_of_lt h), omega (arith, rest, mod-eq_of_lt h))

  -- or a head is carried
  carried : per ≤ x % per + k % per → (x / per + k / per + 1 ≡ (x + k) / per) × (x % per + k % per - per ≡ (x + k) % per)
  carried h =
      let y = x % per + k % per in
      let under : y - per < per = omega (arith, mod-lt x p, mod-lt k p) in
      (omega (arith, heads, div-eq-sub-div p h, div-eq_of_lt under), omega (arith, rest, mod-eq-sub-mod h, mod-eq_of_lt under))

pub next_place : (s : Steps) (i : ℕ) → number_at s (i + 1) ≡ number_at s i + s.step
next_place s i = omega (arith, add-mul i 1 s.step, one-mul s.step)

module _ (per : ℕ) (s : Steps) (i whole part : ℕ) (p : 0 < per) (w : whole ≡ number_at s i / per)
    (q : part ≡ number_at s i % per) where
  pub next_kept : part + s.step % per < per
      → (whole + s.step / per ≡ number_at s (i + 1) / per) × (part + s.step % per ≡ number_at s (i + 1) % per)
  next_kept h = rw (next_place s i, w, q) (kept (number_at s i) s.step per p (rw q at h))

  pub next_carried : per ≤ part + s.step % per
      → (whole + s.step / per + 1 ≡ number_at s (i + 1) / per) × (part + s.step % per - per ≡ number_at s (i + 1) % per)
  next_carried h = rw (next_place s i, w, q) (carried (number_at s i) s.step per p (rw q at h))

-- ---- before the count
up_base : (z : ℤ) → mag z < 2 ^ 60 → pos_part z < 2 ^ 60
up_base (pos n) h = h
up_base (negsuc n) h = omega arith

dn_base : (z : ℤ) → mag z < 2 ^ 60 → neg_part z ≤ 2 ^ 60
dn_base (pos n) h = omega arith
dn_base (negsuc n) h = omega arith

module _ (s : Steps) (i : ℕ) (l : i < s.count) where
  up_to_law : i * s.step ≤ (s.count - 1) * s.step
  up_to_law = mul-le-mul_right s.step (omega arith)

  pub month_small : number_at s (s.count - 1) < 120000 → number_at s i < 120000
  month_small m = omega (arith, up_to_law)

  module _ (h : Heads) (r : InRange h s) where
    pub head_small : number_at s i / h.per < 2 ^ 60
    head_small =
        let d = r.divides in
        let a : number_at s (s.count - 1) < 2 ^ 60 * h.per = (div-lt_iff_lt-mul d).0 r.last in
        let b : number_at s i < 2 ^ 60 * h.per = omega (arith, up_to_law) in
        (div-lt_iff_lt-mul d).1 b

    pub rest_small : number_at s i % h.per < 2 ^ 60
    rest_small = omega (arith, mod-lt (number_at s i) r.divides, r.small)

    pub head_fits : SFits w64 (h.base +ℤ pos (number_at s i / h.per))
    head_fits =
        fits (h.base +ℤ pos (number_at s i / h.per)) (pos_part h.base + number_at s i / h.per) (neg_part h.base)
        (omega (arith, add h.base (pos (number_at s i / h.per))))
        (omega (arith, head_small, up_base h.base r.base)) (omega (arith, dn_base h.base r.base))
