-- Tests that were joined: what the whole says of its parts. Assumes nothing.
use mathlib.Core.Path.{◌≡◌, refl}
use mathlib.Core.Bool.{Bool, true, false, cond, ◌&&◌, ◌||◌}
use Prim.Native.Nat.{ℕ, ◌≤◌}
use native.Mathlib.Omega.{arith}
use lib.Dec.{T}

pub both_true : (p q : Bool) → p && q ≡ true → (p ≡ true) × (q ≡ true)
both_true true q e = (refl, e)
both_true false q e = let z : ◌≡◌ {A = ℕ} 0 1 = cc in absurd (let w : ⊥ = omega arith in w)

pub either_false : (p q : Bool) → p || q ≡ false → (p ≡ false) × (q ≡ false)
either_false true q e = let z : ◌≡◌ {A = ℕ} 0 1 = cc in absurd (let w : ⊥ = omega arith in w)
either_false false q e = (refl, e)

pub and_true : (b : Bool) → b && true ≡ b
and_true true = refl
and_true false = refl

pub and_false : (b : Bool) → b && false ≡ false
and_false true = refl
and_false false = refl

pub holds : (b : Bool) → T b → b ≡ true
holds true t = refl
holds false t = absurd t

pub is_true : (b : Bool) → b ≡ true → T b
is_true true e = tt
is_true false e = let z : ◌≡◌ {A = ℕ} 0 1 = cc in absurd (let w : ⊥ = omega arith in w)

pub bit : (b : Bool) → cond b 1 0 ≤ 1
bit true = omega arith
bit false = omega arith
