-- `floats::round_to_i32` meets its contract: a float is what its bits say. Assumes nothing.
use mathlib.Core.Path.{◌≡◌, refl, sym, ap, ◌∙◌}
use mathlib.Core.Bool.{Bool, true, false, not, cond}
use Prim.Native.Nat.{ℕ, suc, ◌-◌, ◌^◌, min}
use native.Mathlib.Nat.{lt_of_lt_of_le}
use native.Mathlib.Omega.{arith}
use borrow.Author.Tests.{le-leb, lt-leb}
use lib.Dec.{T, lit≤, leb}
use lib.IntN.{ℤ, pos, neg_ℤ, ◌-ℤ◌}
use lib.Ieee.{Float, binary32, fits, of_bits, to_bits, to_signed, is_nan}
use lib.Ieee.Bits.{of_bits-to_bits}
use lib.Ieee.Casts.{to_signed_in}
use denote.Floats.{passes}
use mir.Syntax.{w32, w64}
use mir.Val.{SFits, to_z, of_z}
use mir.Facts.{to_z-of_z}
use Rattle.laws.proofs.Signed.{read_count, from_zero}
use Rattle.floats.specs.Rounding.{round_f}
use Rattle.floats.proofs.Casts.{is_nan_law, no_nan, no_nan_bits, sign_cast}
use Rattle.floats.proofs.Rounds.{rounds_sign}
use Rattle.floats.proofs.round_to_i32.Goals as goal
use Rattle.floats.proofs.round_to_i32.Goals.{After-round_of-size, Else-is_nan, Start}

holds : (c : Start) → T (fits binary32 c.args.x)
holds c = passes (fits binary32 c.args.x) c.well_formed.0.1

pub returns-then-is_nan : goal.returns-then-is_nan
unfolding to_signed round_f
returns-then-is_nan c = rw (is_nan_law c.args.x (sym c.is_nan.ensures.value ∙ c.if-is_nan.true)) refl

number : (c : Else-is_nan) → T (not (is_nan c.args.x))
number c = no_nan c.args.x (sym c.is_nan.ensures.value ∙ c.if-is_nan.false)

pub round_of-size-requires : goal.round_of-size-requires
round_of-size-requires c = let x = c.args.x in
    let p = goal.at.round_of-size-requires c in
    rw c.from-bits.ensures (no_nan_bits binary32 x (holds p.Start) (number p.Else-is_nan))

-- the rounded number, by its size
law : (c : After-round_of-size) → let x = c.args.x in
    let n = c.round_of-size.result in
    to_signed 31 (round_f binary32 x)
    ≡ cond (leb (2 ^ 31) (to_bits binary32 x)) (neg_ℤ (pos (min n (suc (2 ^ 31 - 1))))) (pos (min n (2 ^ 31 - 1)))
law c = let x = c.args.x in
    let b = to_bits binary32 x in
    let p = goal.at.After-round_of-size c in
    let same : of_bits binary32 b ≡ x = of_bits-to_bits binary32 x (holds p.Start) in
    ap (λ (y : Float). to_signed 31 (round_f binary32 y)) (sym same)
    ∙ sign_cast 31 (lit≤ tt) (round_f binary32 (of_bits binary32 b)) (leb (2 ^ 31) b)
    (rounds_sign binary32 b (rw same (number p.Else-is_nan)))
    ∙ ap (λ (n : ℕ). cond (leb (2 ^ 31) b) (neg_ℤ (pos (min n (suc (2 ^ 31 - 1))))) (pos (min n (2 ^ 31 - 1))))
    (sym (rw c.from-bits.ensures at c.round_of-size.ensures))

by_sign : (c : After-round_of-size) (t : Bool) → leb (2 ^ 31) c.from-bits.result ≡ t →
    let n = c.round_of-size.result in
    cond t (neg_ℤ (pos (min n 2147483648))) (pos (min n 2147483647)) ≡ to_signed 31 (round_f binary32 c.args.x)
by_sign c t e = let n = c.round_of-size.result in
    sym (law c ∙ ap (λ (b : Bool). cond b (neg_ℤ (pos (min n 2147483648))) (pos (min n 2147483647)))
    (ap (leb (2 ^ 31)) (sym c.from-bits.ensures) ∙ e))

fits_32 : (x : Float) → SFits w32 (to_signed 31 x)
fits_32 x = record { sfits = to_signed_in 31 x }

fits_64 : (x : Float) → SFits w64 (to_signed 31 x)
fits_64 x = record { sfits = lt_of_lt_of_le (to_signed_in 31 x) (lit≤ tt) }

pub returns-then-bits-ge-SIGN : goal.returns-then-bits-ge-SIGN
returns-then-bits-ge-SIGN c = let y = round_f binary32 c.args.x in
    let m = c.min.result in
    let is : pos 0 -ℤ to_z w64 m ≡ to_signed 31 y =
    ap (λ (z : ℤ). pos 0 -ℤ z) (read_count m (omega (arith, c.min.ensures))) ∙ from_zero m
    ∙ ap (λ (n : ℕ). neg_ℤ (pos n)) c.min.ensures
    ∙ by_sign (goal.at.returns-then-bits-ge-SIGN c).After-round_of-size true (le-leb (2 ^ 31) _ c.if-bits-ge-SIGN.true) in
    ap (λ (z : ℤ). to_z w32 (of_z w32 (to_z w64 (of_z w64 z)))) is
    ∙ ap (λ (z : ℤ). to_z w32 (of_z w32 z)) (to_z-of_z (fits_64 y)) ∙ to_z-of_z (fits_32 y)

pub returns : goal.returns
returns c = let y = round_f binary32 c.args.x in
    let is : pos c.min-2.result ≡ to_signed 31 y =
    ap pos c.min-2.ensures
    ∙ by_sign (goal.at.returns c).After-round_of-size false (lt-leb (2 ^ 31) _ c.if-bits-ge-SIGN.false) in
    ap (λ (z : ℤ). to_z w32 (of_z w32 z)) is ∙ to_z-of_z (fits_32 y)
