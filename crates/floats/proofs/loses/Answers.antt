-- `floats::loses` meets its contract, by the law of its test; a number loses what its distance from 0 does. Assumes nothing.
use mathlib.Core.Path.{◌≡◌, sym, ap, ◌∙◌}
use Prim.Native.Nat.{ℕ, ◌/◌, ◌^◌}
use native.Mathlib.Nat.{mul-div_cancel}
use native.Mathlib.Omega.{arith}
use lib.Dec.{leb}
use lib.IntN.{pos, nat_abs}
use lib.Pow.{pow_pos}
use lib.Count.{count_trailing_zeros, trailing_le}
use mir.Facts.{to_z-of_z}
use Rattle.floats.specs.Losses.{lost_in}
use Rattle.floats.proofs.Losses.{small_kept, odd_part, lost_is, lost_size}
use Rattle.floats.proofs.loses.Goals as goal
use Rattle.floats.proofs.loses.Goals.{After-unsigned_abs-size}

size_is : (c : After-unsigned_abs-size) → c.unsigned_abs-size.result ≡ nat_abs c.args.n
size_is c = c.unsigned_abs-size.ensures.value ∙ ap nat_abs (to_z-of_z c.ranges.n)

pub returns-then-size-lt9007199254740992 : goal.returns-then-size-lt9007199254740992
returns-then-size-lt9007199254740992 c =
    sym (small_kept c.args.n (omega (arith, size_is (goal.at.returns-then-size-lt9007199254740992 c).After-unsigned_abs-size)))

pub returns : goal.returns
returns c = let n = c.unsigned_abs-size.result in
    let t = count_trailing_zeros 64 n in
    let (m, o, is) = odd_part 64 n (omega arith) c.unsigned_abs-size.type_inv in
    ap (λ (x : ℕ). leb (2 ^ 53) x) (ap (λ (x : ℕ). x / 2 ^ t) (sym is) ∙ mul-div_cancel m (pow_pos t))
    ∙ lost_is n m t (omega arith) o is (trailing_le 64 n)
    ∙ ap (λ (x : ℕ). lost_in (pos x)) (size_is (goal.at.returns c).After-unsigned_abs-size) ∙ lost_size c.args.n
