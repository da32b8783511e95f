-- `floats::ceil_quotient` meets its contract, by the law of the ceiling. Assumes nothing.
use mathlib.Core.Path.{◌≡◌, sym, ◌∙◌}
use Prim.Native.Nat.{ℕ, zero, suc, ◌+◌, ◌-◌, ◌*◌, ◌/◌, ◌%◌, ◌<◌, min}
use native.Mathlib.Nat.{div-add-mod', mod-lt}
use native.Mathlib.Omega.{arith}
use lib.Ieee.{binary64}
use Rattle.laws.proofs.Quotients.{quotient_is}
use Rattle.floats.specs.Rounding.{ceil_of, upward}
use Rattle.floats.proofs.Quotients.{ratio_ceil}
use Rattle.floats.proofs.ceil_quotient.Goals as goal

-- std's word for it
one_more : (n d : ℕ) → 0 < d → n / d + min 1 (n % d) ≡ upward n d
one_more n d p = go (n / d) (n % d) (div-add-mod' n d) (mod-lt n p)
  where
    go : (q r : ℕ) → q * d + r ≡ n → r < d → q + min 1 r ≡ upward n d
    go q zero e l = let m : q + min 1 0 ≡ q = omega arith in m ∙ sym (quotient_is (n + (d - 1)) d q p (omega arith) (omega arith))
    go q (suc r) e l =
        let m : q + min 1 (suc r) ≡ suc q = omega arith in
        m ∙ sym (quotient_is (n + (d - 1)) d (suc q) p (omega arith) (omega arith))

pub returns : goal.returns
unfolding ceil_of
returns c = c.div_ceil.ensures ∙ one_more c.args.n c.args.d c.requires.1
    ∙ sym (ratio_ceil binary64 c.args.n c.args.d c.requires.0 c.requires.1 c.requires.2)
