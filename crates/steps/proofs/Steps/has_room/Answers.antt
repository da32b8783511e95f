-- `steps::Steps::has_room` meets its contract: the count is compared with half of the numbers, rounded down. Assumes nothing.
use mathlib.Core.Path.{◌≡◌, sym, ◌∙◌}
use Prim.Native.Nat.{ℕ, ◌*◌, ◌/◌, ◌≤◌, ◌<◌}
use native.Mathlib.Decide.{dec_le}
use native.Mathlib.Omega.{arith}
use lib.Dec.{leb}
use borrow.Author.Tests.{le-leb, lt-leb}
use Rattle.steps.proofs.Pairs.{count_is}
use Rattle.steps.proofs.Steps.has_room.Goals as goal

same_test : (a b c d : ℕ) → (a ≤ b → c ≤ d) → (b < a → d < c) → leb a b ≡ leb c d
same_test a b c d yes-too no-too =
    elim (dec_le a b) [
      | yes h ↦ le-leb a b h ∙ sym (le-leb c d (yes-too h))
      | no h ↦ let l : b < a = omega arith in lt-leb a b l ∙ sym (lt-leb c d (no-too l))
    ]

pub returns : goal.returns
returns c = let x = c.args in
    rw (count_is x.self) (same_test x.self.count (x.k / 2) (2 * x.self.count) x.k (λ h. omega arith) (λ h. omega arith))
