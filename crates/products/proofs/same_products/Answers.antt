-- `products::same_products` meets its contract: no product exceeds 128 bits. Assumes nothing.
use Rattle.std.proofs.Common.{rules, ◌*ℤ◌}
use mathlib.Core.Path.{◌≡◌, refl, sym, ◌∙◌, ap}
use mathlib.Core.Bool.{Bool, true, false, false≢true}
use lib.Dec.{eqb, eqb→eq, eqb_refl}
use lib.IntN.{ℤ}
use mir.Syntax.{w128}
use mir.Val.{SFits, of_z, to_z}
use mir.Facts.{to_z-of_z}
use Rattle.laws.specs.Numbers.{equal}
use Rattle.laws.proofs.Tests.{holds, is_true}
use Rattle.laws.proofs.Signed.{equal_true, true_equal}
use Rattle.products.proofs.same_products.Goals as goal

-- the code's `==` compares the numbers' bits
same_bits : (x y : ℤ) → SFits w128 x → SFits w128 y → eqb (of_z w128 x) (of_z w128 y) ≡ equal x y
same_bits x y f g = go (eqb (of_z w128 x) (of_z w128 y)) (equal x y) refl refl
  where
    go : (s t : Bool) → eqb (of_z w128 x) (of_z w128 y) ≡ s → equal x y ≡ t → s ≡ t
    go true true d e = refl
    go true false d e = absurd (false≢true (sym e ∙ true_equal x y
        (sym (to_z-of_z f) ∙ ap (to_z w128) (eqb→eq _ _ (is_true _ d)) ∙ to_z-of_z g)))
    go false true d e = absurd (false≢true (sym d ∙ ap (λ (z : ℤ). eqb (of_z w128 x) (of_z w128 z)) (sym (equal_true x y e))
        ∙ holds _ (eqb_refl (of_z w128 x))))
    go false false d e = refl

pub returns : goal.returns
returns c =
    let a : to_z w128 (of_z w128 c.from.result) ≡ c.args.a = search rules in
    let b : to_z w128 (of_z w128 c.from-2.result) ≡ c.args.b = search rules in
    let x : to_z w128 (of_z w128 c.from-3.result) ≡ c.args.c = search rules in
    let y : to_z w128 (of_z w128 c.from-4.result) ≡ c.args.d = search rules in
    let p : SFits w128 (c.args.a *ℤ c.args.b) = search rules in
    let q : SFits w128 (c.args.c *ℤ c.args.d) = search rules in
    rw (a, b, x, y) (same_bits (c.args.a *ℤ c.args.b) (c.args.c *ℤ c.args.d) p q)
