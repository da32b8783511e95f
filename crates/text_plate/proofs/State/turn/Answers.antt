-- `text_plate::State::turn` meets its contract: the chunk goes to the line that was begun, or finishes it. Assumes nothing.
use mathlib.Core.Path.{◌≡◌, refl}
use mathlib.Core.Bool.{Bool, true, false, cond}
use mathlib.Core.List.{List}
use Prim.Native.Nat.{ℕ}
use native.Mathlib.Omega.{arith}
use denote.Ref.{Bor}
use Rattle.std.specs.Prelude.{Some, None}
use Rattle.std.specs.Bool.{then_some}
use Rattle.std.specs.Option.{option_copied}
use Rattle.std.proofs.lemmas.Grind.{common_steps}
use Rattle.text_plate.proofs.Output.{turned_on, turned_end}
use Rattle.text_plate.proofs.State.turn.Goals as goal

copied : (g : Bool) (rest : Bor (List ℕ)) → option_copied (then_some g rest) ≡ cond g (Some rest.now) None
copied true rest = refl
copied false rest = refl

pub returns-in_default : goal.returns-in_default
returns-in_default g c =
    let k = c.until-k.ensures in
    turned_on _ _ _ _ (record {
      line = grind (arith, common_steps, c.keep.ensures, k.value, k.upper_bound, c.get.ensures.lookup, c.in_default.is);
      left = grind (arith, common_steps, k.value, c.get.ensures.lookup, c.in_default.is);
    })

pub returns : goal.returns
returns g c =
    let k = c.until-k.ensures in
    rw (c.then_some.ensures, copied)
    (turned_end _ _ _ c.ended_by.result.now _ c.finished-goes.result (record {
      line = grind (arith, c.ended_by.ensures, k.value);
      left = grind (arith, common_steps, k.value, c.get.ensures.lookup, c.in-Some.is);
    }) c.finished-goes.ensures.value c.clear.ensures
    (λ l. omega arith, omega arith) c.finished-goes.ensures.wrote)
