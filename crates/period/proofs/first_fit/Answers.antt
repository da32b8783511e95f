-- `period::first_fit` meets its contract: the table has the first 21 steps of the ladder. Assumes nothing.
use borrow.Author.Rules.{rules}
use borrow.Author.Tests.{tests}
use mathlib.Core.Path.{◌≡◌, sym, ap, ◌∙◌}
use Prim.Native.Nat.{ℕ, ◌/◌}
use lib.Dec.{leb}
use Rattle.std.specs.Prelude.{Option, unwrap_or, option_map}
use Rattle.std.specs.List.{find}
use Rattle.std.proofs.lemmas.Iterator.{YieldsList-from_slice}
use Rattle.std.proofs.lemmas.Iterator.Adapters.{option_map_id}
use Rattle.std.proofs.lemmas.Iterator.Consumers.{YieldsList-from_copied}
use Rattle.std.proofs.lemmas.Iterator.Search.{find_from_yields_List}
use Rattle.period.proofs.Fits.{steps_from, fit_found}
use Rattle.period.proofs.first_fit.Goals as goal

pub returns : goal.returns
returns c = let a = c.args in
    let f : option_map (λ (y : ℕ). y) c.find.result ≡ find (λ (x : ℕ). leb (a.total / x) a.n) (steps_from 21 0) =
    find_from_yields_List (λ (x : ℕ). leb (a.total / x) a.n) _ _ c.find.result c.find.ensures.ran
    (YieldsList-from_copied (YieldsList-from_slice (steps_from 21 0) cc)) (λ x b q k. search (rules, tests)) in
    c.unwrap_or.ensures
    ∙ ap (λ (o : Option ℕ). unwrap_or o 10000000) (sym (option_map_id c.find.result) ∙ f)
    ∙ fit_found a.total a.n
