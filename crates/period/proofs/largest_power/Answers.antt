-- `period::largest_power` meets its contract: the powers are tried from the largest down. Assumes nothing.
use borrow.Author.Rules.{rules}
use borrow.Author.Tests.{tests}
use mathlib.Core.Path.{◌≡◌, sym, ap, ◌∙◌}
use Prim.Native.Nat.{ℕ, ◌/◌, ◌^◌}
use lib.Dec.{leb}
use Rattle.std.specs.Prelude.{Option, unwrap_or, option_map, reverse}
use Rattle.std.specs.List.{find}
use Rattle.std.proofs.lemmas.Iterator.Search.{find_from_yields_List}
use Rattle.std.proofs.lemmas.Iterator.Adapters.{YieldsList-from_rev_slice, option_map_id}
use Rattle.std.proofs.lemmas.Iterator.Consumers.{YieldsList-from_copied}
use Rattle.period.proofs.Exponents.{powers_to, first_power, from_top}
use Rattle.period.proofs.largest_power.Goals as goal

pub returns : goal.returns
returns c = let a = c.args in
    let f : option_map (λ (y : ℕ). y) c.find.result ≡ find (λ (x : ℕ). leb x (a.span / a.n)) (powers_to 18) =
    find_from_yields_List (λ (x : ℕ). leb x (a.span / a.n)) _ _ c.find.result c.find.ensures.ran
    (YieldsList-from_copied (YieldsList-from_rev_slice (reverse (powers_to 18)) cc)) (λ x b q k. search (rules, tests)) in
    c.unwrap_or.ensures
    ∙ ap (λ (o : Option ℕ). unwrap_or o 1) (sym (option_map_id c.find.result) ∙ f)
    ∙ first_power a.span a.n c.requires 18
    ∙ ap (λ (k : ℕ). 10 ^ k) (from_top a.span a.n)
