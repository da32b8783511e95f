-- `rules::Table::ask_lengths` meets its contract: the second question is asked of the sizes. Assumes nothing.
use mathlib.Core.Path.{◌≡◌, refl, sym, ◌∙◌}
use mathlib.Core.Bool.{Bool, true, false, not, cond}
use Rattle.std.specs.Prelude.{⊤, Ok, Err}
use Rattle.asking.specs.declared.Refusal.{Refusal}
use Rattle.rules.specs.Cover.{rows_of}
use Rattle.rules.proofs.Judged.{by_sum}
use Rattle.rules.proofs.Table.ask_lengths.Goals as goal

no_gap : (b : Bool) (q : Refusal) (u : ⊤) → Ok u ≡ cond (not b) (Ok tt) (Err q) → b ≡ false
no_gap true q u e = absurd (let z : ⊥ = cc in z)
no_gap false q u e = refl

pub returns : goal.returns
returns c = let ws = rows_of c.args.self.now.rows in
    let l = sym c.is_lacking.ensures ∙ no_gap c.is_lacking.result _ _ c.in_ok-ask.ensures in
    rw (c.ask-2.ensures, l, by_sum ws c.args.self.now.in_range l, ← c.sizes.ensures)
