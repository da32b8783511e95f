-- `mapping::scale_of` meets its contract. Assumes nothing.
use borrow.Author.Rules.{rules}
use mathlib.Core.Path.{◌≡◌, ap, ◌∙◌}
use lib.IntN.{ℤ}
use lib.Ieee.{binary64, of_int}
use Rattle.std.specs.Prelude.{Option}
use Rattle.std.specs.Option.{option_map}
use Rattle.mapping.specs.Mapping.{with_total}
use Rattle.mapping.proofs.Ranges.{width_in, width_back}
use Rattle.mapping.proofs.scale_of.Goals as goal
use Rattle.mapping.proofs.scale_of.Goals.{After-map}

pub int_to_float-result : goal.int_to_float-result
int_to_float-result c = let l = c.args.l in
    rw (width_back l c.width.result c.requires.1 c.width.ensures) (width_in l c.requires.1)

spans : (c : After-map) → c.map.result ≡ option_map with_total c.span.result
spans c = search rules

pub invariant_of-result : goal.invariant_of-result
invariant_of-result c = record {
  ready = record {
    real = c.requires.0;
    on_page = c.requires.1;
    wide = ap (of_int binary64) (width_back c.args.l c.width.result c.requires.1 c.width.ensures);
    spans = spans (goal.at.invariant_of-result c).After-map ∙ ap (λ (n : Option ℤ). option_map with_total n) c.span.ensures;
  };
}
