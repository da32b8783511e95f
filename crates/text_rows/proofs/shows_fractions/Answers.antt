-- `text_rows::shows_fractions` meets its contract: the chunks of two are the ticks. Assumes nothing.
use mathlib.Core.Path.{◌∙◌}
use Rattle.std.proofs.Common.{rules, tests}
use Rattle.std.proofs.lemmas.Iterator.{YieldsList-from_slice}
use Rattle.std.proofs.lemmas.Iterator.Search.{any_from_yields_List}
use Rattle.std.specs.Simd.{first_chunks}
use lib.ListN.{length}
use Prim.Native.Nat.{◌/◌}
use Rattle.text_rows.specs.Answers.{has_fraction}
use Rattle.text_rows.proofs.Pairs.{pair, any_fraction}
use Rattle.text_rows.proofs.shows_fractions.Goals as goal

pub returns : goal.returns
returns c =
    let l = c.args.list.now in
    any_from_yields_List (λ x. has_fraction (pair x)) _ _ _ c.any.ensures.ran
    (YieldsList-from_slice (first_chunks 2 (length l / 2) l) (search rules)) (λ x b q k. search (rules, tests))
    ∙ any_fraction l
