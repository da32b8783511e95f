-- `text_read::until` meets its contract: until_of is the place that std's search gives. Assumes nothing.
use lib.Dec.{eqb}
use Rattle.std.proofs.Common.{rules, tests}
use Rattle.std.proofs.lemmas.Iterator.{YieldsList-from_slice}
use Rattle.std.proofs.lemmas.Iterator.Search.{position_from_yields_List}
use Rattle.text_read.proofs.Fields.{found}
use Rattle.text_read.proofs.until.Goals as goal

pub returns-clause-value : goal.returns-clause-value
returns-clause-value c =
    let s = c.args.s.now in
    let e = position_from_yields_List (λ b. eqb b c.args.c) _ _ _ c.position.ensures.ran
    (YieldsList-from_slice s c.iter.ensures.rest) (λ x b q k. search (rules, tests)) in
    rw (c.unwrap_or.ensures, e) (found c.args.c s)
