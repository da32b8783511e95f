-- `feed::Line::ended_by` meets its contract: where nothing was kept, the line is the part's front. Assumes nothing.
use mathlib.Core.Path.{◌≡◌, refl}
use mathlib.Core.List.{[]}
use Prim.Native.Nat.{min}
use native.Mathlib.Omega.{arith}
use lib.ListN.{length}
use Rattle.std.proofs.lemmas.Bool.Decides.{nat_tests}
use Rattle.feed.proofs.Keeping.{kept}
use Rattle.feed.proofs.Line.ended_by.Goals as goal

pub returns-then-self-eq0 : goal.returns-then-self-eq0
returns-then-self-eq0 c =
    let none : c.self.inside.len ≡ 0 = grind (arith, nat_tests) in
    let n : c.min.result ≡ min (length c.args.part.now) 121 = grind (arith, nat_tests, c.min.ensures) in
    rw (← c.self.view_is, none) (kept [] c.args.part.now 121 _ refl n)
