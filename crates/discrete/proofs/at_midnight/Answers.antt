-- `discrete::at_midnight` meets its contract: question 10 is the test of the day. Assumes nothing.
use borrow.Author.Rules.{rules}
use mathlib.Core.Path.{◌∙◌, ap}
use native.Mathlib.Omega.{arith}
use lib.IntN.{ℤ, pos}
use Prim.Native.Nat.{◌≤◌, ◌<◌}
use Rattle.std.specs.Prelude.{Ok}
use Rattle.laws.proofs.Signed.{read_count}
use Rattle.values.specs.Values.{midnight}
use Rattle.calendar.proofs.Questions.{day_in, day_beyond}
use Rattle.axis.proofs.Checked.{in_range_law, out_of_range}
use Rattle.discrete.proofs.at_midnight.Goals as goal

pub returns-in_err-ask : goal.returns-in_err-ask
returns-in_err-ask c = let late : 3652059 < c.args.day = search rules in
    let out = out_of_range (midnight (pos c.args.day)) (day_beyond c.args.day late) in
    search rules

pub returns : goal.returns
returns c = let day : c.args.day ≤ 3652059 = search rules in
    ap (λ (z : ℤ). Ok (record { head = z; tail = pos 0 })) (read_count c.args.day (omega arith))
    ∙ in_range_law (midnight (pos c.args.day)) (day_in c.args.day c.requires day)
