-- `text_read::digits` meets its contract: n is the value of the digits before b, and what is left decides. Assumes nothing.
use mathlib.Core.Path.{◌≡◌}
use Prim.Native.Nat.{◌^◌, ◌<◌}
use lib.ListN.{drop}
use Rattle.text_read.specs.Fields.{digits_from, digits_of}
use Rattle.text_read.proofs.digits.Given as goal

abbrev pub invariant-loop-b : goal.invariant-loop-b
invariant-loop-b l = (l.n < 10 ^ l.b-index) × (digits_of l.s ≡ digits_from l.n (drop l.b-index l.s))
