-- `text_read::nanos` meets its contract: the power of ten sets the zeros behind the digits. Assumes nothing.
use mathlib.Core.Path.{◌≡◌, sym, ◌∙◌}
use Prim.Native.Nat.{◌-◌, ◌^◌}
use native.Mathlib.Omega.{arith}
use lib.ListN.{length}
use Rattle.text_read.specs.Fields.{times, nanos_of}
use Rattle.text_read.proofs.Fields.{below_nine, nanos_long, nanos_are}
use Rattle.text_read.proofs.nanos.Goals as goal
use Rattle.text_read.proofs.nanos.Goals.{After-digits}

pub returns-then-s-gt9-clause-value : goal.returns-then-s-gt9-clause-value
returns-then-s-gt9-clause-value c = sym (nanos_long _ c.if-s-gt9.true)

-- the digits decide
read : (c : After-digits) → let s = c.args.s.now in times (10 ^ (9 - length s)) c.digits.result ≡ nanos_of s
read c = rw c.digits.ensures.value (sym (nanos_are c.args.s.now (omega arith)))

pub returns-in_err-n-clause-value : goal.returns-in_err-n-clause-value
returns-in_err-n-clause-value c =
    c.from_residual.ensures ∙ rw c.in_err-n.was at (read (goal.at.returns-in_err-n-clause-value c).After-digits)

pub returns-clause-value : goal.returns-clause-value
returns-clause-value c = rw c.pow.ensures (rw c.in_ok-n.was at (read (goal.at.returns-clause-value c).After-digits))

pub returns-clause-digits : goal.returns-clause-digits
returns-clause-digits c =
    rw c.pow.ensures (below_nine c.in_ok-n.n (length c.args.s.now) c.in_ok-n.ensures.digits.1 (omega arith))
