-- `text_read::number` meets its contract: with a minus or without, the digits decide. Assumes nothing.
use native.Mathlib.Omega.{arith}
use mir.Facts.{to_z-of_z}
use Rattle.laws.proofs.Signed.{neg_fits, read_count}
use Rattle.text_read.specs.Fields.{read_number}
use Rattle.text_read.proofs.Fields.{first_minus}
use Rattle.text_read.proofs.number.Goals as goal

pub returns-in_err-digits-in-Some : goal.returns-in_err-digits-in-Some
unfolding read_number
returns-in_err-digits-in-Some c = let m = rw c.field-f.ensures at c.in-Some.ensures.cases in
    let n = rw m.1 at c.digits.ensures.value in
    rw (c.from_residual.ensures, ← first_minus c.args.s.now, m.0, ← n, c.in_err-digits-in-Some.was)

pub returns-in_err-digits-in-None : goal.returns-in_err-digits-in-None
unfolding read_number
returns-in_err-digits-in-None c = let m = rw c.field-f.ensures at c.in-None.ensures.cases in
    let n = rw c.field-f.ensures at c.digits-in-None.ensures.value in
    rw (c.from_residual-in_err-digits-in-None.ensures, ← first_minus c.args.s.now, m, ← n, c.in_err-digits-in-None.was)

pub returns-in_ok-digits-in-Some : goal.returns-in_ok-digits-in-Some
unfolding read_number
returns-in_ok-digits-in-Some c = let m = rw c.field-f.ensures at c.in-Some.ensures.cases in
    let n = rw m.1 at c.digits.ensures.value in
    let ok = c.in_ok-digits-in-Some in
    rw (
      read_count ok.field-0 (omega (arith, ok.ensures.digits.0)),
      to_z-of_z (neg_fits ok.field-0 (omega (arith, ok.ensures.digits.0))),
      ← first_minus c.args.s.now,
      m.0,
      ← n,
      ok.was,
    )

pub returns-in_ok-digits-in-None : goal.returns-in_ok-digits-in-None
unfolding read_number
returns-in_ok-digits-in-None c = let m = rw c.field-f.ensures at c.in-None.ensures.cases in
    let n = rw c.field-f.ensures at c.digits-in-None.ensures.value in
    let ok = c.in_ok-digits-in-None in
    rw (read_count ok.field-0 (omega (arith, ok.ensures.digits.0)), ← first_minus c.args.s.now, m, ← n, ok.was)
