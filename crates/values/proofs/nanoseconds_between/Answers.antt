-- `values::nanoseconds_between` meets its contract. Assumes nothing.
use borrow.Author.Rules.{rules}
use mathlib.Core.Path.{◌≡◌, sym, ◌∙◌, ap}
use native.Mathlib.Omega.{arith}
use Prim.Native.Nat.{ℕ, ◌<◌, ◌^◌}
use lib.IntN.{ℤ, pos, nat_abs, ◌+ℤ◌, ◌-ℤ◌, ◌*ℤ◌}
use mir.Syntax.{w64, w128}
use mir.Val.{SFits, to_z, of_z}
use mir.Facts.{to_z-of_z}
use Rattle.values.specs.declared.Value.{Value}
use Rattle.values.specs.Differences.{unit, nanoseconds_of}
use Rattle.std.proofs.lemmas.Int.{fits_signed_from_abs}
use Rattle.values.proofs.Values.{InRange}
use Rattle.values.proofs.Differences.{heads_and_tails, unit_range, tails_few}
use Rattle.values.proofs.Fits.{tried, too_far, sum_wide}
use Rattle.values.proofs.nanoseconds_between.Goals as goal
use Rattle.values.proofs.nanoseconds_between.Goals.{Start, After-from-4}

range_a : (c : Start) → InRange c.args.a
range_a c = search rules

range_b : (c : Start) → InRange c.args.b
range_b c = search rules

pub returns-in_err-heads : goal.returns-in_err-heads
returns-in_err-heads c =
    let s = (goal.at.returns-in_err-heads c).Start in
    let x = c.args in
    let n : SFits w64 (x.b.head -ℤ x.a.head) → ⊥ =
    rw (to_z-of_z (range_b s).head, to_z-of_z (range_a s).head) at (c.in_err-heads.ensures) in
    let (l, m) = unit_range x.kind in
    c.from_residual.ensures
    ∙ too_far (x.b.head -ℤ x.a.head) (x.b.tail -ℤ x.a.tail) (unit x.kind) l
    (tails_few x.a.tail x.b.tail (range_a s).tail (range_b s).tail) n
    ∙ ap nanoseconds_of (sym (heads_and_tails x.kind x.a x.b))

-- what the code multiplies and adds
module _ (c : After-from-4) where
  abbrev s : Start
  s = (goal.at.After-from-4 c).Start

  abbrev a : Value
  a = c.args.a

  abbrev b : Value
  b = c.args.b

  abbrev k : ℕ
  k = unit c.args.kind

  abbrev heads : ℤ
  heads = b.head -ℤ a.head

  abbrev tails : ℤ
  tails = b.tail -ℤ a.tail

  few : nat_abs tails < 2 ^ 64
  few = tails_few a.tail b.tail (range_a s).tail (range_b s).tail

  heads_are : SFits w64 heads × (c.in_ok-heads.heads ≡ heads)
  heads_are = rw (to_z-of_z (range_b s).head, to_z-of_z (range_a s).head) at c.in_ok-heads.ensures

  heads_read : to_z w128 (of_z w128 c.from-3.result) ≡ heads
  heads_read = let h : to_z w128 (of_z w128 c.from-3.result) ≡ c.in_ok-heads.heads = search rules in h ∙ heads_are.1

  unit_read : to_z w128 (of_z w128 c.from-4.result) ≡ pos k
  unit_read = let h : to_z w128 (of_z w128 c.from-4.result) ≡ pos c.unit.result = search rules in h ∙ ap pos c.unit.ensures

  tails_read : to_z w128 (of_z w128 (to_z w128 (of_z w128 c.from.result) -ℤ to_z w128 (of_z w128 c.from-2.result))) ≡ tails
  tails_read =
      let u : to_z w128 (of_z w128 c.from.result) ≡ b.tail = search rules in
      let t : to_z w128 (of_z w128 c.from-2.result) ≡ a.tail = search rules in
      rw (u, t) (to_z-of_z (fits_signed_from_abs w128 tails (omega (arith, few))))

  wide : SFits w128 (heads *ℤ pos k) × SFits w128 (heads *ℤ pos k +ℤ tails)
  wide = sum_wide heads tails k (unit_range c.args.kind).1 heads_are.0 few

pub overflow_add-from : goal.overflow_add-from
overflow_add-from c =
    let d = (goal.at.overflow_add-from c).After-from-4 in
    let (p, q) = wide d in
    rw (heads_read d, unit_read d, tails_read d, to_z-of_z p) q

pub returns : goal.returns
returns c =
    let d = (goal.at.returns c).After-from-4 in
    let x = c.args in
    let (p, q) = wide d in
    let n = heads d *ℤ pos (k d) +ℤ tails d in
    c.ok.ensures.value
    ∙ tried c.try_from.result n (rw (heads_read d, unit_read d, tails_read d, to_z-of_z p, to_z-of_z q) at c.try_from.ensures)
    ∙ ap nanoseconds_of (sym (heads_and_tails x.kind x.a x.b))
