-- `rules::Table::is_lacking` meets its contract: every length before the one that is asked has a row. Assumes nothing.
use mathlib.Core.Path.{◌≡◌, sym, ◌∙◌}
use mathlib.Core.Bool.{true}
use Prim.Native.Nat.{ℕ, ◌≤◌, ◌<◌}
use native.Mathlib.Decide.{dec_le}
use native.Mathlib.Omega.{arith}
use lib.ListN.{length}
use Rattle.rules.specs.Rows.{row_at}
use Rattle.rules.specs.Cover.{rows_of, lengths, is_for, first_for}
use Rattle.rules.proofs.Lengths.{ends, between, has_row, met, no_row}
use Rattle.rules.proofs.Judged.{is_lacking_law, not_lacking}
use Rattle.rules.proofs.Table.is_lacking.Goals as goal
use Rattle.rules.proofs.Table.is_lacking.Goals.{In-Some}

below : {l : ℕ} → l < 3652059 → l < lengths
unfolding lengths
below h = h

reached : {l at : ℕ} → l < lengths → 3652059 ≤ at → l < at
unfolding lengths
reached h k = omega arith

pub returns-in_default : goal.returns-in_default
returns-in_default c = let at = c.loop-at.at in
    sym (is_lacking_law (rows_of c.args.self.now.rows) (
      at,
      below (omega (arith, c.loop-at-test.true)),
      no_row (rows_of c.args.self.now.rows) at (sym (rw c.as_slice.ensures.value at c.row_for.ensures) ∙ c.in_default.is),
    ))

-- the row that is met is for the length that is asked
one : (c : In-Some) → let ws = rows_of c.args.self.now.rows in
    let at = c.loop-at.at in
    let w = c.in-Some.w in
    (first_for ws at < length ws) × (w ≡ row_at ws (first_for ws at)) × (is_for w at ≡ true)
one c = met (rows_of c.args.self.now.rows) c.loop-at.at c.in-Some.w
    (sym (rw c.as_slice.ensures.value at c.row_for.ensures) ∙ c.in-Some.is)

last : (c : In-Some) → c.in-Some.w.to ≤ 3652058
last c = let (h, e, f) = one c in rw e (c.args.self.now.in_range _ h).last

pub overflow_add-at : goal.overflow_add-at
overflow_add-at c = omega (arith, last (goal.at.overflow_add-at c).In-Some)

pub loop-at-smaller : goal.loop-at-smaller
loop-at-smaller c = let (h, e, f) = one (goal.at.loop-at-smaller c).In-Some in
    omega (arith, ends c.in-Some.w c.loop-at.at f, last (goal.at.loop-at-smaller c).In-Some)

pub loop-at-preserved : goal.loop-at-preserved
loop-at-preserved c m l = let ws = rows_of c.args.self.now.rows in
    let (h, e, f) = one (goal.at.loop-at-preserved c).In-Some in
    elim (dec_le c.loop-at.at m) [
      | yes y ↦ has_row ws m (first_for ws c.loop-at.at) h
          (rw e at (between c.in-Some.w m (omega (arith, ends c.in-Some.w c.loop-at.at f)) (omega arith)))
      | no y ↦ c.loop-at.invariant m (omega arith)
    ]

pub returns : goal.returns
returns c =
    let end : 3652059 ≤ c.loop-at.at = omega (arith, c.loop-at-test.false) in
    sym (not_lacking (rows_of c.args.self.now.rows) (λ k h. c.loop-at.invariant k (reached h end)))
