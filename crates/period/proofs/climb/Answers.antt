-- `period::climb` meets its contract: a turn around the counts goes on where the last one ended. Assumes nothing.
use borrow.Author.Rules.{rules}
use borrow.Author.Tests.{tests}
use mathlib.Core.Path.{ap}
use Prim.Native.Nat.{ℕ, ◌+◌, ◌*◌, ◌/◌, ◌≤◌, ◌<◌, zero-le}
use native.Mathlib.Nat.{le_refl}
use native.Mathlib.Omega.{arith}
use lib.ListN.{length}
use Rattle.std.specs.Option.{MatchOption}
use Rattle.std.specs.List.{AllWithin, HoldsAt}
use Rattle.std.proofs.lemmas.List.{get_or_read}
use Rattle.std.proofs.lemmas.Iterator.{YieldsList-from_slice, IsFirst-from_position}
use Rattle.std.proofs.lemmas.Iterator.Adapters.{serves_from_places}
use Rattle.period.specs.Ladders.{ladder}
use Rattle.period.proofs.Climbing.{Climbed, unit_above, climb_to, climb_next, next_fits, climb_end, climb_step}
use Rattle.period.proofs.climb.Goals as goal
use Rattle.period.proofs.climb.Goals.{After-position, In-Some, In_default}

pub position-requires-clause-callable : goal.position-requires-clause-callable
position-requires-clause-callable c =
    serves_from_places (YieldsList-from_slice c.args.l.counts.now cc) (λ x q k. search (rules, tests))
    (λ x k h e. search (rules, get_or_read, c.requires.small k, c.requires.hint, unit_above c.requires c.loop-i.invariant))

-- the first count that is wide enough, or none
found : (c : After-position) → let l = c.args.l.counts.now in
    let whole = c.args.span / c.loop-i.unit in
    MatchOption c.position.result (AllWithin (λ (x : ℕ). c.args.n * x < whole) l 0 (length l))
    (λ i. (i < length l) × HoldsAt (λ (x : ℕ). whole ≤ c.args.n * x) l i × AllWithin (λ (x : ℕ). c.args.n * x < whole) l 0 i)
found c = let whole = c.args.span / c.loop-i.unit in
    IsFirst-from_position _ _ c.position.result (λ (x : ℕ). whole ≤ c.args.n * x) (λ (x : ℕ). c.args.n * x < whole)
    c.position.ensures.ran (YieldsList-from_slice c.args.l.counts.now cc)
    (λ x q k. search (rules, tests)) (λ x q k. search (rules, tests))

-- at that count
record Here (c : In-Some) : Type 0 where
  place : c.in-Some.i < length c.args.l.counts.now
  wide : HoldsAt (λ (x : ℕ). c.args.span / c.loop-i.unit ≤ c.args.n * x) c.args.l.counts.now c.in-Some.i
  come : let l = c.args.l in
      Climbed c.args.span c.args.n (ladder l.unit l.base l.counts.now) c.loop-i.unit (c.args.span / c.loop-i.unit)
      c.loop-i.tested c.in-Some.i (c.loop-i.tested + c.in-Some.i)

here : (c : In-Some) → Here c
here c =
    let f = rw c.in-Some.is at (found (goal.at.In-Some c).After-position) in
    record {
      place = f.0;
      wide = f.1;
      come = climb_to c.requires c.loop-i.invariant c.in-Some.i (omega (arith, f.0)) (λ k l. f.2 k 0 zero-le l);
    }

-- where there is none, the turn ends
turned : (c : In_default) → let l = c.args.l in
    Climbed c.args.span c.args.n (ladder l.unit l.base l.counts.now) c.loop-i.unit (c.args.span / c.loop-i.unit)
    c.loop-i.tested (length l.counts.now) (c.loop-i.tested + length l.counts.now)
turned c =
    let f = rw c.in_default.is at (found (goal.at.In_default c).After-position) in
    climb_to c.requires c.loop-i.invariant (length c.args.l.counts.now) (le_refl _) (λ k l. f k 0 zero-le l)

pub overflow_mul-result : goal.overflow_mul-result
overflow_mul-result c = let h = here (goal.at.overflow_mul-result c).In-Some in
    omega (arith, climb_step c.requires h.come h.place (h.wide 0), c.requires.fits)

pub returns-in-Some : goal.returns-in-Some
returns-in-Some c = let h = here (goal.at.returns-in-Some c).In-Some in
    (climb_step c.requires h.come h.place (h.wide 0), ap (λ (x : ℕ). x + 1) (climb_end c.requires h.come h.place (h.wide 0)))

pub overflow_mul-unit : goal.overflow_mul-unit
overflow_mul-unit c = omega (arith, next_fits c.requires (turned c))

pub loop-i-smaller : goal.loop-i-smaller
loop-i-smaller c = omega (arith, c.requires.some, (climb_next c.requires (turned c)).come.within)

pub loop-i-preserved : goal.loop-i-preserved
loop-i-preserved c = climb_next c.requires (turned c)
