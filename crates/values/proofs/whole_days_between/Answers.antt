-- `values::whole_days_between` meets its contract. Assumes nothing.
use borrow.Author.Rules.{rules}
use mathlib.Core.Path.{◌≡◌, refl, sym, ◌∙◌, ap}
use lib.IntN.{ℤ, pos, ◌-ℤ◌}
use lib.Signed.{quot_z}
use mir.Syntax.{w64}
use mir.Val.{SFits}
use mir.Facts.{to_z-of_z}
use Rattle.laws.proofs.Signed.{quot_fits}
use Rattle.values.specs.declared.Value.{Value}
use Rattle.values.specs.Differences.{unit, difference, Cut}
use Rattle.values.proofs.Values.{InRange}
use Rattle.values.proofs.Differences.{parts_fit, heads_and_tails, tails_less, by_seconds}
use Rattle.values.proofs.whole_days_between.Goals as goal
use Rattle.values.proofs.whole_days_between.Goals.{Start, After-toward_zero-n}

range_a : (c : Start) → InRange c.args.a
range_a c = search rules

range_b : (c : Start) → InRange c.args.b
range_b c = search rules

pub overflow_sub-b : goal.overflow_sub-b
overflow_sub-b c = let s = (goal.at.overflow_sub-b c).Start in
    rw (to_z-of_z (range_b s).head, to_z-of_z (range_a s).head) (parts_fit c.args.kind c.args.a c.args.b c.requires).0

pub overflow_sub-b-2 : goal.overflow_sub-b-2
overflow_sub-b-2 c = let s = (goal.at.overflow_sub-b-2 c).Start in
    rw (to_z-of_z (range_b s).tail, to_z-of_z (range_a s).tail) (parts_fit c.args.kind c.args.a c.args.b c.requires).1

module _ (c : After-toward_zero-n) where
  abbrev s : Start
  s = (goal.at.After-toward_zero-n c).Start

  abbrev a : Value
  a = c.args.a

  abbrev b : Value
  b = c.args.b

  abbrev exact : ℤ
  exact = difference c.args.kind a b

  n_fits : SFits w64 c.toward_zero-n.result
  n_fits = search rules

  days_fit : SFits w64 (quot_z c.toward_zero-n.result (pos 86400))
  days_fit = quot_fits c.toward_zero-n.result (pos 86400) n_fits refl

  -- whole heads: seconds or days
  heads_is : c.toward_zero-n.result ≡ quot_z exact (pos (unit c.args.kind))
  heads_is =
      let f = parts_fit c.args.kind a b c.requires in
      let cut : Cut (b.head -ℤ a.head) (b.tail -ℤ a.tail) c.toward_zero-n.result =
      rw (
        to_z-of_z (range_b s).head,
        to_z-of_z (range_a s).head,
        to_z-of_z (range_b s).tail,
        to_z-of_z (range_a s).tail,
        to_z-of_z f.0,
        to_z-of_z f.1,
      ) at c.toward_zero-n.ensures in
      sym (cut (unit c.args.kind) (tails_less c.args.kind a b c.requires))
      ∙ ap (λ (z : ℤ). quot_z z (pos (unit c.args.kind))) (sym (heads_and_tails c.args.kind a b))

pub returns-then-is_duration : goal.returns-then-is_duration
returns-then-is_duration c =
    let d = (goal.at.returns-then-is_duration c).After-toward_zero-n in
    let h : c.toward_zero-n.result ≡ quot_z (exact d) (pos 1000000000) =
    rw (sym c.is_duration.ensures ∙ c.if-is_duration.true) at (heads_is d) in
    rw (to_z-of_z (n_fits d), to_z-of_z (days_fit d)) (ap (λ (x : ℤ). quot_z x (pos 86400)) h ∙ by_seconds (exact d))

pub returns : goal.returns
returns c =
    let d = (goal.at.returns c).After-toward_zero-n in
    rw (to_z-of_z (n_fits d)) (rw (sym c.is_duration.ensures ∙ c.if-is_duration.false) at (heads_is d))
