-- `text_write::span` meets its contract: from zero up the head and the tail, below zero what is left of the tail's second.
-- Assumes nothing.
use borrow.Author.Rules.{rules}
use native.Mathlib.Omega.{arith}
use mathlib.Core.Path.{◌≡◌, ◌∙◌, ap}
use mathlib.Core.Bool.{true}
use Prim.Native.Nat.{◌-◌, ◌<◌}
use lib.IntN.{pos, nat_abs}
use lib.Signed.{lt_z}
use mir.Syntax.{w64}
use mir.Val.{SFits}
use mir.Facts.{to_z-of_z}
use Rattle.laws.specs.Numbers.{pos_part}
use Rattle.laws.specs.Units.{per_second}
use Rattle.laws.proofs.Signed.{abs, lt_true}
use Rattle.text_write.proofs.Writing.{byte, then, same_text}
use Rattle.text_write.proofs.Spans.{tail_most, tail_up, from_zero, below_zero}
use Rattle.text_write.proofs.span.Goals as goal
use Rattle.text_write.proofs.span.Goals.{After-unsigned_abs-q, After-push}

-- the two numbers that the code counts with
seconds : {g : _} (c : After-unsigned_abs-q g) → c.unsigned_abs-n.result ≡ nat_abs c.args.v.head
seconds {g} c = let f : SFits w64 c.args.v.head = search rules in c.unsigned_abs-n.ensures.value ∙ ap nat_abs (to_z-of_z f)

nanos : {g : _} (c : After-unsigned_abs-q g) → c.unsigned_abs-q.result ≡ pos_part c.args.v.tail
nanos {g} c =
    let f : SFits w64 c.args.v.tail = search rules in
    c.unsigned_abs-q.ensures.value ∙ ap nat_abs (to_z-of_z f) ∙ tail_up c.args.shown c.args.v c.requires.0

below : {g : _} (c : After-push g) → lt_z c.args.v.head (pos 0) ≡ true
below {g} c = let f : SFits w64 c.args.v.head = search rules in rw (to_z-of_z f) at c.if-not-below.false

few : {g : _} (c : After-push g) → (c.unsigned_abs-q.result < per_second) × (0 < c.unsigned_abs-n.result)
few {g} c =
    let p = (goal.at.After-push g c).After-unsigned_abs-q in (
      omega (arith, nanos p, tail_most c.args.shown c.args.v c.requires.0),
      omega (arith, seconds p, abs c.args.v.head, lt_true c.args.v.head (pos 0) (below c)),
    )

pub returns-then-not-below : goal.returns-then-not-below
returns-then-not-below g c =
    let p = (goal.at.returns-then-not-below g c).After-unsigned_abs-q in
    let f : SFits w64 c.args.v.head = search rules in
    same_text (from_zero c.args.shown c.args.v c.requires.0 _ _ (rw (to_z-of_z f) at c.if-not-below.true) (seconds p) (nanos p))
    (then _ c.decimal.ensures c.fraction.ensures (omega arith))

pub returns-then-q-eq0 : goal.returns-then-q-eq0
returns-then-q-eq0 g c =
    let b = (goal.at.returns-then-q-eq0 g c).After-push in
    let p = (goal.at.returns-then-q-eq0 g c).After-unsigned_abs-q in
    let n = c.unsigned_abs-n.result in
    let h = then 21 (byte _ c.push.ensures.items) c.decimal-then-q-eq0.ensures (omega arith) in
    same_text
    (below_zero c.args.shown c.args.v c.requires.0 n 0 (below b) (omega (arith, seconds p, nanos p)) (omega arith))
    (then _ h c.fraction-then-q-eq0.ensures (omega arith))

pub overflow_sub-q : goal.overflow_sub-q
overflow_sub-q g c = omega (arith, few (goal.at.overflow_sub-q g c).After-push)

pub returns : goal.returns
returns g c =
    let b = (goal.at.returns g c).After-push in
    let p = (goal.at.returns g c).After-unsigned_abs-q in
    let n = c.unsigned_abs-n.result - 1 in
    let q = 1000000000 - c.unsigned_abs-q.result in
    let h = then 21 (byte _ c.push.ensures.items) c.decimal-2.ensures (omega arith) in
    same_text
    (below_zero c.args.shown c.args.v c.requires.0 n q (below b) (omega (arith, seconds p, nanos p, few b)) (omega arith))
    (then _ h c.fraction-2.ensures (omega arith))
