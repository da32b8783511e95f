-- `text_rows::list_rows` meets its contract: the ticks before the loop's place are written. Assumes nothing.
use borrow.Author.Rules.{rules}
use mathlib.Core.Path.{◌≡◌, sym}
use mathlib.Core.List.{[]}
use Prim.Native.Nat.{◌/◌, ◌<◌}
use native.Mathlib.Omega.{arith}
use lib.IntN.{ℤ, pos}
use lib.ListN.{length, get_or}
use mir.Syntax.{w64}
use mir.Val.{SFits, to_z, of_z}
use mir.Facts.{to_z-of_z}
use Rattle.std.proofs.lemmas.Grind.{common_steps}
use Rattle.text_write.proofs.Writing.{nothing, same_text, then}
use Rattle.text_rows.proofs.Lists.{no_ticks, one_more}
use Rattle.steps.specs.Promise.{nth}
use Rattle.text_rows.proofs.Pairs.{pair_at}
use Rattle.text_rows.proofs.list_rows.Goals as goal
use Rattle.text_rows.proofs.list_rows.Goals.{After-v-1, After-v-in-loop-head-1}

abbrev number : ℤ → ℤ
number z = to_z w64 (of_z w64 z)

head_fits : {g : _} (c : After-v-1 g) → SFits w64 (get_or (get_or c.as_chunks.result.0.now c.loop-head.head-index []) 0 (pos 0))
head_fits {g} c = search rules

tail_fits : {g : _} (c : After-v-in-loop-head-1 g) →
    SFits w64 (get_or (get_or c.as_chunks.result.0.now c.loop-head.head-index []) 1 (pos 0))
tail_fits {g} c = search rules

inside : {g : _} (c : After-v-in-loop-head-1 g) → c.loop-head.head-index < length c.args.list.now / 2
inside {g} c = omega (arith, c.loop-head-test.true, c.as_chunks.ensures.front_len)

read : {g : _} (c : After-v-in-loop-head-1 g) → let x = get_or c.as_chunks.result.0.now c.loop-head.head-index [] in
    record { head = number (get_or x 0 (pos 0)); tail = number (get_or x 1 (pos 0)) } ≡ nth c.args.list.now c.loop-head.head-index
read {g} c =
    rw (to_z-of_z (head_fits (goal.at.After-v-in-loop-head-1 g c).After-v-1), to_z-of_z (tail_fits c), c.as_chunks.ensures.front)
    (pair_at (length c.args.list.now / 2) c.args.list.now c.loop-head.head-index (inside c))

pub loop-head-init : goal.loop-head-init
loop-head-init g c = same_text (sym (no_ticks _ _ _ _)) (nothing _ _)

pub row-requires : goal.row-requires
row-requires g c =
    let p = goal.at.row-requires g c in
    let i = inside p.After-v-in-loop-head-1 in
    (search rules, (rw (read p.After-v-in-loop-head-1) (c.requires.0 _ i), grind (arith, common_steps, i)))

pub loop-head-preserved : goal.loop-head-preserved
loop-head-preserved g c =
    let p = goal.at.loop-head-preserved g c in
    let i = c.loop-head.head-index in
    let mapped = c.map_ready-p.ensures c.args.a c.args.l c.prepare-m.ensures in
    let pixel = rw (read p.After-v-in-loop-head-1) at mapped in
    let row = rw (read p.After-v-in-loop-head-1, pixel, c.shows_fractions-shown.ensures) at c.row.ensures in
    rw (one_more c.args.number c.args.a c.args.l c.args.list.now i) (then _ c.loop-head.invariant row (omega arith))

pub returns : goal.returns
returns g c =
    let e : c.loop-head.head-index ≡ length c.args.list.now / 2 =
    omega (arith, c.loop-head-test.false, c.loop-head.auto.head-index-end, c.as_chunks.ensures.front_len) in
    rw e at c.loop-head.invariant
