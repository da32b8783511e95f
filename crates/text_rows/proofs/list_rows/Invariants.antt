-- `text_rows::list_rows` meets its contract: the ticks before the loop's place are written. Assumes nothing.
use Prim.Native.Nat.{◌*◌}
use Rattle.text_write.specs.Texts.{Wrote}
use Rattle.text_rows.specs.Answers.{ticks_text}
use Rattle.text_rows.proofs.list_rows.Given as goal

abbrev pub invariant-loop-head : goal.invariant-loop-head
invariant-loop-head g l =
    Wrote (75 * l.head-index) (ticks_text l.number l.a l.fn.l l.list l.head-index) l.initial.out l.out
