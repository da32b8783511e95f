-- `steps::Steps::list_even` meets its contract: after i turns lent is i pairs and then what it had, and whole and part are the
-- heads and the rest of the place i. Assumes nothing.
use mathlib.Core.Path.{◌≡◌, ap, ◌∙◌}
use Prim.Native.Nat.{ℕ, ◌/◌, ◌%◌, ◌^◌, ◌<◌}
use native.Mathlib.Nat.{zero-mul}
use native.Mathlib.Omega.{arith}
use lib.IntN.{pos, ◌+ℤ◌}
use mir.Syntax.{w64}
use mir.Val.{SFits, of_z, to_z}
use mir.Facts.{to_z-of_z}
use borrow.Author.Rules.{rules}
use Rattle.laws.proofs.Signed.{read_count}
use Rattle.steps.specs.declared.Heads.{Heads}
use Rattle.steps.specs.declared.Steps.{Steps}
use Rattle.values.specs.declared.Value.{Value}
use Rattle.steps.specs.Progression.{number_at, even_tick, InRange}
use Rattle.steps.proofs.Places.{next_kept, next_carried, head_small, rest_small, head_fits}
use Rattle.steps.proofs.Pairs.{none_written, one_more, all_written}
use Rattle.steps.proofs.Steps.list_even.Goals as goal
use Rattle.steps.proofs.Steps.list_even.Goals.{In-loop-i, Start, then-part-h, else-part-h}

-- ---- a turn: what is known where it begins, and the pair that it writes
record Turn (h : Heads) (s : Steps) (i whole part : ℕ) : Type 0 where
  sound : InRange h s
  base : SFits w64 h.base
  going : i < s.count
  whole_is : whole ≡ number_at s i / h.per
  part_is : part ≡ number_at s i % h.per

abbrev wrote : Heads → ℕ → ℕ → Value
wrote h whole part = record { head = to_z w64 (of_z w64 (to_z w64 (of_z w64 h.base) +ℤ to_z w64 whole)); tail = to_z w64 part }

module _ (h : Heads) (s : Steps) (i whole part : ℕ) (t : Turn h s i whole part) where
  whole_small : whole < 2 ^ 60
  whole_small = omega (arith, head_small s i t.going h t.sound, t.whole_is)

  part_small : part < 2 ^ 60
  part_small = omega (arith, rest_small s i t.going h t.sound, t.part_is)

  whole_read : to_z w64 whole ≡ pos whole
  whole_read = read_count whole (omega (arith, whole_small))

  sum_fits : SFits w64 (to_z w64 (of_z w64 h.base) +ℤ to_z w64 whole)
  sum_fits = rw (to_z-of_z t.base, whole_read, t.whole_is) (head_fits s i t.going h t.sound)

  tick_is : wrote h whole part ≡ even_tick h (number_at s i)
  tick_is =
      let head : to_z w64 (of_z w64 (to_z w64 (of_z w64 h.base) +ℤ to_z w64 whole)) ≡ (even_tick h (number_at s i)).head =
      to_z-of_z sum_fits ∙ rw (to_z-of_z t.base, whole_read, t.whole_is) in
      let tail : to_z w64 part ≡ (even_tick h (number_at s i)).tail =
      read_count part (omega (arith, part_small)) ∙ rw t.part_is in
      λ k. record { head = head k; tail = tail k }

base_fits : (c : Start) → SFits w64 c.args.h.base
base_fits c = search rules

turn : (c : In-loop-i) → Turn c.args.h c.args.self c.loop-i.i c.loop-i.whole c.loop-i.part
turn c = let l = c.loop-i in
    record {
      sound = c.requires.0;
      base = base_fits (goal.at.In-loop-i c).Start;
      going = omega arith;
      whole_is = l.invariant.1.0;
      part_is = l.invariant.1.1;
    }

pub loop-i-init : goal.loop-i-init
loop-i-init c = let s = c.args.self in
    let e : s.first ≡ number_at s 0 = omega (arith, zero-mul s.step) in
    (none_written _ _ _, (ap (λ (n : ℕ). n / c.args.h.per) e, ap (λ (n : ℕ). n % c.args.h.per) e))

pub overflow_add-head : goal.overflow_add-head
overflow_add-head c = sum_fits _ _ _ _ _ (turn (goal.at.overflow_add-head c).In-loop-i)

pub loop-i-preserved : goal.loop-i-preserved
loop-i-preserved c = let l = c.loop-i in
    let t = turn (goal.at.loop-i-preserved c).In-loop-i in (
      one_more l.invariant.0 t.going c.requires.1 (tick_is _ _ _ _ _ t),
      elim c.if-part-h.branch [
        | then-part-h w ↦ rw (w.whole-is, w.part-is) (next_carried c.args.h.per c.args.self l.i l.whole l.part
            t.sound.divides t.whole_is t.part_is (omega arith))
        | else-part-h w ↦ rw (w.whole-is, w.part-is) (next_kept c.args.h.per c.args.self l.i l.whole l.part
            t.sound.divides t.whole_is t.part_is (omega arith))
      ],
    )

pub returns : goal.returns
returns c = all_written c.loop-i.invariant.0 (omega arith)
