-- `segmented::segment_of` meets its contract. Assumes nothing.
use borrow.Author.Rules.{rules}
use mathlib.Core.Path.{◌≡◌, ◌∙◌}
use lib.IntN.{pos}
use mir.Syntax.{w64}
use mir.Val.{SFits, to_z, of_z}
use mir.Facts.{to_z-of_z}
use Rattle.std.specs.Bool.{then_some}
use Rattle.values.specs.declared.Value.{Value}
use Rattle.axis.specs.Questions.{value_on}
use Rattle.segmented.specs.declared.SegmentValue.TheVariants.{Exact, CenterOf}
use Rattle.segmented.specs.Segments.{head_tail}
use Rattle.segmented.proofs.Answers.{case_one, case_two, case_three, no_case}
use Rattle.segmented.proofs.segment_of.Goals as goal
use Rattle.segmented.proofs.segment_of.Goals.{Start}

-- the value, as the code reads it back
value_is : (c : Start) → let s = c.args.s in
    ◌≡◌ {A = Value} (record { head = to_z w64 (of_z w64 s.head); tail = to_z w64 (of_z w64 s.tail) }) (head_tail s)
value_is c = let s = c.args.s in
    let hf : SFits w64 s.head = search rules in
    let tf : SFits w64 s.tail = search rules in
    λ i. record { head = to_z-of_z hf i; tail = to_z-of_z tf i }

pub returns-in-1 : goal.returns-in-1
returns-in-1 c = let x = c.args in
    let is = value_is (goal.at.returns-in-1 c).Start in
    c.then_some.ensures
    ∙ (λ i. then_some ((c.value_on.ensures ∙ (λ j. value_on x.a (is j))) i) (Exact (is i)))
    ∙ case_one x.a x.s (search rules)

pub returns-in-2 : goal.returns-in-2
returns-in-2 c = let x = c.args in
    let is = value_is (goal.at.returns-in-2 c).Start in
    c.then_some-in-2.ensures
    ∙ (λ i. then_some ((c.value_on-in-2.ensures ∙ (λ j. value_on x.a (is j))) i) (CenterOf (is i)))
    ∙ case_two x.a x.s (search rules)

pub returns-in-3 : goal.returns-in-3
returns-in-3 c = case_three c.args.a c.args.s (search rules)

pub returns-in_default : goal.returns-in_default
returns-in_default c = let s = c.args.s in
    let one : (s.case ≡ pos 1 → ⊥) = search rules in
    let two : (s.case ≡ pos 2 → ⊥) = search rules in
    let three : (s.case ≡ pos 3 → ⊥) = search rules in
    no_case c.args.a s one two three
