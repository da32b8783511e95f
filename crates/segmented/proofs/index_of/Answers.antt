-- `segmented::index_of` meets its contract. Assumes nothing.
use borrow.Author.Rules.{rules}
use mathlib.Core.Path.{◌≡◌, refl, sym, ◌∙◌, ap}
use mathlib.Core.Bool.{true}
use mathlib.Core.List.{List, [], ◌∷◌}
use Rattle.std.specs.Prelude.{Ok}
use Rattle.asking.specs.declared.Refusal.TheVariants as refusal
use Rattle.asking.specs.Asking.{Question, ask, passes}
use Rattle.asking.proofs.Asked.{told, passed, passed_first, refused, refused_first}
use Rattle.axis.specs.Axes.{closed}
use Rattle.discrete.specs.Answers.{size_questions}
use Rattle.segmented.specs.Segments.{segment_on, segment_of}
use Rattle.segmented.specs.Answers.{segment_index_in, segment_index_answer}
use Rattle.segmented.proofs.Answers.{on_kind, on_closed, segment_asked}
use Rattle.segmented.proofs.index_of.Goals as goal
use Rattle.segmented.proofs.index_of.Goals.{In_ok-d, Start}

abbrev last : Start → List Question
last s = ask refusal.Value (segment_on s.args.a s.args.s) ∷ []

counts : (c : In_ok-d) → (passes (size_questions c.args.a) ≡ true) × (c.in_ok-d.d.axis ≡ closed c.args.a)
counts c = c.in_ok-d.ensures.passed c.in_ok-d.d refl

pub returns-in_err-d : goal.returns-in_err-d
unfolding segment_index_answer
returns-in_err-d c = let x = c.args in
    let e = refused_first (size_questions x.a) (last (goal.at.returns-in_err-d c).Start) (closed x.a)
    (Ok (segment_index_in (closed x.a) (segment_of x.s))) c.in_err-d.field-0.0
    (c.in_err-d.ensures.refused c.in_err-d.field-0.0 refl) in
    search rules

pub returns-in_err-v : goal.returns-in_err-v
unfolding segment_index_answer
returns-in_err-v c = let x = c.args in
    let row = last (goal.at.returns-in_err-v c).Start in
    let answer = Ok (segment_index_in (closed x.a) (segment_of x.s)) in
    let e = refused row (segment_of x.s) answer c.in_err-v.field-0.0 (sym c.in_err-v.ensures)
    ∙ passed_first (size_questions x.a) row answer (counts (goal.at.returns-in_err-v c).In_ok-d).0 in
    search rules

pub index_in-requires : goal.index_in-requires
index_in-requires c = let x = c.args in
    let row = last (goal.at.index_in-requires c).Start in
    let (pass, is) = segment_asked row (segment_of x.s) c.in_ok-v.v c.in_ok-v.ensures in
    rw ((counts (goal.at.index_in-requires c).In_ok-d).1, is) (on_closed x.a (segment_of x.s) (on_kind x.a x.s (told 8 row pass)))

pub returns : goal.returns
unfolding segment_index_answer
returns c = let x = c.args in
    let row = last (goal.at.returns c).Start in
    let (pass, is) = segment_asked row (segment_of x.s) c.in_ok-v.v c.in_ok-v.ensures in
    let (first, counted) = counts (goal.at.returns c).In_ok-d in
    let answer = Ok (segment_index_in (closed x.a) (segment_of x.s)) in
    ap Ok (c.index_in.ensures ∙ (λ i. segment_index_in (counted i) (is i)))
    ∙ passed row answer pass ∙ passed_first (size_questions x.a) row answer first
