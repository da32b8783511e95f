-- `segmented::map` meets its contract. Assumes nothing.
use mathlib.Core.Path.{◌≡◌, refl, sym, ◌∙◌, ap, subst}
use mathlib.Core.Bool.{true}
use mathlib.Core.List.{[], ◌∷◌}
use Rattle.std.proofs.lemmas.Result.{err_from_is_err_and}
use Rattle.asking.specs.declared.Refusal.TheVariants as refusal
use Rattle.asking.specs.Asking.{ask, passes}
use Rattle.asking.proofs.Asked.{told, refused}
use Rattle.axis.specs.Axes.{closed}
use Rattle.counting.specs.Counting.{size_of}
use Rattle.counting.proofs.Counting.{size_most}
use Rattle.discrete.specs.Answers.{size_questions}
use Rattle.discrete.proofs.Answers.{counted}
use Rattle.segmented.specs.declared.SegmentValue.{SegmentValue}
use Rattle.segmented.specs.Segments.{SegmentOn, segment_of, segments, segment_mappable, segment_worked, pixel_checked}
use Rattle.segmented.specs.Answers.{between_questions}
use Rattle.segmented.proofs.Pixels.{asked_yes}
use Rattle.segmented.proofs.Answers.{on_kind, some_size, segment_asked, rest, axis_refused, between_refused, map_rest}
use Rattle.segmented.proofs.map.Goals as goal
use Rattle.segmented.proofs.map.Goals.{After-segment_mappable, After-size_of-size, In_ok-ask, In_ok-dates, In_ok-v}

pub returns-in_err-dates : goal.returns-in_err-dates
returns-in_err-dates c = let x = c.args in
    let p = err_from_is_err_and c.from_residual.result c.from_residual.ensures.1 in
    rw (p.1, p.2) (axis_refused x.a x.l x.s (closed x.a) _ (c.in_err-dates.ensures.refused c.in_err-dates.field-0.0 refl))

counts : (c : In_ok-dates) → (passes (size_questions c.args.a) ≡ true) × (c.in_ok-dates.dates.axis ≡ closed c.args.a)
counts c = c.in_ok-dates.ensures.passed c.in_ok-dates.dates refl

pub returns-in_err-v : goal.returns-in_err-v
returns-in_err-v c = let x = c.args in
    let p = err_from_is_err_and c.from_residual-in_err-v.result c.from_residual-in_err-v.ensures.1 in
    rw (p.1, p.2) (between_refused x.a x.l x.s (counts (goal.at.returns-in_err-v c).In_ok-dates).0 (segment_of x.s) _
    (sym c.in_err-v.ensures))

value : (c : In_ok-v) → let x = c.args in
    (passes (between_questions x.a x.l x.s) ≡ true) × (c.in_ok-v.v ≡ segment_of x.s)
value c = let x = c.args in segment_asked (between_questions x.a x.l x.s) (segment_of x.s) c.in_ok-v.v c.in_ok-v.ensures

size_is : (c : After-size_of-size) → c.size_of-size.result ≡ segments c.args.a
size_is c = c.size_of-size.ensures ∙ ap size_of (counts (goal.at.After-size_of-size c).In_ok-dates).1

pub segment_mappable-requires : goal.segment_mappable-requires
segment_mappable-requires c = size_is (goal.at.segment_mappable-requires c).After-size_of-size

-- question 9's test
nine : (c : After-segment_mappable) → let x = c.args in
    c.segment_mappable.result ≡ segment_mappable x.a (segment_of x.s)
nine c = let x = c.args in
    c.segment_mappable.ensures ∙ ap (segment_mappable x.a) (value (goal.at.After-segment_mappable c).In_ok-v).1

pub returns-in_err-ask : goal.returns-in_err-ask
returns-in_err-ask c = let x = c.args in
    let p = err_from_is_err_and c.from_residual-in_err-ask.result c.from_residual-in_err-ask.ensures.1 in
    let g = goal.at.returns-in_err-ask c in
    let row = ask refusal.Length c.segment_mappable.result ∷ [] in
    rw (p.1, p.2) (refused row tt (pixel_checked (segment_worked x.a x.l (segment_of x.s))) _ (sym c.in_err-ask.ensures)
    ∙ ap (rest x.a x.l x.s) (nine g.After-segment_mappable)
    ∙ map_rest x.a x.l x.s (counts g.In_ok-dates).0 (value g.In_ok-v).0)

yes : (c : In_ok-ask) → let x = c.args in
    segment_mappable x.a (segment_of x.s) ≡ true
yes c = sym (nine (goal.at.In_ok-ask c).After-segment_mappable)
    ∙ asked_yes refusal.Length c.segment_mappable.result tt tt c.in_ok-ask.ensures

pub invariant_of-segments : goal.invariant_of-segments
invariant_of-segments c = let x = c.args in
    let p = goal.at.invariant_of-segments c in
    let size = size_is p.After-size_of-size in
    let (first, is) = counts p.In_ok-dates in
    record {
      real = told 3 (size_questions x.a) first;
      counted = is;
      sized = size;
      some = record {
        least = rw size (some_size x.a (segment_of x.s) (yes p.In_ok-ask));
        most = rw size (size_most (closed x.a) (counted x.a first));
      };
      page = told 7 (between_questions x.a x.l x.s) (value p.In_ok-v).0;
    }

pub segment_pixel-requires : goal.segment_pixel-requires
segment_pixel-requires c = let x = c.args in
    let (pass, is) = value (goal.at.segment_pixel-requires c).In_ok-v in
    subst (λ (y : SegmentValue). SegmentOn x.a y) (sym is) (on_kind x.a x.s (told 8 (between_questions x.a x.l x.s) pass))

pub returns : goal.returns
returns c = let x = c.args in
    let p = goal.at.returns c in
    c.segment_pixel.ensures
    ∙ ap (λ (y : SegmentValue). pixel_checked (segment_worked x.a x.l y)) (value p.In_ok-v).1
    ∙ ap (rest x.a x.l x.s) (sym (yes p.In_ok-ask)) ∙ map_rest x.a x.l x.s (counts p.In_ok-dates).0 (value p.In_ok-v).0
