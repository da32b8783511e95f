-- `segmented::Segments::centre` meets its contract. Assumes nothing.
use borrow.Author.Rules.{rules}
use mathlib.Core.Path.{◌≡◌, sym, ◌∙◌, ap}
use Prim.Native.Nat.{ℕ}
use mir.Syntax.{w64}
use mir.Facts.{to_z-of_z}
use Rattle.std.specs.Prelude.{Option, Result, Ok}
use Rattle.std.proofs.lemmas.Result.{err_from_is_err_and}
use Rattle.asking.specs.declared.Refusal.{Refusal}
use Rattle.values.specs.declared.Value.{Value}
use Rattle.axis.specs.declared.Axis.{Axis}
use Rattle.axis.specs.Axes.{closed}
use Rattle.axis.specs.Questions.{checked_if}
use Rattle.mapping.specs.declared.Hairline.{Hairline}
use Rattle.mapping.specs.Mapping.{hairline}
use Rattle.counting.proofs.Counting.{value_on_law}
use Rattle.discrete.specs.Answers.{next_in}
use Rattle.discrete.proofs.Laws.{next_on}
use Rattle.segmented.specs.declared.SegmentValue.TheVariants.{CenterOf}
use Rattle.segmented.specs.Segments.{segments, margin_of, inner, beside, between, segment_worked, pixel_checked}
use Rattle.segmented.proofs.Pixels.{onward, onward_is}
use Rattle.segmented.proofs.Segments.centre.Goals as goal
use Rattle.segmented.proofs.Segments.centre.Goals.{After-scale-s, After-next_in, After-pixel_by-left, Start}

-- the pixel of a value with the scale, whose axis and limits are those of the definition
by_scale : (c : After-scale-s) (w : Value) → let x = c.args in
    hairline c.scale-s.result.axis c.scale-s.result.limits w ≡ hairline x.self.axis (inner (segments x.self.axis) x.self.limits) w
by_scale c w = let e = c.scale-s.ensures in
    λ i. hairline (e.axis i) ((e.limits ∙ ap (λ (n : ℕ). inner n c.args.self.limits) c.args.self.sized) i) w

pub pixel_by-left-requires : goal.pixel_by-left-requires
pixel_by-left-requires c = rw c.scale-s.ensures.axis c.requires

abbrev left : Start → Hairline
left s = hairline s.args.self.axis (inner (segments s.args.self.axis) s.args.self.limits) s.args.v

-- the pixel of v
left_is : (c : After-pixel_by-left) → c.pixel_by-left.result ≡ left (goal.at.After-pixel_by-left c).Start
left_is c = let x = c.args in
    c.pixel_by-left.ensures ∙ by_scale (goal.at.After-pixel_by-left c).After-scale-s x.v

pub invariant_of-p : goal.invariant_of-p
invariant_of-p c = record { on = rw c.args.self.counted (value_on_law c.args.self.axis c.args.v ∙ c.requires) }

next_is : (c : After-next_in) → let x = c.args in
    c.next_in.result ≡ checked_if (next_in (closed x.self.axis) x.v)
next_is c = let x = c.args in
    c.next_in.ensures ∙ ap (λ (b : Axis). checked_if (next_in b x.v)) x.self.counted

pub pixel_by-requires : goal.pixel_by-requires
pixel_by-requires c = let w = c.in-Some.w in
    let p = goal.at.pixel_by-requires c in
    rw c.scale-s.ensures.axis
    (sym (value_on_law c.args.self.axis w)
    ∙ next_on (closed c.args.self.axis) c.args.v w (rw c.args.self.counted at c.args.self.dates.dated)
    (sym (next_is p.After-next_in) ∙ c.in_ok-w.was ∙ ap Ok c.in-Some.is))

-- the answer, by what the code learnt of the next value
by : (c : After-next_in) (n : Result (Option Value) Refusal) → c.next_in.result ≡ n → let x = c.args.self in
    onward x.axis x.limits (left (goal.at.After-next_in c).Start) n
    ≡ pixel_checked (segment_worked x.axis x.limits (CenterOf c.args.v))
unfolding segment_worked
by c n e = let x = c.args.self in
    let h = left (goal.at.After-next_in c).Start in
    ap (onward x.axis x.limits h) (sym e ∙ next_is c) ∙ onward_is x.axis x.limits h (next_in (closed x.axis) c.args.v)

pub returns-in_err-w : goal.returns-in_err-w
returns-in_err-w c = let p = err_from_is_err_and c.from_residual.result c.from_residual.ensures.1 in
    rw (p.1, p.2) (by (goal.at.returns-in_err-w c).After-next_in _ c.in_err-w.was)

pub returns-in-None : goal.returns-in-None
returns-in-None c = let p = goal.at.returns-in-None c in
    c.beside.ensures
    ∙ (λ i. pixel_checked (beside (left_is p.After-pixel_by-left i)
    ((to_z-of_z {w = w64} {z = c.margin_of.result} (search rules) ∙ c.margin_of.ensures
    ∙ ap (λ (j : ℕ). margin_of j c.args.self.limits) c.args.self.sized) i)))
    ∙ by p.After-next_in _ (c.in_ok-w.was ∙ ap Ok c.in-None.is)

pub returns-in-Some : goal.returns-in-Some
returns-in-Some c = let x = c.args in
    let p = goal.at.returns-in-Some c in
    let right : c.pixel_by.result ≡ hairline x.self.axis (inner (segments x.self.axis) x.self.limits) c.in-Some.w =
    c.pixel_by.ensures ∙ by_scale p.After-scale-s c.in-Some.w in
    c.between.ensures
    ∙ (λ j. pixel_checked (between (left_is p.After-pixel_by-left j) (right j)))
    ∙ by p.After-next_in _ (c.in_ok-w.was ∙ ap Ok c.in-Some.is)
