-- `plans::Hinted::period` meets its contract: a span that fits, and then its period. Assumes nothing.
use borrow.Author.Rules.{rules}
use mathlib.Core.Path.{◌≡◌, refl, ◌∙◌, ap}
use mathlib.Core.Bool.{Bool, true, not}
use Prim.Native.Nat.{ℕ}
use mir.Syntax.{w64}
use mir.Val.{to_z, of_z}
use mir.Facts.{to_z-of_z}
use Rattle.laws.specs.Numbers.{pos_part}
use Rattle.values.specs.Values.{is_duration}
use Rattle.values.specs.Differences.{fits_i64}
use Rattle.values.proofs.Fits.{answer_some}
use Rattle.axis.specs.Axes.{span_of}
use Rattle.axis.proofs.Axes.{span_from_0}
use Rattle.counting.proofs.Counting.{no_less}
use Rattle.period.specs.Periods.{period_of}
use Rattle.plans.specs.Times.{period_in}
use Rattle.plans.proofs.Spans.{some_period}
use Rattle.plans.proofs.Hinted.period.Goals as goal
use Rattle.plans.proofs.Hinted.period.Goals.{In_ok-span, After-compute_period_per_point}

-- the span, as it is read
span : (c : In_ok-span) → (fits_i64 (span_of c.args.self.axis) ≡ true)
    × (to_z w64 (of_z w64 c.in_ok-span.span) ≡ span_of c.args.self.axis)
span c =
    let (f, e) = answer_some (span_of c.args.self.axis) _ c.in_ok-span.ensures c.in_ok-span.span refl in
    (f, to_z-of_z {w = w64} {z = c.in_ok-span.span} (search rules) ∙ e)

-- what was asked of the ladders is the definition
asked : (c : After-compute_period_per_point) → period_of c.as_count.result c.args.self.n (not c.is_duration-sub_daily.result)
    ≡ period_in c.args.self.axis c.args.self.n
asked c =
    let a = c.args.self.axis in
    let (f, e) = span (goal.at.After-compute_period_per_point c).In_ok-span in
    let counted : c.as_count.result ≡ pos_part (span_of a) = c.as_count.ensures ∙ ap pos_part e in
    let kind : c.is_duration-sub_daily.result ≡ is_duration a.kind = search rules in
    ap (λ (k : ℕ). period_of k c.args.self.n (not c.is_duration-sub_daily.result)) counted
    ∙ ap (λ (b : Bool). period_of (pos_part (span_of a)) c.args.self.n (not b)) kind
    ∙ some_period a c.args.self.n f

pub as_count-requires : goal.as_count-requires
as_count-requires c = rw (span (goal.at.as_count-requires c).In_ok-span).1
    (no_less (span_of c.args.self.axis) (span_from_0 c.args.self.axis c.args.self.accepted.real c.args.self.accepted.order))

pub returns-in_err-p : goal.returns-in_err-p
returns-in_err-p c = search (
  rules,
  c.in_err-p.ensures.nanoseconds,
  asked (goal.at.returns-in_err-p c).After-compute_period_per_point,
)

pub returns : goal.returns
returns c = c.in_ok-p.ensures.nanoseconds ∙ asked (goal.at.returns c).After-compute_period_per_point
