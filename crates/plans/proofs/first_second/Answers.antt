-- `plans::first_second` meets its contract. Assumes nothing.
use borrow.Author.Rules.{rules}
use mathlib.Core.Path.{◌≡◌, refl, sym, ◌∙◌}
use lib.IntN.{pos, ◌*ℤ◌, +ℤ_idr}
use mir.Syntax.{w64}
use mir.Val.{to_z, of_z}
use mir.Facts.{to_z-of_z}
use Rattle.values.specs.declared.Kind.TheVariants.{Span}
use Rattle.values.proofs.Order.{same_is_equal}
use Rattle.values.proofs.Values.{DurationValue, duration_value}
use Rattle.axis.specs.Questions.{equals}
use Rattle.plans.specs.Times.{first_second}
use Rattle.values.specs.Differences.{of_days, days_in}
use Rattle.plans.proofs.Spans.{second_fits, later_fits}
use Rattle.plans.proofs.first_second.Goals as goal
use Rattle.plans.proofs.first_second.Goals.{After-days_in-whole, After-eq, Start}

value : (c : Start) → DurationValue c.args.v
value c = duration_value Span c.args.v c.requires refl

whole : (c : After-days_in-whole) → to_z w64 (of_z w64 c.days_in-whole.result) ≡ days_in c.args.v
whole c = to_z-of_z {w = w64} {z = c.days_in-whole.result} (search rules) ∙ c.days_in-whole.ensures

product : (c : After-days_in-whole) → to_z w64 (of_z w64 (to_z w64 (of_z w64 c.days_in-whole.result) *ℤ pos 86400))
    ≡ days_in c.args.v *ℤ pos 86400
product c = rw (whole c) (to_z-of_z (second_fits c.args.v (value (goal.at.After-days_in-whole c).Start)))

-- the code's test is the definition's
same_test : (c : After-eq) → c.eq.result ≡ equals c.args.v (of_days (days_in c.args.v))
same_test c =
    let h = to_z w64 (of_z w64 (to_z w64 (of_z w64 c.days_in-whole.result) *ℤ pos 86400)) in
    c.eq.ensures ∙ (same_is_equal c.args.v (record { head = h; tail = pos 0 })
    ∙ rw (product (goal.at.After-eq c).After-days_in-whole))

pub returns-then-eq : goal.returns-then-eq
unfolding first_second
returns-then-eq c =
    product (goal.at.returns-then-eq c).After-days_in-whole ∙ (sym (+ℤ_idr (days_in c.args.v *ℤ pos 86400)) ∙
    rw (sym (same_test (goal.at.returns-then-eq c).After-eq) ∙ c.if-eq.true))

pub overflow_add-result : goal.overflow_add-result
overflow_add-result c =
    rw (product (goal.at.overflow_add-result c).After-days_in-whole)
    (later_fits c.args.v (value (goal.at.overflow_add-result c).Start))

pub returns-else-eq : goal.returns-else-eq
unfolding first_second
returns-else-eq c =
    rw (product (goal.at.returns-else-eq c).After-days_in-whole)
    (to_z-of_z (later_fits c.args.v (value (goal.at.returns-else-eq c).Start)) ∙
    rw (sym (same_test (goal.at.returns-else-eq c).After-eq) ∙ c.if-eq.false))
