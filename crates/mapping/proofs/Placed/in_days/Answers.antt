-- `mapping::Placed::in_days` meets its contract. Assumes nothing.
use borrow.Author.Rules.{rules}
use mathlib.Core.Path.{◌≡◌, refl, ap, ◌∙◌}
use mathlib.Core.Bool.{Bool, true, false, not, cond}
use lib.Dec.{eqb}
use lib.IntN.{ℤ, pos}
use lib.Ieee.{binary64, of_int}
use mir.Syntax.{w64}
use mir.Val.{SFits, to_z, of_z}
use mir.Facts.{to_z-of_z}
use Rattle.std.specs.Prelude.{Some, None}
use Rattle.std.specs.Bool.{then_some}
use Rattle.laws.specs.Numbers.{is_number}
use Rattle.values.specs.Differences.{whole_days}
use Rattle.values.proofs.Order.{tested_equal}
use Rattle.axis.specs.Axes.{offset_of, span_of}
use Rattle.floats.specs.Rounding.{quotient_of}
use Rattle.mapping.specs.declared.Ratio.{Ratio}
use Rattle.mapping.proofs.Placed.in_days.Goals as goal

either : (b : Bool) (r : Ratio) → then_some (not b) r ≡ cond b None (Some r)
either true r = refl
either false r = refl

pub returns : goal.returns
returns c = let x = c.args in
    let d = c.offset_days-days.result in
    let s = c.span_days-span.result in
    let df : SFits w64 d = search rules in
    let sf : SFits w64 s = search rules in
    let days : to_z w64 (of_z w64 d) ≡ whole_days (offset_of x.self.scale.axis x.self.value) =
    to_z-of_z df ∙ c.offset_days-days.ensures in
    let span : to_z w64 (of_z w64 s) ≡ whole_days (span_of x.self.scale.axis) = to_z-of_z sf ∙ c.span_days-span.ensures in
    let total = c.from_i64.ensures ∙ ap (of_int binary64) span in
    let none : eqb (of_z w64 s) 0 ≡ is_number (whole_days (span_of x.self.scale.axis)) 0 =
    tested_equal s (pos 0) sf (search rules) ∙ ap (λ (z : ℤ). is_number z 0) c.span_days-span.ensures in
    λ i. record {
      x = (c.quotient.ensures
          ∙ (λ j. quotient_of (x.self.scale.ready.wide j) (days j) (total j))) i;
      ratio = (c.then_some.ensures
          ∙ either (eqb (of_z w64 s) 0) (record { offset = to_z w64 (of_z w64 d); span = to_z w64 (of_z w64 s) })
          ∙ (λ j. cond (none j) None (Some (record { offset = days j; span = span j })))) i;
    }
