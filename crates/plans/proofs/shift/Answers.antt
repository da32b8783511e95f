-- `plans::shift` meets its contract. Assumes nothing.
use borrow.Author.Rules.{rules}
use mathlib.Core.Path.{◌≡◌, sym, ◌∙◌, ap}
use mathlib.Core.Bool.{true}
use native.Mathlib.Omega.{arith}
use lib.IntN.{ℤ}
use mir.Syntax.{w64}
use mir.Val.{SFits, to_z, of_z}
use mir.Facts.{to_z-of_z}
use Rattle.std.specs.Prelude.{Some}
use Rattle.values.specs.declared.Kind.TheVariants.{Span}
use Rattle.values.specs.Values.{is_duration}
use Rattle.values.specs.Differences.{nanoseconds, nanoseconds_of}
use Rattle.values.proofs.Fits.{fits_yes, value_is}
use Rattle.plans.specs.Times.{shift_of, shift}
use Rattle.plans.proofs.Times.{from_zero}
use Rattle.plans.proofs.Spans.{near_start}
use Rattle.plans.proofs.shift.Goals as goal
use Rattle.plans.proofs.shift.Goals.{After-nanoseconds_between, Else-not-is_duration, Start}

some_is : {x y : ℤ} → Some x ≡ Some y → x ≡ y
some_is e = cc

tail_fits : (c : Start) → SFits w64 c.args.a.start.tail
tail_fits c = search rules

seven : (c : Else-not-is_duration) → is_duration c.args.a.kind ≡ true
seven c = sym c.is_duration.ensures ∙ c.if-not-is_duration.false

-- the start's nanoseconds, which fit
worked : (c : After-nanoseconds_between) → c.nanoseconds_between.result ≡ Some (nanoseconds Span c.args.a.start)
worked c = let n = nanoseconds Span c.args.a.start in
    let r = near_start c.args.a c.args.k c.requires (seven (goal.at.After-nanoseconds_between c).Else-not-is_duration) in
    c.nanoseconds_between.ensures
    ∙ ap nanoseconds_of (from_zero c.args.a.start)
    ∙ value_is n (fits_yes n (omega arith) (omega arith))

pub unwrap-requires : goal.unwrap-requires
unwrap-requires c = rw (worked (goal.at.unwrap-requires c).After-nanoseconds_between) (search rules)

pub returns : goal.returns
unfolding shift
returns c =
    let z : to_z w64 (of_z w64 c.unwrap.result) ≡ nanoseconds Span c.args.a.start =
    to_z-of_z {w = w64} {z = c.unwrap.result} (search rules)
    ∙ some_is (sym c.unwrap.ensures ∙ worked (goal.at.returns c).After-nanoseconds_between) in
    c.shift_of.ensures ∙ (ap (λ (z : ℤ). shift_of z c.args.k) z ∙
    rw (seven (goal.at.returns c).Else-not-is_duration))
