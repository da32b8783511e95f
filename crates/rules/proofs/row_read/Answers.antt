-- `rules::row_read` meets its contract: the numbers are counts where they are in range. Assumes nothing.
use mathlib.Core.Path.{◌≡◌, sym, ap, ◌∙◌}
use mathlib.Core.Bool.{true}
use mir.Syntax.{w64}
use mir.Val.{SFits}
use mir.Facts.{to_z-of_z}
use borrow.Author.Rules.{rules}
use Rattle.laws.specs.Numbers.{pos_part}
use Rattle.std.specs.Prelude.{Some}
use Rattle.rules.specs.Rows.{in_range, row_read}
use Rattle.rules.proofs.Reading.{ranges, a_count, to_count}
use Rattle.rules.proofs.row_read.Goals as goal
use Rattle.rules.proofs.row_read.Goals.{Else-not-in_range, Start}

pub returns-then-not-in_range : goal.returns-then-not-in_range
unfolding row_read
returns-then-not-in_range c = rw (← c.in_range.ensures, c.if-not-in_range.true)

-- the numbers are in range from here on
real : (c : Else-not-in_range) → in_range c.args.t ≡ true
real c = sym c.in_range.ensures ∙ c.if-not-in_range.false

fits_from : (c : Start) → SFits w64 c.args.t.from
fits_from c = search rules

fits_to : (c : Start) → SFits w64 c.args.t.to
fits_to c = search rules

fits_step : (c : Start) → SFits w64 c.args.t.step
fits_step c = search rules

pub as_count-requires : goal.as_count-requires
as_count-requires c = let t = c.args.t in
    rw (to_z-of_z (fits_from (goal.at.as_count-requires c).Start))
    (a_count t.from 0 (ranges t (real (goal.at.as_count-requires c).Else-not-in_range)).from)

pub as_count-requires-2 : goal.as_count-requires-2
as_count-requires-2 c = let t = c.args.t in
    rw (to_z-of_z (fits_to (goal.at.as_count-requires-2 c).Start))
    (to_count (ranges t (real (goal.at.as_count-requires-2 c).Else-not-in_range)))

pub as_count-requires-3 : goal.as_count-requires-3
as_count-requires-3 c = let t = c.args.t in
    rw (to_z-of_z (fits_step (goal.at.as_count-requires-3 c).Start))
    (a_count t.step 1 (ranges t (real (goal.at.as_count-requires-3 c).Else-not-in_range)).step)

pub returns : goal.returns
unfolding row_read
returns c = rw (real (goal.at.returns c).Else-not-in_range)
    (λ i. Some (record {
      from = (c.as_count.ensures ∙ ap pos_part (to_z-of_z (fits_from (goal.at.returns c).Start))) i;
      to = (c.as_count-2.ensures ∙ ap pos_part (to_z-of_z (fits_to (goal.at.returns c).Start))) i;
      unit = c.args.t.unit;
      step = (c.as_count-3.ensures ∙ ap pos_part (to_z-of_z (fits_step (goal.at.returns c).Start))) i;
    }))
