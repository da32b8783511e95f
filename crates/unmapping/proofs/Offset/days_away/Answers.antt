-- `unmapping::Offset::days_away` meets its contract. Assumes nothing.
use borrow.Author.Rules.{rules}
use mathlib.Core.Path.{◌≡◌, ◌∙◌, ap}
use mathlib.Core.Bool.{true}
use lib.IntN.{ℤ, pos, ◌+ℤ◌}
use mir.Syntax.{w64}
use mir.Facts.{to_z-of_z}
use Rattle.std.specs.Int.{saturate_signed}
use Rattle.laws.specs.Numbers.{within}
use Rattle.laws.proofs.Tests.{both_true}
use Rattle.calendar.specs.Questions.{is_day}
use Rattle.values.proofs.Values.{InRange}
use Rattle.unmapping.specs.Moves.{date_time_answer}
use Rattle.unmapping.proofs.Moves.{at, saturated, days_sum}
use Rattle.unmapping.proofs.Offset.days_away.Goals as goal
use Rattle.unmapping.proofs.Offset.days_away.Goals.{Start}

in_range_law : (c : Start) → InRange c.args.self.from
in_range_law c = search rules

pub returns : goal.returns
returns c = let v = c.args.self.from in
    let r = in_range_law (goal.at.returns c).Start in
    let t : within (pos 0) v.tail (pos 86399999999999) ≡ true =
    (both_true (is_day v.head) (within (pos 0) v.tail (pos 86399999999999)) c.args.self.real).1 in
    let s : c.saturating_add.result ≡ saturate_signed w64 (v.head +ℤ c.args.n) =
    rw (to_z-of_z r.head, to_z-of_z c.ranges.n) at c.saturating_add.ensures in
    let e : c.on_calendar.result ≡ date_time_answer (at v.tail c.saturating_add.result) =
    rw (to_z-of_z r.tail, to_z-of_z {w = w64} {z = c.saturating_add.result} (search rules)) at c.on_calendar.ensures in
    e
    ∙ (ap (λ (d : ℤ). date_time_answer (at v.tail d)) s
    ∙ (saturated v.tail t (v.head +ℤ c.args.n)
    ∙ ap date_time_answer (days_sum v c.args.n)))
