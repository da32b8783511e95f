-- `unmapping::Offset::nanoseconds_away` meets its contract. Assumes nothing.
use borrow.Author.Rules.{rules}
use mathlib.Core.Path.{◌≡◌, ◌∙◌, ap}
use lib.IntN.{ℤ, ◌+ℤ◌}
use mir.Syntax.{w64}
use mir.Val.{SFits, to_z, of_z}
use mir.Facts.{to_z-of_z}
use Rattle.values.specs.declared.Value.{Value}
use Rattle.values.proofs.Values.{InRange}
use Rattle.unmapping.specs.Moves.{date_time_answer}
use Rattle.unmapping.proofs.Moves.{days, rest, read_sum, day_fits, nano_fits, carry_fits, left_fits, left_in_day, next_fits}
use Rattle.unmapping.proofs.Moves.{moved}
use Rattle.unmapping.proofs.Offset.nanoseconds_away.Goals as goal
use Rattle.unmapping.proofs.Offset.nanoseconds_away.Goals.{After-rem_euclid}

module _ (c : After-rem_euclid) where
  abbrev v : Value
  v = c.args.self.from

  abbrev n : ℤ
  n = c.args.n

  in_range_law : InRange v
  in_range_law = search rules

  quotient_fits : SFits w64 c.div_euclid.result
  quotient_fits = search rules

  remainder_fits : SFits w64 c.rem_euclid.result
  remainder_fits = search rules

  quotient_is : c.div_euclid.result ≡ days n
  quotient_is = rw (to_z-of_z c.ranges.n) at c.div_euclid.ensures

  remainder_is : c.rem_euclid.result ≡ rest n
  remainder_is = rw (to_z-of_z c.ranges.n) at c.rem_euclid.ensures.value

  -- the sums, as the code has them
  day_is : to_z w64 (of_z w64 (to_z w64 (of_z w64 v.head) +ℤ to_z w64 (of_z w64 c.div_euclid.result))) ≡ v.head +ℤ days n
  day_is = read_sum v.head c.div_euclid.result (days n) in_range_law.head quotient_fits quotient_is
      (day_fits v n c.args.self.real c.ranges.n)

  nano_is : to_z w64 (of_z w64 (to_z w64 (of_z w64 v.tail) +ℤ to_z w64 (of_z w64 c.rem_euclid.result))) ≡ v.tail +ℤ rest n
  nano_is = read_sum v.tail c.rem_euclid.result (rest n) in_range_law.tail remainder_fits remainder_is
      (nano_fits v n c.args.self.real c.ranges.n)

pub overflow_add-day-2 : goal.overflow_add-day-2
overflow_add-day-2 c = let p = (goal.at.overflow_add-day-2 c).After-rem_euclid in
    rw (day_is p, nano_is p, to_z-of_z (carry_fits (v p) (n p) c.args.self.real c.ranges.n))
    (next_fits (v p) (n p) c.args.self.real c.ranges.n)

pub on_calendar-requires : goal.on_calendar-requires
on_calendar-requires c = let p = (goal.at.on_calendar-requires c).After-rem_euclid in
    rw (nano_is p, to_z-of_z (left_fits (v p) (n p) c.args.self.real c.ranges.n))
    (left_in_day (v p) (n p) c.args.self.real c.ranges.n)

pub returns : goal.returns
returns c = let p = (goal.at.returns c).After-rem_euclid in
    (rw (
      day_is p,
      nano_is p,
      to_z-of_z (carry_fits (v p) (n p) c.args.self.real c.ranges.n),
      to_z-of_z (left_fits (v p) (n p) c.args.self.real c.ranges.n),
      to_z-of_z (next_fits (v p) (n p) c.args.self.real c.ranges.n),
    ) at c.on_calendar.ensures)
    ∙ ap date_time_answer (moved (v p) (n p) c.args.self.real c.ranges.n)
