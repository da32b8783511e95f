-- `values::is_value` meets its contract. Assumes nothing.
use borrow.Author.Rules.{rules}
use mathlib.Core.Path.{sym}
use native.Mathlib.Omega.{arith}
use lib.IntN.{pos}
use mir.Facts.{to_z-of_z}
use Rattle.laws.proofs.Signed.{count_fits}
use Rattle.values.proofs.Values.{InRange, in_dates, in_times, of_dates, of_date_times, of_durations, none_of_none}
use Rattle.values.proofs.Order.{tested_equal}
use Rattle.values.proofs.is_value.Goals as goal

pub returns-in-Date : goal.returns-in-Date
returns-in-Date c = let r : InRange c.args.v = search rules in
    rw (c.is_day.ensures, to_z-of_z r.head, tested_equal c.args.v.tail (pos 0) r.tail (count_fits 0 (omega arith)))
    (sym (of_dates c.args.kind c.args.v (in_dates c.args.kind c.in-Date.is)))

pub returns-in-Stamp : goal.returns-in-Stamp
returns-in-Stamp c = let r : InRange c.args.v = search rules in
    rw (c.is_day-in-Stamp.ensures, to_z-of_z r.head, to_z-of_z r.tail)
    (sym (of_date_times c.args.kind c.args.v (in_times c.args.kind c.in-Stamp.is)))

pub returns-in-Span : goal.returns-in-Span
returns-in-Span c = let r : InRange c.args.v = search rules in
    rw (to_z-of_z r.head, to_z-of_z r.tail) (sym (of_durations c.args.kind c.args.v (rw c.in-Span.is)))

pub returns-in-Unknown : goal.returns-in-Unknown
returns-in-Unknown c = sym (none_of_none c.args.kind c.args.v c.in-Unknown.is)
