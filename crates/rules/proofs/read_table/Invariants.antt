-- `rules::read_table` meets its contract: the rows so far, and those of the lines that are left, are all. Assumes nothing.
use mathlib.Core.Path.{◌≡◌}
use Prim.Native.Nat.{◌≤◌}
use lib.ListN.{length, drop}
use Rattle.rules.specs.Cover.{rows_of}
use Rattle.rules.specs.Table.{rows_of_lines}
use Rattle.rules.proofs.Reading.{row_lines, going}
use Rattle.rules.proofs.read_table.Given as goal

abbrev pub invariant-loop-line : goal.invariant-loop-line
invariant-loop-line l = record {
  can_next : (goal.iterator-loop-line).can_next l.line-iterator;
  finite : (goal.iterator-loop-line).is_finite l.line-iterator;
  few : length (rows_of l.rows) ≤ 64;
  count : length (rows_of l.rows) ≡ length l.yielded;
  read : rows_of_lines (row_lines l.s) ≡ going (rows_of l.rows) (drop (length l.yielded) (row_lines l.s));
}
