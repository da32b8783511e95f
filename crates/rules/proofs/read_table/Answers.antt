-- `rules::read_table` meets its contract: no LF at the end, another first line, or the names and then the rows. Assumes nothing.
use borrow.Author.Rules.{rules}
use mathlib.Core.Path.{◌≡◌, refl, sym, ap, ◌∙◌}
use mathlib.Core.Bool.{Bool, true, false, not}
use mathlib.Core.List.{[], ◌∷◌, ◌++◌}
use Prim.Native.Nat.{◌+◌, ◌<◌}
use native.Mathlib.Omega.{arith}
use lib.Dec.{eqb}
use lib.ListN.{length, drop, get_or, length-append}
use Rattle.std.proofs.Common.{tests}
use Rattle.std.specs.Prelude.{⊤, None, Some, Result, Ok, Err, ◌↔◌, OnOk, OnErr, IsOk}
use Rattle.std.specs.List.{slice_split}
use Rattle.std.specs.Result.{result_ok}
use Rattle.std.proofs.lemmas.Iterator.{YieldsList}
use Rattle.std.proofs.lemmas.Iterator.Consumers.{YieldsList-turn, YieldsList-end}
use Rattle.std.proofs.lemmas.Iterator.Splits.{YieldsList-from_slice_split}
use Rattle.text_read.specs.Bytes.{line_feed}
use Rattle.text_read.specs.Lines.{lines_of}
use Rattle.rules.specs.Cover.{rows_of}
use Rattle.rules.specs.Table.{table_of}
use Rattle.rules.proofs.Reading.{cut_lines, no_end, before_LF, first_line, after_first}
use Rattle.rules.proofs.Reading.{row_lines, begun, over, stop_unread, go_on}
use Rattle.rules.proofs.Reading.{wrong_names, too_many, unread_line, all_read, table_in_range}
use Rattle.rules.proofs.read_table.Given as given
use Rattle.rules.proofs.read_table.Goals as goal
use Rattle.rules.proofs.read_table.Goals.{In_ok-next, In_ok-strip_suffix, After-into_iter-line-iterator, In-Some, In-None}

-- ---- the lines
cut : (c : In_ok-strip_suffix) →
    lines_of c.args.s.now ≡ record { lines = slice_split (λ b. eqb b line_feed) c.in_ok-strip_suffix.field-0.now; left = [] }
cut c = let (e, f, g) = c.in_ok-strip_suffix.ensures.cases in
    ap lines_of (before_LF c.args.s.now _ e f) ∙ cut_lines c.in_ok-strip_suffix.field-0.now

road : (c : In_ok-next) → let all = slice_split (λ b. eqb b line_feed) c.in_ok-strip_suffix.field-0.now in
    (all ≡ c.in_ok-next.field-0.now ∷ drop 1 all)
    × YieldsList ((given.iterator-loop-line).next_gives) (λ x. x.now) c.next.new.self (drop 1 all)
road c = after_first _ (YieldsList-from_slice_split _ (λ b. eqb b line_feed) c.in_ok-strip_suffix.field-0.now
    c.split-lines.ensures.rest c.split-lines.ensures.done c.split-lines.ensures.closure (λ x b q k. search (rules, tests)))
    c.next.result c.in_ok-next.field-0 _ c.in_ok-next.was c.next.ensures.steps

names : (c : In_ok-next) →
    lines_of c.args.s.now ≡ record { lines = c.in_ok-next.field-0.now ∷ row_lines c.args.s.now; left = [] }
names c = first_line _ _ _ (cut (goal.at.In_ok-next c).In_ok-strip_suffix) (road c).0

rest : (c : After-into_iter-line-iterator) →
    YieldsList ((given.iterator-loop-line).next_gives) (λ x. x.now) c.into_iter-line-iterator.result (row_lines c.args.s.now)
rest c = let p = (goal.at.After-into_iter-line-iterator c).In_ok-next in
    rw (c.into_iter-line-iterator.ensures.into_iter_gives, cut (goal.at.In_ok-next p).In_ok-strip_suffix) (road p).1

turn : (c : In-Some) → (length c.loop-line.yielded < length (row_lines c.args.s.now))
    × (c.in-Some.line.now ≡ get_or (row_lines c.args.s.now) (length c.loop-line.yielded) c.in-Some.line.now)
turn c = let r = rest (goal.at.In-Some c).After-into_iter-line-iterator in
    YieldsList-turn r c.loop-line.yielded _ c.loop-line.yielded_by _ _ c.in-Some.line c.in-Some.is
    c.next-in-loop-line.ensures.steps

-- ---- the names are tested for not being the wanted ones
other : (b : Bool) → true ≡ not b → b ≡ false
other true e = absurd (let z : ⊥ = cc in z)
other false e = refl

named : (b : Bool) → false ≡ not b → b ≡ true
named true e = refl
named false e = absurd (let z : ⊥ = cc in z)

-- ---- what a push says, once it is known whether there was room
no_room : {E P : Type 0} (r : Result ⊤ E) → result_ok r ≡ None → OnErr r P → P
no_room (Ok u) e p = absurd (let z : ⊥ = cc in z)
no_room (Err q) e p = p

room : {E P Q : Type 0} (r : Result ⊤ E) (u : ⊤) → result_ok r ≡ Some u → OnOk r P → (IsOk r ↔ Q) → P × Q
room (Ok v) u e p q = (p, q.0 refl)
room (Err q) u e p f = absurd (let z : ⊥ = cc in z)

pub returns-in_err-strip_suffix : goal.returns-in_err-strip_suffix
returns-in_err-strip_suffix c = rw c.from_residual.ensures (sym (no_end c.args.s.now c.in_err-strip_suffix.ensures.cases))

pub returns-then-ne : goal.returns-then-ne
returns-then-ne c =
    sym (wrong_names _ _ _ (names (goal.at.returns-then-ne c).In_ok-next) (other _ c.if-ne.ensures))

pub loop-line-init : goal.loop-line-init
loop-line-init c = record {
  can_next = search rules;
  finite = search rules;
  few = rw c.new-rows.ensures (omega arith);
  count = ap length c.new-rows.ensures;
  read = rw c.new-rows.ensures (begun (row_lines c.args.s.now));
}

pub returns-in_err-read_row : goal.returns-in_err-read_row
returns-in_err-read_row c =
    let p = goal.at.returns-in_err-read_row c in
    let (h, e) = turn p.In-Some in
    let u = stop_unread (rows_of c.loop-line.rows) _ _ _ h e (sym c.read_row.ensures ∙ c.in_err-read_row.was) in
    rw c.from_residual-in_err-read_row.ensures
    (sym (unread_line _ _ _ (names p.In_ok-next) (named _ c.if-ne.ensures) (c.loop-line.invariant.read ∙ u)))

pub loop-line-preserved : goal.loop-line-preserved
loop-line-preserved c =
    let (h, e) = turn (goal.at.loop-line-preserved c).In-Some in
    let n : length (c.loop-line.yielded ++ (c.in-Some.line ∷ [])) ≡ length c.loop-line.yielded + 1 =
    length-append c.loop-line.yielded _ in
    let one = length-append (rows_of c.loop-line.rows) (c.in_ok-read_row.field-0 ∷ []) in
    let (items, few) =
    room c.try_push.result _ (sym c.ok.ensures.value ∙ c.in_ok-ok.was) c.try_push.ensures.ok c.try_push.ensures.variant in
    record {
      can_next = search rules;
      finite = search rules;
      few = rw items (omega (arith, one, few));
      count = rw (items, n) (omega (arith, one, c.loop-line.invariant.count));
      read = rw (items, n) (c.loop-line.invariant.read
          ∙ go_on (rows_of c.loop-line.rows) _ _ _ h e (sym c.read_row.ensures ∙ c.in_ok-read_row.was));
    }

pub returns-in_err-ok : goal.returns-in_err-ok
returns-in_err-ok c =
    let p = goal.at.returns-in_err-ok c in
    let full = no_room c.try_push.result (sym c.ok.ensures.value ∙ c.in_err-ok.was) c.try_push.ensures.full in
    let more : 64 < length (row_lines c.args.s.now) = omega (arith, full, c.loop-line.invariant.count, (turn p.In-Some).0) in
    rw c.from_residual-in_err-ok.ensures (sym (too_many _ _ _ (names p.In_ok-next) (named _ c.if-ne.ensures) more))

-- the rows at the end
all : (c : In-None) → table_of c.args.s.now ≡ Some (rows_of c.loop-line.rows)
all c =
    let p = goal.at.In-None c in
    let e = YieldsList-end (rest p.After-into_iter-line-iterator) c.loop-line.yielded _ c.loop-line.yielded_by _ _ c.in-None.is
    c.next-in-loop-line.ensures.steps in
    all_read _ _ _ (names p.In_ok-next) (named _ c.if-ne.ensures)
    (omega (arith, e.1, c.loop-line.invariant.few, c.loop-line.invariant.count))
    ∙ c.loop-line.invariant.read
    ∙ over (rows_of c.loop-line.rows) (row_lines c.args.s.now) (length c.loop-line.yielded) (omega (arith, e.1))

pub invariant_of-result : goal.invariant_of-result
invariant_of-result c =
    record { in_range = (table_in_range c.args.s.now _ (all (goal.at.invariant_of-result c).In-None)).1 }

pub returns : goal.returns
returns c = sym (all (goal.at.returns c).In-None)
