-- What the verdict on a table says, and what a ruled list is, proved of the definitions that the exports cite. Assumes nothing.
use mathlib.Core.Path.{◌≡◌, refl, sym, ap, subst, ◌∙◌}
use mathlib.Core.Bool.{Bool, true, false, cond}
use mathlib.Core.List.{List, ◌++◌}
use mathlib.Core.Logic.{◌↔◌}
use Prim.Native.Nat.{ℕ, ◌-◌, ◌*◌, ◌≤◌, ◌<◌}
use native.Mathlib.Omega.{arith}
use lib.IntN.{ℤ, pos}
use lib.ListN.{length, take, drop, length-append}
use lib.Seq.{take_at}
use Rattle.std.specs.Prelude.{Some, Result, Ok, Err}
use Rattle.std.specs.Result.{result_and}
use Rattle.laws.specs.Numbers.{pos_part}
use Rattle.asking.specs.declared.Refusal.{Refusal}
use Rattle.asking.specs.declared.Refusal.TheVariants as refusal
use Rattle.asking.specs.Asking.{passes}
use Rattle.asking.proofs.Asked.{told, passed}
use Rattle.values.specs.declared.Value.{Value}
use Rattle.values.specs.Values.{over_dates}
use Rattle.axis.specs.declared.Axis.{Axis}
use Rattle.axis.specs.Axes.{closed}
use Rattle.axis.specs.Questions.{plain_questions}
use Rattle.axis.proofs.ClosedAxes.{same_kind, same_start}
use Rattle.counting.specs.Counting.{from_day, to_day}
use Rattle.counting.proofs.Counting.{date_from, to_is, from_range, to_range}
use Rattle.steps.specs.Listing.{numbers, has_room, listed_of, lent_after}
use Rattle.steps.proofs.Pairs.{length_numbers}
use Rattle.rules.specs.declared.Row.{Row}
use Rattle.rules.specs.Rows.{InRange}
use Rattle.rules.specs.Cover.{lengths, first_for}
use Rattle.rules.specs.Table.{rows_read, rows_in, table_questions, rules_answer}
use Rattle.rules.specs.Claims.{verdict}
use Rattle.ticks.proofs.Answers.{by_row}
use Rattle.rules.proofs.Lengths.{met}
use Rattle.rules.proofs.Judged.{judges, accepted_table}
use Rattle.ruled.specs.Answers.{has_rules, ruled_questions, length_of, row_on, ruled_on, ruled_answer, ruled_written}
use Rattle.ruled.specs.Claims.{Ruled}
use Rattle.ruled.proofs.Answers.{of_two, dated, row_fine}
use Rattle.ruled.proofs.Claims.{ruled_list}
use Rattle.ordered.specs.declared.OrderedNumber.{OrderedNumber}
use Rattle.ordered.specs.Replies.{number_reply}
use Rattle.promises.specs.HouseRules.{TableClaim, first_day, last_day, OnlyRow, RuledCount, RuledList}
use Rattle.promises.proofs.Rows.{no_refusal, behind, refused_by, refused_by_none, counted}

-- ---- the verdict on a table
module _ (table : List ℕ) where
  abbrev answered : OrderedNumber
  answered = number_reply (rules_answer table)

  by_verdict : answered ≡ number_reply (result_and (verdict table) (Ok (length (rows_in table))))
  unfolding rules_answer
  by_verdict = ap number_reply (behind (table_questions table) (Ok (length (rows_in table))))

  by_status : (n : ℕ) {P V : Type 0} →
      ((number_reply (result_and (verdict table) (Ok (length (rows_in table))))).status ≡ pos n ↔ V) → (V ↔ P) →
      (answered.status ≡ pos n ↔ P)
  by_status n f g = (λ e. g.0 (f.0 (sym (ap status by_verdict) ∙ e)), λ x. ap status by_verdict ∙ f.1 (g.1 x))
    where
      status : OrderedNumber → ℤ
      status r = r.status

  -- THE CLAIM, of all bytes
  pub rules_judged : TableClaim table answered
  rules_judged =
      let v = verdict table in
      let n = length (rows_in table) in
      record {
        twelve = by_status 12 (refused_by v n refusal.Table) (judges table).twelve;
        others = λ ws e.
            let j = (judges table).others ws e in
            record {
              fifteen = by_status 15 (refused_by v n refusal.Gap) j.fifteen;
              sixteen = by_status 16 (refused_by v n refusal.Overlap) j.sixteen;
              accepted = by_status 0 (refused_by_none v n) j.accepted;
              counted = λ s.
                  ap (λ (r : OrderedNumber). r.value) by_verdict
                  ∙ counted v n (sym (ap (λ (r : OrderedNumber). r.status) by_verdict) ∙ s)
                  ∙ ap (λ t. pos (length (rows_read t))) e;
            };
      }

-- ---- a ruled list
-- the lengths of spans are those of tables
a_length : {l : ℕ} → l ≤ 3652058 → l < lengths
unfolding lengths
a_length h = omega arith

-- where neither the table nor the axis is refused, and the row for the span is w
module _ (table : List ℕ) (a : Axis) (z : passes (ruled_questions table a) ≡ true) (w : Row)
    (e : row_on (rows_in table) (closed a) ≡ Some w) (r : InRange w) where
  accepted : verdict table ≡ Ok tt
  accepted = sym (passed (table_questions table) (Ok tt) (of_two table a z).0)

  dates : over_dates (closed a).kind ≡ true
  unfolding has_rules
  dates = ap over_dates (same_kind a) ∙ told 2 (plain_questions (has_rules a) a) (of_two table a z).1

  -- the days between which it lists are the first and the last that belong to the axis
  first_is : from_day (closed a) ≡ first_day a
  first_is = date_from (closed a) (dated table a z).real dates ∙ ap (λ (v : Value). pos_part v.head) (same_start a)

  last_is : to_day (closed a) ≡ last_day a
  last_is = to_is (closed a)

  only_row : OnlyRow table (length_of (closed a)) w
  only_row =
      let t = accepted_table table accepted in
      let j = (judges table).others (rows_in table) t in
      let d = dated table a z in
      let l = a_length {l = length_of (closed a)} (omega (arith, from_range (closed a) d, to_range (closed a) d)) in
      let (_, is, _) = met (rows_in table) (length_of (closed a)) w e in
      record {
        rows = rows_in table;
        read = t;
        place = first_for (rows_in table) (length_of (closed a));
        fits = j.found accepted (length_of (closed a)) l;
        only = j.only accepted (length_of (closed a)) l;
        is = is;
      }

  is_ruled : Ruled w.unit w.step (from_day (closed a)) (to_day (closed a)) (numbers (ruled_on table a))
  unfolding ruled_on
  is_ruled = rw e (ruled_list w.unit w.step (closed a) r.step)

  -- the ticks of a list that the lent numbers have room for
  listed_ticks : (l : List ℤ) → let c = length (ruled_on table a) in
      2 * c ≤ length l → take (2 * c) l ≡ numbers (ruled_on table a) → RuledCount table a (pos c) l
  listed_ticks l h t = record {
    row = w;
    its_row = subst (λ (n : ℕ). OnlyRow table n w) (λ i. last_is i - first_is i) only_row;
    count = length (ruled_on table a);
    counted = refl;
    held = h;
    ruled = rw t (subst (λ (n : ℕ). Ruled w.unit w.step (first_day a) n (numbers (ruled_on table a))) last_is
        (subst (λ (n : ℕ). Ruled w.unit w.step n (to_day (closed a)) (numbers (ruled_on table a))) first_is
        is_ruled));
  }

-- a refused call: its status is no 0, and it leaves the lent numbers
refused_list : (table : List ℕ) (a : Axis) (q : Refusal) (d : List ℤ) → RuledList table a (number_reply (Err q)) d d
refused_list table a q d = record {
  listed = λ s. absurd (no_refusal q s);
  refused = λ n. refl;
}

module _ (table : List ℕ) (a : Axis) (d : List ℤ) where
  -- by whether the lent numbers have room for the list
  in_room : passes (ruled_questions table a) ≡ true → let vs = ruled_on table a in
      RuledList table a (number_reply (listed_of vs (length d))) d (lent_after vs d)
  in_room z = go (has_room vs (length d))
    where
      vs : List Value
      vs = ruled_on table a

      go : (b : Bool) → RuledList table a (number_reply (cond b (Ok (length vs)) (Err refusal.Room))) d
          (cond b (numbers vs ++ drop (2 * length vs) d) d)
      go true = record {
        listed = λ s.
            let (w, e, r) = row_fine table a z in
            listed_ticks table a z w e r (numbers vs ++ drop (2 * length vs) d)
            (simp length-append (omega (arith, length_numbers vs)))
            (take_at (numbers vs) (drop (2 * length vs) d) (2 * length vs) (length_numbers vs));
        refused = λ n. absurd (n refl);
      }
      go false = refused_list table a refusal.Room d

  -- THE CLAIM, of all bytes, axes and lent numbers
  pub ruled_fine : RuledList table a (number_reply (ruled_answer table a (length d))) d (ruled_written table a d)
  unfolding ruled_answer ruled_written
  ruled_fine =
      let row = ruled_questions table a in
      let vs = ruled_on table a in
      by_row row (listed_of vs (length d))
      (λ (b : Bool) (r : Result ℕ Refusal).
      passes row ≡ b → RuledList table a (number_reply r) d (cond b (lent_after vs d) d)) in_room
      (λ q _. refused_list table a q d) refl

-- ---- of what a call handed back, which is as defined
pub ruled_as : (table : List ℕ) (a : Axis) (d : List ℤ) {r : OrderedNumber} {l : List ℤ} →
    r ≡ number_reply (ruled_answer table a (length d)) → l ≡ ruled_written table a d → RuledList table a r d l
ruled_as table a d e w = rw (e, w) (ruled_fine table a d)
