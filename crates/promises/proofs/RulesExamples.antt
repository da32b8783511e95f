-- The settled examples of house rules. A verdict is about 3,652,059 lengths: a law says it of all of them, and what is left is
-- computed. Assumes nothing.
use mathlib.Core.Path.{◌≡◌, refl, ap, ◌∙◌}
use mathlib.Core.Bool.{true, cond, ◌&&◌}
use mathlib.Core.List.{List, [], ◌∷◌, ◌++◌}
use Prim.Native.Nat.{ℕ, ◌≤◌, ◌<◌}
use native.Mathlib.Decide.{dec_le}
use native.Mathlib.Omega.{arith}
use borrow.Author.Tests.{le-leb, lt-leb}
use lib.IntN.{ℤ, pos}
use lib.ListN.{length}
use Rattle.std.specs.Prelude.{⊤, Option, None, Some, Result, Ok, Err, is_ok}
use Rattle.std.specs.Result.{result_and}
use Rattle.asking.specs.declared.Refusal.{Refusal}
use Rattle.asking.specs.declared.Refusal.TheVariants as refusal
use Rattle.asking.specs.Asking.{asked, passes}
use Rattle.asking.proofs.Asked.{asked_append, passes_append, all_pass}
use Rattle.text_read.specs.Fields as fields
use Rattle.text_read.specs.Lines as lines
use Rattle.calendar.specs.Gregorian as calendar
use Rattle.values.specs.declared.Kind.TheVariants as kind
use Rattle.values.specs.declared.Value.{Value}
use Rattle.values.specs.Values.{numbered, is_value, earlier}
use Rattle.axis.specs.declared.Axis.{Axis}
use Rattle.axis.specs.Axes.{axis_of, closed}
use Rattle.axis.specs.Questions as asks
use Rattle.axis.specs.Questions.{plain_questions}
use Rattle.counting.specs.Counting.{from_day, to_day}
use Rattle.steps.specs.Months as steps
use Rattle.steps.specs.Listing.{listed_of, lent_after}
use Rattle.plans.specs.Months.{from_month, to_month}
use Rattle.keypoints.specs.Every as every
use Rattle.keypoints.specs.Weeks as weekly
use Rattle.rules.specs.declared.Row.{Row}
use Rattle.rules.specs.declared.Unit.{Unit}
use Rattle.rules.specs.declared.Unit.TheVariants as unit
use Rattle.rules.specs.Rows as rows
use Rattle.rules.specs.Cover.{lengths, rows_for, first_for}
use Rattle.rules.specs.Table.{rows_of_lines, table_of, rows_read, rows_in, table_questions, rules_answer}
use Rattle.rules.specs.Claims.{EachLength, verdict}
use Rattle.rules.proofs.Judged.{judges}
use Rattle.ruled.specs.Ruled.{is_of, ruled_ticks}
use Rattle.ruled.specs.Answers.{has_rules, ruled_questions, ruled_on, ruled_answer, ruled_written}
use Rattle.ruled.specs.Plans.{ruled_plan}
use Rattle.ruled.proofs.Answers.{same}
use Rattle.ordered.specs.Replies.{number_reply}
use Rattle.promises.specs.Examples.{Holds, AllHold, count_numbers, sevens}
use Rattle.promises.specs.ExcludedEnds.{before}
use Rattle.promises.specs.RulesExamples as examples
use Rattle.promises.specs.RulesExamples.{names_line, all_weekly, from_one, to_less, all_second_days, all_second_years}
use Rattle.promises.specs.RulesExamples.{short_daily, long_second_days, verdict_on, ruled_count, ruled_into, between}
use Rattle.promises.specs.RulesExamples.{no_feed, two_spaces, no_step, other_unit, plus_sign, from_below, to_above}
use Rattle.promises.specs.RulesExamples.{from_above_to, step_none, step_above, long_numbers, other_names}
use Rattle.promises.specs.RulesExamples.{verdict_table, unread_table, ruled_table}
use Rattle.promises.proofs.Rows.{behind, passes_ok}
use Rattle.promises.proofs.UnknownKinds.{ruled_refused}

-- ---- what the tables read
abbrev row_of : ℕ → ℕ → Unit → ℕ → Row
row_of from to u step = record { from = from; to = to; unit = u; step = step }

abbrev Reads : List ℕ → List Row → Type 0
Reads s ws = table_of s ≡ Some ws

-- a row for all lengths
abbrev for_all : Unit → ℕ → Row
for_all u step = row_of 0 3652058 u step

record AllRead : Type 0 where
  nothing : table_of [] ≡ None
  names : Reads names_line []
  weekly : Reads (names_line ++ all_weekly) (for_all unit.Day 7 ∷ [])
  twice : Reads (names_line ++ all_weekly ++ all_weekly) (for_all unit.Day 7 ∷ (for_all unit.Day 7 ∷ []))
  from_one_law : Reads (names_line ++ from_one) (row_of 1 3652058 unit.Day 7 ∷ [])
  to_less_law : Reads (names_line ++ to_less) (row_of 0 3652057 unit.Day 7 ∷ [])
  ones : Reads (names_line ++ from_one ++ from_one) (row_of 1 3652058 unit.Day 7 ∷ (row_of 1 3652058 unit.Day 7 ∷ []))
  days : Reads (names_line ++ all_second_days) (for_all unit.Day 2 ∷ [])
  years : Reads (names_line ++ all_second_years) (for_all unit.Year 2 ∷ [])
  long : Reads (names_line ++ long_numbers) (for_all unit.Day 1000 ∷ [])
  two : Reads (names_line ++ short_daily ++ long_second_days) (row_of 0 2 unit.Day 1 ∷ (row_of 3 3652058 unit.Day 2 ∷ []))

reads : AllRead
unfolding fields.until_of fields.digits_from fields.digits_of fields.read_number lines.lines_of lines.occurrences
    lines.in_form rows.in_range rows.row_read rows.read_row rows_of_lines table_of
reads = record {
  nothing = refl;
  names = refl;
  weekly = refl;
  twice = refl;
  from_one_law = refl;
  to_less_law = refl;
  ones = refl;
  days = refl;
  years = refl;
  long = refl;
  two = refl;
}

-- ---- how many rows a length has
least : 0 < lengths
unfolding lengths
least = omega arith

greatest : 3652058 < lengths
unfolding lengths
greatest = omega arith

at_most : (l : ℕ) → l < lengths → l ≤ 3652058
unfolding lengths
at_most l h = omega arith

one_each : (u : Unit) (step : ℕ) → EachLength (λ l. rows_for (for_all u step ∷ []) l ≡ 1)
unfolding rows_for
one_each u step l h = rw (le-leb 0 l (omega arith), le-leb l 3652058 (at_most l h))

two_each : (u : Unit) (step : ℕ) → EachLength (λ l. rows_for (for_all u step ∷ (for_all u step ∷ [])) l ≡ 2)
unfolding rows_for
two_each u step l h = rw (le-leb 0 l (omega arith), le-leb l 3652058 (at_most l h))

one_of_two : EachLength (λ l. rows_for (row_of 0 2 unit.Day 1 ∷ (row_of 3 3652058 unit.Day 2 ∷ [])) l ≡ 1)
unfolding rows_for
one_of_two l h =
    elim (dec_le l 2) [
      | yes k ↦ rw (le-leb 0 l (omega arith), le-leb l 2 k, lt-leb 3 l (omega arith))
      | no k ↦ rw (
        le-leb 0 l (omega arith),
        lt-leb l 2 (omega arith),
        le-leb 3 l (omega arith),
        le-leb l 3652058 (at_most l h),
      )
    ]

-- ---- the verdicts
abbrev fine : Result ⊤ Refusal
fine = Ok tt

lacks : (s : List ℕ) (ws : List Row) (l : ℕ) → Reads s ws → l < lengths → rows_for ws l ≡ 0 → verdict s ≡ Err refusal.Gap
lacks s ws l e h z = ((judges s).others ws e).fifteen.1 (l, h, z)

accepts : (s : List ℕ) (u : Unit) (step : ℕ) → Reads s (for_all u step ∷ []) → verdict s ≡ fine
accepts s u step e = ((judges s).others (for_all u step ∷ []) e).accepted.1 (one_each u step)

has_two : (s : List ℕ) (u : Unit) (step : ℕ) → Reads s (for_all u step ∷ (for_all u step ∷ [])) →
    verdict s ≡ Err refusal.Overlap
has_two s u step e =
    ((judges s).others (for_all u step ∷ (for_all u step ∷ [])) e).sixteen.1
    (λ l h. omega (arith, two_each u step l h), (0, least, omega (arith, two_each u step 0 least)))

verdict_on_law : (s : List ℕ) (o : Option (List Row)) (v : Result ⊤ Refusal) → table_of s ≡ o → verdict s ≡ v →
    verdict_on s ≡ count_numbers (number_reply (result_and v (Ok (length (rows_read o)))))
unfolding rules_answer
verdict_on_law s o v e f =
    ap (λ (r : Result ℕ Refusal). count_numbers (number_reply r)) (behind (table_questions s) (Ok (length (rows_in s))))
    ∙ (λ i. count_numbers (number_reply (result_and (f i) (Ok (length (rows_read (e i)))))))

-- ---- after the verdict, the questions of the axis and the list
module _ (table : List ℕ) (a : Axis) (v : Result ⊤ Refusal) (f : verdict table ≡ v) where
  count_by : ruled_count table a ≡ count_numbers (number_reply (result_and v
      (asked (plain_questions (has_rules a) a) (listed_of (ruled_on table a) (length sevens)))))
  unfolding ruled_answer
  count_by =
      let row = plain_questions (has_rules a) a in
      let list = listed_of (ruled_on table a) (length sevens) in
      ap (λ (r : Result ℕ Refusal). count_numbers (number_reply r))
      (asked_append (table_questions table) row list ∙ behind (table_questions table) (asked row list)
      ∙ ap (λ (x : Result ⊤ Refusal). result_and x (asked row list)) f)

  into_by : ruled_into table a ≡ count_numbers (number_reply (result_and v
      (asked (plain_questions (has_rules a) a) (listed_of (ruled_on table a) (length sevens)))))
      ++ cond (is_ok v && passes (plain_questions (has_rules a) a)) (lent_after (ruled_on table a) sevens) sevens
  unfolding ruled_written
  into_by =
      let row = plain_questions (has_rules a) a in
      let let_through =
      passes_append (table_questions table) row
      ∙ ap (λ b. b && passes row) (passes_ok (table_questions table) ∙ ap (λ (x : Result ⊤ Refusal). is_ok x) f) in
      λ i. count_by i ++ cond (let_through i) (lent_after (ruled_on table a) sevens) sevens

-- ---- tables
not_read : (s : List ℕ) → table_of s ≡ None → Holds (examples.unread s)
not_read s e = verdict_on_law s None (Err refusal.Table) e ((judges s).twelve.1 e)

empty : Holds examples.empty
empty = not_read [] reads.nothing

pub names_alone : Holds examples.names_alone
unfolding rows_for
names_alone = verdict_on_law names_line (Some []) (Err refusal.Gap) reads.names (lacks names_line [] 0 reads.names least refl)

one_row : Holds examples.one_row
one_row =
    let s = names_line ++ all_weekly in
    verdict_on_law s _ fine reads.weekly (accepts s unit.Day 7 reads.weekly)

pub row_twice : Holds examples.row_twice
row_twice =
    let s = names_line ++ all_weekly ++ all_weekly in
    verdict_on_law s _ (Err refusal.Overlap) reads.twice (has_two s unit.Day 7 reads.twice)

long_numbers_law : Holds examples.long_numbers_law
long_numbers_law =
    let s = names_line ++ long_numbers in
    verdict_on_law s _ fine reads.long (accepts s unit.Day 1000 reads.long)

none_for_least : Holds examples.none_for_least
unfolding rows_for
none_for_least =
    let s = names_line ++ from_one in
    verdict_on_law s _ (Err refusal.Gap) reads.from_one_law (lacks s _ 0 reads.from_one_law least refl)

none_for_greatest : Holds examples.none_for_greatest
unfolding rows_for
none_for_greatest =
    let s = names_line ++ to_less in
    verdict_on_law s _ (Err refusal.Gap) reads.to_less_law (lacks s _ 3652058 reads.to_less_law greatest refl)

none_and_two : Holds examples.none_and_two
unfolding rows_for
none_and_two =
    let s = names_line ++ from_one ++ from_one in
    verdict_on_law s _ (Err refusal.Gap) reads.ones (lacks s _ 0 reads.ones least refl)

-- ---- lists
table_first : Holds examples.table_first
unfolding numbered
table_first =
    let answer : (Result ℕ Refusal → List ℤ) = λ r. count_numbers (number_reply r) in
    ap answer (ruled_refused (axis_of (pos 0) (pos 1) (pos 0) (pos 5) (pos 0) (pos 0)) refl [] 6)
    ∙ ap answer (behind (table_questions []) (Err refusal.Kind))
    ∙ ap (λ (v : Result ⊤ Refusal). answer (result_and v (Err refusal.Kind))) ((judges []).twelve.1 reads.nothing)

by_days_law : verdict (names_line ++ all_second_days) ≡ fine
by_days_law = accepts (names_line ++ all_second_days) unit.Day 2 reads.days

pub date_times : Holds examples.date_times
unfolding is_value earlier asks.ends asks.in_order asks.excludable has_rules
date_times = count_by (names_line ++ all_second_days) (between kind.Stamp 1 5) fine by_days_law

pub days_listed : Holds examples.second_days × Holds examples.row_before_end
unfolding closed is_value earlier asks.ends asks.in_order asks.excludable has_rules from_day to_day fields.until_of
    fields.digits_from fields.digits_of fields.read_number lines.lines_of lines.occurrences lines.in_form rows.in_range
    rows.row_read rows.read_row rows_of_lines table_of first_for every.days_from every.days_on weekly.every_after is_of
    ruled_ticks ruled_on
days_listed =
    let s = names_line ++ short_daily ++ long_second_days in
    let v = ((judges s).others _ reads.two).accepted.1 one_of_two in
    (into_by (names_line ++ all_second_days) (between kind.Date 1 5) fine by_days_law, into_by s (before kind.Date 1 4) fine v)

-- by the plan that has the same ticks: the definition looks at each day
pub second_januaries : Holds examples.second_januaries
unfolding closed is_value earlier asks.ends asks.in_order asks.excludable has_rules calendar.leap calendar.leap_day
    calendar.month_length calendar.months calendar.year_length calendar.years calendar.day_number calendar.next_day
    calendar.days_later calendar.date_of from_day to_day fields.until_of fields.digits_from fields.digits_of
    fields.read_number lines.lines_of lines.occurrences lines.in_form rows.in_range rows.row_read rows.read_row rows_of_lines
    table_of first_for steps.month_of steps.whole_month steps.first_day from_month to_month ruled_plan
second_januaries =
    let s = names_line ++ all_second_years in
    let a = between kind.Year 2 1096 in
    let v = accepts s unit.Year 2 reads.years in
    let row = plain_questions (has_rules a) a in
    let z : passes (ruled_questions s a) ≡ true =
    passes_append (table_questions s) row ∙ ap (λ b. b && passes row) (all_pass (table_questions s) tt v) in
    let listed = same s a z {w = for_all unit.Year 2} refl in
    count_by s a fine v
    ∙ ap (λ (l : List Value). count_numbers (number_reply (asked row (listed_of l (length sevens))))) listed

-- ---- THE THEOREMS, of all rows
pub verdicts_settled : AllHold verdict_table
verdicts_settled =
    (empty, (names_alone, (one_row, (long_numbers_law, (row_twice, (none_for_least, (none_for_greatest, (none_and_two, tt))))))))

pub unread_settled : AllHold unread_table
unfolding fields.until_of fields.digits_from fields.digits_of fields.read_number lines.lines_of lines.occurrences
    lines.in_form rows.in_range rows.row_read rows.read_row rows_of_lines table_of
unread_settled = (
  not_read (other_names ++ all_weekly) refl,
  (
    not_read (names_line ++ 10 ∷ []) refl,
    (
      not_read (names_line ++ no_feed) refl,
      (
        not_read (names_line ++ two_spaces) refl,
        (
          not_read (names_line ++ no_step) refl,
          (
            not_read (names_line ++ other_unit) refl,
            (
              not_read (names_line ++ plus_sign) refl,
              (
                not_read (names_line ++ from_below) refl,
                (
                  not_read (names_line ++ to_above) refl,
                  (
                    not_read (names_line ++ from_above_to) refl,
                    (
                      not_read (names_line ++ step_none) refl,
                      (
                        not_read (names_line ++ step_above) refl,
                        tt,
                      ),
                    ),
                  ),
                ),
              ),
            ),
          ),
        ),
      ),
    ),
  ),
)

pub ruled_settled : AllHold ruled_table
ruled_settled = (table_first, (date_times, (days_listed.0, (second_januaries, (days_listed.1, tt)))))
