-- Answers that are signed numbers: a count of ticks, whose list has room in a slice, of rows, and a period. Assumes nothing.
use mathlib.Core.Path.{◌≡◌, refl, sym, ap, ◌∙◌}
use mathlib.Core.Bool.{Bool, true, false, cond}
use mathlib.Core.List.{List}
use Prim.Native.Nat.{ℕ, ◌*◌, ◌^◌, ◌≤◌, ◌<◌}
use native.Mathlib.Omega.{arith}
use lib.Dec.{leb}
use lib.ListN.{length}
use borrow.Author.Tests.{leb-true}
use Rattle.std.specs.Prelude.{Option, Some, None, Result, Ok, Err}
use Rattle.std.specs.Result.{result_unwrap_or}
use Rattle.asking.specs.declared.Refusal.{Refusal}
use Rattle.asking.specs.declared.Refusal.TheVariants as refusal
use Rattle.asking.specs.Asking.{passes}
use Rattle.asking.proofs.Asked.{answered_ok, passed}
use Rattle.laws.specs.Numbers.{pos_part}
use Rattle.axis.specs.declared.Axis.{Axis}
use Rattle.axis.specs.declared.BoldPoints.{BoldPoints}
use Rattle.axis.specs.declared.Hint.{Hint}
use Rattle.values.specs.declared.Value.{Value}
use Rattle.plans.specs.Times.{period_in}
use Rattle.plans.proofs.Spans.{timed}
use Rattle.steps.specs.Listing.{listed_of}
use Rattle.ticks.specs.Answers.{tick_questions, ticks_of, ticks_answer, period_questions, period_answer}
use Rattle.ticks.proofs.Hints.{period_accepted}
use Rattle.ticks.proofs.KeyPoints.{period_answered}
use Rattle.segmented.specs.Answers.{segment_kind_questions, segment_ticks_answer}
use Rattle.rules.specs.Table.{rows_in, table_questions, rules_answer}
use Rattle.rules.proofs.Judged.{rows_few}
use Rattle.ruled.specs.Answers.{ruled_questions, ruled_on, ruled_answer}
use Rattle.ordered.specs.declared.OrderedNumber.{OrderedNumber}
use Rattle.ordered.specs.Replies.{number_in, number_reply}

-- ---- what a call answered fits a signed number where what it has to answer does
pub number_fits : (x : Result ℕ Refusal) {a : Result ℕ Refusal} → x ≡ a → ((n : ℕ) → a ≡ Ok n → n < 2 ^ 63) →
    result_unwrap_or x 0 < 2 ^ 63
number_fits (Ok n) e small = small n (sym e)
number_fits (Err q) e small = omega arith

index_fits : (x : Result (Option ℕ) Refusal) {a : Result (Option ℕ) Refusal} → x ≡ a →
    ((n : ℕ) → a ≡ Ok (Some n) → n < 2 ^ 63) → number_in x < 2 ^ 63
index_fits (Ok (Some n)) e small = small n (sym e)
index_fits (Ok None) e small = omega arith
index_fits (Err q) e small = omega arith

-- so the reply is of the answer
pub number_on : (a : Result ℕ Refusal) {r : Result ℕ Refusal} {reply : OrderedNumber} →
    (result_unwrap_or r 0 < 2 ^ 63 → reply ≡ number_reply r) → ((n : ℕ) → a ≡ Ok n → n < 2 ^ 63) →
    r ≡ a → reply ≡ number_reply a
number_on a {r} said small e = said (number_fits r e small) ∙ ap number_reply e

pub index_on : {R : Type 0} (as_reply : Result (Option ℕ) Refusal → R) (a : Result (Option ℕ) Refusal)
    {r : Result (Option ℕ) Refusal} {reply : R} →
    (number_in r < 2 ^ 63 → reply ≡ as_reply r) → ((n : ℕ) → a ≡ Ok (Some n) → n < 2 ^ 63) →
    r ≡ a → reply ≡ as_reply a
index_on as_reply a {r} said small e = said (index_fits r e small) ∙ ap as_reply e

-- ---- a count of ticks: the lent numbers have room for two of each
listed_most : (l : List Value) (k n : ℕ) → k < 2 ^ 64 → listed_of l k ≡ Ok n → n < 2 ^ 63
listed_most l k n most = by_room (leb (2 * length l) k) (leb-true (2 * length l) k)
  where
    by_room : (y : Bool) → (y ≡ true → 2 * length l ≤ k) → cond y (Ok (length l)) (Err refusal.Room) ≡ Ok n → n < 2 ^ 63
    by_room true room e = let z : length l ≡ n = cc in omega (arith, room refl)
    by_room false room e = absurd (let z : ⊥ = cc in z)

ticks_most : (a : Axis) (h : Hint) (k n : ℕ) → k < 2 ^ 64 → ticks_answer a h k ≡ Ok n → n < 2 ^ 63
unfolding ticks_answer
ticks_most a h k n most e =
    listed_most (ticks_of a h) k n most (answered_ok (tick_questions a h) (listed_of (ticks_of a h) k) n e).1

pub ticks_on : (a : Axis) (h : Hint) (k : ℕ) {r : Result ℕ Refusal} {reply : OrderedNumber} →
    (result_unwrap_or r 0 < 2 ^ 63 → reply ≡ number_reply r) → k < 2 ^ 64 → r ≡ ticks_answer a h k →
    reply ≡ number_reply (ticks_answer a h k)
ticks_on a h k said most = number_on (ticks_answer a h k) said (λ n. ticks_most a h k n most)

segment_ticks_most : (a : Axis) (h : Hint) (k n : ℕ) → k < 2 ^ 64 → segment_ticks_answer a h k ≡ Ok n → n < 2 ^ 63
unfolding segment_ticks_answer
segment_ticks_most a h k n most e =
    ticks_most a h k n most (answered_ok (segment_kind_questions a) (ticks_answer a h k) n e).1

pub segment_ticks_on : (a : Axis) (h : Hint) (k : ℕ) {r : Result ℕ Refusal} {reply : OrderedNumber} →
    (result_unwrap_or r 0 < 2 ^ 63 → reply ≡ number_reply r) → k < 2 ^ 64 → r ≡ segment_ticks_answer a h k →
    reply ≡ number_reply (segment_ticks_answer a h k)
segment_ticks_on a h k said most = number_on (segment_ticks_answer a h k) said (λ n. segment_ticks_most a h k n most)

ruled_most : (t : List ℕ) (a : Axis) (k n : ℕ) → k < 2 ^ 64 → ruled_answer t a k ≡ Ok n → n < 2 ^ 63
unfolding ruled_answer
ruled_most t a k n most e =
    listed_most (ruled_on t a) k n most (answered_ok (ruled_questions t a) (listed_of (ruled_on t a) k) n e).1

pub table_on : (a : Axis) (t : List ℕ) (k : ℕ) {r : Result ℕ Refusal} {reply : OrderedNumber} →
    (result_unwrap_or r 0 < 2 ^ 63 → reply ≡ number_reply r) → k < 2 ^ 64 → r ≡ ruled_answer t a k →
    reply ≡ number_reply (ruled_answer t a k)
table_on a t k said most = number_on (ruled_answer t a k) said (λ n. ruled_most t a k n most)

-- ---- the rows of a table
pub rows_most : (t : List ℕ) (n : ℕ) → rules_answer t ≡ Ok n → n < 2 ^ 63
unfolding rules_answer
rows_most t n e =
    let (asked, is) = answered_ok (table_questions t) (Ok (length (rows_in t))) n e in
    let z : length (rows_in t) ≡ n = cc in
    omega (arith, rows_few t (sym (passed (table_questions t) (Ok tt) asked)))

-- ---- a period
period_asked : (a : Axis) (h : BoldPoints) (x : Option ℕ) → period_answer a h ≡ Ok x → passes (period_questions a h) ≡ true
unfolding period_answer
period_asked a h x e = (answered_ok (period_questions a h) _ x e).0

pub period_most : (a : Axis) (h : BoldPoints) (n : ℕ) → period_answer a h ≡ Ok (Some n) → n < 2 ^ 63
period_most a h n e =
    let z = period_asked a h (Some n) e in
    let (q, some, _) = period_accepted a h z in
    let answered = period_answered a h z in
    let is : period_in a (pos_part h.n) ≡ Some n = cc in
    (timed a (pos_part h.n) q some n is).small
