-- Rows of questions, and the answers behind them. Assumes nothing.
use mathlib.Core.Path.{◌≡◌, refl, sym, ap, ◌∙◌}
use mathlib.Core.Bool.{Bool, true, false, cond, ◌&&◌}
use mathlib.Core.List.{List, [], ◌∷◌, ◌++◌}
use Prim.Native.Nat.{ℕ, ◌<◌}
use native.Mathlib.Omega.{arith}
use lib.IntN.{pos}
use mathlib.Core.Logic.{◌↔◌}
use Rattle.std.specs.Prelude.{⊤, Result, Ok, Err, is_ok}
use Rattle.std.specs.Result.{result_and}
use Rattle.laws.specs.Numbers.{pos_part}
use Rattle.asking.specs.declared.Refusal.{Refusal}
use Rattle.asking.specs.Asking.{Question, number, asked, passes}
use Rattle.asking.proofs.Asked.{passes_append, asked_append, passed_first}
use Rattle.ordered.specs.declared.OrderedNumber.{OrderedNumber}
use Rattle.ordered.specs.Replies.{number_reply}

-- each refusal has a number of its own above 0
above : (q : Refusal) → 0 < number q
above q = grind arith

-- so a status of 0 is no refusal
pub no_refusal : (q : Refusal) → pos (number q) ≡ pos 0 → ⊥
no_refusal q e = omega (arith, above q, ap pos_part e)

same_refusal : (p q : Refusal) → number p ≡ number q → p ≡ q
same_refusal p q e = grind arith

module _ {B : Type 0} where
  -- two rows, of which one lets through where the other does
  pub more_pass : (row other rest behind : List Question) (x y d : B) → (passes row ≡ true → passes other ≡ true) →
      cond (passes rest) x d ≡ cond (passes behind) y d →
      cond (passes (row ++ rest)) x d ≡ cond (passes row) (cond (passes (other ++ behind)) y d) d
  more_pass row other rest behind x y d f e =
      (λ i. cond (passes_append row rest i) x d)
      ∙ go (passes row) (passes other) f
      ∙ sym (λ i. cond (passes row) (cond (passes_append other behind i) y d) d)
    where
      go : (p o : Bool) → (p ≡ true → o ≡ true) →
          cond (p && passes rest) x d ≡ cond p (cond (o && passes behind) y d) d
      go true true f = e
      go true false f = absurd (let z = f refl in let w : ⊥ = cc in w)
      go false o f = refl

module _ {A : Type 0} where
  -- the same is asked where the answers are the same behind a row that lets through
  pub same_behind : (row : List Question) (x y : Result A Refusal) → (passes row ≡ true → x ≡ y) → asked row x ≡ asked row y
  same_behind [] x y f = f refl
  same_behind (q ∷ row) x y f = by_test q.yes (same_behind row x y) f
    where
      by_test : (t : Bool) → ((passes row ≡ true → x ≡ y) → asked row x ≡ asked row y) → (t && passes row ≡ true → x ≡ y) →
          cond t (asked row x) (Err q.refusal) ≡ cond t (asked row y) (Err q.refusal)
      by_test true later f = later f
      by_test false later f = refl

  pub more_on : (row other rest behind : List Question) (x y : Result A Refusal) →
      (passes row ≡ true → passes other ≡ true) → asked rest x ≡ asked behind y →
      asked (row ++ rest) x ≡ asked row (asked (other ++ behind) y)
  more_on row other rest behind x y f e =
      asked_append row rest x
      ∙ same_behind row (asked rest x) (asked (other ++ behind) y) (λ z. e ∙ passed_first other behind y (f z))

-- what a row alone answers
abbrev pub verdict_of : List Question → Result ⊤ Refusal
verdict_of row = asked row (Ok tt)

-- an answer behind a row goes by that
pub behind : {A : Type 0} (row : List Question) (x : Result A Refusal) → asked row x ≡ result_and (verdict_of row) x
behind [] x = refl
behind {A} (q ∷ row) x = by_test q.yes (verdict_of row) (behind row x)
  where
    by_test : (t : Bool) (v : Result ⊤ Refusal) → asked row x ≡ result_and v x →
        cond t (asked row x) (Err q.refusal) ≡ result_and (cond t v (Err q.refusal)) x
    by_test true v e = e
    by_test false v e = refl

-- and so does whether it lets through
pub passes_ok : (row : List Question) → passes row ≡ is_ok (verdict_of row)
passes_ok [] = refl
passes_ok (q ∷ row) = by_test q.yes (verdict_of row) (passes_ok row)
  where
    by_test : (t : Bool) (v : Result ⊤ Refusal) → passes row ≡ is_ok v → t && passes row ≡ is_ok (cond t v (Err q.refusal))
    by_test true v e = e
    by_test false v e = refl

-- ---- the status of a count behind a row, by what the row alone answers
module _ (v : Result ⊤ Refusal) (n : ℕ) where
  abbrev reply : OrderedNumber
  reply = number_reply (result_and v (Ok n))

  pub refused_by : (q : Refusal) → (reply.status ≡ pos (number q) ↔ v ≡ Err q)
  refused_by q = go v
    where
      go : (v : Result ⊤ Refusal) → ((number_reply (result_and v (Ok n))).status ≡ pos (number q) ↔ v ≡ Err q)
      go (Ok u) = (λ e. absurd (no_refusal q (sym e)), λ e. absurd (let z : ⊥ = cc in z))
      go (Err p) = (
        λ e. ap Err (same_refusal p q (ap pos_part e)),
        λ e. let z : p ≡ q = cc in ap (λ (r : Refusal). pos (number r)) z,
      )

  pub refused_by_none : (reply.status ≡ pos 0 ↔ v ≡ Ok tt)
  refused_by_none = go v
    where
      go : (v : Result ⊤ Refusal) → ((number_reply (result_and v (Ok n))).status ≡ pos 0 ↔ v ≡ Ok tt)
      go (Ok u) = (λ e. refl, λ e. refl)
      go (Err p) = (λ e. absurd (no_refusal p e), λ e. absurd (let z : ⊥ = cc in z))

  pub counted : reply.status ≡ pos 0 → reply.value ≡ pos n
  counted = go v
    where
      go : (v : Result ⊤ Refusal) → let r = number_reply (result_and v (Ok n)) in r.status ≡ pos 0 → r.value ≡ pos n
      go (Ok u) e = refl
      go (Err p) e = absurd (no_refusal p e)
