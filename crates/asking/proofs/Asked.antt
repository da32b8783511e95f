-- What a row of questions tells where none refuses: each test, by its question's number; and what it lets be answered.
-- Assumes nothing.
use mathlib.Core.Path.{◌≡◌, refl, sym, ◌∙◌, ap}
use mathlib.Core.Bool.{Bool, true, false, cond, ◌&&◌}
use mathlib.Core.List.{List, [], ◌∷◌, ◌++◌}
use Prim.Native.Nat.{ℕ}
use lib.Dec.{eqb}
use Rattle.std.specs.Prelude.{⊤, Result, Ok, Err}
use Rattle.asking.specs.declared.Refusal.{Refusal}
use Rattle.asking.specs.Asking.{Question, number, asked, passes}

-- the test of the question with the number n, true where none has it
abbrev pub test_of : ℕ → List Question → Bool
test_of n [] = true
test_of n (q ∷ row) = cond (eqb n (number q.refusal)) q.yes (test_of n row)

both : (x y : Bool) → x && y ≡ true → (x ≡ true) × (y ≡ true)
both true y e = (refl, e)
both false y e = (e, absurd (false_true e))
  where
    false_true : false ≡ true → ⊥
    false_true z = cc

-- none refuses: each test is passed
pub told : (n : ℕ) (row : List Question) → passes row ≡ true → test_of n row ≡ true
told n [] e = refl
told n (q ∷ row) e =
    let (y, rest) = both q.yes (passes row) e in
    pick (eqb n (number q.refusal)) q.yes (test_of n row) y (told n row rest)
  where
    pick : (m y t : Bool) → y ≡ true → t ≡ true → cond m y t ≡ true
    pick true y t a b = a
    pick false y t a b = b

-- ---- rows in a row
pub passes_append : (row rest : List Question) → passes (row ++ rest) ≡ passes row && passes rest
passes_append [] rest = refl
passes_append (q ∷ row) rest = by_test q.yes (passes_append row rest)
  where
    by_test : (y : Bool) → passes (row ++ rest) ≡ passes row && passes rest →
        y && passes (row ++ rest) ≡ (y && passes row) && passes rest
    by_test true e = e
    by_test false e = refl

-- a row without its last question
pub fewer : (row : List Question) (q : Question) → passes (row ++ (q ∷ [])) ≡ true → (passes row ≡ true) × (q.yes ≡ true)
fewer row q e =
    let (r, l) = both (passes row) (passes (q ∷ [])) (sym (passes_append row (q ∷ [])) ∙ e) in
    (r, (both q.yes true l).0)

-- ---- answers
module _ {A : Type 0} where
  pub asked_append : (row rest : List Question) (a : Result A Refusal) → asked (row ++ rest) a ≡ asked row (asked rest a)
  asked_append [] rest a = refl
  asked_append (q ∷ row) rest a = ap (λ (r : Result A Refusal). cond q.yes r (Err q.refusal)) (asked_append row rest a)

  -- where no question refuses, the answer is the one behind them
  pub passed : (row : List Question) (a : Result A Refusal) → passes row ≡ true → a ≡ asked row a
  passed [] a e = refl
  passed (q ∷ row) a e = let (y, r) = both q.yes (passes row) e in rw y (passed row a r)

  -- and an answer says that none refused
  pub answered_ok : (row : List Question) (a : Result A Refusal) (x : A) → asked row a ≡ Ok x → (passes row ≡ true) × (a ≡ Ok x)
  answered_ok [] a x e = (refl, e)
  answered_ok (q ∷ row) a x e = by_test q.yes (answered_ok row a x) e
    where
      by_test : (y : Bool) → (asked row a ≡ Ok x → (passes row ≡ true) × (a ≡ Ok x)) →
          cond y (asked row a) (Err q.refusal) ≡ Ok x → (y && passes row ≡ true) × (a ≡ Ok x)
      by_test true later p = later p
      by_test false later p = absurd (let z : ⊥ = cc in z)

-- a row with nothing behind it, as a function asks it
pub all_pass : (row : List Question) (u : ⊤) → asked row (Ok u) ≡ Ok u → passes row ≡ true
all_pass row u e = (answered_ok row (Ok u) u e).0

module _ {A B : Type 0} where
  -- a refusal stands, whatever is answered behind the row
  pub refused : (row : List Question) (b : B) (a : Result A Refusal) (q : Refusal) → asked row (Ok b) ≡ Err q →
      Err q ≡ asked row a
  refused [] b a q e = absurd (let z : ⊥ = cc in z)
  refused (r ∷ row) b a q e = by_test r.yes (refused row b a q) e
    where
      by_test : (y : Bool) → (asked row (Ok b) ≡ Err q → Err q ≡ asked row a) →
          cond y (asked row (Ok b)) (Err r.refusal) ≡ Err q → Err q ≡ cond y (asked row a) (Err r.refusal)
      by_test true later p = later p
      by_test false later p = let z : r.refusal ≡ q = cc in ap Err (sym z)

  -- and one of a row's beginning
  pub refused_first : (row rest : List Question) (b : B) (a : Result A Refusal) (q : Refusal) → asked row (Ok b) ≡ Err q →
      Err q ≡ asked (row ++ rest) a
  refused_first row rest b a q e = refused row b (asked rest a) q e ∙ sym (asked_append row rest a)

module _ {A : Type 0} where
  -- where a row's beginning does not refuse, the rest decides
  pub passed_first : (row rest : List Question) (a : Result A Refusal) → passes row ≡ true → asked rest a ≡ asked (row ++ rest) a
  passed_first row rest a e = passed row (asked rest a) e ∙ sym (asked_append row rest a)
