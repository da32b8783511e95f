-- Questions in a row: each has the refusal that a no gives, and the first no decides. Definitions only.
use Rattle.std.specs.Prelude.{Bool, true, ◌&&◌, cond, List, [], ◌∷◌, ℕ, Result, Ok, Err}
use Rattle.asking.specs.declared.Refusal.{Refusal}
use Rattle.asking.specs.declared.Refusal.TheVariants as refusal

-- the numbers of the questions, as in include/ordered.h
abbrev pub number : Refusal → ℕ
number refusal.Kind = 1
number refusal.Operation = 2
number refusal.Ends = 3
number refusal.Order = 4
number refusal.Duration = 5
number refusal.Hint = 6
number refusal.Limits = 7
number refusal.Value = 8
number refusal.Length = 9
number refusal.Range = 10
number refusal.Room = 11
number refusal.Table = 12
number refusal.WeekDate = 13
number refusal.ExcludedEnd = 14
number refusal.Gap = 15
number refusal.Overlap = 16

-- a question and its answer
pub record Question : Type 0 where
  pub refusal : Refusal
  pub yes : Bool

-- the question q, answered by a test
abbrev pub ask : Refusal → Bool → Question
ask q t = record { refusal = q; yes = t }

-- what a row of questions lets be answered: a, or the refusal by the first no
abbrev pub asked : {A : Type 0} → List Question → Result A Refusal → Result A Refusal
asked [] a = a
asked (q ∷ row) a = cond q.yes (asked row a) (Err q.refusal)

-- what is answered from an answer, unless there is a refusal
abbrev pub and_then : {A B : Type 0} → Result A Refusal → (A → Result B Refusal) → Result B Refusal
and_then (Ok a) f = f a
and_then (Err q) f = Err q

-- no question of a row refuses
abbrev pub passes : List Question → Bool
passes [] = true
passes (q ∷ row) = q.yes && passes row
