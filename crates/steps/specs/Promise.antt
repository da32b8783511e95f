-- The words of demand 3 on tick lists, as document 01 has them. Definitions only.
-- A list is that of the numbers in the part that was handed back.
use Rattle.std.specs.Prelude.{ℕ, ◌+◌, ◌*◌, ◌/◌, ◌%◌, ◌<◌, ◌≤◌, ◌≡◌, List, ℤ, pos, ◌<ℤ◌, length, get_or}
use Rattle.laws.specs.Numbers.{pos_part}
use Rattle.laws.specs.Units.{per_second}
use Rattle.values.specs.declared.Value.{Value}

-- 'The ticks of a list are the pairs .. in their order': the one at place i
abbrev pub nth : List ℤ → ℕ → Value
nth l i = record { head = get_or l (2 * i) (pos 0); tail = get_or l (2 * i + 1) (pos 0) }

-- 'Of two values of a kind the later one has the larger head or, with equal heads, the larger tail': b is later than a
pub data Later (a b : Value) : Type 0 where
  by_head : a.head <ℤ b.head → Later a b
  by_tail : a.head ≡ b.head → a.tail <ℤ b.tail → Later a b

-- 'The whole second in which it starts is the start with its tail lowered to the largest multiple of 1,000,000,000 not
-- above it'; no value has a tail below 0
abbrev pub whole_second : Value → Value
whole_second t = record { head = t.head; tail = pos (pos_part t.tail / per_second * per_second) }

-- 'at most N + 1'
abbrev pub AtMost : ℕ → List ℤ → Type 0
AtMost n l = length l ≤ 2 * (n + 1)

-- 'each later than the one before'
abbrev pub EachLater : List ℤ → Type 0
EachLater l = (i : ℕ) → 2 * (i + 1) < length l → Later (nth l i) (nth l (i + 1))

-- 'none after the end'
abbrev pub NoneAfter : Value → List ℤ → Type 0
NoneAfter end l = (i : ℕ) → 2 * i < length l → Later end (nth l i) → ⊥

-- 'none before the whole second in which the span starts'
abbrev pub NoneBefore : Value → List ℤ → Type 0
NoneBefore start l = (i : ℕ) → 2 * i < length l → Later (nth l i) (whole_second start) → ⊥

-- what demand 3 says of the ticks of a span that runs from start to end, where N is n
pub record Fine (n : ℕ) (start end : Value) (l : List ℤ) : Type 0 where
  pub paired : length l % 2 ≡ 0
  pub few : AtMost n l
  pub growing : EachLater l
  pub to : NoneAfter end l
  pub from : NoneBefore start l
