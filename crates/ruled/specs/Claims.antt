-- What a ruled list is, of its numbers: in order, in the span, of the row's unit, and none left out. Statements only;
-- proofs/Claims.antt proves them.
use Rattle.std.specs.Prelude.{◌≡◌, true, List, ℕ, ◌-◌, ◌*◌, ◌%◌, ◌≤◌, ◌<◌, ℤ, pos, length}
use Rattle.values.specs.declared.Value.{Value}
use Rattle.values.specs.Values.{midnight}
use Rattle.steps.specs.Promise.{nth, Later, EachLater, NoneAfter}
use Rattle.keypoints.specs.Every.{days_from}
use Rattle.rules.specs.declared.Unit.{Unit}
use Rattle.ruled.specs.Ruled.{is_of}

-- how many days of the unit stand before a day, from the day `from` on
abbrev pub units_before : Unit → ℕ → ℕ → ℕ
units_before unit from day = length (days_from (is_of unit) (day - from) from)

-- the day of the span from `from` to `to` is of the unit, and a multiple of step such days stand before it
pub record TickDay (unit : Unit) (step from to day : ℕ) : Type 0 where
  pub begun : from ≤ day
  pub not_over : day ≤ to
  pub of_unit : is_of unit day ≡ true
  pub at_step : units_before unit from day % step ≡ 0

-- a tick at place i is the midnight of the day
pub record TickAt (l : List ℤ) (i day : ℕ) : Type 0 where
  pub inside : 2 * i < length l
  pub is : nth l i ≡ midnight (pos day)

-- 'none before its start'
abbrev pub NoneBeforeStart : Value → List ℤ → Type 0
NoneBeforeStart start l = (i : ℕ) → 2 * i < length l → Later (nth l i) start → ⊥

-- the ticks are these days, each once, in their order
pub record Ruled (unit : Unit) (step from to : ℕ) (l : List ℤ) : Type 0 where
  pub paired : length l % 2 ≡ 0
  pub growing : EachLater l
  pub none_after : NoneAfter (midnight (pos to)) l
  pub none_before : NoneBeforeStart (midnight (pos from)) l
  pub only : (i : ℕ) → 2 * i < length l → (day : ℕ) × (TickAt l i day × TickDay unit step from to day)
  pub all : (day : ℕ) → TickDay unit step from to day → (i : ℕ) × TickAt l i day
