-- A progression: its numbers, the tick of each, and the list of its ticks. Definitions only.
use Rattle.std.specs.Prelude.{ℕ, zero, suc, ◌+◌, ◌-◌, ◌*◌, ◌/◌, ◌%◌, ◌^◌, ◌<◌, List, [], ◌∷◌, ◌++◌, pos, ◌+ℤ◌}
use Rattle.std.specs.Int.Signed.{mag}
use Rattle.steps.specs.declared.Heads.{Heads}
use Rattle.steps.specs.declared.Numbering.{Numbering}
use Rattle.steps.specs.declared.Numbering.TheVariants as numbering
use Rattle.steps.specs.declared.Steps.{Steps}
use Rattle.values.specs.declared.Value.{Value}
use Rattle.values.specs.Values.{midnight}
use Rattle.steps.specs.Months.{first_day}

-- how many i have i * step < room
abbrev pub fitting : ℕ → ℕ → ℕ
fitting zero step = 0
fitting (suc r) step = r / step + 1

-- the number at place i
abbrev pub number_at : Steps → ℕ → ℕ
number_at s i = s.first + i * s.step

-- the first day of the month x
abbrev pub month_tick : ℕ → Value
month_tick x = midnight (pos (first_day x))

-- whole heads from base on, and the rest
abbrev pub even_tick : Heads → ℕ → Value
even_tick h x = record { head = h.base +ℤ pos (x / h.per); tail = pos (x % h.per) }

-- what a number stands for
abbrev pub tick_by : Numbering → ℕ → Value
tick_by numbering.Months x = month_tick x
tick_by (numbering.Even h) x = even_tick h x

-- the tick of the number x
abbrev pub tick_of_number : Steps → ℕ → Value
tick_of_number s x = tick_by s.numbering x

-- the tick at place i
abbrev pub tick_of : Steps → ℕ → Value
tick_of s i = tick_of_number s (number_at s i)

-- n values, in their order
abbrev pub values_of : (ℕ → Value) → ℕ → List Value
values_of f zero = []
values_of f (suc n) = values_of f n ++ (f n ∷ [])

-- the list of a progression
abbrev pub ticks : Steps → List Value
ticks s = values_of (tick_of s) s.count

-- the list where its numbers are months, and where they are parts of heads
abbrev pub month_ticks : Steps → List Value
month_ticks s = values_of (λ i. month_tick (number_at s i)) s.count

abbrev pub even_ticks : Heads → Steps → List Value
even_ticks h s = values_of (λ i. even_tick h (number_at s i)) s.count

-- parts of heads are in the ranges in which the listing does not wrap
pub record InRange (h : Heads) (s : Steps) : Type 0 where
  pub divides : 0 < h.per
  pub small : h.per < 2 ^ 60
  pub base : mag h.base < 2 ^ 60
  pub stride : s.step / h.per < 2 ^ 60
  pub last : number_at s (s.count - 1) / h.per < 2 ^ 60

-- months are those of the calendar
abbrev pub SoundBy : Numbering → Steps → Type 0
SoundBy numbering.Months s = number_at s (s.count - 1) < 120000
SoundBy (numbering.Even h) s = InRange h s

-- the numbers are in the ranges in which the listing neither wraps nor leaves the calendar
abbrev pub Sound : Steps → Type 0
Sound s = SoundBy s.numbering s
