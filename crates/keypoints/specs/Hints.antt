-- `key_points` of each kind with any hint, as the Rust has it. Definitions only.
use Rattle.std.specs.Prelude.{ℕ, ◌+◌, ◌*◌, cond, List, leb}
use Rattle.laws.specs.Numbers.{pos_part}
use Rattle.values.specs.declared.Kind.{Kind}
use Rattle.values.specs.declared.Kind.TheVariants as kind
use Rattle.values.specs.declared.Value.{Value}
use Rattle.axis.specs.declared.Axis.{Axis}
use Rattle.axis.specs.declared.Hint.{Hint}
use Rattle.axis.specs.declared.Hint.TheVariants.{Bold, Light}
use Rattle.counting.specs.Counting.{monthly, yearly, size_of}
use Rattle.keypoints.specs.KeyPoints.{key_points}

-- hint.max_num_points(), which is N
abbrev pub limit : Hint → ℕ
limit (Bold h) = pos_part h.n
limit (Light h) = pos_part h.n

-- the same ends on another kind
abbrev pub of_kind : Kind → Axis → Axis
of_kind k a = record a { kind = k }

-- months for years, and dates or date-times for months; the other kinds have none finer
abbrev pub finer_kind : Kind → Kind
finer_kind kind.Month = kind.Date
finer_kind kind.Year = kind.Month
finer_kind kind.StampMonth = kind.Stamp
finer_kind kind.StampYear = kind.StampMonth
finer_kind k = k

-- the same of an axis
abbrev pub finer : Axis → Axis
finer a = of_kind (finer_kind a.kind) a

-- Monthly: if hint.weight().allow_light_points() && self.size() <= hint.bold_points() * 2 {
--     return coord.key_points(hint.max_num_points()); } self.bold_key_points(&hint)
unfoldable pub monthly_light : ℕ → Axis → ℕ → ℕ → List Value
monthly_light turns a bold_points maxPoints =
    cond (leb (size_of a) (bold_points * 2)) (key_points turns (finer a) maxPoints)
    (key_points turns a maxPoints)

-- Yearly: if hint.weight().allow_light_points() && self.size() <= hint.bold_points() * 2 {
--     return Monthly(self.0.clone()).key_points(hint); } ..
unfoldable pub yearly_light : ℕ → Axis → ℕ → ℕ → List Value
yearly_light turns a bold_points maxPoints =
    cond (leb (size_of a) (bold_points * 2)) (monthly_light turns (finer a) bold_points maxPoints)
    (key_points turns a maxPoints)

-- the other kinds know no weight
unfoldable pub light_key_points : ℕ → Axis → ℕ → ℕ → List Value
light_key_points turns a bold_points maxPoints =
    cond (monthly a) (monthly_light turns a bold_points maxPoints)
    (cond (yearly a) (yearly_light turns a bold_points maxPoints)
    (key_points turns a maxPoints))

-- by the hint
abbrev pub key_points_in : ℕ → Axis → Hint → List Value
key_points_in turns a (Bold h) = key_points turns a (pos_part h.n)
key_points_in turns a (Light h) = light_key_points turns a (pos_part h.bold) (pos_part h.n)

-- N + 1 ticks and 29 turns more; no search turns more often
abbrev pub turns_for : ℕ → ℕ
turns_for n = n + 30

-- the ticks of an axis for a hint
unfoldable pub key_points_for : Axis → Hint → List Value
key_points_for a h = key_points_in (turns_for (limit h)) a h
