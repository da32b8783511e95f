-- How the code finds a list: the axis that lists, and its progression, made once for count and listing. No answer is
-- defined by these; proofs/KeyPoints.antt says that they give the answers' lists. Definitions only.
use Rattle.std.specs.Prelude.{cond, ◌&&◌, ◌||◌, ℕ, ◌*◌, ℤ, leb}
use Rattle.laws.specs.Numbers.{pos_part}
use Rattle.axis.specs.declared.Axis.{Axis}
use Rattle.axis.specs.declared.Hint.{Hint}
use Rattle.axis.specs.declared.Hint.TheVariants.{Bold, Light}
use Rattle.counting.specs.Counting.{monthly, yearly, size_of}
use Rattle.steps.specs.declared.Steps.{Steps}
use Rattle.plans.specs.Plans.{plan_of}
use Rattle.keypoints.specs.Hints.{limit, finer}

-- the finer axis, if the size is at most twice the bold count
unfoldable pub refined : ℕ → Axis → Axis
refined bold a = cond ((monthly a || yearly a) && leb (size_of a) (2 * bold)) (finer a) a

-- the axis that lists: years go to months with the same hint, which go to dates if they fit too
abbrev pub axis_for : Axis → Hint → Axis
axis_for a (Bold h) = a
axis_for a (Light h) = refined (pos_part h.bold) (refined (pos_part h.bold) a)

-- N of a hint, as it was given
abbrev pub points : Hint → ℤ
points (Bold h) = h.n
points (Light h) = h.n

-- the progression that a hint gets
abbrev pub plan_for : Axis → Hint → Steps
plan_for a h = plan_of (axis_for a h) (limit h)
