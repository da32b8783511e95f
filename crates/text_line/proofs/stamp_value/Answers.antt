-- `text_line::stamp_value` meets its contract: a real time of day is below 86,400 seconds. Assumes nothing.
use mathlib.Core.Path.{◌≡◌, sym, ◌∙◌}
use mathlib.Core.Bool.{true}
use Rattle.text_line.specs.Line.{is_time, stamp_value}
use Rattle.text_line.proofs.stamp_value.Goals as goal
use Rattle.text_line.proofs.stamp_value.Goals.{Else-not-is_time}

pub returns-then-not-is_time : goal.returns-then-not-is_time
unfolding stamp_value
returns-then-not-is_time c = rw (← c.is_time.ensures, c.if-not-is_time.true)

is : (c : Else-not-is_time) → is_time c.args.m ≡ true
is c = sym c.is_time.ensures ∙ c.if-not-is_time.false

pub returns : goal.returns
unfolding stamp_value
returns c = rw (is (goal.at.returns c).Else-not-is_time) c.on_day.ensures
