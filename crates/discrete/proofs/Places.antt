-- What a value of an axis' kind tells of its day, and of the days of the axis. Assumes nothing.
use mathlib.Core.Path.{◌≡◌}
use mathlib.Core.Bool.{true}
use Prim.Native.Nat.{◌≤◌}
use Rattle.calendar.specs.Questions.{is_day}
use Rattle.counting.specs.Counting.{date_on, position}
use Rattle.counting.proofs.Counting.{Near, on_day, on_near, starts, end_on, end_value, is_day_law, position_most}
use Rattle.discrete.specs.declared.Placed.{Placed}

module _ (p : Placed) where
  pub value_day : is_day p.value.head ≡ true
  value_day = is_day_law p.value (on_day p.dates.axis p.dates.dated p.value p.on)

  pub value_near : Near (date_on p.value) 9999
  value_near = on_near p.dates.axis p.dates.dated p.value p.on

  pub value_few : position p.dates.axis p.value ≤ 3652059
  value_few = position_most p.dates.axis p.dates.dated p.value p.on

  pub start_day : is_day p.dates.axis.start.head ≡ true
  start_day = is_day_law p.dates.axis.start (starts p.dates.axis p.dates.dated)

  pub end_day : is_day p.dates.axis.end.head ≡ true
  end_day = is_day_law p.dates.axis.end (end_value p.dates.axis p.dates.dated)

  pub end_near : Near (date_on p.dates.axis.end) 9999
  end_near = on_near p.dates.axis p.dates.dated p.dates.axis.end (end_on p.dates.axis p.dates.dated)
