-- `RangedDate::key_points`, as the Rust has it: every day, every week, the start alone, or every few weeks. Definitions only.
use Rattle.std.specs.Prelude.{ℕ, ◌+◌, ◌*◌, ◌/◌, cond, ◌&&◌, List, [], ◌∷◌, false, leb, ℤ, pos, ◌-ℤ◌}
use Rattle.std.specs.Int.Signed.{lt_z, quot_z}
use Rattle.laws.specs.Numbers.{is_number, pos_part, as_u64}
use Rattle.floats.specs.Rounding.{ceil_of}
use Rattle.values.specs.declared.Kind.TheVariants as kind
use Rattle.values.specs.declared.Value.{Value}
use Rattle.values.specs.Values.{midnight}
use Rattle.axis.specs.declared.Axis.{Axis}
use Rattle.counting.specs.Counting.{from_day, to_day}
use Rattle.keypoints.specs.Loops.{for_to}

-- for idx in 0..=(total_weeks as usize / week_per_point) { ret.push(start + Duration::weeks((idx * week_per_point) as i64)); }
abbrev pub every_few : ℕ → ℕ → ℕ → List Value
every_few start totalWeeks weekPerPoint =
    for_to (totalWeeks / weekPerPoint) (λ idx. midnight (pos (start + 7 * (idx * weekPerPoint))))

-- week_per_point is ((total_weeks as f64) / (max_points as f64)).ceil() as usize
unfoldable pub dates_from : ℕ → ℤ → ℤ → ℕ → List Value
dates_from start totalDays totalWeeks maxPoints =
    cond (lt_z (pos 0) totalDays && leb (as_u64 totalDays) maxPoints)
    (for_to (as_u64 totalDays) (λ idx. midnight (pos (start + idx))))
    (cond (lt_z (pos 0) totalWeeks && leb (as_u64 totalWeeks) maxPoints)
    (for_to (as_u64 totalWeeks) (λ idx. midnight (pos (start + 7 * idx))))
    (cond (is_number totalWeeks 0) (midnight (pos start) ∷ [])
    (every_few start (as_u64 totalWeeks) (ceil_of (as_u64 totalWeeks) maxPoints))))

-- num_days() and num_weeks() of self.1 - self.0
unfoldable pub date_key_points : Axis → ℕ → List Value
date_key_points a maxPoints =
    let totalDays = a.end.head -ℤ a.start.head in
    dates_from (pos_part a.start.head) totalDays (quot_z totalDays (pos 7)) maxPoints

-- of a date-time axis: RangedDate(self.0.date_ceil(), self.1.date_floor()), both included
abbrev pub date_range : Axis → Axis
date_range a = record {
  kind = kind.Date;
  start = midnight (pos (from_day a));
  end = midnight (pos (to_day a));
  end_excluded = false;
}
