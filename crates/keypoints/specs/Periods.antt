-- `compute_period_per_point` and its `determine_actual_ns_per_point`, as the Rust has them, but for the rounded logarithm:
-- the power of ten is document 01's, 'the largest k with 10^k × N ≤ span, or 0'. Definitions only.
use Rattle.std.specs.Prelude.{Bool, not, cond, List, [], ◌∷◌, ℕ, zero, suc, ◌+◌, ◌*◌, ◌/◌, ◌^◌, eqb, ltb, leb, length, get_or}
use Rattle.std.specs.Prelude.{Option, Some, None}
use Rattle.laws.specs.Units.{per_second, per_hour, per_day}

-- while 10^(k + 1) × N ≤ span { k += 1; }
unfoldable pub exponent_from : ℕ → ℕ → ℕ → ℕ → ℕ
exponent_from zero span n k = k
exponent_from (suc turns) span n k = cond (leb (10 ^ suc k * n) span) (exponent_from turns span n (suc k)) k

-- while total_ns / actual > max_points as u64 * units[idx] { idx += 1; if idx == units.len() { idx = 0; actual *= base; } }
-- units[idx] * actual
unfoldable pub determine_actual_ns_per_point : ℕ → ℕ → ℕ → List ℕ → ℕ → ℕ → ℕ → ℕ
determine_actual_ns_per_point zero totalNs actual units base maxPoints idx = get_or units idx 0 * actual
determine_actual_ns_per_point (suc turns) totalNs actual units base maxPoints idx =
    let around = eqb (idx + 1) (length units) in
    cond (ltb (maxPoints * get_or units idx 0) (totalNs / actual))
    (determine_actual_ns_per_point turns totalNs (cond around (actual * base) actual) units base maxPoints
    (cond around 0 (idx + 1)))
    (get_or units idx 0 * actual)

-- from a day on: if actual_ns_per_point < 3600_000_000_000 * 24 * 10 { .. } else { .. }
unfoldable pub days_from : ℕ → ℕ → ℕ → ℕ → ℕ
days_from turns actual totalNs maxPoints =
    cond (ltb actual (per_day * 10)) (determine_actual_ns_per_point turns totalNs per_day (1 ∷ 2 ∷ 5 ∷ 7 ∷ []) 10 maxPoints 0)
    (determine_actual_ns_per_point turns totalNs (per_day * 10) (1 ∷ 2 ∷ 5 ∷ []) 10 maxPoints 0)

-- the units by the power of ten, actual_ns_per_point
unfoldable pub period_from : ℕ → ℕ → ℕ → ℕ → Bool → Option ℕ
period_from turns actual totalNs maxPoints subDaily =
    cond (ltb actual per_second) (Some (determine_actual_ns_per_point turns totalNs actual (1 ∷ 2 ∷ 5 ∷ []) 10 maxPoints 0))
    (cond (ltb actual per_hour)
    (Some (determine_actual_ns_per_point turns totalNs per_second (1 ∷ 2 ∷ 5 ∷ 10 ∷ 15 ∷ 20 ∷ 30 ∷ []) 60 maxPoints 0))
    (cond (ltb actual per_day)
    (Some (determine_actual_ns_per_point turns totalNs per_hour (1 ∷ 2 ∷ 4 ∷ 8 ∷ 12 ∷ []) 24 maxPoints 0))
    (cond (not subDaily) (Some (days_from turns actual totalNs maxPoints))
    None)))

-- let mut actual_ns_per_point = 10u64.pow(..);
unfoldable pub compute_period_per_point : ℕ → ℕ → ℕ → Bool → Option ℕ
compute_period_per_point turns totalNs maxPoints subDaily =
    period_from turns (10 ^ exponent_from turns totalNs maxPoints 0) totalNs maxPoints subDaily
