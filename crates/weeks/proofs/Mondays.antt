-- Mondays in closed form, as the code has them. Assumes nothing.
use mathlib.Core.Path.{◌≡◌}
use Prim.Native.Nat.{ℕ, ◌+◌, ◌-◌, ◌*◌, ◌/◌, ◌≤◌}
use native.Mathlib.Omega.{arith}
use Rattle.weeks.specs.Weeks.{weekday, monday, mondays_to, first_monday}
use Rattle.weeks.proofs.Weeks.{counted_is, day_from_is}

-- day 1 is one, and then every seventh
pub mondays_to_law : (n : ℕ) → mondays_to n ≡ (n + 6) / 7
unfolding mondays_to
mondays_to_law n =
    let e : 0 + n + 7 - 1 ≡ n + 6 = omega arith in
    omega (arith, rw e at (counted_is 1 0 n (omega arith) (omega arith)))

pub first_monday_law : (n : ℕ) → 1 ≤ n → first_monday n ≡ 7 * ((n + 5) / 7) + 1
unfolding first_monday
first_monday_law n h = let e : n + 6 - 1 ≡ n + 5 = omega arith in rw e at (day_from_is 1 n h (omega arith) (omega arith))

pub monday_is : (n : ℕ) → 1 ≤ n → monday n ≡ 7 * ((n - 1) / 7) + 1
unfolding monday weekday
monday_is n h = omega arith

-- the days of one week have the same Mondays up to them
pub same_week : (m n : ℕ) → 1 ≤ m → 1 ≤ n → mondays_to m ≡ mondays_to n → monday m ≡ monday n
same_week m n h l e = omega (arith, monday_is m h, monday_is n l, mondays_to_law m, mondays_to_law n)

-- some weeks after a day's Monday is a Monday
pub weeks_on : (n i : ℕ) → 1 ≤ n → weekday (monday n + 7 * i) ≡ 1
unfolding weekday
weeks_on n i h = omega (arith, monday_is n h)
