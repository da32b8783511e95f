-- Rust's `abs`, `floor`, `ceil` and `round` on floats, and the cut of a quotient, by the operations of lib.Ieee.
-- Rounding stays in the format f and keeps the sign, so that -0.5 goes up to -0. Definitions only.
use Rattle.std.specs.Prelude.{Bool, false, cond, ℕ, ◌+◌, ◌-◌, ◌*◌, ◌/◌, ℤ, pos, neg_ℤ}
use lib.Ieee.{Float, nan, inf, fin, Format, binary64, up, down, round, of_int, mul, div, to_signed, to_unsigned}

-- n, or -n
abbrev pub with_sign : Bool → ℕ → ℤ
with_sign below n = cond below (neg_ℤ (pos n)) (pos n)

-- without its sign
unfoldable pub abs_f : Float → Float
abs_f nan = nan
abs_f (inf s) = inf false
abs_f (fin s m e) = fin false m e

-- n / d, rounded up
abbrev pub upward : ℕ → ℕ → ℕ
upward n d = (n + (d - 1)) / d

-- n / d, to the nearest whole number, a half up
abbrev pub half_up : ℕ → ℕ → ℕ
half_up n d = (2 * n + d) / (2 * d)

-- toward negative infinity
unfoldable pub floor_f : Format → Float → Float
unfolding round
floor_f f nan = nan
floor_f f (inf s) = inf s
floor_f f (fin s m e) = round f s (cond s (upward (m * up e) (down e)) (m * up e / down e)) 1

-- toward positive infinity
unfoldable pub ceil_f : Format → Float → Float
unfolding round
ceil_f f nan = nan
ceil_f f (inf s) = inf s
ceil_f f (fin s m e) = round f s (cond s (m * up e / down e) (upward (m * up e) (down e))) 1

-- to the nearest, a half away from zero
unfoldable pub round_f : Format → Float → Float
unfolding round
round_f f nan = nan
round_f f (inf s) = inf s
round_f f (fin s m e) = round f s (half_up (m * up e) (down e)) 1

-- (n as f64 / d as f64).ceil() as usize
unfoldable pub ceil_of : ℕ → ℕ → ℕ
ceil_of n d = to_unsigned 64 (ceil_f binary64 (div binary64 (of_int binary64 (pos n)) (of_int binary64 (pos d))))

-- width × offset ÷ total, both steps rounded
unfoldable pub quotient_of : Float → ℤ → Float → Float
quotient_of width offset total = div binary64 (mul binary64 width (of_int binary64 offset)) total

-- cut toward zero, as Rust's `as i32`
abbrev pub cut : Float → ℤ
cut x = to_signed 31 x
