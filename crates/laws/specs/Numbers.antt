-- Signed numbers: ranges, and a number's two parts, of which one is 0. Definitions only.
-- A z is `pos_part z` less `neg_part z`.
use Rattle.std.specs.Prelude.{Bool, ◌&&◌, ℕ, suc, ◌-◌, ◌^◌, ℤ, pos, negsuc, neg_ℤ}
use Rattle.std.specs.Int.Signed.{le_z}

-- n below 0
abbrev pub minus : ℕ → ℤ
minus n = neg_ℤ (pos n)

-- both ends are included
abbrev pub within : ℤ → ℤ → ℤ → Bool
within low x high = le_z low x && le_z x high

-- both are the same number
abbrev pub equal : ℤ → ℤ → Bool
equal x y = within y x y

-- the number is n
abbrev pub is_number : ℤ → ℕ → Bool
is_number x n = equal x (pos n)

-- how far above 0
abbrev pub pos_part : ℤ → ℕ
pos_part (pos n) = n
pos_part (negsuc n) = 0

-- how far below 0
abbrev pub neg_part : ℤ → ℕ
neg_part (pos n) = 0
neg_part (negsuc n) = suc n

-- Rust's `as u64` and `as usize`: a number below 0 is counted from 2 ^ 64 down
abbrev pub as_u64 : ℤ → ℕ
as_u64 (pos n) = n
as_u64 (negsuc n) = 2 ^ 64 - suc n
