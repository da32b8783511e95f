-- The texts of numbers, dates, times and spans, as bytes, and what a writer leaves in a buffer. Definitions only.
use Rattle.std.specs.Prelude.{◌≡◌, Bool, cond, List, [], ◌∷◌, ◌++◌, ℕ, zero, suc, ◌+◌, ◌/◌, ◌%◌, ◌≤◌, ltb, ℤ, pos, nat_abs}
use Rattle.std.specs.Int.Signed.{lt_z}
use Rattle.arrayvec.specs.ArrayVec.{ArrayVec, array_vec_len}
use Rattle.laws.specs.Units.{per_second}
use Rattle.calendar.specs.declared.Date.{Date}
use Rattle.calendar.specs.Gregorian.{date_of}
use Rattle.text_read.specs.Bytes.{minus_byte, point_byte, zero_byte, colon_byte, t_byte}

-- k bytes more fit behind what an output of a capacity holds
abbrev pub Room : ℕ → ℕ → ArrayVec ℕ → Type 0
Room capacity k before = array_vec_len before + k ≤ capacity

-- a text of at most k bytes was written behind what an output held
pub record Wrote (k : ℕ) (text : List ℕ) (before after : ArrayVec ℕ) : Type 0 where
  pub behind : after.items ≡ before.items ++ text
  pub most : array_vec_len after ≤ array_vec_len before + k

-- a digit's byte
abbrev pub digit : ℕ → ℕ
digit n = zero_byte + n % 10

-- the last w digits of n
unfoldable pub fixed_text : ℕ → ℕ → List ℕ
fixed_text zero n = []
fixed_text (suc w) n = fixed_text w (n / 10) ++ (digit n ∷ [])

-- n with no zeros in front; k digits are enough for every n below 10 ^ k
unfoldable pub up_to_text : ℕ → ℕ → List ℕ
up_to_text zero n = []
up_to_text (suc k) n = cond (ltb n 10) (digit n ∷ []) (up_to_text k (n / 10) ++ (digit n ∷ []))

-- a number of 64 bits has at most 20 digits
abbrev pub decimal_text : ℕ → List ℕ
decimal_text n = up_to_text 20 n

-- a minus where the number is below 0, and the digits
abbrev pub signed_text : ℤ → List ℕ
signed_text n = cond (lt_z n (pos 0)) (minus_byte ∷ []) [] ++ decimal_text (nat_abs n)

-- w digits of a, the separator, two digits of b, the separator, two digits of c
abbrev pub triple_text : ℕ → ℕ → ℕ → ℕ → ℕ → List ℕ
triple_text w sep a b c = fixed_text w a ++ (sep ∷ []) ++ fixed_text 2 b ++ (sep ∷ []) ++ fixed_text 2 c

-- YYYY-MM-DD
abbrev pub ymd_text : Date → List ℕ
ymd_text d = triple_text 4 minus_byte d.year d.month d.day

-- of a day number
abbrev pub date_text : ℕ → List ℕ
date_text n = ymd_text (date_of n)

-- hh:mm:ss of a second of the day
abbrev pub time_text : ℕ → List ℕ
time_text s = triple_text 2 colon_byte (s / 3600) (s / 60 % 60) (s % 60)

-- a point and nine digits of nanoseconds, where a list shows fractions
abbrev pub fraction_text : Bool → ℕ → List ℕ
fraction_text shown q = cond shown ((point_byte ∷ []) ++ fixed_text 9 q) []

-- YYYY-MM-DDThh:mm:ss of a date and a nanosecond of its day, and the fraction of its second
abbrev pub stamp_text : Bool → Date → ℕ → List ℕ
stamp_text shown d nano =
    ymd_text d ++ (t_byte ∷ []) ++ time_text (nano / per_second) ++ fraction_text shown (nano % per_second)

-- of a day number and a nanosecond of the day
abbrev pub date_time_text : Bool → ℕ → ℕ → List ℕ
date_time_text shown n nano = stamp_text shown (date_of n) nano

-- of a span's nanoseconds: a minus where they are below 0, then how far from 0 they are, in whole seconds and a fraction
abbrev pub span_text : Bool → ℤ → List ℕ
span_text shown t =
    cond (lt_z t (pos 0)) (minus_byte ∷ []) []
    ++ decimal_text (nat_abs t / per_second)
    ++ fraction_text shown (nat_abs t % per_second)
