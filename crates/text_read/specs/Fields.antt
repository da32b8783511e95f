-- The forms of a line's fields, over the bytes from a field's start: numbers, dates, date-times, spans. Definitions only.
-- A field is what stands before the next space, or all to the line's end.
use Rattle.std.specs.Prelude.{◌≡◌, Bool, true, false, ◌&&◌, cond, List, [], ◌∷◌, ℕ, suc, ◌+◌, ◌*◌, ◌-◌, ◌^◌, ◌<◌, leb, ltb, eqb}
use Rattle.std.specs.Prelude.{pos, negsuc, ℤ, ◌-ℤ◌, length, take, drop, get_or, Option, None, Some}
use Rattle.laws.specs.Units.{per_second}
use Rattle.text_read.specs.Bytes.{space_byte, minus_byte, point_byte, zero_byte, nine_byte, colon_byte, t_byte}
use Rattle.calendar.specs.declared.Ymd.{Ymd}
use Rattle.text_read.specs.declared.Moment.{Moment}
use Rattle.text_read.specs.declared.Duration.{Duration}

-- how many bytes stand before the first c, or all of them
unfoldable pub until_of : ℕ → List ℕ → ℕ
until_of c [] = 0
until_of c (b ∷ s) = cond (eqb b c) 0 (suc (until_of c s))

-- the bytes of the field at the front of s
abbrev pub field_of : List ℕ → List ℕ
field_of s = take (until_of space_byte s) s

-- '0' to '9'
abbrev pub is_digit : ℕ → Bool
is_digit b = leb zero_byte b && leb b nine_byte

-- the value of s, where n is that of the digits before it
unfoldable pub digits_from : ℕ → List ℕ → Option ℕ
digits_from n [] = Some n
digits_from n (b ∷ s) = cond (is_digit b) (digits_from (n * 10 + (b - zero_byte)) s) None

-- 1 to 12 digits and nothing else
unfoldable pub digits_of : List ℕ → Option ℕ
digits_of s = cond (ltb (length s) 1) None (cond (ltb 12 (length s)) None (digits_from 0 s))

-- digits as a number
abbrev pub plus_of : Option ℕ → Option ℤ
plus_of (Some n) = Some (pos n)
plus_of None = None

-- digits behind a minus as a number
abbrev pub minus_of : Option ℕ → Option ℤ
minus_of (Some n) = Some (pos 0 -ℤ pos n)
minus_of None = None

-- a minus and digits, or digits
unfoldable pub read_number : List ℕ → Option ℤ
read_number s =
    cond (eqb (get_or s 0 0) minus_byte) (minus_of (digits_of (drop 1 (field_of s)))) (plus_of (digits_of (field_of s)))

-- all three, or none
abbrev pub three_of : Option ℕ → Option ℕ → Option ℕ → Option (ℕ × ℕ × ℕ)
three_of (Some a) (Some b) (Some c) = Some (a, b, c)
three_of (Some a) (Some b) None = None
three_of (Some a) None c = None
three_of None b c = None

-- w digits, a separator, two digits, the separator, two digits
unfoldable pub triple_of : ℕ → ℕ → List ℕ → Option (ℕ × ℕ × ℕ)
triple_of w sep s =
    cond (eqb (get_or s w 0) sep)
    (cond (eqb (get_or s (w + 3) 0) sep)
    (three_of (digits_of (take w s)) (digits_of (take 2 (drop (w + 1) s))) (digits_of (take 2 (drop (w + 4) s))))
    None)
    None

-- three numbers as a date
abbrev pub date_read : Option (ℕ × ℕ × ℕ) → Option Ymd
date_read (Some (y, m, d)) = Some (record { year = pos y; month = pos m; day = pos d })
date_read None = None

-- YYYY-MM-DD at the front
abbrev pub ymd_of : List ℕ → Option Ymd
ymd_of s = date_read (triple_of 4 minus_byte s)

-- YYYY-MM-DD: ten bytes
unfoldable pub read_date : List ℕ → Option Ymd
read_date s = cond (eqb (until_of space_byte s) 10) (ymd_of s) None

-- ---- fractions of a second
-- so many times a whole number
abbrev pub times : ℕ → Option ℕ → Option ℕ
times k (Some n) = Some (n * k)
times k None = None

-- 1 to 9 digits, of which the first counts tenths of a second: the nanoseconds
unfoldable pub nanos_of : List ℕ → Option ℕ
nanos_of s = cond (ltb 9 (length s)) None (times (10 ^ (9 - length s)) (digits_of s))

-- what stands after the seconds: nothing, or a point and digits
unfoldable pub fraction_of : List ℕ → Option ℕ
fraction_of [] = Some 0
fraction_of (b ∷ s) = cond (eqb b point_byte) (nanos_of s) None

-- a date, a time of day and a fraction as a date-time
abbrev pub stamp_read : Option Ymd → Option (ℕ × ℕ × ℕ) → Option ℕ → Option Moment
stamp_read (Some d) (Some (h, n, c)) (Some q) = Some (record { date = d; hour = h; minute = n; second = c; nano = q })
stamp_read (Some d) (Some t) None = None
stamp_read (Some d) None q = None
stamp_read None t q = None

-- YYYY-MM-DDThh:mm:ss, 19 bytes, and a fraction
unfoldable pub read_stamp : List ℕ → Option Moment
read_stamp s =
    cond (ltb (until_of space_byte s) 19) None
    (cond (eqb (get_or s 10 0) t_byte)
    (stamp_read (ymd_of s) (triple_of 2 colon_byte (take 8 (drop 11 s))) (fraction_of (drop 19 (field_of s))))
    None)

-- seconds and a fraction as a span, below zero or not
abbrev pub span_read : Bool → Option ℕ → Option ℕ → Option Duration
span_read below (Some n) (Some q) = Some (record { below = below; seconds = n; nano = q })
span_read below (Some n) None = None
span_read below None q = None

-- digits up to a point or to the end, and a fraction
unfoldable pub seconds_of : Bool → List ℕ → Option Duration
seconds_of below f = span_read below (digits_of (take (until_of point_byte f) f)) (fraction_of (drop (until_of point_byte f) f))

-- a minus and seconds, or seconds
unfoldable pub read_span : List ℕ → Option Duration
read_span s = cond (eqb (get_or s 0 0) minus_byte) (seconds_of true (drop 1 (field_of s))) (seconds_of false (field_of s))

-- ---- how many digits a number that was read has at most
abbrev pub Digits : ℕ → Option ℕ → Type 0
Digits k (Some n) = n < 10 ^ k
Digits k None = Unit {0}

-- so has a signed one, and it is not below zero
abbrev pub Signless : ℕ → ℤ → Type 0
Signless k (pos n) = n < 10 ^ k
Signless k (negsuc n) = ⊥

-- each of three numbers has at most 12
abbrev pub TypedThree : Option (ℕ × ℕ × ℕ) → Type 0
TypedThree (Some (a, b, c)) = (a < 10 ^ 12) × (b < 10 ^ 12) × (c < 10 ^ 12)
TypedThree None = Unit {0}

-- so has each number of a date
pub record Typed (d : Ymd) : Type 0 where
  pub year : Signless 12 d.year
  pub month : Signless 12 d.month
  pub day : Signless 12 d.day

-- so has a date that was read
abbrev pub TypedDate : Option Ymd → Type 0
TypedDate (Some d) = Typed d
TypedDate None = Unit {0}

-- so has a date-time that was read, and its fraction is less than a second
abbrev pub TypedStamp : Option Moment → Type 0
TypedStamp (Some m) = Typed m.date × (m.nano < per_second)
TypedStamp None = Unit {0}

-- so have the seconds of a span that was read, and its fraction too
abbrev pub TypedSpan : Option Duration → Type 0
TypedSpan (Some p) = (p.seconds < 10 ^ 12) × (p.nano < per_second)
TypedSpan None = Unit {0}
