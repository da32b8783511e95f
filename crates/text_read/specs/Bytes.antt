-- The names of the bytes that texts are made of, besides letters. Definitions only.
use Rattle.std.specs.Prelude.{ℕ}

-- LF
abbrev pub line_feed : ℕ
line_feed = 10

-- ' '
abbrev pub space_byte : ℕ
space_byte = 32

-- '!'
abbrev pub exclamation : ℕ
exclamation = 33

-- '-'
abbrev pub minus_byte : ℕ
minus_byte = 45

-- '.'
abbrev pub point_byte : ℕ
point_byte = 46

-- '0'
abbrev pub zero_byte : ℕ
zero_byte = 48

-- '9'
abbrev pub nine_byte : ℕ
nine_byte = 57

-- ':'
abbrev pub colon_byte : ℕ
colon_byte = 58

-- 'T'
abbrev pub t_byte : ℕ
t_byte = 84
