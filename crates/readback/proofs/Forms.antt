-- The texts of a date, a date-time and a span, with a fraction and without, taken apart by the readers. Assumes nothing.
use mathlib.Core.Path.{◌≡◌, refl, ◌∙◌}
use mathlib.Core.Bool.{Bool, true, false}
use mathlib.Core.List.{List, [], ◌∷◌, ◌++◌}
use Prim.Native.Nat.{ℕ, ◌+◌, ◌*◌, ◌/◌, ◌%◌, ◌^◌, ◌<◌, ◌≤◌}
use native.Mathlib.Omega.{arith}
use lib.IntN.{pos}
use lib.ListN.{length, take, drop, get_or, length-append}
use lib.Seq.{take_at, drop_at}
use borrow.Author.Tests.{lt-ltb, le-ltb, le-leb, eq-eqb, ne_eqb}
use Rattle.laws.specs.Units.{per_second}
use Rattle.calendar.specs.declared.Date.{Date}
use Rattle.calendar.specs.Gregorian.{month_length, day_number, Real, date_of}
use Rattle.calendar.specs.Questions.{is_date, number_of, last_day}
use Rattle.calendar.proofs.Dates.{date_number, year_most}
use Rattle.calendar.proofs.Formulas.{month_length_le}
use Rattle.text_read.specs.Bytes.{space_byte, minus_byte, point_byte, colon_byte, t_byte}
use Rattle.text_read.specs.Fields.{until_of, field_of, digits_of, nanos_of, fraction_of, three_of, triple_of}
use Rattle.text_read.specs.Fields.{read_date, read_stamp, seconds_of, read_span}
use Rattle.std.specs.Prelude.{Some, Ok}
use Rattle.calendar.specs.declared.Ymd.{Ymd}
use Rattle.text_read.specs.declared.Moment.{Moment}
use Rattle.text_line.specs.Line.{on_day, is_time}
use Rattle.text_write.specs.Texts.{fixed_text, decimal_text, ymd_text, date_text, fraction_text, date_time_text}
use Rattle.readback.proofs.Digits.{Free, free_none, free_one, free_then, free_fixed, free_decimal, fixed_read}
use Rattle.readback.proofs.Digits.{decimal_some, decimal_read}

-- ---- a field
-- a text without a space is one, where nothing or a space stands behind it
pub field_is : (a t : List ℕ) → Free space_byte a → until_of space_byte t ≡ 0 → field_of (a ++ t) ≡ a
field_is a t f e =
    take_at a t (until_of space_byte (a ++ t)) (omega (arith, f.free t))

-- ---- a fraction
pub free_fraction : {c : ℕ} (shown : Bool) (q : ℕ) → c < 48 → (point_byte ≡ c → ⊥) → Free c (fraction_text shown q)
free_fraction true q l h = free_then (free_one h) (free_fixed l 9 q)
free_fraction false q l h = free_none

pub fraction_read : (shown : Bool) (q : ℕ) → q < per_second → (shown ≡ false → q ≡ 0) →
    fraction_of (fraction_text shown q) ≡ Some q
unfolding fraction_of nanos_of fixed_text
fraction_read true q l h =
    let n : q * 1 ≡ q = omega arith in
    rw (fixed_read 9 q (omega arith) (omega arith) (omega arith), n)
fraction_read false q l h = rw (h refl) refl

point_first : (shown : Bool) (q : ℕ) → until_of point_byte (fraction_text shown q) ≡ 0
unfolding until_of
point_first true q = refl
point_first false q = refl

-- ---- a date
abbrev pub typed : Date → Ymd
typed d = record { year = pos d.year; month = pos d.month; day = pos d.day }

-- what four digits and twice two can be
pub record Short (d : Date) : Type 0 where
  pub year : d.year < 10000
  pub month : d.month < 100
  pub day : d.day < 100

free_triple : {c sep : ℕ} (w a b d : ℕ) → c < 48 → (sep ≡ c → ⊥) →
    Free c (fixed_text w a ++ (sep ∷ []) ++ fixed_text 2 b ++ (sep ∷ []) ++ fixed_text 2 d)
free_triple w a b d l n =
    free_then (free_then (free_then (free_then (free_fixed l w a) (free_one n)) (free_fixed l 2 b)) (free_one n))
    (free_fixed l 2 d)

pub free_date : {c : ℕ} (n : ℕ) → c < 48 → (minus_byte ≡ c → ⊥) → Free c (date_text n)
free_date n l h = let d = date_of n in free_triple 4 d.year d.month d.day l h

ymd_length : (d : Date) → length (ymd_text d) ≡ 10
unfolding fixed_text
ymd_length d = refl

-- the three numbers at the front of a text that begins with a date
module _ (d : Date) (t : List ℕ) where
  ymd_parts : triple_of 4 minus_byte (ymd_text d ++ t)
      ≡ three_of (digits_of (fixed_text 4 d.year)) (digits_of (fixed_text 2 d.month)) (digits_of (fixed_text 2 d.day))
  unfolding triple_of fixed_text
  ymd_parts = refl

  pub ymd_read : Short d → until_of space_byte t ≡ 0 → read_date (ymd_text d ++ t) ≡ Some (typed d)
  unfolding read_date
  ymd_read s e =
      let u : until_of space_byte (ymd_text d ++ t) ≡ 10 =
      (free_triple 4 d.year d.month d.day (omega arith) (λ q. omega arith)).free t ∙ rw (ymd_length d, e) in
      rw (
        u,
        ymd_parts,
        fixed_read 4 d.year (omega arith) (omega arith) s.year,
        fixed_read 2 d.month (omega arith) (omega arith) s.month,
        fixed_read 2 d.day (omega arith) (omega arith) s.day,
      )

-- the day number that it has
is_date_law : (y m d : ℕ) → Real y m d → y ≤ 9999 → is_date (pos y) (pos m) (pos d) ≡ true
unfolding is_date
is_date_law y m d r h =
    rw (
      le-leb 1 y r.year,
      le-leb y 9999 h,
      le-leb 1 m r.month,
      le-leb m 12 r.last,
      le-leb 1 d r.day,
      le-leb d (month_length y m) r.within,
    )

number_is : (y m d : ℕ) → Real y m d → y ≤ 9999 →
    number_of (record { year = pos y; month = pos m; day = pos d }) ≡ Ok (day_number y m d)
unfolding number_of
number_is y m d r h = rw (is_date_law y m d r h)

-- a day number's date is its own
pub record OfDay (n : ℕ) : Type 0 where
  pub short : Short (date_of n)
  pub value : (nano : ℕ) → on_day (typed (date_of n)) nano ≡ record { head = pos n; tail = pos nano }

pub of_day : (n : ℕ) → 1 ≤ n → n ≤ last_day → OfDay n
unfolding on_day
of_day n l m =
    let t = date_of n in
    let (r, e) = date_number n l in
    let y : t.year ≤ 9999 = year_most t.year t.month t.day r (omega arith) in
    record {
      short = record {
        year = omega arith;
        month = omega (arith, r.last);
        day = omega (arith, month_length_le t.year t.month r.last, r.within);
      };
      value = λ nano. rw (number_is t.year t.month t.day r y, e);
    }

-- ---- a date-time
-- a second of the day and a fraction of it, as they are typed
abbrev pub moment_of : ℕ → ℕ → ℕ → Moment
moment_of n s q = record { date = typed (date_of n); hour = s / 3600; minute = s / 60 % 60; second = s % 60; nano = q }

pub is_time_law : (n s q : ℕ) → s < 86400 → is_time (moment_of n s q) ≡ true
is_time_law n s q l =
    let hour : s / 3600 < 24 = omega arith in
    rw (lt-ltb (s / 3600) 24 hour, lt-ltb (s / 60 % 60) 60 (omega arith), lt-ltb (s % 60) 60 (omega arith))

pub second_is : (s : ℕ) → (s / 3600 * 60 + s / 60 % 60) * 60 + s % 60 ≡ s
second_is s = omega arith

module _ (shown : Bool) (n nano : ℕ) where
  pub free_stamp : {c : ℕ} → c < 48 → (minus_byte ≡ c → ⊥) → (point_byte ≡ c → ⊥) → Free c (date_time_text shown n nano)
  free_stamp l h p =
      let s = nano / per_second in
      free_then (free_then (free_then (free_date n l h) (free_one (λ e. omega arith)))
      (free_triple 2 (s / 3600) (s / 60 % 60) (s % 60) l (λ e. omega arith))) (free_fraction shown (nano % per_second) l p)

  -- the parts of a text that begins with one
  module _ (t : List ℕ) where
    day_parts : let d = date_of n in triple_of 4 minus_byte (date_time_text shown n nano ++ t)
        ≡ three_of (digits_of (fixed_text 4 d.year)) (digits_of (fixed_text 2 d.month)) (digits_of (fixed_text 2 d.day))
    unfolding triple_of fixed_text
    day_parts = refl

    time_parts : let s = nano / per_second in triple_of 2 colon_byte (take 8 (drop 11 (date_time_text shown n nano ++ t)))
        ≡ three_of (digits_of (fixed_text 2 (s / 3600))) (digits_of (fixed_text 2 (s / 60 % 60)))
        (digits_of (fixed_text 2 (s % 60)))
    unfolding triple_of fixed_text
    time_parts = refl

    t_between : get_or (date_time_text shown n nano ++ t) 10 0 ≡ t_byte
    unfolding fixed_text
    t_between = refl

  last_part : drop 19 (date_time_text shown n nano) ≡ fraction_text shown (nano % per_second)
  unfolding fixed_text
  last_part = refl

  some_bytes : 19 ≤ length (date_time_text shown n nano)
  unfolding fixed_text
  some_bytes = omega arith

  pub stamp_read : (t : List ℕ) → Short (date_of n) → nano < 86400 * per_second → (shown ≡ false → nano % per_second ≡ 0) →
      until_of space_byte t ≡ 0 →
      read_stamp (date_time_text shown n nano ++ t) ≡ Some (moment_of n (nano / per_second) (nano % per_second))
  unfolding read_stamp
  stamp_read t h l w e =
      let d = date_of n in
      let s = nano / per_second in
      let f = free_stamp {c = space_byte} (omega arith) (λ q. omega arith) (λ q. omega arith) in
      let hour : s / 3600 < 100 = omega arith in
      rw (
        le-ltb (until_of space_byte (date_time_text shown n nano ++ t)) 19 (omega (arith, f.free t, some_bytes)),
        t_between t,
        day_parts t,
        time_parts t,
        field_is (date_time_text shown n nano) t f e,
        last_part,
        fraction_read shown (nano % per_second) (omega arith) w,
        fixed_read 4 d.year (omega arith) (omega arith) h.year,
        fixed_read 2 d.month (omega arith) (omega arith) h.month,
        fixed_read 2 d.day (omega arith) (omega arith) h.day,
        fixed_read 2 (s / 3600) (omega arith) (omega arith) hour,
        fixed_read 2 (s / 60 % 60) (omega arith) (omega arith) (omega arith),
        fixed_read 2 (s % 60) (omega arith) (omega arith) (omega arith),
      )

-- ---- a span
first_not : (c : ℕ) (s : List ℕ) → 1 ≤ until_of c s → get_or s 0 0 ≡ c → ⊥
unfolding until_of
first_not c [] h e = omega arith
first_not c (b ∷ s) h e = let q : until_of c (b ∷ s) ≡ 0 = rw (eq-eqb b c e) in omega arith

module _ (shown : Bool) (n q : ℕ) (l : n < 10 ^ 12) (m : q < per_second) (w : shown ≡ false → q ≡ 0) where
  -- the seconds and the fraction, away from zero
  abbrev size : List ℕ
  size = decimal_text n ++ fraction_text shown q

  seconds_read : (below : Bool) → seconds_of below size ≡ Some (record { below = below; seconds = n; nano = q })
  unfolding seconds_of
  seconds_read below =
      let a = decimal_text n in
      let f = free_decimal {c = point_byte} (omega arith) n in
      let p : length a ≡ until_of point_byte size = omega (arith, f.free (fraction_text shown q), point_first shown q) in
      rw (
        take_at a (fraction_text shown q) (until_of point_byte size) p,
        drop_at a (fraction_text shown q) (until_of point_byte size) p,
        decimal_read n l,
        fraction_read shown q m w,
      )

  free_size : {c : ℕ} → c < 48 → (point_byte ≡ c → ⊥) → Free c size
  free_size k h = free_then (free_decimal k n) (free_fraction shown q k h)

  module _ (t : List ℕ) (e : until_of space_byte t ≡ 0) where
    pub above_read : read_span (size ++ t) ≡ Some (record { below = false; seconds = n; nano = q })
    unfolding read_span
    above_read =
        let f = free_size {c = minus_byte} (omega arith) (λ z. omega arith) in
        let some : 1 ≤ length size = omega (arith, decimal_some n, length-append (decimal_text n) (fraction_text shown q)) in
        rw (
          ne_eqb _ _ (first_not minus_byte (size ++ t) (omega (arith, f.free t))),
          field_is size t (free_size (omega arith) (λ z. omega arith)) e,
        ) (seconds_read false)

    pub below_read : read_span ((minus_byte ∷ size) ++ t) ≡ Some (record { below = true; seconds = n; nano = q })
    unfolding read_span
    below_read =
        let f : Free space_byte (minus_byte ∷ size) =
        free_then (free_one (λ z. omega arith)) (free_size (omega arith) (λ z. omega arith)) in
        rw (field_is (minus_byte ∷ size) t f e) (seconds_read true)
