-- Values of the eight kinds (question 3, and question 8 of a value) and their order. Definitions only.
-- Kinds 1 to 3 and 8 are over dates, 4 to 6 over date-times, 7 over durations. What is of no kind has no values.
use Rattle.std.specs.Prelude.{◌≡◌, Bool, true, false, cond, ◌&&◌, ◌||◌, ℕ, eqb, ℤ, pos, negsuc, Result, Ok, Err}
use Rattle.std.specs.Result.{result_unwrap_or}
use Rattle.std.specs.Int.Signed.{lt_z, le_z}
use Rattle.laws.specs.Numbers.{minus, within, is_number}
use Rattle.calendar.specs.Questions.{is_day}
use Rattle.asking.specs.declared.Refusal.{Refusal}
use Rattle.asking.specs.declared.Refusal.TheVariants as refusal
use Rattle.values.specs.declared.Kind.{Kind}
use Rattle.values.specs.declared.Kind.TheVariants as kind
use Rattle.values.specs.declared.Value.{Value}

-- ---- the kinds, by their numbers; question 1 refuses all others
abbrev pub kind_numbered : ℕ → Result Kind Refusal
kind_numbered n =
    cond (eqb n 1) (Ok kind.Date)
    (cond (eqb n 2) (Ok kind.Month)
    (cond (eqb n 3) (Ok kind.Year)
    (cond (eqb n 4) (Ok kind.Stamp)
    (cond (eqb n 5) (Ok kind.StampMonth)
    (cond (eqb n 6) (Ok kind.StampYear)
    (cond (eqb n 7) (Ok kind.Span)
    (cond (eqb n 8) (Ok kind.Week)
    (Err refusal.Kind))))))))

-- no number below 0 is one
abbrev pub kind_of : ℤ → Result Kind Refusal
kind_of (pos n) = kind_numbered n
kind_of (negsuc n) = Err refusal.Kind

-- the kind of any number: what question 1 refuses is of no kind
unfoldable pub numbered : ℤ → Kind
numbered n = result_unwrap_or (kind_of n) kind.Unknown

-- one of the eight
abbrev pub is_kind : Kind → Bool
is_kind kind.Unknown = false
is_kind k = true

-- the kinds over dates
abbrev pub over_dates : Kind → Bool
over_dates kind.Date = true
over_dates kind.Month = true
over_dates kind.Year = true
over_dates kind.Week = true
over_dates k = false

-- the kinds over date-times
abbrev pub over_date_times : Kind → Bool
over_date_times kind.Stamp = true
over_date_times kind.StampMonth = true
over_date_times kind.StampYear = true
over_date_times k = false

-- of these the one that counts nothing, kind 4
abbrev pub is_stamp : Kind → Bool
is_stamp kind.Stamp = true
is_stamp k = false

-- the kind over durations
abbrev pub is_duration : Kind → Bool
is_duration kind.Span = true
is_duration k = false

-- a day and no time of it
abbrev pub a_date : Value → Bool
a_date v = is_day v.head && is_number v.tail 0

-- a day and a nanosecond of it
abbrev pub a_date_time : Value → Bool
a_date_time v = is_day v.head && within (pos 0) v.tail (pos 86399999999999)

-- seconds, rounded down, and nanoseconds
abbrev pub a_duration : Value → Bool
a_duration v = within (minus 315576000000) v.head (pos 315576000000) && within (pos 0) v.tail (pos 999999999)

-- of its kind
unfoldable pub is_value : Kind → Value → Bool
is_value kind v =
    (over_dates kind && a_date v)
    || ((over_date_times kind && a_date_time v)
    || (is_duration kind && a_duration v))

-- two values of one kind
pub record Both (kind : Kind) (a b : Value) : Type 0 where
  pub first : is_value kind a ≡ true
  pub second : is_value kind b ≡ true

-- by the head, then by the tail
unfoldable pub earlier : Value → Value → Bool
earlier a b = lt_z a.head b.head || (le_z a.head b.head && lt_z a.tail b.tail)

-- the date with a day number, which is the midnight of that day
abbrev pub midnight : ℤ → Value
midnight day = record { head = day; tail = pos 0 }
