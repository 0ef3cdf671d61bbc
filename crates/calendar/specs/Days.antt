-- The days of an element, and times on them.
use Rattle.std.specs.Prelude.{◌≡◌, ℕ, ◌+◌, ◌-◌, ◌*◌, ◌/◌, ◌%◌, ◌<◌, Bool, cond, ◌&&◌, List, ◌++◌, length, Some, None, Option, ◌==◌, nat_le, slice_index}
use Rattle.calendar.specs.declared.days.Days.{Days as KeptDays}
use Rattle.calendar.specs.declared.days.Minute.{Minute as KeptMinute}
use Rattle.calendar.specs.Digits.{two_digits, two_digits_of, number}

-- the days that a program lies on: the base day and the six after it. After the last day of the base day's month, whose
-- length is `month`, comes day 1
pub record Days : Type 0 where
  pub base : ℕ
  pub month : ℕ

-- a minute of these days, counted from the start of the base day: 0 to 10,079
abbrev pub Minute : Type 0
Minute = ℕ

-- a month has 28 to 31 days, and the base day is one of them
abbrev pub is_days : Days → Bool
is_days d = nat_le 28 d.month && nat_le d.month 31 && nat_le 1 d.base && nat_le d.base d.month

abbrev pub days_where : Bool → Days → Option Days
days_where fits d = cond fits (Some d) None

abbrev pub days_from : Option ℕ → Option ℕ → Option Days
days_from None m = None
days_from (Some b) None = None
days_from (Some b) (Some m) = days_where (is_days (record { base = b; month = m })) (record { base = b; month = m })

-- days read from two texts of two digits: the base day, and the length of its month
abbrev pub days_read : List ℕ → List ℕ → Option Days
days_read base month = days_from (number base) (number month)

-- how many days after the base day the day dd comes, where the month ends in between or not
abbrev pub since : Days → ℕ → ℕ
since d dd = cond (nat_le d.base dd) (dd - d.base) (dd + d.month - d.base)

-- the minute of a day, an hour and a minute of the hour: none where the day is not one of the seven, or there is no such time
abbrev pub minute_at : Days → ℕ → ℕ → ℕ → Option Minute
minute_at d dd hh mm =
    cond (nat_le 1 dd && nat_le dd d.month && nat_le (since d dd) 6 && nat_le hh 23 && nat_le mm 59)
    (Some (1440 * since d dd + 60 * hh + mm))
    None

abbrev pub minute_from : Days → Option ℕ → Option ℕ → Option ℕ → Option Minute
minute_from d None h m = None
minute_from d (Some dd) None m = None
minute_from d (Some dd) (Some hh) None = None
minute_from d (Some dd) (Some hh) (Some mm) = minute_at d dd hh mm

-- the minute that a text of six digits names: day, hour, minute
abbrev pub time_read : Days → List ℕ → Option Minute
time_read d t =
    cond (length t == 6)
    (minute_from d (two_digits (slice_index t 0) (slice_index t 1)) (two_digits (slice_index t 2) (slice_index t 3)) (two_digits (slice_index t 4) (slice_index t 5)))
    None

-- the day of the month, k days after the base day
abbrev pub day_after : Days → ℕ → ℕ
day_after d k = cond (nat_le (d.base + k) d.month) (d.base + k) (d.base + k - d.month)

-- the six digits of a minute
abbrev pub time_written : Days → Minute → List ℕ
time_written d m = two_digits_of (day_after d (m / 1440)) ++ (two_digits_of (m % 1440 / 60) ++ two_digits_of (m % 60))

-- reading yields a minute exactly when the text is the six digits of that minute
pub record ReadsItsDigits (d : Days) (t : List ℕ) : Type 0 where
  pub only : (m : Minute) → time_read d t ≡ Some m → t ≡ time_written d m
  pub every : (m : Minute) → m < 10080 → t ≡ time_written d m → time_read d t ≡ Some m

-- days and minutes of the code, as the definitions see them
abbrev pub days_of : KeptDays → Days
days_of d = record { base = d.base; month = d.month }

abbrev pub minute_of : KeptMinute → Minute
minute_of m = m.value
