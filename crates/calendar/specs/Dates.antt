-- Dates of eight digits: month, day, hour, minute.
use Rattle.std.specs.Prelude.{ℕ, zero, suc, Bool, false, ◌&&◌, List, [], ◌∷◌, length, Some, None, Option, ◌==◌, nat_le, slice_index}
use Rattle.calendar.specs.Digits.{two_digits}

-- the lengths of the twelve months, February having 29 days
abbrev pub month_lengths : List ℕ
month_lengths = 31 ∷ 29 ∷ 31 ∷ 30 ∷ 31 ∷ 30 ∷ 31 ∷ 31 ∷ 30 ∷ 31 ∷ 30 ∷ 31 ∷ []

-- the length of a month by its number, and 0 where there is no such month
abbrev pub month_length : ℕ → ℕ
month_length zero = 0
month_length (suc k) = slice_index month_lengths k

-- a month, one of its days, an hour and a minute
abbrev pub is_day_and_time : ℕ → ℕ → ℕ → ℕ → Bool
is_day_and_time month day hh mm = nat_le 1 day && nat_le day (month_length month) && nat_le hh 23 && nat_le mm 59

abbrev pub date_from : Option ℕ → Option ℕ → Option ℕ → Option ℕ → Bool
date_from None d h m = false
date_from (Some month) None h m = false
date_from (Some month) (Some day) None m = false
date_from (Some month) (Some day) (Some hh) None = false
date_from (Some month) (Some day) (Some hh) (Some mm) = is_day_and_time month day hh mm

-- eight digits that are a month, one of its days, an hour and a minute
abbrev pub is_date : List ℕ → Bool
is_date t =
    (length t == 8)
    && date_from (two_digits (slice_index t 0) (slice_index t 1)) (two_digits (slice_index t 2) (slice_index t 3)) (two_digits (slice_index t 4) (slice_index t 5))
    (two_digits (slice_index t 6) (slice_index t 7))
