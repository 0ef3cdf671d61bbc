-- Pairs of a minute and a letter.
use Rattle.std.specs.Prelude.{ℕ, Bool, ◌&&◌, ◌==◌, nat_le}
use Rattle.text.specs.Bytes.{is_capital}
use Rattle.calendar.specs.Days.{Minute}

-- an arrival slot: a minute, and a letter that tells apart the slots of one minute. The letter Z marks pop-ups and names
-- no slot
pub record Slot : Type 0 where
  pub minute : Minute
  pub letter : ℕ

-- a minute of the element's days and a letter A to Z
abbrev pub is_pair : Slot → Bool
is_pair p = nat_le p.minute 10079 && is_capital p.letter

abbrev pub same_slot : Slot → Slot → Bool
same_slot p q = p.minute == q.minute && p.letter == q.letter

-- whether the letter is Z
abbrev pub marks_pop_up : Slot → Bool
marks_pop_up p = p.letter == 90

-- the pair of a minute and the letter Z, by which a pop-up is shown
abbrev pub pop_up_at : Minute → Slot
pop_up_at m = record { minute = m; letter = 90 }
