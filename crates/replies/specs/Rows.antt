-- The rows of a slot list.
use Rattle.std.specs.Prelude.{ℕ, Bool, true, false, cond, List, [], ◌∷◌, ◌++◌, drop, Some, None, codes, Option}
use Rattle.std.specs.List.{flat_map}
use Rattle.calendar.specs.Days.{Days, Minute, time_written}
use Rattle.element.specs.Meanings.{Meaning}
use Rattle.flights.specs.declared.flight.ControlType.{ControlType}
use Rattle.flights.specs.Flights.{Flight}
use Rattle.flights.specs.Words.{word_of}
use Rattle.replies.specs.Names.{slot_shown}

-- a field and the space after it
abbrev pub spaced : List ℕ → List ℕ
spaced text = text ++ (32 ∷ [])

abbrev pub mark : Bool → List ℕ
mark true = codes "Y"
mark false = codes "-"

abbrev pub type_shown : Option ControlType → List ℕ
type_shown None = codes "-"
type_shown (Some t) = word_of t

abbrev pub time_shown : Days → Option Minute → List ℕ
time_shown d None = codes "-"
time_shown d (Some m) = time_written d m

-- ACID, ASLOT, DEP, ARR, CTD, CTA, TYPE, EX, CX, SH, ERTA and IGTD, parted by one space each and ended by LF. IGTD is shown
-- by the last six digits of the date
unfoldable pub row : Meaning → Days → Flight → List ℕ
row e d f =
    spaced f.identity.id
    ++ spaced (slot_shown e d f)
    ++ spaced f.identity.departure
    ++ spaced f.identity.arrival
    ++ spaced (time_written d f.ctd)
    ++ spaced (time_written d f.cta)
    ++ spaced (type_shown f.control)
    ++ spaced (mark f.exempt)
    ++ spaced (mark f.cancelled)
    ++ spaced (mark f.hold)
    ++ spaced (time_shown d f.erta)
    ++ (drop 2 f.identity.date ++ (10 ∷ []))

-- the row of a flight that is chosen, and nothing of another
abbrev pub row_for : Meaning → Days → (Flight → Bool) → Flight → List ℕ
row_for e d chosen f = cond (chosen f) (row e d f) []

-- a row for each flight that is chosen, in the order of the flights
abbrev pub rows : Meaning → Days → (Flight → Bool) → List Flight → List ℕ
rows e d chosen fs = flat_map (row_for e d chosen) fs
