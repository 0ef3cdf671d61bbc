-- The slot name that is shown for a flight.
use Rattle.std.specs.Prelude.{◌≡◌, ℕ, ◌<◌, true, cond, List, Some, None, codes, Option}
use Rattle.calendar.specs.Days.{Days, Minute, is_days}
use Rattle.element.specs.Slots.{Slot, is_pair, marks_pop_up, pop_up_at}
use Rattle.element.specs.Meanings.{Meaning, SlotNamesApart, name_read}
use Rattle.flights.specs.declared.flight.ControlType.{ControlType}
use Rattle.flights.specs.declared.flight.ControlType.TheVariants.{Fa}
use Rattle.flights.specs.Flights.{Flight, is_pop_up}

-- the CTA of a pop-up with the letter Z
abbrev pub pop_up_pair : Option ControlType → Minute → Option Slot
pop_up_pair None cta = None
pop_up_pair (Some t) cta = cond (is_pop_up t) (Some (pop_up_at cta)) None

abbrev pub pair_of : Option Slot → Option ControlType → Minute → Option Slot
pair_of None control cta = pop_up_pair control cta
pair_of (Some s) control cta = Some s

-- the pair whose name is shown: the flight's slot, and of a pop-up its CTA with the letter Z
abbrev pub pair_shown : Flight → Option Slot
pair_shown f = pair_of f.slot f.control f.cta

abbrev pub name_of : Meaning → Days → Option Slot → List ℕ
name_of e d None = codes "-"
name_of e d (Some p) = e.slot_name d p

-- the name of that pair, and `-` where there is none
abbrev pub slot_shown : Meaning → Days → Flight → List ℕ
slot_shown e d f = name_of e d (pair_shown f)

-- the name shown for a flight with a slot reads as that slot, and that for a pop-up as its CTA with the letter Z, which is no
-- slot
pub record NamesReadAgain : Type 0 where
  pub slot : (e : Meaning) (d : Days) (f : Flight) (s : Slot) → SlotNamesApart e → is_days d ≡ true → f.slot ≡ Some s → is_pair s ≡ true → name_read (e.slot_name d) (slot_shown e d f) ≡ Some s
  pub pop_up : (e : Meaning) (d : Days) (f : Flight) → SlotNamesApart e → is_days d ≡ true → f.slot ≡ None → f.control ≡ Some Fa → f.cta < 10080 → (name_read (e.slot_name d) (slot_shown e d f) ≡ Some (pop_up_at f.cta)) × (marks_pop_up (pop_up_at f.cta) ≡ true)
