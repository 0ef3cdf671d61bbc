-- The standing rules of a flight and of a table.
use Rattle.std.specs.Prelude.{◌+◌, Bool, true, false, not, ◌&&◌, ◌||◌, List, [], ◌∷◌, ◌++◌, length, is_some, Some, None, Option, nat_le, nat_lt}
use Rattle.calendar.specs.Days.{Minute}
use Rattle.element.specs.Slots.{Slot, marks_pop_up}
use Rattle.element.specs.Meanings.{Meaning}
use Rattle.flights.specs.declared.flight.ControlType.{ControlType}
use Rattle.flights.specs.Counts.{some, agree}
use Rattle.flights.specs.Flights.{Flight, is_pop_up, bearers, holders}

-- a controlled flight that is no pop-up holds a slot
abbrev pub asks_slot : Option ControlType → Bool
asks_slot None = false
asks_slot (Some t) = not (is_pop_up t)

-- a slot stands exactly on the controlled flights that are no pop-ups
abbrev pub slot_fits_type : Flight → Bool
slot_fits_type f = agree (is_some f.slot) (asks_slot f.control)

-- a hold stands only on a cancelled flight with a slot
abbrev pub hold_fits : Flight → Bool
hold_fits f = not f.hold || (f.cancelled && is_some f.slot)

-- the CTD lies before the CTA
abbrev pub departs_first : Flight → Bool
departs_first f = nat_lt f.ctd f.cta

-- a CTA 0 to 20 minutes after the slot, where there is one
abbrev pub in_slot : Option Slot → Minute → Bool
in_slot None cta = true
in_slot (Some s) cta = nat_le s.minute cta && nat_le cta (s.minute + 20)

abbrev pub arrives_in_slot : Flight → Bool
arrives_in_slot f = in_slot f.slot f.cta

-- the letter Z names no slot
abbrev pub is_slot_letter : Option Slot → Bool
is_slot_letter None = true
is_slot_letter (Some s) = not (marks_pop_up s)

abbrev pub holds_real_slot : Flight → Bool
holds_real_slot f = is_slot_letter f.slot

-- the element serves the arrival airport
abbrev pub arrival_served : Meaning → Flight → Bool
arrival_served e f = e.serves f.identity.arrival

-- what holds of each flight by itself
abbrev pub flight_stands : Meaning → Flight → Bool
flight_stands e f = slot_fits_type f && hold_fits f && departs_first f && arrives_in_slot f && holds_real_slot f && arrival_served e f

-- no flight before it has its identity
abbrev pub new_identity : List Flight → Flight → Bool
new_identity before f = not (some (bearers f.identity before))

-- no flight before it holds its slot
abbrev pub free_slot : List Flight → Option Slot → Bool
free_slot before None = true
free_slot before (Some s) = not (some (holders s before))

abbrev pub new_slot : List Flight → Flight → Bool
new_slot before f = free_slot before f.slot

-- at most 511 flights come before it
abbrev pub has_place : List Flight → Bool
has_place before = nat_le (length before) 511

-- a flight that keeps the rules beside those before it
abbrev pub joins : Meaning → List Flight → Flight → Bool
joins e before f = flight_stands e f && new_identity before f && new_slot before f && has_place before

abbrev pub stands_after : Meaning → List Flight → List Flight → Bool
stands_after e before [] = true
stands_after e before (f ∷ fs) = joins e before f && stands_after e (before ++ f ∷ []) fs

-- the standing rules of a table: each flight keeps the rules beside those before it. So no two flights have one identity or
-- one slot, and there are at most 512
abbrev pub table_stands : Meaning → List Flight → Bool
table_stands e fs = stands_after e [] fs
