-- Sets of slots, and the slots that lists and SC lines name.
use Rattle.std.specs.Prelude.{ℕ, Bool, List, [], ◌∷◌, map, Some, None, Option}
use Rattle.text.specs.Lines.{Line}
use Rattle.calendar.specs.Days.{Days}
use Rattle.element.specs.Slots.{Slot, same_slot}
use Rattle.element.specs.Meanings.{Meaning}
use Rattle.flights.specs.Counts.{bump, some}
use Rattle.flights.specs.Flights.{Flight}
use Rattle.packets.specs.Given.{value}
use Rattle.packets.specs.Messages.{Message, message_read, only_sc}
use Rattle.processor.specs.Laws.{message_lines}

-- how often a slot stands in a list of slots
abbrev pub times : Slot → List Slot → ℕ
times x [] = 0
times x (y ∷ ys) = bump (same_slot y x) (times x ys)

-- a list of slots as a set: whether a slot is in it
abbrev pub is_in : Slot → List Slot → Bool
is_in x ys = some (times x ys)

-- one slot more, where there is one
abbrev pub with : Option Slot → List Slot → List Slot
with None ys = ys
with (Some y) ys = y ∷ ys

-- the slots that flights hold
abbrev pub slots_of : List Flight → List Slot
slots_of [] = []
slots_of (f ∷ fs) = with f.slot (slots_of fs)

-- the slot that an SC line which is a message names: that whose name its A2 is. The letter Z names none, and a line that is no
-- message names none
abbrev pub slot_created : Option Message → Option Slot
slot_created None = None
slot_created (Some m) = only_sc m.kind (value m.slot)

abbrev pub slots_created : List (Option Message) → List Slot
slots_created [] = []
slots_created (o ∷ os) = with (slot_created o) (slots_created os)

-- the slots that the SC lines of a packet name, by the element's names on these days
abbrev pub created : Meaning → Days → List Line → List Slot
created e d lines = slots_created (map (message_read e d) (message_lines lines))
