-- Slots of the code, as the definitions see them.
use Rattle.calendar.specs.Days.{minute_of}
use Rattle.element.specs.declared.slot.Slot.{Slot as KeptSlot}
use Rattle.element.specs.Slots.{Slot}

abbrev pub slot_of : KeptSlot → Slot
slot_of s = record { minute = minute_of s.minute; letter = s.letter }
