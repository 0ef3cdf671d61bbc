-- What `==` says of pairs of a minute and a letter.
use Rattle.std.specs.Prelude.{◌≡◌, refl}
use Rattle.element.specs.declared.slot.Slot.{Slot}
use Rattle.element.specs.contracts.slot.SlotPartialEq.TheImpl as slots
use Rattle.element.specs.Kept.{slot_of}
use Rattle.element.specs.Slots.{same_slot}

pub slots_same : (a b : Slot) → slots.ghosts.eq a b ≡ same_slot (slot_of a) (slot_of b)
slots_same a b = refl
