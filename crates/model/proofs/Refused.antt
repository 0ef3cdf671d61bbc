-- No refusal has the number 0.
use Rattle.std.proofs.Common.{◌≡◌, false, eqb, refl}
use Rattle.model.specs.declared.refusal.Refusal.{Refusal}
use Rattle.model.specs.declared.refusal.Refusal.TheVariants.{SmallBuffer, LongInput, NoHeader, LineCount, UnknownSender, NoProgram, ProgramOff, NoRequest, NoMessage, Untimely, Incomplete, NoSlotName, NoFlight, NotOwned, Uncontrolled, Controlled, Departed, OnPopUp, OffSlot, OffMinute, EteUnfit, SlotHeld, Repeated, Unheld, Claimed, Stranded, FaultyList, ProgramThere}
use Rattle.model.specs.Refusals.{number}

pub refused : (r : Refusal) → eqb (number r) 0 ≡ false
refused SmallBuffer = refl
refused LongInput = refl
refused NoHeader = refl
refused LineCount = refl
refused UnknownSender = refl
refused NoProgram = refl
refused ProgramOff = refl
refused NoRequest = refl
refused NoMessage = refl
refused Untimely = refl
refused Incomplete = refl
refused NoSlotName = refl
refused NoFlight = refl
refused NotOwned = refl
refused Uncontrolled = refl
refused Controlled = refl
refused Departed = refl
refused OnPopUp = refl
refused OffSlot = refl
refused OffMinute = refl
refused EteUnfit = refl
refused SlotHeld = refl
refused Repeated = refl
refused Unheld = refl
refused Claimed = refl
refused Stranded = refl
refused FaultyList = refl
refused ProgramThere = refl
