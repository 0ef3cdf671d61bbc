-- The closed table of refusals: the number of each.
use Rattle.std.specs.Prelude.{ℕ, None, Some, Option, Ok, Err, Result}
use Rattle.model.specs.declared.refusal.Refusal.{Refusal}
use Rattle.model.specs.declared.refusal.Refusal.TheVariants.{SmallBuffer, LongInput, NoHeader, LineCount, UnknownSender, NoProgram, ProgramOff, NoRequest, NoMessage, Untimely, Incomplete, NoSlotName, NoFlight, NotOwned, Uncontrolled, Controlled, Departed, OnPopUp, OffSlot, OffMinute, EteUnfit, SlotHeld, Repeated, Unheld, Claimed, Stranded, FaultyList, ProgramThere}

-- the number of a refusal, the same for a call and for a line
abbrev pub number : Refusal → ℕ
number SmallBuffer = 650
number LongInput = 651
number NoHeader = 601
number LineCount = 602
number UnknownSender = 603
number NoProgram = 604
number ProgramOff = 605
number NoRequest = 620
number NoMessage = 701
number Untimely = 702
number Incomplete = 703
number NoSlotName = 704
number NoFlight = 705
number NotOwned = 706
number Uncontrolled = 707
number Controlled = 708
number Departed = 709
number OnPopUp = 710
number OffSlot = 501
number OffMinute = 711
number EteUnfit = 712
number SlotHeld = 713
number Repeated = 714
number Unheld = 715
number Claimed = 716
number Stranded = 717
number FaultyList = 802
number ProgramThere = 805

-- the number of a refusal where there is one, and 0 where there is none
abbrev pub number_or_zero : Option Refusal → ℕ
number_or_zero None = 0
number_or_zero (Some r) = number r

-- 0 for a call or a check that passes, and else the number of its refusal
abbrev pub number_of : {X : Type 0} → Result X Refusal → ℕ
number_of (Ok x) = 0
number_of (Err r) = number r
