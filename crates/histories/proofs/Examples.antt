-- The words of the laws, tried on small histories: by computing, and by the lemma on reading where a slot name is read.
use Rattle.std.proofs.Common.{◌≡◌, ℕ, true, cond, eqb, List, [], ◌∷◌, ◌++◌, Some, None, codes, Option, sym, refl, ap}
use Rattle.text.specs.Lines.{Line}
use Rattle.calendar.specs.Days.{Days}
use Rattle.element.specs.Slots.{Slot}
use Rattle.element.specs.Meanings.{Meaning, name_read}
use Rattle.element.specs.Pointed.{airport_meaning}
use Rattle.element.proofs.PointedNames.{pointed_is}
use Rattle.packets.specs.Given.{value}
use Rattle.packets.specs.Messages.{real_slot}
use Rattle.model.specs.Model.{Setting, Call, issue, purge, packet}
use Rattle.histories.specs.Runs.{Event}
use Rattle.histories.specs.Slots.{created, with}
use Rattle.histories.specs.Forces.{force_after, no_force}
use Rattle.histories.specs.Ledgers.{ledger, given}

abbrev mpt : Meaning
mpt = airport_meaning (codes "MPT")

abbrev days : Days
days = record { base = 30; month = 30 }

abbrev slot_a : Slot
slot_a = record { minute = 210; letter = 65 }

reads : name_read (mpt.slot_name days) (codes "MPT.300330A") ≡ Some slot_a
reads = sym (pointed_is (codes "MPT") days (codes "MPT.300330A") refl)

abbrev header : Line
header = record { text = codes "SS QAA0630001500.01"; readable = true }

abbrev line : Line
line = record { text = codes "SC QAA20 HIL MPT 06300300 T5 300230 T6 300330 A2 MPT.300330A"; readable = true }

abbrev other : Line
other = record { text = codes "FX QAA20 HIL MPT 06300300"; readable = true }

-- an SC line names its slot, an FX line none
one_slot : created mpt days (header ∷ line ∷ other ∷ []) ≡ slot_a ∷ []
one_slot = ap (λ (o : Option Slot). with (value (real_slot o)) []) reads

-- two users, and all flights the first one's
abbrev user_of : ℕ → Option ℕ
user_of n = cond (eqb n 1) (Some 1) (cond (eqb n 2) (Some 2) None)

abbrev setting : Setting ℕ
setting = record { user = user_of; carrier = λ c. Some 1; element = mpt }

abbrev list : List ℕ
list = codes "ISSUE MPT 30 30" ++ (10 ∷ []) ++ codes "QAA20 - HIL MPT 300220 300320 - - - - - 06300300"

abbrev sc : Call ℕ
sc = packet 1 (record { size = 80; lines = header ∷ line ∷ [] }) []

abbrev event : Call ℕ → ℕ → Event ℕ
event c n = record { call = c; number = n }

-- an issue starts the force, a refused one does not, and a purge ends it
force_on : force_after {S = ℕ} mpt no_force (issue list) 0 ≡ record { issues = 1; days = Some days }
force_on = refl

force_off : force_after {S = ℕ} mpt (record { issues = 1; days = Some days }) purge 0 ≡ record { issues = 1; days = None }
force_off = refl

-- the ledger after an issue, an accepted packet and a refused one
ledger_one : ledger mpt (event (issue list) 0 ∷ event sc 0 ∷ event sc 713 ∷ []) ≡ slot_a ∷ []
ledger_one = ap (λ (o : Option Slot). with (value (real_slot o)) [] ++ []) reads

ledger_ended : ledger mpt (event (issue list) 0 ∷ event sc 0 ∷ event purge 0 ∷ event (issue list) 0 ∷ event sc 713 ∷ []) ≡ []
ledger_ended = refl

given_own : given setting 1 (event (issue list) 0 ∷ event sc 0 ∷ []) ≡ slot_a ∷ []
given_own = ap (λ (o : Option Slot). with (value (real_slot o)) [] ++ []) reads

given_other : given setting 2 (event (issue list) 0 ∷ event sc 0 ∷ []) ≡ []
given_other = refl
