-- The issue in force, by the calls and their first numbers alone, and when it is that of a program.
use Rattle.std.specs.Prelude.{◌≡◌, ℕ, zero, suc, List, [], Some, None, Option}
use Rattle.text.specs.Lines.{Line, lines}
use Rattle.calendar.specs.Days.{Days}
use Rattle.element.specs.Slots.{Slot}
use Rattle.element.specs.Meanings.{Meaning}
use Rattle.flights.specs.Flights.{Flight}
use Rattle.lists.specs.Lists.{Reading, good, faulty, list_read}
use Rattle.model.specs.declared.condition.Condition.{Condition}
use Rattle.model.specs.declared.condition.Condition.TheVariants.{NoProgram, On, Off}
use Rattle.model.specs.Model.{Call, issue, switch, depart, purge, packet, report}
use Rattle.histories.specs.Slots.{created}

-- which issue is in force: how many were accepted so far, and the days in the heading of the last, unless it was purged
pub record Force : Type 0 where
  pub issues : ℕ
  pub days : Option Days

-- none yet
abbrev pub no_force : Force
no_force = record { issues = 0; days = None }

abbrev pub begun : Force → Reading → Force
begun f (faulty line) = f
begun f (good d fs) = record { issues = suc f.issues; days = Some d }

-- an issue that is accepted is in force until a purge that is accepted; a refused call changes nothing
abbrev pub force_after : {S : Type 0} → Meaning → Force → Call S → ℕ → Force
force_after e f (issue list) zero = begun f (list_read e (lines list))
force_after e f (issue list) (suc n) = f
force_after e f (switch on) n = f
force_after e f (depart id departure arrival date) n = f
force_after e f purge zero = record { issues = f.issues; days = None }
force_after e f purge (suc n) = f
force_after e f (packet sender input buffer) n = f
force_after e f (report sender input buffer) n = f

-- the issue in force is that of the program: without a program there is none, and else its days are the program's
abbrev pub InForce : Condition → Days → Force → Type 0
InForce NoProgram d f = f.days ≡ None
InForce On d f = f.days ≡ Some d
InForce Off d f = f.days ≡ Some d

-- the slots that the SC lines of a packet name under the issue in force; none while none is
abbrev pub created_under : Meaning → Option Days → List Line → List Slot
created_under e None ls = []
created_under e (Some d) ls = created e d ls

-- the flights in a list, where it is valid
abbrev pub flights_read : Reading → List Flight
flights_read (faulty line) = []
flights_read (good d fs) = fs

abbrev pub flights_listed : Meaning → List ℕ → List Flight
flights_listed e list = flights_read (list_read e (lines list))
