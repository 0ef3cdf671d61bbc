-- The ledger, and what a user was given: both by the calls and their first numbers alone.
use Rattle.std.specs.Prelude.{ℕ, zero, suc, cond, List, [], ◌∷◌, ◌++◌}
use Rattle.element.specs.Slots.{Slot}
use Rattle.element.specs.Meanings.{Meaning}
use Rattle.model.specs.Model.{Setting, Call, issue, switch, depart, purge, packet, report}
use Rattle.histories.specs.Runs.{Event}
use Rattle.histories.specs.Callers.{caller_of, is_of}
use Rattle.histories.specs.Sights.{records_of}
use Rattle.histories.specs.Slots.{slots_of}
use Rattle.histories.specs.Forces.{Force, no_force, force_after, created_under, flights_listed}

-- the ledger: the set of the slots that there are. An issue that is accepted enters the slots in its list, an accepted packet
-- those of its SC lines, a purge empties it, and all else leaves it
abbrev pub entered : {S : Type 0} → Meaning → Force → List Slot → Call S → ℕ → List Slot
entered e f slots (issue list) zero = slots_of (flights_listed e list) ++ slots
entered e f slots (issue list) (suc n) = slots
entered e f slots (switch on) n = slots
entered e f slots (depart id departure arrival date) n = slots
entered e f slots purge zero = []
entered e f slots purge (suc n) = slots
entered e f slots (packet sender input buffer) zero = created_under e f.days input.lines ++ slots
entered e f slots (packet sender input buffer) (suc n) = slots
entered e f slots (report sender input buffer) n = slots

abbrev pub ledger_from : {S : Type 0} → Meaning → Force → List Slot → List (Event S) → List Slot
ledger_from e f slots [] = slots
ledger_from e f slots (v ∷ vs) = ledger_from e (force_after e f v.call v.number) (entered e f slots v.call v.number) vs

-- it starts empty
abbrev pub ledger : {S : Type 0} → Meaning → List (Event S) → List Slot
ledger e vs = ledger_from e no_force [] vs

-- what a user was given: the slots that the issue in force listed for flights of its carriers, and those of the SC lines of its
-- own accepted packets since
abbrev pub gets : {S : Type 0} → Setting S → ℕ → Force → List Slot → Call S → ℕ → List Slot
gets s u f slots (issue list) zero = slots_of (records_of s u (flights_listed s.element list))
gets s u f slots (issue list) (suc n) = slots
gets s u f slots (switch on) n = slots
gets s u f slots (depart id departure arrival date) n = slots
gets s u f slots purge zero = []
gets s u f slots purge (suc n) = slots
gets s u f slots (packet sender input buffer) zero =
    cond (is_of (caller_of s (packet sender input buffer)) u) (created_under s.element f.days input.lines ++ slots) slots
gets s u f slots (packet sender input buffer) (suc n) = slots
gets s u f slots (report sender input buffer) n = slots

abbrev pub given_from : {S : Type 0} → Setting S → ℕ → Force → List Slot → List (Event S) → List Slot
given_from s u f slots [] = slots
given_from s u f slots (v ∷ vs) =
    given_from s u (force_after s.element f v.call v.number) (gets s u f slots v.call v.number) vs

abbrev pub given : {S : Type 0} → Setting S → ℕ → List (Event S) → List Slot
given s u vs = given_from s u no_force [] vs
