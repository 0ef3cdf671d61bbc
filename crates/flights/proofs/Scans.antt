-- Searches of a table's flights.
use Rattle.std.proofs.Common.{◌≡◌, ℕ, Bool, true, false, ◌||◌, List, [], ◌∷◌, map, sym, refl, ap, ◌∙◌}
use Rattle.std.specs.List.{list_any}
use Rattle.calendar.specs.Identities.{Identity, identity_of, same_identity}
use Rattle.element.specs.Slots.{Slot}
use Rattle.flights.specs.declared.flight.Flight.{Flight as KeptFlight}
use Rattle.flights.specs.Counts.{bump, some}
use Rattle.flights.specs.Flights.{is_slot, bearers, holders}
use Rattle.flights.specs.Kept.{flight_of}

-- whether there is any, where the test passed or not
some_bump : (b : Bool) (n : ℕ) → some (bump b n) ≡ (b || some n)
some_bump true n = refl
some_bump false n = refl

-- a flight has the identity
pub any_bearer : (i : Identity) (fs : List KeptFlight) → list_any (λ f. same_identity (identity_of f.identity) i) fs ≡ some (bearers i (map flight_of fs))
any_bearer i [] = refl
any_bearer i (f ∷ fs) = ap (λ b. same_identity (identity_of f.identity) i || b) (any_bearer i fs) ∙ sym (some_bump (same_identity (identity_of f.identity) i) (bearers i (map flight_of fs)))

-- a flight holds the slot
pub any_holder : (s : Slot) (fs : List KeptFlight) → list_any (λ f. is_slot (flight_of f).slot s) fs ≡ some (holders s (map flight_of fs))
any_holder s [] = refl
any_holder s (f ∷ fs) = ap (λ b. is_slot (flight_of f).slot s || b) (any_holder s fs) ∙ sym (some_bump (is_slot (flight_of f).slot s) (holders s (map flight_of fs)))
