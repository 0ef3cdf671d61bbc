-- The first flight that passes a test.
use Rattle.std.proofs.Common.{◌≡◌, ℕ, Bool, true, false, cond, ◌&&◌, List, [], ◌∷◌, map, Some, None, Option, refl, ◌∙◌}
use Rattle.std.specs.List.{find}
use Rattle.std.specs.Option.{option_map}
use Rattle.calendar.specs.Identities.{Identity, same_identity}
use Rattle.element.specs.Slots.{Slot}
use Rattle.flights.specs.Flights.{Flight as FlightMeant, is_slot}
use Rattle.flights.specs.Kept.{flight_of}
use Rattle.flights.specs.declared.flight.Flight.{Flight}
use Rattle.model.specs.Model.{Setting}
use Rattle.packets.specs.StageOne.{find as find_flight, owns}
use Rattle.packets.specs.StageTwo.{holder}

module _ (test : FlightMeant → Bool) (G : List FlightMeant → Option FlightMeant) (none : G [] ≡ None) (more : (f : FlightMeant) (fs : List FlightMeant) → G (f ∷ fs) ≡ cond (test f) (Some f) (G fs)) where
  first : (fs : List Flight) → G (map flight_of fs) ≡ option_map flight_of (find (λ f. test (flight_of f)) fs)
  first [] = none
  first (f ∷ fs) =
      more (flight_of f) (map flight_of fs)
      ∙ elim (test (flight_of f)) as (λ b. cond b (Some (flight_of f)) (G (map flight_of fs)) ≡ option_map flight_of (cond b (Some f) (find (λ f. test (flight_of f)) fs))) [ true ↦ refl | false ↦ first fs ]

pub found : (i : Identity) (fs : List Flight) → find_flight i (map flight_of fs) ≡ option_map flight_of (find (λ f. same_identity (flight_of f).identity i) fs)
found i fs = first (λ f. same_identity f.identity i) (find_flight i) refl (λ f fs. refl) fs

pub held_by : {S : Type 0} (s : Setting S) (u : ℕ) (x : Slot) (fs : List Flight) → holder s u x (map flight_of fs) ≡ option_map flight_of (find (λ f. owns s u (flight_of f) && is_slot (flight_of f).slot x) fs)
held_by s u x fs = first (λ f. owns s u f && is_slot f.slot x) (holder s u x) refl (λ f fs. refl) fs
