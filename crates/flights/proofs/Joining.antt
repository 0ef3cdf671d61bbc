-- What follows where a flight keeps the rules beside those before it.
use Rattle.std.proofs.Common.{◌≡◌, ◌<◌, true, ◌&&◌, List, length, arith}
use Rattle.std.proofs.lemmas.Bool.{and_parts, leb-true}
use Rattle.element.specs.Meanings.{Meaning}
use Rattle.flights.specs.Flights.{Flight}
use Rattle.flights.specs.Standing.{flight_stands, new_identity, new_slot, has_place, joins}

-- there is a place for it
pub joins_place : (e : Meaning) (before : List Flight) (f : Flight) → joins e before f ≡ true → length before < 512
joins_place e before f h =
    let place = (and_parts (flight_stands e f && new_identity before f && new_slot before f) (has_place before) h).1 in
    omega (arith, leb-true (length before) 511 place)
