-- A flight of the code, as the definitions see it.
use Rattle.std.specs.Option.{option_map}
use Rattle.calendar.specs.Days.{minute_of}
use Rattle.calendar.specs.Identities.{identity_of}
use Rattle.element.specs.Kept.{slot_of}
use Rattle.flights.specs.declared.flight.Flight.{Flight as KeptFlight}
use Rattle.flights.specs.Flights.{Flight}

abbrev pub flight_of : KeptFlight → Flight
flight_of f = record {
  identity = identity_of f.identity;
  slot = option_map slot_of f.slot;
  ctd = minute_of f.ctd;
  cta = minute_of f.cta;
  control = f.control;
  exempt = f.exempt;
  cancelled = f.cancelled;
  hold = f.hold;
  erta = option_map minute_of f.erta;
  departed = f.departed;
}
