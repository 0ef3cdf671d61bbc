-- Flights of the code, as the definitions see them.
use Rattle.std.specs.Prelude.{◌≡◌, Bool, List}
use Rattle.flights.specs.declared.flight.Flight.{Flight as KeptFlight}
use Rattle.flights.specs.declared.table.Table.{Table}
use Rattle.flights.specs.Flights.{Flight}
pub use Rattle.flights.specs.Held.{flight_of}

-- the flights of a table, in its order: what a contract sees of it
abbrev pub flights_of : Table → List Flight
flights_of t = t

-- calls that change each flight as h changes it in the definitions
abbrev pub Changes : (KeptFlight → KeptFlight → Type 0) → (Flight → Flight) → Type 0
Changes gives h = (f g : KeptFlight) → gives f g → flight_of g ≡ h (flight_of f)

-- calls that choose flights as t chooses them in the definitions
abbrev pub Chooses : (KeptFlight → Bool → Type 0) → (Flight → Bool) → Type 0
Chooses gives t = (f : KeptFlight) (b : Bool) → gives f b → b ≡ t (flight_of f)
