use Rattle.std.proofs.Common.{◌≡◌, ◌++◌, map, take, drop}
use Rattle.std.specs.Fn.{FnReturnsAt}
use Rattle.flights.specs.Flights.{Flight}
use Rattle.flights.specs.Kept.{Changes, flight_of}
use Rattle.flights.proofs.table.Table.amend.Given as goal

abbrev pub invariant-loop-flight : goal.invariant-loop-flight
invariant-loop-flight g l =
    let old = map flight_of l.initial.flight-items in
    (h : Flight → Flight) → Changes (FnReturnsAt g.F.Fn l.change) h → map flight_of l.flight-items ≡ map h (take l.flight-index old) ++ drop l.flight-index old
