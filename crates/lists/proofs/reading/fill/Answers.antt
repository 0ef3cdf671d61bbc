use Rattle.std.proofs.Common.{sym, ap, ◌∙◌}
use Rattle.std.specs.Option.{option_map}
use Rattle.text.specs.Lines.{line_of, lines_left}
use Rattle.calendar.specs.Days.{days_of}
use Rattle.flights.specs.Kept.{flight_of}
use Rattle.flights.proofs.Joining.{joins_place}
use Rattle.lists.specs.FlightLines.{flight_read}
use Rattle.lists.proofs.Filling.{valid_joins, going_turn}
use Rattle.lists.proofs.reading.fill.Goals as goal

pub add-requires : goal.add-requires
add-requires g c =
    let e = g.E.Element.means c.args.naming.now.element.now in
    let d = days_of c.args.naming.now.days in
    let f = flight_of c.in-Some-valid_flight.flight in
    joins_place e c.loop-line.table f
    (valid_joins e c.loop-line.table (flight_read e d (line_of c.in-Some.line)) f (sym c.valid_flight.ensures ∙ ap (option_map flight_of) c.in-Some-valid_flight.is))

pub loop-line-preserved : goal.loop-line-preserved
loop-line-preserved g c =
    let e = g.E.Element.means c.args.naming.now.element.now in
    let d = days_of c.args.naming.now.days in
    let f = flight_of c.in-Some-valid_flight.flight in (
      tt,
      tt,
      going_turn e d c.loop-line.table c.add.new.self (lines_left c.loop-line.line-iterator) (lines_left c.next.new.self) (line_of c.in-Some.line) f _ _
          c.loop-line.invariant.2 c.in-Some.ensures.steps
          (sym c.valid_flight.ensures ∙ ap (option_map flight_of) c.in-Some-valid_flight.is) c.add.ensures,
    )
