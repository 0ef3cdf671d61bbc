use Rattle.std.proofs.Common.{[]}
use Rattle.text.specs.Lines.{lines_left}
use Rattle.calendar.specs.Days.{days_of}
use Rattle.flights.specs.Kept.{flights_of}
use Rattle.lists.specs.Lists.{first_fault, listed}
use Rattle.lists.proofs.Filling.{Going}
use Rattle.lists.proofs.reading.fill.Given as goal

abbrev pub invariant-loop-line : goal.invariant-loop-line
invariant-loop-line g l =
    let e = g.E.Element.means l.naming.element.now in
    let d = days_of l.naming.days in
    (goal.iterator-loop-line g).can_next l.line-iterator
    × (goal.iterator-loop-line g).is_finite l.line-iterator
    × Going e d (flights_of l.table) (lines_left l.line-iterator) (first_fault e d 2 [] (lines_left l.fn.lines)) (listed e d (lines_left l.fn.lines))
