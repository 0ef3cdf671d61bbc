use Rattle.std.proofs.Common.{Bool, ◌+◌, ◌*◌, ◌≤◌, ◌≡◌, length, take}
use Rattle.std.specs.Fn.{FnReturnsAt}
use Rattle.std.specs.List.{flat_map}
use Rattle.calendar.specs.Days.{days_of}
use Rattle.flights.specs.Flights.{Flight}
use Rattle.flights.specs.Kept.{Chooses, flight_of}
use Rattle.writing.specs.Writers.{Puts}
use Rattle.replies.specs.Rows.{row_for}
use Rattle.replies.proofs.rows.put_rows.Given as goal

abbrev pub invariant-loop-flight : goal.invariant-loop-flight
invariant-loop-flight g l =
    ((t : Flight → Bool) → Chooses (FnReturnsAt g.C.Fn l.choice) t →
    Puts l.initial.reply (flat_map (λ f. row_for (g.E.Element.means l.naming.element.now) (days_of l.naming.days) t (flight_of f)) (take l.flight-index l.flights)) l.reply)
    × (length l.reply.buffer.now ≡ length l.initial.reply.buffer.now)
    × (l.reply.written ≤ l.initial.reply.written + 72 * l.flight-index)
