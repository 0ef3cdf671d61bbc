-- The flight that a line lists.
use Rattle.std.specs.Prelude.{false, Some, None, Option}
use Rattle.text.specs.Lines.{Line}
use Rattle.calendar.specs.Days.{Days, time_read}
use Rattle.calendar.specs.Identities.{identity_read}
use Rattle.element.specs.Meanings.{Meaning}
use Rattle.flights.specs.Flights.{Flight}
use Rattle.lists.specs.Columns.{Columns, columns_read, slot_read, erta_read, control_read, mark_read}

-- with what was read, the next; none where nothing was
abbrev pub and_then : {X Y : Type 0} → Option X → (X → Option Y) → Option Y
and_then None f = None
and_then (Some x) f = f x

-- the flight of twelve columns, each of which has to say something. No flight starts departed
abbrev pub flight_from : Meaning → Days → Columns → Option Flight
flight_from e d c =
    and_then (identity_read c.id c.departure c.arrival c.date) (λ identity.
    and_then (slot_read e d c.slot) (λ slot.
    and_then (time_read d c.ctd) (λ ctd.
    and_then (time_read d c.cta) (λ cta.
    and_then (control_read c.control) (λ control.
    and_then (mark_read c.exempt) (λ exempt.
    and_then (mark_read c.cancelled) (λ cancelled.
    and_then (mark_read c.hold) (λ hold.
    and_then (erta_read d c.erta) (λ erta.
    Some (record {
      identity = identity;
      slot = slot;
      ctd = ctd;
      cta = cta;
      control = control;
      exempt = exempt;
      cancelled = cancelled;
      hold = hold;
      erta = erta;
      departed = false;
    }))))))))))

abbrev pub flight_read : Meaning → Days → Line → Option Flight
flight_read e d l = and_then (columns_read l) (flight_from e d)
