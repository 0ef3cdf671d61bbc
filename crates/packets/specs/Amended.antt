-- What the messages of a packet make of a flight, all at once.
use Rattle.std.specs.Prelude.{Bool, true, cond, List, [], ◌∷◌, Some, None, Option}
use Rattle.std.specs.Option.{unwrap_or}
use Rattle.calendar.specs.Days.{Minute}
use Rattle.calendar.specs.Identities.{Identity}
use Rattle.element.specs.Slots.{Slot}
use Rattle.element.specs.Meanings.{or_else}
use Rattle.flights.specs.declared.flight.ControlType.{ControlType}
use Rattle.flights.specs.declared.flight.ControlType.TheVariants.{Sub}
use Rattle.flights.specs.Flights.{Flight}
use Rattle.messages.specs.declared.kind.MessageType.{MessageType}
use Rattle.messages.specs.declared.kind.MessageType.TheVariants.{Fx, Fm, Sc}
use Rattle.packets.specs.Given.{value}
use Rattle.packets.specs.Messages.{Message, Seat, seat_of, names}

-- what the first message that names the flight and gives something gives
abbrev pub first_for : {X : Type 0} → Identity → (Message → Option X) → List Message → Option X
first_for i gives [] = None
first_for i gives (m ∷ ms) = or_else (cond (names m i) (gives m) None) (first_for i gives ms)

abbrev pub cancel_from : MessageType → Bool → Option Bool
cancel_from Fx hold = Some hold
cancel_from Fm hold = None
cancel_from Sc hold = None

-- an FX cancels, and sets the hold mark as given; the flight keeps its slot
abbrev pub cancel_of : Message → Option Bool
cancel_of m = cancel_from m.kind m.hold

-- the minute of a T8
abbrev pub erta_of : Message → Option Minute
erta_of m = value m.erta

abbrev pub slot_after : Option Seat → Option Slot → Option Slot
slot_after None old = old
slot_after (Some x) old = Some x.slot

abbrev pub ctd_after : Option Seat → Minute → Minute
ctd_after None old = old
ctd_after (Some x) old = x.ctd

abbrev pub cta_after : Option Seat → Minute → Minute
cta_after None old = old
cta_after (Some x) old = x.cta

-- a flight that is moved or that gets a slot has type SUB
abbrev pub control_after : Option Seat → Option ControlType → Option ControlType
control_after None old = old
control_after (Some x) old = Some Sub

abbrev pub cancelled_after : Option Bool → Bool → Bool
cancelled_after None old = old
cancelled_after (Some hold) old = true

-- the flight amended by what the messages that name it give
abbrev pub amended_by : Option Seat → Option Bool → Option Minute → Flight → Flight
amended_by seat cancel erta f = record {
  identity = f.identity;
  slot = slot_after seat f.slot;
  ctd = ctd_after seat f.ctd;
  cta = cta_after seat f.cta;
  control = control_after seat f.control;
  exempt = f.exempt;
  cancelled = cancelled_after cancel f.cancelled;
  hold = unwrap_or cancel f.hold;
  erta = or_else erta f.erta;
  departed = f.departed;
}

abbrev pub amended : List Message → Flight → Flight
amended ms f = amended_by (first_for f.identity seat_of ms) (first_for f.identity cancel_of ms) (first_for f.identity erta_of ms) f
