-- Messages of the code, as the definitions see them.
use Rattle.std.specs.Prelude.{ℕ, List, None, Some, Option, Ok, Err, Result}
use Rattle.std.specs.Borrow.{Bor}
use Rattle.std.specs.Option.{option_map}
use Rattle.calendar.specs.Days.{minute_of}
use Rattle.calendar.specs.Identities.{identity_of}
use Rattle.element.specs.Kept.{slot_of}
use Rattle.substitutions.specs.declared.message.Invalid.{Invalid}
use Rattle.substitutions.specs.declared.message.Message.{Message as KeptMessage}
use Rattle.substitutions.specs.declared.message.Seat.{Seat as KeptSeat}
use Rattle.packets.specs.Given.{Given, absent, invalid, given}
use Rattle.packets.specs.Messages.{Message, Seat}

-- what a tag gives
abbrev pub given_of : {X Y : Type 0} → (X → Y) → Result (Option X) Invalid → Given Y
given_of f (Err e) = invalid
given_of f (Ok None) = absent
given_of f (Ok (Some x)) = given (f x)

abbrev pub kept_message : KeptMessage → Message
kept_message m = record {
  kind = m.kind;
  identity = option_map identity_of m.identity;
  ctd = given_of minute_of m.ctd;
  cta = given_of minute_of m.cta;
  erta = given_of minute_of m.erta;
  slot = given_of slot_of m.slot;
  hold = m.hold;
}

abbrev pub kept_seat : KeptSeat → Seat
kept_seat x = record { ctd = minute_of x.ctd; cta = minute_of x.cta; slot = slot_of x.slot }

-- a text that is lent
abbrev pub lent : Bor (List ℕ) → List ℕ
lent t = t.now
