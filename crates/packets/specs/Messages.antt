-- What a message asks, by the element's names and days.
use Rattle.std.specs.Prelude.{ℕ, Bool, false, cond, List, Some, None, Option}
use Rattle.std.specs.Option.{option_map, unwrap_or}
use Rattle.text.specs.Lines.{Line}
use Rattle.calendar.specs.Days.{Days, Minute, time_read}
use Rattle.calendar.specs.Identities.{Identity, identity_read, same_identity}
use Rattle.element.specs.Slots.{Slot, marks_pop_up}
use Rattle.element.specs.Meanings.{Meaning, name_read}
use Rattle.messages.specs.declared.kind.MessageType.{MessageType}
use Rattle.messages.specs.declared.kind.MessageType.TheVariants.{Fx, Fm, Sc}
use Rattle.messages.specs.Messages.{Written, written}
use Rattle.packets.specs.Given.{Given, absent, invalid, given, from_read, value}

-- a message: its type, the flight that it names (none where the date is not valid), T5, T6, T8 and A2 as given, and whether SH
-- is Y; no SH counts as N
pub record Message : Type 0 where
  pub kind : MessageType
  pub identity : Option Identity
  pub ctd : Given Minute
  pub cta : Given Minute
  pub erta : Given Minute
  pub slot : Given Slot
  pub hold : Bool

abbrev pub time_given : Days → Option (List ℕ) → Given Minute
time_given d None = absent
time_given d (Some t) = from_read (time_read d t)

-- the letter Z names no slot
abbrev pub real_slot : Option Slot → Given Slot
real_slot None = invalid
real_slot (Some s) = cond (marks_pop_up s) invalid (given s)

abbrev pub slot_given : (Slot → List ℕ) → Option (List ℕ) → Given Slot
slot_given names None = absent
slot_given names (Some t) = real_slot (name_read names t)

abbrev pub message_of : Meaning → Days → Written → Message
message_of e d w = record {
  kind = w.kind;
  identity = identity_read w.id w.departure w.arrival w.date;
  ctd = time_given d w.tags.ctd;
  cta = time_given d w.tags.cta;
  erta = time_given d w.tags.erta;
  slot = slot_given (e.slot_name d) w.tags.slot;
  hold = unwrap_or w.tags.hold false;
}

-- the message of a line; none is 701
abbrev pub message_read : Meaning → Days → Line → Option Message
message_read e d l = option_map (message_of e d) (written l)

-- the CTD, the CTA and the slot that a move or an SC asks for
pub record Seat : Type 0 where
  pub ctd : Minute
  pub cta : Minute
  pub slot : Slot

abbrev pub seat_from : Option Minute → Option Minute → Option Slot → Option Seat
seat_from None cta slot = None
seat_from (Some d) None slot = None
seat_from (Some d) (Some a) None = None
seat_from (Some d) (Some a) (Some s) = Some (record { ctd = d; cta = a; slot = s })

abbrev pub seat_of : Message → Option Seat
seat_of m = seat_from (value m.ctd) (value m.cta) (value m.slot)

abbrev pub only_fm : {X : Type 0} → MessageType → Option X → Option X
only_fm Fx o = None
only_fm Fm o = o
only_fm Sc o = None

abbrev pub only_sc : {X : Type 0} → MessageType → Option X → Option X
only_sc Fx o = None
only_sc Fm o = None
only_sc Sc o = o

-- a move: an FM with T5, T6 and A2
abbrev pub move_of : Message → Option Seat
move_of m = only_fm m.kind (seat_of m)

-- an SC with T5, T6 and A2
abbrev pub create_of : Message → Option Seat
create_of m = only_sc m.kind (seat_of m)

abbrev pub is_identity : Option Identity → Identity → Bool
is_identity None i = false
is_identity (Some j) i = same_identity j i

-- whether a message names the flight with this identity
abbrev pub names : Message → Identity → Bool
names m i = is_identity m.identity i
