-- What is proved of every packet.
use Rattle.std.specs.Prelude.{◌≡◌, ℕ, Bool, true, false, List, map, Some, None, Option}
use Rattle.std.specs.List.{AllZip, AllByRecursion}
use Rattle.text.specs.Lines.{Line}
use Rattle.calendar.specs.Days.{Minute}
use Rattle.calendar.specs.Identities.{Identity}
use Rattle.element.specs.Slots.{Slot}
use Rattle.flights.specs.declared.flight.ControlType.TheVariants.{Sub}
use Rattle.flights.specs.Counts.{some}
use Rattle.flights.specs.Flights.{Flight, holders}
use Rattle.model.specs.Model.{Setting, Program, program_stands}
use Rattle.packets.specs.Messages.{Message, message_read, Seat, seat_of, names}
use Rattle.packets.specs.StageOne.{owns}
use Rattle.packets.specs.Amended.{cancel_of, erta_of, amended}
use Rattle.packets.specs.Verdict.{messages_of, all_pass, line_numbers}

-- the standing rules last over a packet whose lines all pass
abbrev pub PacketStands : {S : Type 0} → Setting S → Type 0
PacketStands s =
    (p : Program) (u : ℕ) (ls : List Line) →
    program_stands s.element p ≡ true →
    all_pass (line_numbers s p u (map (message_read s.element p.days) ls)) ≡ true →
    program_stands s.element (record {
      condition = p.condition;
      days = p.days;
      flights = map (amended (messages_of (map (message_read s.element p.days) ls))) p.flights;
    }) ≡ true

-- two flights with one identity, which are equal where the user owns them
pub record SameTo {S : Type 0} (s : Setting S) (u : ℕ) (f g : Flight) : Type 0 where
  pub identity : f.identity ≡ g.identity
  pub own : owns s u f ≡ true → f ≡ g

-- two lists of flights that are alike to a user: the same identities in the same order, the same flights of the user, and each
-- slot held in both or in neither
pub record Alike {S : Type 0} (s : Setting S) (u : ℕ) (fs gs : List Flight) : Type 0 where
  pub flights : AllZip (SameTo s u) fs gs
  pub held : (x : Slot) → some (holders x fs) ≡ some (holders x gs)

-- a packet's verdict depends only on its user's flights, the identities in the table, and which slots are held
abbrev pub VerdictOwn : {S : Type 0} → Setting S → Type 0
VerdictOwn s =
    (p q : Program) (u : ℕ) (os : List (Option Message)) →
    Alike s u p.flights q.flights →
    line_numbers s p u os ≡ line_numbers s q u os

-- a flight that stays as it is where the user does not own it, and keeps its identity in any case
pub record KeptFrom {S : Type 0} (s : Setting S) (u : ℕ) (ms : List Message) (f : Flight) : Type 0 where
  pub other : owns s u f ≡ false → amended ms f ≡ f
  pub identity : (amended ms f).identity ≡ f.identity

-- a packet whose lines all pass touches its user's flights only, and no identity
abbrev pub EffectOwn : {S : Type 0} → Setting S → Type 0
EffectOwn s =
    (p : Program) (u : ℕ) (os : List (Option Message)) →
    all_pass (line_numbers s p u os) ≡ true →
    (f : Flight) → KeptFrom s u (messages_of os) f

-- the flight has the seat, and the type SUB
pub record Seated (x : Seat) (f : Flight) : Type 0 where
  pub slot : f.slot ≡ Some x.slot
  pub ctd : f.ctd ≡ x.ctd
  pub cta : f.cta ≡ x.cta
  pub control : f.control ≡ Some Sub

-- the flight is cancelled, with this hold mark
pub record CancelledWith (held : Bool) (f : Flight) : Type 0 where
  pub cancelled : f.cancelled ≡ true
  pub hold : f.hold ≡ held

-- the flight has all that the message asks for
pub record AsAsked (m : Message) (f : Flight) : Type 0 where
  pub seat : (x : Seat) → seat_of m ≡ Some x → Seated x f
  pub cancel : (hold : Bool) → cancel_of m ≡ Some hold → CancelledWith hold f
  pub erta : (t : Minute) → erta_of m ≡ Some t → f.erta ≡ Some t

-- the slot, the CTD, the CTA and the type are those of the other flight
pub record SameSeat (f g : Flight) : Type 0 where
  pub slot : f.slot ≡ g.slot
  pub ctd : f.ctd ≡ g.ctd
  pub cta : f.cta ≡ g.cta
  pub control : f.control ≡ g.control

pub record SameCancel (f g : Flight) : Type 0 where
  pub cancelled : f.cancelled ≡ g.cancelled
  pub hold : f.hold ≡ g.hold

-- no message that names the flight gives this
abbrev pub NoneGives : {X : Type 0} → Identity → (Message → Option X) → List Message → Type 0
NoneGives i gives ms = AllByRecursion (λ m. names m i ≡ true → gives m ≡ None) ms

-- what a packet makes of a flight, f before it and g after it: nothing where no message names it; else it has all that each
-- message that names it asks for, what none of them asks for is as it was, and so are its identity and two marks in any case
pub record Differs (ms : List Message) (f g : Flight) : Type 0 where
  pub unnamed : AllByRecursion (λ m. names m f.identity ≡ false) ms → g ≡ f
  pub asked : AllByRecursion (λ m. names m f.identity ≡ true → AsAsked m g) ms
  pub seat : NoneGives f.identity seat_of ms → SameSeat g f
  pub cancel : NoneGives f.identity cancel_of ms → SameCancel g f
  pub erta : NoneGives f.identity erta_of ms → g.erta ≡ f.erta
  pub identity : g.identity ≡ f.identity
  pub exempt : g.exempt ≡ f.exempt
  pub departed : g.departed ≡ f.departed

-- a packet whose lines all pass makes this of each flight
abbrev pub EffectWhole : {S : Type 0} → Setting S → Type 0
EffectWhole s =
    (p : Program) (u : ℕ) (ls : List Line) →
    let ms = messages_of (map (message_read s.element p.days) ls) in
    all_pass (line_numbers s p u (map (message_read s.element p.days) ls)) ≡ true →
    (f : Flight) → Differs ms f (amended ms f)
