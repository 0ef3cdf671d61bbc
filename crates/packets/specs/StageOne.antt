-- Stage one: each line alone, against the table as it was.
use Rattle.std.specs.Prelude.{ℕ, ◌+◌, ◌*◌, Bool, true, false, cond, not, ◌&&◌, ◌||◌, List, [], ◌∷◌, is_some, Some, None, Option, ◌==◌, nat_le, nat_lt}
use Rattle.calendar.specs.Days.{Minute}
use Rattle.calendar.specs.Identities.{Identity, same_identity, carrier_of}
use Rattle.flights.specs.declared.flight.ControlType.{ControlType}
use Rattle.flights.specs.Counts.{some, bump}
use Rattle.flights.specs.Flights.{Flight, is_pop_up, holders}
use Rattle.flights.specs.Standing.{in_slot}
use Rattle.messages.specs.declared.kind.MessageType.{MessageType}
use Rattle.messages.specs.declared.kind.MessageType.TheVariants.{Fx, Fm, Sc}
use Rattle.model.specs.Model.{Setting, Program}
use Rattle.packets.specs.Given.{is_invalid, is_absent}
use Rattle.packets.specs.Messages.{Message, Seat, move_of, create_of}

-- the flight with an identity
abbrev pub find : Identity → List Flight → Option Flight
find i [] = None
find i (f ∷ fs) = cond (same_identity f.identity i) (Some f) (find i fs)

abbrev pub find_named : Option Identity → List Flight → Option Flight
find_named None fs = None
find_named (Some i) fs = find i fs

-- the flight that a message names
abbrev pub flight_named : Program → Message → Option Flight
flight_named p m = find_named m.identity p.flights

abbrev pub is_user : Option ℕ → ℕ → Bool
is_user None u = false
is_user (Some v) u = v == u

-- a flight and its slot belong to the user of its carrier, the first three letters of its ID
abbrev pub owns : {S : Type 0} → Setting S → ℕ → Flight → Bool
owns s u f = is_user (s.carrier (carrier_of f.identity)) u

-- of the flight, where there is one
abbrev pub of_flight : (Flight → Bool) → Option Flight → Bool
of_flight test None = false
of_flight test (Some f) = test f

abbrev pub of_seat : (Seat → Bool) → Option Seat → Bool
of_seat test None = false
of_seat test (Some x) = test x

-- 702: T5, T6, T8 or the date is not valid
abbrev pub untimely : Message → Bool
untimely m = is_invalid m.ctd || is_invalid m.cta || is_invalid m.erta || not (is_some m.identity)

-- how many of T5, T6 and A2 there are
abbrev pub seat_tags : Message → ℕ
seat_tags m = bump (not (is_absent m.ctd)) (bump (not (is_absent m.cta)) (bump (not (is_absent m.slot)) 0))

-- 703: FM with one or two of T5, T6, A2, or no tag; SC lacking one
abbrev pub lacks : MessageType → ℕ → Bool → Bool
lacks Fx n no_erta = false
lacks Fm n no_erta = n == 1 || n == 2 || (n == 0 && no_erta)
lacks Sc n no_erta = not (n == 3)

abbrev pub incomplete : Message → Bool
incomplete m = lacks m.kind (seat_tags m) (is_absent m.erta)

-- 704: A2 is no slot name, or has the letter Z
abbrev pub no_slot_name : Message → Bool
no_slot_name m = is_invalid m.slot

-- 705: the identity is not in the table
abbrev pub unknown : Program → Message → Bool
unknown p m = not (is_some (flight_named p m))

-- 706: the carrier's user is another or none
abbrev pub foreign : {S : Type 0} → Setting S → Program → ℕ → Message → Bool
foreign s p u m = of_flight (λ f. not (owns s u f)) (flight_named p m)

abbrev pub wants_control : MessageType → Bool
wants_control Fx = true
wants_control Fm = true
wants_control Sc = false

-- 707: FX or FM, and the flight is uncontrolled
abbrev pub uncontrolled : Program → Message → Bool
uncontrolled p m = wants_control m.kind && of_flight (λ f. not (is_some f.control)) (flight_named p m)

-- 708: SC, and the flight is controlled
abbrev pub controlled : Program → Message → Bool
controlled p m = not (wants_control m.kind) && of_flight (λ f. is_some f.control) (flight_named p m)

-- 709: the flight has departed
abbrev pub gone : Program → Message → Bool
gone p m = of_flight (λ f. f.departed) (flight_named p m)

abbrev pub is_pop_up_type : Option ControlType → Bool
is_pop_up_type None = false
is_pop_up_type (Some t) = is_pop_up t

-- 710: a move, or SH Y, on a pop-up
abbrev pub on_pop_up : Program → Message → Bool
on_pop_up p m = (is_some (move_of m) || m.hold) && of_flight (λ f. is_pop_up_type f.control) (flight_named p m)

-- 501: a move whose CTA is not 0 to 20 minutes after the slot
abbrev pub off_slot : Message → Bool
off_slot m = of_seat (λ x. not (in_slot (Some x.slot) x.cta)) (move_of m)

-- 711: an SC whose CTA is not the slot's minute
abbrev pub off_minute : Message → Bool
off_minute m = of_seat (λ x. not (x.cta == x.slot.minute)) (create_of m)

-- twice the change of the ETE is at most a span that begins at `from` and ends at `to`. The ETE is CTA less CTD, before the
-- change and after it
abbrev pub changes_within : Minute → Minute → Flight → Seat → Bool
changes_within from to f x =
    nat_le (2 * (x.cta + f.ctd) + from) (2 * (f.cta + x.ctd) + to)
    && nat_le (2 * (f.cta + x.ctd) + from) (2 * (x.cta + f.ctd) + to)

-- twice the change of the ETE is at most the larger of 90 and the old ETE
abbrev pub changes_little : Flight → Seat → Bool
changes_little f x = changes_within 0 90 f x || changes_within f.ctd f.cta f x

abbrev pub ete_fits : Flight → Seat → Bool
ete_fits f x = nat_lt x.ctd x.cta && changes_little f x

-- 712: a move or an SC whose CTA is not after its CTD, or whose ETE changes too much
abbrev pub ete_unfit : Program → Message → Bool
ete_unfit p m =
    of_flight (λ f. of_seat (λ x. not (ete_fits f x)) (move_of m) || of_seat (λ x. not (ete_fits f x)) (create_of m)) (flight_named p m)

-- 713: an SC that names a held slot
abbrev pub held : Program → Message → Bool
held p m = of_seat (λ x. some (holders x.slot p.flights)) (create_of m)

-- the first number that applies, or 0
abbrev pub first_of : List (ℕ × Bool) → ℕ
first_of [] = 0
first_of (c ∷ cs) = cond c.1 c.0 (first_of cs)

-- the numbers of stage one in their order, and whether each applies
abbrev pub stage_one : {S : Type 0} → Setting S → Program → ℕ → Message → List (ℕ × Bool)
stage_one s p u m =
    (702, untimely m)
    ∷ (703, incomplete m)
    ∷ (704, no_slot_name m)
    ∷ (705, unknown p m)
    ∷ (706, foreign s p u m)
    ∷ (707, uncontrolled p m)
    ∷ (708, controlled p m)
    ∷ (709, gone p m)
    ∷ (710, on_pop_up p m)
    ∷ (501, off_slot m)
    ∷ (711, off_minute m)
    ∷ (712, ete_unfit p m)
    ∷ (713, held p m)
    ∷ []

-- the number of a line in stage one; a line that is no message gets 701
abbrev pub fault_alone : {S : Type 0} → Setting S → Program → ℕ → Option Message → ℕ
fault_alone s p u None = 701
fault_alone s p u (Some m) = first_of (stage_one s p u m)
