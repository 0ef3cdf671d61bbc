-- Stage two: the lines together, and the table as it was.
use Rattle.std.specs.Prelude.{ℕ, Bool, true, false, cond, not, ◌&&◌, List, [], ◌∷◌, ◌++◌, is_some, Some, None, Option}
use Rattle.calendar.specs.Identities.{Identity}
use Rattle.element.specs.Slots.{Slot}
use Rattle.flights.specs.Counts.{some, bump}
use Rattle.flights.specs.Flights.{Flight, is_slot}
use Rattle.messages.specs.declared.kind.MessageType.{MessageType}
use Rattle.messages.specs.declared.kind.MessageType.TheVariants.{Fx, Fm, Sc}
use Rattle.model.specs.Model.{Setting, Program}
use Rattle.packets.specs.Given.{value}
use Rattle.packets.specs.Messages.{Message, move_of, names}
use Rattle.packets.specs.StageOne.{owns, of_seat, first_of}

-- how many messages pass a test
abbrev pub count : (Message → Bool) → List Message → ℕ
count test [] = 0
count test (m ∷ ms) = bump (test m) (count test ms)

abbrev pub same_type : MessageType → MessageType → Bool
same_type Fx Fx = true
same_type Fx Fm = false
same_type Fx Sc = false
same_type Fm Fx = false
same_type Fm Fm = true
same_type Fm Sc = false
same_type Sc Fx = false
same_type Sc Fm = false
same_type Sc Sc = true

abbrev pub same_named : Option Identity → Message → Bool
same_named None m = false
same_named (Some i) m = names m i

-- 714: an earlier line of its type has its flight
abbrev pub repeated : List Message → Message → Bool
repeated before m = some (count (λ n. same_type n.kind m.kind && same_named m.identity n) before)

-- the flight of the user that holds a slot
abbrev pub holder : {S : Type 0} → Setting S → ℕ → Slot → List Flight → Option Flight
holder s u x [] = None
holder s u x (f ∷ fs) = cond (owns s u f && is_slot f.slot x) (Some f) (holder s u x fs)

-- 715: a move to a slot that no flight of the user holds
abbrev pub unheld : {S : Type 0} → Setting S → Program → ℕ → Message → Bool
unheld s p u m = of_seat (λ x. not (is_some (holder s u x.slot p.flights))) (move_of m)

-- whether a message names a slot
abbrev pub names_slot : Slot → Message → Bool
names_slot x m = is_slot (value m.slot) x

abbrev pub slot_named_in : List Message → Option Slot → Bool
slot_named_in before None = false
slot_named_in before (Some x) = some (count (names_slot x) before)

-- 716: an earlier line names the slot
abbrev pub claimed : List Message → Message → Bool
claimed before m = slot_named_in before (value m.slot)

-- whether a message moves the flight with this identity
abbrev pub moves : Identity → Message → Bool
moves i m = is_some (move_of m) && names m i

abbrev pub holder_moves : List Message → Option Flight → Bool
holder_moves all None = false
holder_moves all (Some f) = some (count (moves f.identity) all)

-- 717: a move to a slot whose holder has no move in this packet
abbrev pub stranded : {S : Type 0} → Setting S → Program → ℕ → List Message → Message → Bool
stranded s p u all m = of_seat (λ x. not (holder_moves all (holder s u x.slot p.flights))) (move_of m)

-- the numbers of stage two in their order, and whether each applies
abbrev pub stage_two : {S : Type 0} → Setting S → Program → ℕ → List Message → List Message → Message → List (ℕ × Bool)
stage_two s p u all before m =
    (714, repeated before m)
    ∷ (715, unheld s p u m)
    ∷ (716, claimed before m)
    ∷ (717, stranded s p u all m)
    ∷ []

-- the numbers of lines in stage two, where `before` are the messages before them
abbrev pub faults_together : {S : Type 0} → Setting S → Program → ℕ → List Message → List Message → List Message → List ℕ
faults_together s p u all before [] = []
faults_together s p u all before (m ∷ ms) = first_of (stage_two s p u all before m) ∷ faults_together s p u all (before ++ m ∷ []) ms
