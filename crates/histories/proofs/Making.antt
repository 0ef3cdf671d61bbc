-- The slots that SC lines name, and the flights that hold slots.
use Rattle.std.proofs.Common.{◌≡◌, ℕ, zero, suc, ◌+◌, ◌≤◌, true, false, List, [], ◌∷◌, ◌++◌, map, Some, None, Option, refl, ap, arith}
use Rattle.std.proofs.lemmas.Bool.{and_parts}
use Rattle.std.specs.List.{AllByRecursion}
use Rattle.text.specs.Lines.{Line}
use Rattle.calendar.specs.Days.{Minute}
use Rattle.element.specs.Slots.{Slot, same_slot}
use Rattle.flights.specs.Counts.{bump, some}
use Rattle.flights.specs.Flights.{is_slot, holders}
use Rattle.flights.specs.Standing.{table_stands}
use Rattle.messages.specs.declared.kind.MessageType.{MessageType}
use Rattle.messages.specs.declared.kind.MessageType.TheVariants.{Fx, Fm, Sc}
use Rattle.packets.specs.Given.{value}
use Rattle.packets.specs.Messages.{Message, Seat, message_read, seat_from, only_sc, create_of}
use Rattle.packets.specs.StageOne.{of_seat, held}
use Rattle.packets.specs.StageTwo.{count}
use Rattle.packets.specs.Amended.{amended}
use Rattle.packets.specs.Verdict.{messages_of, all_pass, line_numbers}
use Rattle.packets.proofs.Table.{bump_adds, some_false, rules_of}
use Rattle.packets.proofs.Accepted.{all_read, accepts}
use Rattle.packets.proofs.Shifts.{slot_in, makes}
use Rattle.packets.proofs.Effect.{effect}
use Rattle.model.specs.Model.{Setting, Program, none_without, program_stands}
use Rattle.histories.specs.Slots.{times, is_in, with, slot_created, slots_created}
use Rattle.histories.proofs.Counting.{slots_fit, times_with, times_append}

pub not_in : (x : Slot) (ys zs : List Slot) → is_in x (ys ++ zs) ≡ false → (times x ys ≡ 0) × (is_in x zs ≡ false)
not_in x ys zs h =
    let n = some_false (times x (ys ++ zs)) h in
    let e = times_append x ys zs in
    let z : times x zs ≡ 0 = omega arith in
    (omega arith, ap some z)

-- an SC with its seat names the slot of the seat
created_seat : (k : MessageType) (d a : Option Minute) (o : Option Slot) (x : Seat) → only_sc k (seat_from d a o) ≡ Some x → only_sc k o ≡ Some x.slot
created_seat Fx d a o x h = let z : ◌≡◌ {A = ℕ} 0 1 = cc in absurd (omega arith)
created_seat Fm d a o x h = let z : ◌≡◌ {A = ℕ} 0 1 = cc in absurd (omega arith)
created_seat Sc None a o x h = let z : ◌≡◌ {A = ℕ} 0 1 = cc in absurd (omega arith)
created_seat Sc (Some d) None o x h = let z : ◌≡◌ {A = ℕ} 0 1 = cc in absurd (omega arith)
created_seat Sc (Some d) (Some a) None x h = let z : ◌≡◌ {A = ℕ} 0 1 = cc in absurd (omega arith)
created_seat Sc (Some d) (Some a) (Some y) x h = let made : Seat = record { ctd = d; cta = a; slot = y } in let e : made ≡ x = cc h in ap (λ (w : Seat). Some w.slot) e

created_of : (m : Message) (x : Seat) → create_of m ≡ Some x → slot_created (Some m) ≡ Some x.slot
created_of m x h = created_seat m.kind (value m.ctd) (value m.cta) (value m.slot) x h

-- each SC that makes a slot is counted among those that name it
makes_one : (x : Slot) (m : Message) (o : Option Seat) → create_of m ≡ o → bump (is_slot (slot_in o) x) 0 ≤ bump (is_slot (slot_created (Some m)) x) 0
makes_one x m None e = omega arith
makes_one x m (Some y) e =
    let same : bump (is_slot (slot_created (Some m)) x) 0 ≡ bump (same_slot y.slot x) 0 = ap (λ (o : Option Slot). bump (is_slot o x) 0) (created_of m y e) in
    omega arith

pub makes_few : (x : Slot) (os : List (Option Message)) → count (makes x) (messages_of os) ≤ times x (slots_created os)
makes_few x [] = omega arith
makes_few x (None ∷ os) = makes_few x os
makes_few x (Some m ∷ os) =
    let ih = makes_few x os in
    let one = makes_one x m (create_of m) refl in
    let a = bump_adds (makes x m) (count (makes x) (messages_of os)) in
    let b = times_with x (slot_created (Some m)) (slots_created os) in
    let c = bump_adds (is_slot (slot_created (Some m)) x) (times x (slots_created os)) in
    omega arith

-- where the slots that SCs name are held in both or in neither, 713 is the same
held_one : (p q : Program) (but : List Slot) → ((x : Slot) → is_in x but ≡ false → some (holders x p.flights) ≡ some (holders x q.flights)) → (m : Message) (o : Option Seat) → create_of m ≡ o →
    AllByRecursion (λ y. is_in y but ≡ false) (with (slot_created (Some m)) []) → of_seat (λ x. some (holders x.slot p.flights)) o ≡ of_seat (λ x. some (holders x.slot q.flights)) o
held_one p q but h m None e a = refl
held_one p q but h m (Some x) e a =
    let b = rw (created_of m x e) at a in
    h x.slot b.0

all_with : (P : Slot → Type 0) (o : Option Slot) (ys : List Slot) → AllByRecursion P (with o ys) → AllByRecursion P (with o []) × AllByRecursion P ys
all_with P None ys a = (tt, a)
all_with P (Some y) ys a = ((a.0, tt), a.1)

pub held_both : (p q : Program) (but : List Slot) → ((x : Slot) → is_in x but ≡ false → some (holders x p.flights) ≡ some (holders x q.flights)) → (os : List (Option Message)) →
    AllByRecursion (λ y. is_in y but ≡ false) (slots_created os) → AllByRecursion (λ m. held p m ≡ held q m) (messages_of os)
held_both p q but h [] a = tt
held_both p q but h (None ∷ os) a = held_both p q but h os a
held_both p q but h (Some m ∷ os) a =
    let b = all_with (λ y. is_in y but ≡ false) (slot_created (Some m)) (slots_created os) a in
    (held_one p q but h m (create_of m) refl b.0, held_both p q but h os b.1)

-- after a packet that passes each slot has as many holders as before, and one more for each SC of it
pub holders_after : {S : Type 0} (s : Setting S) (p : Program) (u : ℕ) (ls : List Line) → program_stands s.element p ≡ true →
    all_pass (line_numbers s p u (map (message_read s.element p.days) ls)) ≡ true → (x : Slot) →
    holders x (map (amended (messages_of (map (message_read s.element p.days) ls))) p.flights) ≡ holders x p.flights + count (makes x) (messages_of (map (message_read s.element p.days) ls))
holders_after s p u ls stands pass x =
    let e = s.element in
    let os = map (message_read e p.days) ls in
    let r = rules_of e p.flights (and_parts (table_stands e p.flights) (none_without p.condition p.flights) stands).0 in
    effect s p u (messages_of os) r.identities (slots_fit e p.flights r.stand) (accepts s p u os (all_read e p.days ls) pass) x

pub some_more : (a b k : ℕ) → some a ≡ some b → some (a + k) ≡ some (b + k)
some_more zero zero k h = refl
some_more zero (suc b) k h = let z : ◌≡◌ {A = ℕ} 0 1 = cc in absurd (omega arith)
some_more (suc a) zero k h = let z : ◌≡◌ {A = ℕ} 0 1 = cc in absurd (omega arith)
some_more (suc a) (suc b) k h = both (suc a + k) (suc b + k) (omega arith) (omega arith)
  where
    both : (m n : ℕ) → 1 ≤ m → 1 ≤ n → some m ≡ some n
    both zero n p q = absurd (omega arith)
    both (suc m) zero p q = absurd (omega arith)
    both (suc m) (suc n) p q = refl
