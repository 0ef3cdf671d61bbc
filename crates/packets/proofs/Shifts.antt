-- The slots that the moves of a packet leave and ask for.
use Rattle.std.proofs.Common.{◌≡◌, ℕ, ◌+◌, ◌≤◌, Bool, true, false, not, ◌&&◌, List, [], ◌∷◌, ◌++◌, is_some, Some, None, Option, sym, refl, ap, ◌∙◌, subst, arith}
use Rattle.std.proofs.lemmas.Bool.{both_ways, and_parts, cond-true, cond-false}
use Rattle.calendar.specs.Days.{Minute}
use Rattle.calendar.specs.Identities.{Identity}
use Rattle.element.specs.Slots.{Slot, same_slot}
use Rattle.flights.specs.Counts.{bump}
use Rattle.flights.specs.Flights.{Flight, is_slot}
use Rattle.messages.specs.declared.kind.MessageType.{MessageType}
use Rattle.messages.specs.declared.kind.MessageType.TheVariants.{Fx, Fm, Sc}
use Rattle.model.specs.Model.{Setting}
use Rattle.packets.specs.Given.{value}
use Rattle.packets.specs.Messages.{Message, Seat, seat_from, seat_of, only_fm, only_sc, move_of, create_of, names}
use Rattle.packets.specs.StageOne.{find, find_named, owns}
use Rattle.packets.specs.StageTwo.{count, same_type, same_named, holder, names_slot, moves}
use Rattle.packets.proofs.Deciding.{by_test, is_identity_fact}
use Rattle.packets.proofs.Table.{bump_adds, bump_true, bump_false}
use Rattle.packets.proofs.Amending.{Distinct, distinct_tail, find_tail, find_head}
use Rattle.packets.proofs.Pigeon.{occurs, push}

abbrev pub slot_in : Option Seat → Option Slot
slot_in None = None
slot_in (Some x) = Some x.slot

-- whether a message is an SC of this slot
abbrev pub makes : Slot → Message → Bool
makes x m = is_slot (slot_in (create_of m)) x

-- the slots that the moves ask for
abbrev pub targets : List Message → List Slot
targets [] = []
targets (m ∷ ms) = push (slot_in (move_of m)) (targets ms)

-- the slot that a move leaves
abbrev pub leaves : Option Seat → Option Flight → Option Slot
leaves None o = None
leaves (Some x) None = None
leaves (Some x) (Some f) = f.slot

-- the slots that the moving flights leave
abbrev pub origins : List Flight → List Message → List Slot
origins fs [] = []
origins fs (m ∷ ms) = push (leaves (move_of m) (find_named m.identity fs)) (origins fs ms)

pub occurs_push : (x : Slot) (o : Option Slot) (ys : List Slot) → occurs same_slot x (push o ys) ≡ bump (is_slot o x) (occurs same_slot x ys)
occurs_push x None ys = refl
occurs_push x (Some y) ys = refl

pub count_after : (test : Message → Bool) (before : List Message) (m : Message) → count test (before ++ m ∷ []) ≡ bump (test m) (count test before)
count_after test [] m = refl
count_after test (b ∷ before) m =
    let ih = count_after test before m in
    let i = bump_adds (test b) (count test (before ++ m ∷ [])) in
    let j = bump_adds (test b) (count test before) in
    let k = bump_adds (test m) (count test before) in
    let l = bump_adds (test m) (count test (b ∷ before)) in
    omega arith

-- a message with a seat names its slot
seat_named : (d a : Option Minute) (o : Option Slot) (x : Slot) → bump (is_slot (slot_in (seat_from d a o)) x) 0 ≤ bump (is_slot o x) 0
seat_named None a o x = omega arith
seat_named (Some d) None o x = omega arith
seat_named (Some d) (Some a) None x = omega arith
seat_named (Some d) (Some a) (Some y) x = omega arith

named_by : (k : MessageType) (o : Option Seat) (n : ℕ) (x : Slot) → bump (is_slot (slot_in o) x) 0 ≤ n → bump (is_slot (slot_in (only_fm k o)) x) 0 + bump (is_slot (slot_in (only_sc k o)) x) 0 ≤ n
named_by Fx o n x h = omega arith
named_by Fm o n x h = omega arith
named_by Sc o n x h = omega arith

-- the moves to a slot and the SCs of it all name it
pub named_split : (x : Slot) (ms : List Message) → occurs same_slot x (targets ms) + count (makes x) ms ≤ count (names_slot x) ms
named_split x [] = omega arith
named_split x (m ∷ ms) =
    let ih = named_split x ms in
    let a = named_by m.kind (seat_of m) (bump (names_slot x m) 0) x (seat_named (value m.ctd) (value m.cta) (value m.slot) x) in
    let b = occurs_push x (slot_in (move_of m)) (targets ms) in
    let c = bump_adds (is_slot (slot_in (move_of m)) x) (occurs same_slot x (targets ms)) in
    let d = bump_adds (makes x m) (count (makes x) ms) in
    let e = bump_adds (names_slot x m) (count (names_slot x) ms) in
    omega arith

-- a message without a seat is no move and no SC of a slot
pub only_none : (k : MessageType) (o : Option Seat) → o ≡ None → (only_fm k o ≡ None) × (only_sc k o ≡ None)
only_none Fx o e = (refl, refl)
only_none Fm o e = (e, refl)
only_none Sc o e = (refl, e)

pub is_slot_none : (o : Option Slot) (x : Slot) → is_some o ≡ false → is_slot o x ≡ false
is_slot_none None x h = refl
is_slot_none (Some y) x h = absurd (both_ways true h refl)

abbrev pub seating : Bool → MessageType
seating true = Fm
seating false = Sc

-- the type of the messages that can seat a flight: FM where it is controlled, else SC
abbrev pub seated_by : Flight → MessageType
seated_by f = seating (is_some f.control)

abbrev pub typed : MessageType → Identity → Message → Bool
typed k i m = same_type m.kind k && same_named (Some i) m

pub type_self : (k : MessageType) → same_type k k ≡ true
type_self Fx = refl
type_self Fm = refl
type_self Sc = refl

-- the flight that a message names
pub found_of : (o : Option Identity) (fs : List Flight) → not (is_some (find_named o fs)) ≡ false → (i : Identity) × (f : Flight) × (o ≡ Some i) × (find i fs ≡ Some f)
found_of None fs h = absurd (both_ways true h refl)
found_of (Some i) fs h = by (find i fs) refl h
  where
    by : (r : Option Flight) → find i fs ≡ r → not (is_some r) ≡ false → (j : Identity) × (f : Flight) × (Some i ≡ Some j) × (find j fs ≡ Some f)
    by None e h = absurd (both_ways true h refl)
    by (Some f) e h = (i, f, refl, e)

-- the user's holder of a slot is in the table, with the slot
pub holder_found : {S : Type 0} (s : Setting S) (u : ℕ) (x : Slot) (g : Flight) (fs : List Flight) → Distinct fs → holder s u x fs ≡ Some g → (find g.identity fs ≡ Some g) × (is_slot g.slot x ≡ true)
holder_found s u x g [] d e = let z : ◌≡◌ {A = ℕ} 0 1 = cc in absurd (omega arith)
holder_found s u x g (f ∷ fs) d e =
    by_test (owns s u f && is_slot f.slot x)
    (λ q.
    let fg : Some f ≡ Some g = sym (cond-true (owns s u f && is_slot f.slot x) (Some f) (holder s u x fs) q) ∙ e in
    let same : f ≡ g = cc in
    subst (λ (h : Flight). (find h.identity (f ∷ fs) ≡ Some h) × (is_slot h.slot x ≡ true)) same
    (find_head f fs, (and_parts (owns s u f) (is_slot f.slot x) q).1))
    (λ q.
    let ih = holder_found s u x g fs (distinct_tail f fs d) (sym (cond-false (owns s u f && is_slot f.slot x) (Some f) (holder s u x fs) q) ∙ e) in
    (find_tail f fs g.identity g d ih.0, ih.1))

-- where the holder of a slot moves, the slot is left
pub origin_in : (fs : List Flight) (x : Slot) (g : Flight) (ms : List Message) → find g.identity fs ≡ Some g → is_slot g.slot x ≡ true → 1 ≤ count (moves g.identity) ms → 1 ≤ occurs same_slot x (origins fs ms)
origin_in fs x g [] e h k = k
origin_in fs x g (m ∷ ms) e h k =
    let o = leaves (move_of m) (find_named m.identity fs) in
    let a = occurs_push x o (origins fs ms) in
    by_test (moves g.identity m)
    (λ q.
    let r = and_parts (is_some (move_of m)) (names m g.identity) q in
    let f : find_named m.identity fs ≡ Some g = ap (λ j. find_named j fs) (is_identity_fact m.identity g.identity r.1) ∙ e in
    let w : is_slot o x ≡ true = left (move_of m) (find_named m.identity fs) r.0 f in
    let b = bump_true (is_slot o x) (occurs same_slot x (origins fs ms)) w in
    omega arith)
    (λ q.
    let c = bump_false (moves g.identity m) (count (moves g.identity) ms) q in
    let ih = origin_in fs x g ms e h (omega arith) in
    let b = bump_adds (is_slot o x) (occurs same_slot x (origins fs ms)) in
    omega arith)
  where
    left : (y : Option Seat) (r : Option Flight) → is_some y ≡ true → r ≡ Some g → is_slot (leaves y r) x ≡ true
    left None r p q = absurd (both_ways false refl p)
    left (Some y) r p q = ap (λ r. is_slot (leaves (Some y) r) x) q ∙ h
