-- The tests on identities and slots decide whether two are equal.
use Rattle.std.proofs.Common.{◌≡◌, ℕ, Bool, true, false, eqb, List, Some, None, Option, sym, refl, ap, ◌∙◌}
use Rattle.std.proofs.lemmas.Bool.{both_ways, and_parts, and_from, eqb-true, eq-eqb}
use Rattle.std.proofs.lemmas.Slice.Eq.{bytes_eq-Decides}
use Rattle.std.specs.Str.{bytes_eq}
use Rattle.calendar.specs.Identities.{Identity, same_identity}
use Rattle.element.specs.Slots.{Slot, same_slot}
use Rattle.flights.specs.Flights.{is_slot}
use Rattle.packets.specs.Messages.{is_identity}

identity_made : List ℕ → List ℕ → List ℕ → List ℕ → Identity
identity_made i p q d = record { id = i; departure = p; arrival = q; date = d }

slot_made : ℕ → ℕ → Slot
slot_made m l = record { minute = m; letter = l }

-- two cases, each with its equation
pub by_test : {P : Type 0} (b : Bool) → (b ≡ true → P) → (b ≡ false → P) → P
by_test true f g = f refl
by_test false f g = g refl

pub identity_true : (a b : Identity) → same_identity a b ≡ true → a ≡ b
unfolding identity_made
identity_true a b h =
    let p = and_parts (bytes_eq a.id b.id) _ h in
    let q = and_parts (bytes_eq a.departure b.departure) _ p.1 in
    let r = and_parts (bytes_eq a.arrival b.arrival) _ q.1 in
    let id = (bytes_eq-Decides a.id b.id).0 p.0 in
    let departure = (bytes_eq-Decides a.departure b.departure).0 q.0 in
    let arrival = (bytes_eq-Decides a.arrival b.arrival).0 r.0 in
    let date = (bytes_eq-Decides a.date b.date).0 r.1 in
    let same : identity_made a.id a.departure a.arrival a.date ≡ identity_made b.id b.departure b.arrival b.date = cc in
    same

pub identity_refl : (a : Identity) → same_identity a a ≡ true
identity_refl a =
    and_from _ _ ((bytes_eq-Decides a.id a.id).1 refl)
    (and_from _ _ ((bytes_eq-Decides a.departure a.departure).1 refl)
    (and_from _ _ ((bytes_eq-Decides a.arrival a.arrival).1 refl) ((bytes_eq-Decides a.date a.date).1 refl)))

pub slot_true : (a b : Slot) → same_slot a b ≡ true → a ≡ b
unfolding slot_made
slot_true a b h =
    let p = and_parts (eqb a.minute b.minute) _ h in
    let minute = eqb-true a.minute b.minute p.0 in
    let letter = eqb-true a.letter b.letter p.1 in
    let same : slot_made a.minute a.letter ≡ slot_made b.minute b.letter = cc in
    same

pub slot_refl : (a : Slot) → same_slot a a ≡ true
slot_refl a = and_from _ _ (eq-eqb a.minute a.minute refl) (eq-eqb a.letter a.letter refl)

-- a test that decides equality is the same both ways round
pub same_sym : {X : Type 0} (same : X → X → Bool) → ((a b : X) → same a b ≡ true → a ≡ b) → ((a : X) → same a a ≡ true) → (a b : X) → same a b ≡ same b a
same_sym same is self a b =
    by_test (same a b)
    (λ e. e ∙ sym (ap (same b) (is a b e) ∙ self b))
    (λ e. by_test (same b a)
    (λ q. let z = (ap (same a) (is b a q) ∙ self a) in absurd (both_ways (same a b) e z))
    (λ q. e ∙ sym q))

pub identity_sym : (a b : Identity) → same_identity a b ≡ same_identity b a
identity_sym a b = same_sym same_identity identity_true identity_refl a b

pub slot_sym : (a b : Slot) → same_slot a b ≡ same_slot b a
slot_sym a b = same_sym same_slot slot_true slot_refl a b

pub is_slot_fact : (o : Option Slot) (x : Slot) → is_slot o x ≡ true → o ≡ Some x
is_slot_fact None x h = absurd (both_ways false refl h)
is_slot_fact (Some y) x h = ap Some (slot_true y x h)

pub is_identity_fact : (o : Option Identity) (i : Identity) → is_identity o i ≡ true → o ≡ Some i
is_identity_fact None i h = absurd (both_ways false refl h)
is_identity_fact (Some j) i h = ap Some (identity_true j i h)
