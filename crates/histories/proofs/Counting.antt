-- Counts of slots: in lists of slots, in the table, and among one user's flights.
use Rattle.std.proofs.Common.{◌≡◌, ℕ, ◌+◌, Bool, true, false, cond, not, ◌||◌, eqb, List, [], ◌∷◌, ◌++◌, map, is_some, Some, None, Option, sym, refl, ap, ◌∙◌, ap₂, arith}
use Rattle.std.proofs.lemmas.Bool.{both_ways, or_parts, cond-true, cond-false, eqb-true}
use Rattle.std.specs.List.{AllByRecursion}
use Rattle.calendar.specs.Days.{Minute}
use Rattle.calendar.specs.Identities.{carrier_of}
use Rattle.element.specs.Slots.{Slot, same_slot}
use Rattle.flights.specs.Counts.{bump}
use Rattle.element.specs.Meanings.{Meaning}
use Rattle.flights.specs.Flights.{Flight, is_slot, holders, departing}
use Rattle.flights.specs.Standing.{slot_fits_type, flight_stands}
use Rattle.messages.specs.declared.kind.MessageType.{MessageType}
use Rattle.messages.specs.declared.kind.MessageType.TheVariants.{Fx, Fm, Sc}
use Rattle.model.specs.Model.{Setting, Program}
use Rattle.packets.specs.Given.{Given, absent, invalid, given, is_invalid, is_absent, value}
use Rattle.packets.specs.Messages.{Message, seat_from, only_sc, create_of}
use Rattle.packets.specs.StageOne.{is_user, owns, lacks}
use Rattle.packets.specs.StageTwo.{count}
use Rattle.packets.specs.Verdict.{messages_of}
use Rattle.packets.proofs.Deciding.{by_test}
use Rattle.packets.proofs.Table.{bump_adds}
use Rattle.packets.proofs.Accepted.{Alone}
use Rattle.packets.proofs.Amending.{slot_fits}
use Rattle.packets.proofs.Shifts.{slot_in, makes}
use Rattle.histories.specs.Sights.{records_of}
use Rattle.histories.specs.Slots.{times, with, slots_of, slot_created, slots_created}

-- two lists of slots together
pub times_append : (x : Slot) (xs ys : List Slot) → times x (xs ++ ys) ≡ times x xs + times x ys
times_append x [] ys = omega arith
times_append x (y ∷ xs) ys =
    let ih = times_append x xs ys in
    let a = bump_adds (same_slot y x) (times x (xs ++ ys)) in
    let b = bump_adds (same_slot y x) (times x xs) in
    omega arith

-- one slot more, where there is one
pub times_with : (x : Slot) (o : Option Slot) (ys : List Slot) → times x (with o ys) ≡ bump (is_slot o x) (times x ys)
times_with x None ys = refl
times_with x (Some y) ys = refl

-- a slot stands among the slots of flights as often as it is held
pub times_slots : (x : Slot) (fs : List Flight) → times x (slots_of fs) ≡ holders x fs
times_slots x [] = refl
times_slots x (f ∷ fs) = times_with x f.slot (slots_of fs) ∙ ap (bump (is_slot f.slot x)) (times_slots x fs)

-- an SC with T5, T6 and A2 that are all valid seats a flight on the slot that it names
created_slot : (k : MessageType) (d a : Given Minute) (x : Given Slot) (b : Bool) →
    is_invalid d ≡ false → is_invalid a ≡ false →
    lacks k (bump (not (is_absent d)) (bump (not (is_absent a)) (bump (not (is_absent x)) 0))) b ≡ false →
    only_sc k (value x) ≡ slot_in (only_sc k (seat_from (value d) (value a) (value x)))
created_slot Fx d a x b p q h = refl
created_slot Fm d a x b p q h = refl
created_slot Sc absent a absent b p q h = refl
created_slot Sc absent a invalid b p q h = refl
created_slot Sc absent absent (given x) b p q h = absurd (both_ways true h refl)
created_slot Sc absent invalid (given x) b p q h = absurd (both_ways true q refl)
created_slot Sc absent (given a) (given x) b p q h = absurd (both_ways true h refl)
created_slot Sc invalid a x b p q h = absurd (both_ways true p refl)
created_slot Sc (given d) absent absent b p q h = refl
created_slot Sc (given d) absent invalid b p q h = refl
created_slot Sc (given d) absent (given x) b p q h = absurd (both_ways true h refl)
created_slot Sc (given d) invalid x b p q h = absurd (both_ways true q refl)
created_slot Sc (given d) (given a) absent b p q h = refl
created_slot Sc (given d) (given a) invalid b p q h = refl
created_slot Sc (given d) (given a) (given x) b p q h = refl

-- so does every SC that passes stage one
slot_made : {S : Type 0} (s : Setting S) (p : Program) (u : ℕ) (m : Message) → Alone s p u m → slot_created (Some m) ≡ slot_in (create_of m)
slot_made s p u m a =
    let t = or_parts (is_invalid m.ctd || is_invalid m.cta || is_invalid m.erta) (not (is_some m.identity)) a.timely in
    let v = or_parts (is_invalid m.ctd || is_invalid m.cta) (is_invalid m.erta) t.0 in
    let w = or_parts (is_invalid m.ctd) (is_invalid m.cta) v.0 in
    created_slot m.kind m.ctd m.cta m.slot (is_absent m.erta) w.0 w.1 a.complete

-- so the slots that an accepted packet's SC lines name are those that its messages make
pub times_created : {S : Type 0} (s : Setting S) (p : Program) (u : ℕ) (x : Slot) (os : List (Option Message)) → AllByRecursion (Alone s p u) (messages_of os) →
    times x (slots_created os) ≡ count (makes x) (messages_of os)
times_created s p u x [] a = refl
times_created s p u x (None ∷ os) a = times_created s p u x os a
times_created s p u x (Some m ∷ os) a =
    times_with x (slot_created (Some m)) (slots_created os)
    ∙ ap₂ (λ o n. bump (is_slot o x) n) (slot_made s p u m a.0) (times_created s p u x os a.1)

-- a test with the same cases either way
cond_same : {A : Type 0} (b : Bool) (x y x' y' : A) → (b ≡ true → x ≡ x') → (b ≡ false → y ≡ y') → cond b x y ≡ cond b x' y'
cond_same true x y x' y' f g = f refl
cond_same false x y x' y' f g = g refl

-- a flight has one user at most
one_user : (o : Option ℕ) (v u : ℕ) → is_user o u ≡ true → eqb v u ≡ false → is_user o v ≡ false
one_user None v u q n = refl
one_user (Some w) v u q n =
    by_test (eqb w v)
    (λ e. absurd (both_ways (eqb v u) n (ap (λ k. eqb k u) (sym (eqb-true w v e)) ∙ q)))
    (λ e. e)

module _ {S : Type 0} (s : Setting S) where
  -- a flight of the user counts, and a flight of another does not
  own_in : (u : ℕ) (x : Slot) (f : Flight) (fs : List Flight) → owns s u f ≡ true → holders x (records_of s u (f ∷ fs)) ≡ bump (is_slot f.slot x) (holders x (records_of s u fs))
  own_in u x f fs q = ap (holders x) (cond-true (owns s u f) (f ∷ records_of s u fs) (records_of s u fs) q)

  own_out : (u : ℕ) (x : Slot) (f : Flight) (fs : List Flight) → owns s u f ≡ false → holders x (records_of s u (f ∷ fs)) ≡ holders x (records_of s u fs)
  own_out u x f fs q = ap (holders x) (cond-false (owns s u f) (f ∷ records_of s u fs) (records_of s u fs) q)

  module _ (g : Flight → Flight) (kept : (f : Flight) → (g f).identity ≡ f.identity) where
    -- a change that keeps the identity keeps the user
    owner_kept : (u : ℕ) (f : Flight) → owns s u (g f) ≡ owns s u f
    owner_kept u f = ap (λ i. is_user (s.carrier (carrier_of i)) u) (kept f)

    -- where a change leaves the flights of others, what is held grows by what the user's flights hold more
    pub own_grows : (v : ℕ) → ((f : Flight) → owns s v f ≡ false → g f ≡ f) → (x : Slot) (fs : List Flight) →
        holders x (map g fs) + holders x (records_of s v fs) ≡ holders x fs + holders x (records_of s v (map g fs))
    own_grows v other x [] = refl
    own_grows v other x (f ∷ fs) =
        let ih = own_grows v other x fs in
        let a = bump_adds (is_slot (g f).slot x) (holders x (map g fs)) in
        let b = bump_adds (is_slot f.slot x) (holders x fs) in
        by_test (owns s v f)
        (λ q.
        let c = own_in v x f fs q in
        let d = own_in v x (g f) (map g fs) (owner_kept v f ∙ q) in
        let c₀ = bump_adds (is_slot f.slot x) (holders x (records_of s v fs)) in
        let d₀ = bump_adds (is_slot (g f).slot x) (holders x (records_of s v (map g fs))) in
        omega arith)
        (λ q.
        let c = own_out v x f fs q in
        let d = own_out v x (g f) (map g fs) (owner_kept v f ∙ q) in
        let same = ap (λ (f : Flight). bump (is_slot f.slot x) 0) (other f q) in
        omega arith)

    -- and the records of another user stay
    pub others_stay : (v u : ℕ) → eqb v u ≡ false → ((f : Flight) → owns s v f ≡ false → g f ≡ f) → (fs : List Flight) → records_of s u (map g fs) ≡ records_of s u fs
    others_stay v u n other [] = refl
    others_stay v u n other (f ∷ fs) =
        let ih = others_stay v u n other fs in
        ap (λ b. cond b (g f ∷ records_of s u (map g fs)) (records_of s u (map g fs))) (owner_kept u f)
        ∙ cond_same (owns s u f) _ _ _ _
        (λ q. ap₂ ◌∷◌ (other f (one_user (s.carrier (carrier_of f.identity)) v u q n)) ih)
        (λ q. ih)

    -- a change that keeps the slot too keeps both counts
    pub held_stays : ((f : Flight) → (g f).slot ≡ f.slot) → (x : Slot) (fs : List Flight) → holders x (map g fs) ≡ holders x fs
    held_stays slot x [] = refl
    held_stays slot x (f ∷ fs) = ap₂ (λ o n. bump (is_slot o x) n) (slot f) (held_stays slot x fs)

    pub own_stays : ((f : Flight) → (g f).slot ≡ f.slot) → (u : ℕ) (x : Slot) (fs : List Flight) → holders x (records_of s u (map g fs)) ≡ holders x (records_of s u fs)
    own_stays slot u x [] = refl
    own_stays slot u x (f ∷ fs) =
        let ih = own_stays slot u x fs in
        by_test (owns s u f)
        (λ q.
        own_in u x (g f) (map g fs) (owner_kept u f ∙ q)
        ∙ ap₂ (λ o n. bump (is_slot o x) n) (slot f) ih
        ∙ sym (own_in u x f fs q))
        (λ q. own_out u x (g f) (map g fs) (owner_kept u f ∙ q) ∙ ih ∙ sym (own_out u x f fs q))

-- a departure changes no identity and no slot
pub identity_kept : (b : Bool) (f : Flight) → (cond b (departing f) f).identity ≡ f.identity
identity_kept true f = refl
identity_kept false f = refl

pub slot_kept : (b : Bool) (f : Flight) → (cond b (departing f) f).slot ≡ f.slot
slot_kept true f = refl
slot_kept false f = refl

-- each flight of a table that stands has a slot or none as its type asks
pub slots_fit : (e : Meaning) (fs : List Flight) → AllByRecursion (λ f. flight_stands e f ≡ true) fs → AllByRecursion (λ f. slot_fits_type f ≡ true) fs
slots_fit e [] a = tt
slots_fit e (f ∷ fs) a = (slot_fits e f a.0, slots_fit e fs a.1)
