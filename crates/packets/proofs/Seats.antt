-- How many flights hold a slot after one more message.
use Rattle.std.proofs.Common.{◌≡◌, ℕ, ◌≤◌, Bool, true, false, cond, List, [], ◌∷◌, map, Some, None, Option, sym, refl, ap, ◌∙◌, arith}
use Rattle.std.proofs.lemmas.Bool.{cond-true, cond-false}
use Rattle.std.specs.List.{AllByRecursion}
use Rattle.calendar.specs.Identities.{Identity, same_identity}
use Rattle.element.specs.Slots.{Slot, same_slot}
use Rattle.element.specs.Meanings.{or_else}
use Rattle.flights.specs.Counts.{bump}
use Rattle.flights.specs.Flights.{Flight, is_slot, bearers, holders}
use Rattle.packets.specs.Messages.{Message, Seat, seat_of, is_identity, names}
use Rattle.packets.specs.StageOne.{find}
use Rattle.packets.specs.Amended.{first_for, slot_after, amended}
use Rattle.packets.proofs.Deciding.{by_test, identity_true, identity_sym}
use Rattle.packets.proofs.Table.{bump_true, bump_false}

-- whether the flight holds the slot after the messages
abbrev pub holds : Slot → List Message → Flight → Bool
holds x ms f = is_slot (slot_after (first_for f.identity seat_of ms) f.slot) x

bump_none : (b : Bool) (n : ℕ) → bump b n ≡ 0 → (b ≡ false) × (n ≡ 0)
bump_none true n h = absurd (omega arith)
bump_none false n h = (refl, h)

bump_swap : (a b : Bool) (n : ℕ) → bump a (bump b n) ≡ bump b (bump a n)
bump_swap true true n = refl
bump_swap true false n = refl
bump_swap false true n = refl
bump_swap false false n = refl

cond_same : {A : Type 0} (b : Bool) (x : A) → cond b x x ≡ x
cond_same true x = refl
cond_same false x = refl

-- no message that names the flight gives anything
pub first_none : {X : Type 0} (i : Identity) (gives : Message → Option X) (ms : List Message) → AllByRecursion (λ m. names m i ≡ true → gives m ≡ None) ms → first_for i gives ms ≡ None
first_none i gives [] a = refl
first_none i gives (m ∷ ms) a =
    by_test (names m i)
    (λ n. ap (λ b. or_else (cond b (gives m) None) (first_for i gives ms)) n ∙ ap (λ o. or_else o (first_for i gives ms)) (a.0 n) ∙ first_none i gives ms a.1)
    (λ n. ap (λ b. or_else (cond b (gives m) None) (first_for i gives ms)) n ∙ first_none i gives ms a.1)

holds_here : (x : Slot) (m : Message) (ms : List Message) (r : Seat) (f : Flight) → seat_of m ≡ Some r → names m f.identity ≡ true → holds x (m ∷ ms) f ≡ same_slot r.slot x
holds_here x m ms r f e n =
    ap (λ b. is_slot (slot_after (or_else (cond b (seat_of m) None) (first_for f.identity seat_of ms)) f.slot) x) n
    ∙ ap (λ o. is_slot (slot_after (or_else o (first_for f.identity seat_of ms)) f.slot) x) e

holds_skip : (x : Slot) (m : Message) (ms : List Message) (f : Flight) → names m f.identity ≡ false → holds x (m ∷ ms) f ≡ holds x ms f
holds_skip x m ms f n = ap (λ b. is_slot (slot_after (or_else (cond b (seat_of m) None) (first_for f.identity seat_of ms)) f.slot) x) n

holds_idle : (x : Slot) (m : Message) (ms : List Message) (f : Flight) → seat_of m ≡ None → holds x (m ∷ ms) f ≡ holds x ms f
holds_idle x m ms f e =
    ap (λ o. is_slot (slot_after (or_else (cond (names m f.identity) o None) (first_for f.identity seat_of ms)) f.slot) x) e
    ∙ ap (λ o. is_slot (slot_after (or_else o (first_for f.identity seat_of ms)) f.slot) x) (cond_same (names m f.identity) None)

holds_kept : (x : Slot) (ms : List Message) (f : Flight) → first_for f.identity seat_of ms ≡ None → holds x ms f ≡ is_slot f.slot x
holds_kept x ms f e = ap (λ o. is_slot (slot_after o f.slot) x) e

-- without messages nothing changes
pub holders_same : (x : Slot) (fs : List Flight) → holders x (map (amended []) fs) ≡ holders x fs
holders_same x [] = refl
holders_same x (f ∷ fs) = ap (bump (is_slot f.slot x)) (holders_same x fs)

-- a message without a seat leaves the holders
pub holders_idle : (x : Slot) (m : Message) (ms : List Message) (fs : List Flight) → seat_of m ≡ None → holders x (map (amended (m ∷ ms)) fs) ≡ holders x (map (amended ms) fs)
holders_idle x m ms [] e = refl
holders_idle x m ms (f ∷ fs) e =
    ap (λ b. bump b (holders x (map (amended (m ∷ ms)) fs))) (holds_idle x m ms f e)
    ∙ ap (bump (holds x ms f)) (holders_idle x m ms fs e)

module _ (x : Slot) (m : Message) (ms : List Message) (i : Identity) (named : m.identity ≡ Some i) where
  naming : (f : Flight) → names m f.identity ≡ same_identity f.identity i
  naming f = ap (λ o. is_identity o f.identity) named ∙ identity_sym i f.identity

  -- a message leaves the holders among flights that it does not name
  holders_other : (fs : List Flight) → bearers i fs ≡ 0 → holders x (map (amended (m ∷ ms)) fs) ≡ holders x (map (amended ms) fs)
  holders_other [] h = refl
  holders_other (f ∷ fs) h =
      let b = bump_none (same_identity f.identity i) (bearers i fs) h in
      ap (λ b. bump b (holders x (map (amended (m ∷ ms)) fs))) (holds_skip x m ms f (naming f ∙ b.0))
      ∙ ap (bump (holds x ms f)) (holders_other fs b.1)

  -- a seat for a flight that no later message seats: the flight leaves its slot and holds the new one
  pub holders_seat : (r : Seat) (f : Flight) (fs : List Flight) → seat_of m ≡ Some r → bearers i fs ≤ 1 → find i fs ≡ Some f → first_for i seat_of ms ≡ None →
      bump (is_slot f.slot x) (holders x (map (amended (m ∷ ms)) fs)) ≡ bump (same_slot r.slot x) (holders x (map (amended ms) fs))
  holders_seat r f [] e d h k = let z : ◌≡◌ {A = ℕ} 0 1 = cc in absurd (omega arith)
  holders_seat r f (g ∷ gs) e d h k =
      by_test (same_identity g.identity i)
      (λ q.
      let gf : Some g ≡ Some f = sym (cond-true (same_identity g.identity i) (Some g) (find i gs) q) ∙ h in
      let same : g ≡ f = cc in
      let c = bump_true (same_identity g.identity i) (bearers i gs) q in
      let rest = holders_other gs (omega arith) in
      let here : holds x (m ∷ ms) g ≡ same_slot r.slot x = holds_here x m ms r g e (naming g ∙ q) in
      let kept : holds x ms g ≡ is_slot g.slot x =
      holds_kept x ms g (ap (λ j. first_for j seat_of ms) (identity_true g.identity i q) ∙ k) in
      let slots : is_slot f.slot x ≡ is_slot g.slot x = ap (λ (y : Flight). is_slot y.slot x) (sym same) in
      let old = holders x (map (amended ms) gs) in
      ap (λ b. bump b (bump (holds x (m ∷ ms) g) (holders x (map (amended (m ∷ ms)) gs)))) slots
      ∙ ap (λ b. bump (is_slot g.slot x) (bump b (holders x (map (amended (m ∷ ms)) gs)))) here
      ∙ ap (λ n. bump (is_slot g.slot x) (bump (same_slot r.slot x) n)) rest
      ∙ bump_swap (is_slot g.slot x) (same_slot r.slot x) old
      ∙ ap (λ b. bump (same_slot r.slot x) (bump b old)) (sym kept))
      (λ q.
      let c = bump_false (same_identity g.identity i) (bearers i gs) q in
      let ih = holders_seat r f gs e (omega arith) (sym (cond-false (same_identity g.identity i) (Some g) (find i gs) q) ∙ h) k in
      let skip = holds_skip x m ms g (naming g ∙ q) in
      let old = holders x (map (amended ms) gs) in
      ap (λ b. bump (is_slot f.slot x) (bump b (holders x (map (amended (m ∷ ms)) gs)))) skip
      ∙ bump_swap (is_slot f.slot x) (holds x ms g) (holders x (map (amended (m ∷ ms)) gs))
      ∙ ap (bump (holds x ms g)) ih
      ∙ bump_swap (holds x ms g) (same_slot r.slot x) old)
