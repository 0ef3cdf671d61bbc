-- What an accepted packet makes of the slots: its moves permute them, and each SC adds one.
use Rattle.std.proofs.Common.{◌≡◌, ℕ, zero, suc, ◌+◌, ◌≤◌, Bool, true, false, not, ◌&&◌, List, [], ◌∷◌, ◌++◌, map, length, is_some, Some, None, Option, sym, refl, ap, ◌∙◌, ⊎_elim, arith}
use Rattle.std.proofs.lemmas.Bool.{both_ways, and_from, or_left, not-false}
use Rattle.std.specs.List.{AllByRecursion}
use Rattle.calendar.specs.Identities.{Identity}
use Rattle.element.specs.Slots.{Slot, same_slot}
use Rattle.flights.specs.Counts.{bump, some}
use Rattle.flights.specs.Flights.{Flight, is_slot, holders}
use Rattle.flights.specs.Standing.{slot_fits_type}
use Rattle.messages.specs.declared.kind.MessageType.TheVariants.{Fm, Sc}
use Rattle.model.specs.Model.{Setting, Program}
use Rattle.packets.specs.Given.{value}
use Rattle.packets.specs.Messages.{Message, Seat, seat_of, only_fm, only_sc, move_of, create_of, is_identity, names}
use Rattle.packets.specs.StageOne.{find, find_named, flight_named, wants_control}
use Rattle.packets.specs.StageTwo.{count, same_type, same_named, holder, names_slot, slot_named_in, holder_moves}
use Rattle.packets.specs.Amended.{first_for, amended}
use Rattle.packets.proofs.Deciding.{by_test, identity_refl, slot_true, slot_refl, is_slot_fact, is_identity_fact}
use Rattle.packets.proofs.Table.{bump_adds, bump_true, bump_false, some_false, some_true}
use Rattle.packets.proofs.Accepted.{Alone, Reads, Accepted, Accepts}
use Rattle.packets.proofs.Amending.{Distinct, found_holds, flight_named_fact, at_seat, seat_cases, slot_there, slot_none, has_control, no_control, not_pop_up}
use Rattle.packets.proofs.Pigeon.{occurs, push, pigeon}
use Rattle.packets.proofs.Shifts.{slot_in, makes, targets, leaves, origins, occurs_push, count_after, named_split, only_none, is_slot_none, seating, seated_by, typed, type_self, found_of, holder_found, origin_in}
use Rattle.packets.proofs.Seats.{first_none, holders_same, holders_idle, holders_seat}

module _ {S : Type 0} (s : Setting S) (p : Program) (u : ℕ) where
  -- the type of a message that seats a flight
  pub seat_kind : (m : Message) (f : Flight) (y : Seat) → Alone s p u m → Reads m → flight_named p m ≡ Some f → seat_of m ≡ Some y → m.kind ≡ seated_by f
  seat_kind m f y a r e h =
      ⊎_elim
      (λ q. q.0 ∙ ap seating (sym (has_control s p u m f a e (ap wants_control q.0))))
      (λ q. q.0 ∙ ap seating (sym (no_control s p u m f a e (ap wants_control q.0))))
      (seat_cases m y r h)

  -- a flight that an earlier message seats is seated by none later
  later_unseated : (all : List Message) (i : Identity) (f : Flight) → find i p.flights ≡ Some f → (before ms : List Message) →
      1 ≤ count (typed (seated_by f) i) before → Accepts s p u all before ms → AllByRecursion (λ m. names m i ≡ true → seat_of m ≡ None) ms
  later_unseated all i f e before [] h a = tt
  later_unseated all i f e before (m ∷ ms) h a =
      let b = count_after (typed (seated_by f) i) before m in
      let c = bump_adds (typed (seated_by f) i m) (count (typed (seated_by f) i) before) in
      ((λ n. by n (seat_of m) refl), later_unseated all i f e (before ++ m ∷ []) ms (omega arith) a.1)
    where
      by : names m i ≡ true → (o : Option Seat) → seat_of m ≡ o → o ≡ None
      by n None q = refl
      by n (Some y) q =
          let k = seat_kind m f y a.0.alone a.0.read (flight_named_fact p m i f n e) q in
          let one = ap (λ t. some (count (λ n. same_type n.kind t && same_named m.identity n) before)) (sym k) ∙ a.0.together.first in
          let two : some (count (typed (seated_by f) i) before) ≡ false =
          ap (λ j. some (count (λ n. same_type n.kind (seated_by f) && same_named j n) before)) (sym (is_identity_fact m.identity i n)) ∙ one in
          let zero = some_false _ two in
          absurd (omega arith)

  -- a message seats a flight, and no later one does
  seats_once : (all before : List Message) (m : Message) (ms : List Message) (i : Identity) (f : Flight) (y : Seat) →
      Accepted s p u all before m → Accepts s p u all (before ++ m ∷ []) ms → m.identity ≡ Some i → find i p.flights ≡ Some f → seat_of m ≡ Some y → first_for i seat_of ms ≡ None
  seats_once all before m ms i f y a more n e h =
      let named : names m i ≡ true = ap (λ o. is_identity o i) n ∙ identity_refl i in
      let k = seat_kind m f y a.alone a.read (flight_named_fact p m i f named e) h in
      let t : typed (seated_by f) i m ≡ true = and_from _ _ (ap (λ t. same_type t (seated_by f)) k ∙ type_self (seated_by f)) named in
      let b = count_after (typed (seated_by f) i) before m in
      let c = bump_true (typed (seated_by f) i m) (count (typed (seated_by f) i) before) t in
      first_none i seat_of ms (later_unseated all i f e (before ++ m ∷ []) ms (omega arith) more)

  -- a move's flight holds a slot, and that of an SC none
  mover_slot : (m : Message) (f : Flight) (y : Seat) → Alone s p u m → slot_fits_type f ≡ true → flight_named p m ≡ Some f → m.kind ≡ Fm → move_of m ≡ Some y → is_some f.slot ≡ true
  mover_slot m f y a fit e k h =
      slot_there f fit (has_control s p u m f a e (ap wants_control k)) (not_pop_up s p u m f a e (or_left (is_some (move_of m)) m.hold (ap is_some h)))

  creator_slot : (m : Message) (f : Flight) → Alone s p u m → slot_fits_type f ≡ true → flight_named p m ≡ Some f → m.kind ≡ Sc → is_some f.slot ≡ false
  creator_slot m f a fit e k = slot_none f fit (no_control s p u m f a e (ap wants_control k))

  -- what a move of a flight and an SC for one add to the targets, the origins and the slots made
  record Counts (x : Slot) (m : Message) (ms : List Message) (t o c : Bool) : Type 0 where
    target : occurs same_slot x (targets (m ∷ ms)) ≡ bump t (occurs same_slot x (targets ms))
    origin : occurs same_slot x (origins p.flights (m ∷ ms)) ≡ bump o (occurs same_slot x (origins p.flights ms))
    made : count (makes x) (m ∷ ms) ≡ bump c (count (makes x) ms)

  counts_idle : (x : Slot) (m : Message) (ms : List Message) → move_of m ≡ None → create_of m ≡ None → Counts x m ms false false false
  counts_idle x m ms v c = record {
    target = ap (λ y. occurs same_slot x (push (slot_in y) (targets ms))) v;
    origin = ap (λ y. occurs same_slot x (push (leaves y (find_named m.identity p.flights)) (origins p.flights ms))) v;
    made = ap (λ y. bump (is_slot (slot_in y) x) (count (makes x) ms)) c;
  }

  counts_move : (x : Slot) (m : Message) (ms : List Message) (f : Flight) (y : Seat) → flight_named p m ≡ Some f → move_of m ≡ Some y → create_of m ≡ None → Counts x m ms (same_slot y.slot x) (is_slot f.slot x) false
  counts_move x m ms f y e v c = record {
    target = ap (λ y. occurs same_slot x (push (slot_in y) (targets ms))) v;
    origin =
        ap (λ y. occurs same_slot x (push (leaves y (find_named m.identity p.flights)) (origins p.flights ms))) v
        ∙ ap (λ g. occurs same_slot x (push (leaves (Some y) g) (origins p.flights ms))) e
        ∙ occurs_push x f.slot (origins p.flights ms);
    made = ap (λ y. bump (is_slot (slot_in y) x) (count (makes x) ms)) c;
  }

  counts_create : (x : Slot) (m : Message) (ms : List Message) (y : Seat) → move_of m ≡ None → create_of m ≡ Some y → Counts x m ms false false (same_slot y.slot x)
  counts_create x m ms y v c = record {
    target = ap (λ y. occurs same_slot x (push (slot_in y) (targets ms))) v;
    origin = ap (λ y. occurs same_slot x (push (leaves y (find_named m.identity p.flights)) (origins p.flights ms))) v;
    made = ap (λ y. bump (is_slot (slot_in y) x) (count (makes x) ms)) c;
  }

  -- a move is no SC, and an SC no move
  not_create : (m : Message) → m.kind ≡ Fm → create_of m ≡ None
  not_create m k = ap (λ k. only_sc k (seat_of m)) k

  not_move : (m : Message) → m.kind ≡ Sc → move_of m ≡ None
  not_move m k = ap (λ k. only_fm k (seat_of m)) k

  module _ (distinct : Distinct p.flights) (fit : AllByRecursion (λ f. slot_fits_type f ≡ true) p.flights) where
    -- how many hold a slot after the messages
    moved_count : (all : List Message) (x : Slot) (before ms : List Message) → Accepts s p u all before ms →
        holders x (map (amended ms) p.flights) + occurs same_slot x (origins p.flights ms) ≡ holders x p.flights + occurs same_slot x (targets ms) + count (makes x) ms
    moved_count all x before [] a = let b = holders_same x p.flights in omega arith
    moved_count all x before (m ∷ ms) a =
        let found = found_of m.identity p.flights a.0.alone.known in
        let ih = moved_count all x (before ++ m ∷ []) ms a.1 in
        by found.0 found.1 found.2 found.3 ih (seat_of m) refl
      where
        by : (i : Identity) (f : Flight) → m.identity ≡ Some i → find i p.flights ≡ Some f →
            holders x (map (amended ms) p.flights) + occurs same_slot x (origins p.flights ms) ≡ holders x p.flights + occurs same_slot x (targets ms) + count (makes x) ms →
            (o : Option Seat) → seat_of m ≡ o →
            holders x (map (amended (m ∷ ms)) p.flights) + occurs same_slot x (origins p.flights (m ∷ ms)) ≡ holders x p.flights + occurs same_slot x (targets (m ∷ ms)) + count (makes x) (m ∷ ms)
        by i f n e ih None h =
            let o = only_none m.kind (seat_of m) h in
            let c = counts_idle x m ms o.0 o.1 in
            let b = holders_idle x m ms p.flights h in
            omega arith
        by i f n e ih (Some y) h =
            let flight : flight_named p m ≡ Some f = ap (λ o. find_named o p.flights) n ∙ e in
            let b = holders_seat x m ms i n y f p.flights h (distinct i) e (seats_once all before m ms i f y a.0 a.1 n e h) in
            let b₀ = bump_adds (is_slot f.slot x) (holders x (map (amended (m ∷ ms)) p.flights)) in
            let b₁ = bump_adds (same_slot y.slot x) (holders x (map (amended ms) p.flights)) in
            ⊎_elim
            (λ q.
            let c = counts_move x m ms f y flight q.1 (not_create m q.0) in
            let c₀ = bump_adds (same_slot y.slot x) (occurs same_slot x (targets ms)) in
            let c₁ = bump_adds (is_slot f.slot x) (occurs same_slot x (origins p.flights ms)) in
            omega arith)
            (λ q.
            let c = counts_create x m ms y (not_move m q.0) q.1 in
            let c₀ = bump_adds (same_slot y.slot x) (count (makes x) ms) in
            let none = is_slot_none f.slot x (creator_slot m f a.0.alone (found_holds (λ f. slot_fits_type f ≡ true) i p.flights f e fit) flight q.0) in
            let c₁ = bump_false (is_slot f.slot x) 0 none in
            omega arith)
            (seat_cases m y a.0.read h)

    -- as many slots are left as are moved to
    moved_length : (all before ms : List Message) → Accepts s p u all before ms → length (targets ms) ≡ length (origins p.flights ms)
    moved_length all before [] a = refl
    moved_length all before (m ∷ ms) a =
        let found = found_of m.identity p.flights a.0.alone.known in
        let ih = moved_length all (before ++ m ∷ []) ms a.1 in
        by found.0 found.1 found.2 found.3 ih (seat_of m) refl
      where
        pushed : (o : Option Slot) → is_some o ≡ true → length (push o (origins p.flights ms)) ≡ suc (length (origins p.flights ms))
        pushed None h = absurd (both_ways false refl h)
        pushed (Some z) h = refl

        same_none : move_of m ≡ None → length (targets ms) ≡ length (origins p.flights ms) → length (targets (m ∷ ms)) ≡ length (origins p.flights (m ∷ ms))
        same_none v ih =
            ap (λ y. length (push (slot_in y) (targets ms))) v ∙ ih
            ∙ sym (ap (λ y. length (push (leaves y (find_named m.identity p.flights)) (origins p.flights ms))) v)

        by : (i : Identity) (f : Flight) → m.identity ≡ Some i → find i p.flights ≡ Some f → length (targets ms) ≡ length (origins p.flights ms) →
            (o : Option Seat) → seat_of m ≡ o → length (targets (m ∷ ms)) ≡ length (origins p.flights (m ∷ ms))
        by i f n e ih None h = same_none (only_none m.kind (seat_of m) h).0 ih
        by i f n e ih (Some y) h =
            let flight : flight_named p m ≡ Some f = ap (λ o. find_named o p.flights) n ∙ e in
            ⊎_elim
            (λ q.
            let some = mover_slot m f y a.0.alone (found_holds (λ f. slot_fits_type f ≡ true) i p.flights f e fit) flight q.0 q.1 in
            ap (λ y. length (push (slot_in y) (targets ms))) q.1 ∙ ap suc ih
            ∙ sym
            (ap (λ y. length (push (leaves y (find_named m.identity p.flights)) (origins p.flights ms))) q.1
            ∙ ap (λ g. length (push (leaves (Some y) g) (origins p.flights ms))) flight ∙ pushed f.slot some))
            (λ q. same_none (not_move m q.0) ih)
            (seat_cases m y a.0.read h)

    -- a slot that a move asks for is left by a move
    move_in : (all : List Message) (x : Slot) (before : List Message) (m : Message) → Accepted s p u all before m → is_slot (slot_in (move_of m)) x ≡ true → 1 ≤ occurs same_slot x (origins p.flights all)
    move_in all x before m a h = by (move_of m) refl h
      where
        owner : (o : Option Flight) → holder s u x p.flights ≡ o → holder_moves all o ≡ true → 1 ≤ occurs same_slot x (origins p.flights all)
        owner None e k = absurd (both_ways false refl k)
        owner (Some g) e k =
            let q = holder_found s u x g p.flights distinct e in
            origin_in p.flights x g all q.0 q.1 (some_true _ k)

        by : (o : Option Seat) → move_of m ≡ o → is_slot (slot_in o) x ≡ true → 1 ≤ occurs same_slot x (origins p.flights all)
        by None v h = absurd (both_ways false refl h)
        by (Some y) v h =
            let k = not-false _ (at_seat (λ x. not (holder_moves all (holder s u x.slot p.flights))) (move_of m) y v a.together.holder_moves_fact) in
            owner (holder s u x p.flights) refl (ap (λ z. holder_moves all (holder s u z p.flights)) (sym (slot_true y.slot x h)) ∙ k)

    targets_in : (all : List Message) (x : Slot) (before ms : List Message) → Accepts s p u all before ms → 1 ≤ occurs same_slot x (targets ms) → 1 ≤ occurs same_slot x (origins p.flights all)
    targets_in all x before [] a h = absurd (omega arith)
    targets_in all x before (m ∷ ms) a h =
        let b = occurs_push x (slot_in (move_of m)) (targets ms) in
        by_test (is_slot (slot_in (move_of m)) x)
        (λ q. move_in all x before m a.0 q)
        (λ q.
        let c = bump_false (is_slot (slot_in (move_of m)) x) (occurs same_slot x (targets ms)) q in
        targets_in all x (before ++ m ∷ []) ms a.1 (omega arith))

  -- no two messages name one slot
  named_more : (all : List Message) (x : Slot) (before ms : List Message) → Accepts s p u all before ms → count (names_slot x) before ≤ 1 → count (names_slot x) ms + count (names_slot x) before ≤ 1
  named_more all x before [] a h = omega arith
  named_more all x before (m ∷ ms) a h =
      let b = count_after (names_slot x) before m in
      let c = bump_adds (names_slot x m) (count (names_slot x) before) in
      let d = bump_adds (names_slot x m) (count (names_slot x) ms) in
      let more : bump (names_slot x m) (count (names_slot x) before) ≤ 1 =
      by_test (names_slot x m)
      (λ q.
      let z = some_false (count (names_slot x) before) (ap (slot_named_in before) (sym (is_slot_fact (value m.slot) x q)) ∙ a.0.together.unclaimed) in
      let y = bump_true (names_slot x m) (count (names_slot x) before) q in
      omega arith)
      (λ q. let y = bump_false (names_slot x m) (count (names_slot x) before) q in omega arith) in
      let ih = named_more all x (before ++ m ∷ []) ms a.1 (omega arith) in
      omega arith

  pub named_once : (x : Slot) (ms : List Message) → Accepts s p u ms [] ms → count (names_slot x) ms ≤ 1
  named_once x ms a = let b = named_more ms x [] ms a (omega arith) in omega arith

  -- so no two SCs make one slot
  pub made_once : (x : Slot) (ms : List Message) → Accepts s p u ms [] ms → count (makes x) ms ≤ 1
  made_once x ms a = let b = named_once x ms a in let c = named_split x ms in omega arith

  -- nobody held a slot that an SC makes
  pub made_free : (all : List Message) (x : Slot) (before ms : List Message) → Accepts s p u all before ms → 1 ≤ count (makes x) ms → holders x p.flights ≡ 0
  made_free all x before [] a h = absurd (omega arith)
  made_free all x before (m ∷ ms) a h =
      by_test (makes x m)
      (λ q. by (create_of m) refl q)
      (λ q.
      let c = bump_false (makes x m) (count (makes x) ms) q in
      made_free all x (before ++ m ∷ []) ms a.1 (omega arith))
    where
      by : (o : Option Seat) → create_of m ≡ o → is_slot (slot_in o) x ≡ true → holders x p.flights ≡ 0
      by None v h = absurd (both_ways false refl h)
      by (Some y) v h =
          let k = at_seat (λ x. some (holders x.slot p.flights)) (create_of m) y v a.0.alone.not_held in
          some_false _ (ap (λ z. some (holders z p.flights)) (sym (slot_true y.slot x h)) ∙ k)

  -- after an accepted packet each slot has as many holders as before, and one more for each SC of it
  pub effect : (ms : List Message) → Distinct p.flights → AllByRecursion (λ f. slot_fits_type f ≡ true) p.flights → Accepts s p u ms [] ms → (x : Slot) →
      holders x (map (amended ms) p.flights) ≡ holders x p.flights + count (makes x) ms
  effect ms d fit a x =
      let less : (z : Slot) → occurs same_slot z (targets ms) ≤ occurs same_slot z (origins p.flights ms) =
      (λ z.
      let b = named_once z ms a in
      let c = named_split z ms in
      below (occurs same_slot z (targets ms)) (occurs same_slot z (origins p.flights ms)) (omega arith) (targets_in d fit ms z [] ms a)) in
      let same = pigeon same_slot slot_true slot_refl (targets ms) (origins p.flights ms) less (moved_length d fit ms [] ms a) x in
      let b = moved_count d fit ms x [] ms a in
      omega arith
    where
      below : (m n : ℕ) → m ≤ 1 → (1 ≤ m → 1 ≤ n) → m ≤ n
      below zero n h f = omega arith
      below (suc m) n h f = let a = f (omega arith) in omega arith
