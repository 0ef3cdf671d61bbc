-- The verdict on a packet is the same for flights that are alike to its user.
use Rattle.std.proofs.Common.{◌≡◌, ℕ, Bool, false, cond, not, ◌&&◌, ◌||◌, List, [], ◌∷◌, ◌++◌, map, is_some, Some, None, Option, sym, refl, ap, ◌∙◌, ap₂}
use Rattle.std.proofs.lemmas.Bool.{cond-true, cond-false, and_left}
use Rattle.std.specs.List.{AllZip, AllByRecursion}
use Rattle.calendar.specs.Identities.{Identity, same_identity, carrier_of}
use Rattle.element.specs.Slots.{Slot}
use Rattle.flights.specs.Counts.{some}
use Rattle.flights.specs.Flights.{Flight, is_slot, holders}
use Rattle.model.specs.Model.{Setting, Program}
use Rattle.packets.specs.Messages.{Message, move_of, create_of}
use Rattle.packets.specs.StageOne.{find, find_named, flight_named, is_user, owns, of_flight, of_seat, untimely, incomplete, no_slot_name, wants_control, is_pop_up_type, off_slot, off_minute, ete_fits, held, first_of, stage_one, fault_alone}
use Rattle.packets.specs.StageTwo.{repeated, holder, claimed, holder_moves, stage_two, faults_together}
use Rattle.packets.specs.Verdict.{messages_of, all_pass, line_numbers}
use Rattle.packets.specs.Laws.{SameTo, VerdictOwn}
use Rattle.packets.proofs.Deciding.{by_test}

module _ {S : Type 0} (s : Setting S) (u : ℕ) where
  -- flights with one identity have one user
  pub same_owner : (f g : Flight) → f.identity ≡ g.identity → owns s u f ≡ owns s u g
  same_owner f g e = ap (λ (i : Identity). is_user (s.carrier (carrier_of i)) u) e

  -- both find none, or both find flights that are the same to the user
  abbrev SameFound : Option Flight → Option Flight → Type 0
  SameFound None None = Unit {0}
  SameFound None (Some g) = ⊥
  SameFound (Some f) None = ⊥
  SameFound (Some f) (Some g) = SameTo s u f g

  find_same : (i : Identity) (fs gs : List Flight) → AllZip (SameTo s u) fs gs → SameFound (find i fs) (find i gs)
  find_same i [] [] a = tt
  find_same i [] (g ∷ gs) a = absurd a
  find_same i (f ∷ fs) [] a = absurd a
  find_same i (f ∷ fs) (g ∷ gs) a =
      let rest = find_same i fs gs a.1 in
      let e : same_identity f.identity i ≡ same_identity g.identity i = ap (λ (j : Identity). same_identity j i) a.0.identity in
      by_test (same_identity f.identity i)
      (λ q. rw q (rw (sym e ∙ q) a.0))
      (λ q. rw q (rw (sym e ∙ q) rest))

  named_same : (o : Option Identity) (fs gs : List Flight) → AllZip (SameTo s u) fs gs → SameFound (find_named o fs) (find_named o gs)
  named_same None fs gs a = tt
  named_same (Some i) fs gs a = find_same i fs gs a

  -- the flight of the user that holds a slot is the same
  holder_same : (x : Slot) (fs gs : List Flight) → AllZip (SameTo s u) fs gs → holder s u x fs ≡ holder s u x gs
  holder_same x [] [] a = refl
  holder_same x [] (g ∷ gs) a = absurd a
  holder_same x (f ∷ fs) [] a = absurd a
  holder_same x (f ∷ fs) (g ∷ gs) a =
      let rest = holder_same x fs gs a.1 in
      let e = same_owner f g a.0.identity in
      by_test (owns s u f)
      (λ q. ap₂ (λ (h : Flight) (o : Option Flight). cond (owns s u h && is_slot h.slot x) (Some h) o) (a.0.own q) rest)
      (λ q.
      cond-false (owns s u f && is_slot f.slot x) (Some f) (holder s u x fs) (and_left (owns s u f) (is_slot f.slot x) q)
      ∙ (rest ∙ sym (cond-false (owns s u g && is_slot g.slot x) (Some g) (holder s u x gs) (and_left (owns s u g) (is_slot g.slot x) (sym e ∙ q)))))

  -- stage one by the flight that is found and by whether the slot is held: the numbers after 706, and all of them
  abbrev late : Message → Option Flight → Bool → List (ℕ × Bool)
  late m o h =
      (707, wants_control m.kind && of_flight (λ f. not (is_some f.control)) o)
      ∷ (708, not (wants_control m.kind) && of_flight (λ f. is_some f.control) o)
      ∷ (709, of_flight (λ f. f.departed) o)
      ∷ (710, (is_some (move_of m) || m.hold) && of_flight (λ f. is_pop_up_type f.control) o)
      ∷ (501, off_slot m)
      ∷ (711, off_minute m)
      ∷ (712, of_flight (λ f. of_seat (λ x. not (ete_fits f x)) (move_of m) || of_seat (λ x. not (ete_fits f x)) (create_of m)) o)
      ∷ (713, h)
      ∷ []

  abbrev one_by : Message → Option Flight → Bool → List (ℕ × Bool)
  one_by m o h =
      (702, untimely m)
      ∷ (703, incomplete m)
      ∷ (704, no_slot_name m)
      ∷ (705, not (is_some o))
      ∷ (706, of_flight (λ f. not (owns s u f)) o)
      ∷ late m o h

  -- a flight of another user ends stage one at 706, whatever else it is
  ends_foreign : (m : Message) (f : Flight) (h : Bool) → owns s u f ≡ false →
      first_of (one_by m (Some f) h) ≡ cond (untimely m) 702 (cond (incomplete m) 703 (cond (no_slot_name m) 704 706))
  ends_foreign m f h q =
      ap (λ (n : ℕ). cond (untimely m) 702 (cond (incomplete m) 703 (cond (no_slot_name m) 704 n)))
      (cond-true (not (owns s u f)) 706 (first_of (late m (Some f) h)) (ap not q))

  one_by_same : (m : Message) (o o' : Option Flight) (h h' : Bool) → SameFound o o' → h ≡ h' → first_of (one_by m o h) ≡ first_of (one_by m o' h')
  one_by_same m None None h h' a e = ap (λ (b : Bool). first_of (one_by m None b)) e
  one_by_same m None (Some g) h h' a e = absurd a
  one_by_same m (Some f) None h h' a e = absurd a
  one_by_same m (Some f) (Some g) h h' a e =
      by_test (owns s u f)
      (λ q. ap₂ (λ (k : Flight) (b : Bool). first_of (one_by m (Some k) b)) (a.own q) e)
      (λ q. ends_foreign m f h q ∙ sym (ends_foreign m g h' (sym (same_owner f g a.identity) ∙ q)))

  -- stage two by the user's holders of slots
  abbrev two_by : List Message → List Message → Message → (Slot → Option Flight) → List (ℕ × Bool)
  two_by all before m h =
      (714, repeated before m)
      ∷ (715, of_seat (λ x. not (is_some (h x.slot))) (move_of m))
      ∷ (716, claimed before m)
      ∷ (717, of_seat (λ x. not (holder_moves all (h x.slot))) (move_of m))
      ∷ []

  module _ (p q : Program) (a : AllZip (SameTo s u) p.flights q.flights) where
    alone_same : (m : Message) → held p m ≡ held q m → first_of (stage_one s p u m) ≡ first_of (stage_one s q u m)
    alone_same m h =
        one_by_same m (flight_named p m) (flight_named q m) (held p m) (held q m) (named_same m.identity p.flights q.flights a) h

    all_alone_same : (os : List (Option Message)) → AllByRecursion (λ m. held p m ≡ held q m) (messages_of os) → map (fault_alone s p u) os ≡ map (fault_alone s q u) os
    all_alone_same [] h = refl
    all_alone_same (None ∷ os) h = ap (λ (ns : List ℕ). 701 ∷ ns) (all_alone_same os h)
    all_alone_same (Some m ∷ os) h = ap₂ (λ (n : ℕ) (ns : List ℕ). n ∷ ns) (alone_same m h.0) (all_alone_same os h.1)

    two_same : (all before : List Message) (m : Message) → first_of (stage_two s p u all before m) ≡ first_of (stage_two s q u all before m)
    two_same all before m =
        let e : ◌≡◌ {A = Slot → Option Flight} (λ x. holder s u x p.flights) (λ x. holder s u x q.flights) =
        (λ i x. holder_same x p.flights q.flights a i) in
        ap (λ (h : Slot → Option Flight). first_of (two_by all before m h)) e

    together_same : (all before ms : List Message) → faults_together s p u all before ms ≡ faults_together s q u all before ms
    together_same all before [] = refl
    together_same all before (m ∷ ms) = ap₂ (λ (n : ℕ) (ns : List ℕ). n ∷ ns) (two_same all before m) (together_same all (before ++ m ∷ []) ms)

    -- it is enough that the slots of the packet's SCs are held in both or in neither
    pub numbers_same : (os : List (Option Message)) → AllByRecursion (λ m. held p m ≡ held q m) (messages_of os) → line_numbers s p u os ≡ line_numbers s q u os
    numbers_same os h =
        ap₂ (λ (one two : List ℕ). cond (all_pass one) two one) (all_alone_same os h) (together_same (messages_of os) [] (messages_of os))

held_same : (p q : Program) → ((x : Slot) → some (holders x p.flights) ≡ some (holders x q.flights)) → (ms : List Message) → AllByRecursion (λ m. held p m ≡ held q m) ms
held_same p q h [] = tt
held_same p q h (m ∷ ms) =
    let e : ◌≡◌ {A = Slot → Bool} (λ x. some (holders x p.flights)) (λ x. some (holders x q.flights)) = (λ i x. h x i) in
    (ap (λ (test : Slot → Bool). of_seat (λ x. test x.slot) (create_of m)) e, held_same p q h ms)

pub verdict_own : {S : Type 0} (s : Setting S) → VerdictOwn s
verdict_own s p q u os a = numbers_same s u p q a.flights os (held_same p q a.held (messages_of os))
