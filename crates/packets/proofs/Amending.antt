-- A flight keeps its own rules where an accepted packet amends it.
use Rattle.std.proofs.Common.{◌≡◌, ℕ, ◌+◌, ◌≤◌, Bool, true, false, cond, not, ◌&&◌, ◌||◌, eqb, ltb, ◌⊎◌, List, [], ◌∷◌, map, is_some, Some, None, Option, sym, refl, ap, ◌∙◌, inl, inr, ⊎_elim, arith}
use Rattle.std.proofs.lemmas.Bool.{both_ways, and_parts, and_from, or_parts, or_right, cond-true, cond-false, not-false, not_from_false, eqb-true, le-leb}
use Rattle.std.specs.List.{AllByRecursion}
use Rattle.calendar.specs.Days.{Minute}
use Rattle.calendar.specs.Identities.{Identity, same_identity}
use Rattle.element.specs.Slots.{Slot, marks_pop_up}
use Rattle.element.specs.Meanings.{Meaning, or_else}
use Rattle.flights.specs.declared.flight.ControlType.{ControlType}
use Rattle.flights.specs.Counts.{agree}
use Rattle.flights.specs.Flights.{Flight, bearers}
use Rattle.flights.specs.Standing.{asks_slot, slot_fits_type, hold_fits, departs_first, in_slot, arrives_in_slot, holds_real_slot, arrival_served, flight_stands}
use Rattle.messages.specs.declared.kind.MessageType.{MessageType}
use Rattle.messages.specs.declared.kind.MessageType.TheVariants.{Fx, Fm, Sc}
use Rattle.model.specs.Model.{Setting, Program}
use Rattle.packets.specs.Given.{value}
use Rattle.packets.specs.Messages.{Message, Seat, seat_from, seat_of, only_fm, only_sc, move_of, create_of, names}
use Rattle.packets.specs.StageOne.{find, find_named, flight_named, of_flight, of_seat, is_pop_up_type, wants_control, ete_fits}
use Rattle.packets.specs.Amended.{first_for, cancel_from, cancel_of, erta_of, amended_by, amended}
use Rattle.packets.proofs.Deciding.{by_test, identity_true, identity_refl, is_identity_fact}
use Rattle.packets.proofs.Table.{bump_adds, bump_true}
use Rattle.packets.proofs.Accepted.{Alone, Reads}

-- no two flights have one identity
abbrev pub Distinct : List Flight → Type 0
Distinct fs = (i : Identity) → bearers i fs ≤ 1

pub distinct_tail : (f : Flight) (fs : List Flight) → Distinct (f ∷ fs) → Distinct fs
distinct_tail f fs d i = let a = d i in let b = bump_adds (same_identity f.identity i) (bearers i fs) in omega arith

-- a flight that is found has the identity, and what holds of each flight
pub found_identity : (i : Identity) (fs : List Flight) (f : Flight) → find i fs ≡ Some f → f.identity ≡ i
found_identity i [] f e = let z : ◌≡◌ {A = ℕ} 0 1 = cc in absurd (omega arith)
found_identity i (g ∷ gs) f e =
    by_test (same_identity g.identity i)
    (λ q.
    let gf : Some g ≡ Some f = sym (cond-true (same_identity g.identity i) (Some g) (find i gs) q) ∙ e in
    let same : g ≡ f = cc in
    ap (λ (x : Flight). x.identity) (sym same) ∙ identity_true g.identity i q)
    (λ q. found_identity i gs f (sym (cond-false (same_identity g.identity i) (Some g) (find i gs) q) ∙ e))

pub found_holds : (P : Flight → Type 0) (i : Identity) (fs : List Flight) (f : Flight) → find i fs ≡ Some f → AllByRecursion P fs → P f
found_holds P i [] f e a = let z : ◌≡◌ {A = ℕ} 0 1 = cc in absurd (omega arith)
found_holds P i (g ∷ gs) f e a =
    by_test (same_identity g.identity i)
    (λ q.
    let gf : Some g ≡ Some f = sym (cond-true (same_identity g.identity i) (Some g) (find i gs) q) ∙ e in
    let same : g ≡ f = cc in
    rw (← same) a.0)
    (λ q. found_holds P i gs f (sym (cond-false (same_identity g.identity i) (Some g) (find i gs) q) ∙ e) a.1)

pub found_borne : (i : Identity) (fs : List Flight) (f : Flight) → find i fs ≡ Some f → 1 ≤ bearers i fs
found_borne i [] f e = let z : ◌≡◌ {A = ℕ} 0 1 = cc in absurd (omega arith)
found_borne i (g ∷ gs) f e =
    by_test (same_identity g.identity i)
    (λ q. rw q (omega arith))
    (λ q. rw q (found_borne i gs f (sym (cond-false (same_identity g.identity i) (Some g) (find i gs) q) ∙ e)))

pub find_tail : (g : Flight) (gs : List Flight) (i : Identity) (f : Flight) → Distinct (g ∷ gs) → find i gs ≡ Some f → find i (g ∷ gs) ≡ Some f
find_tail g gs i f d e =
    by_test (same_identity g.identity i)
    (λ q.
    let a = found_borne i gs f e in
    let b = d i in
    let c = bump_true (same_identity g.identity i) (bearers i gs) q in
    absurd (omega arith))
    (λ q. cond-false (same_identity g.identity i) (Some g) (find i gs) q ∙ e)

pub find_head : (f : Flight) (fs : List Flight) → find f.identity (f ∷ fs) ≡ Some f
find_head f fs = cond-true (same_identity f.identity f.identity) (Some f) (find f.identity fs) (identity_refl f.identity)

-- each flight is found by its identity
find_tails : (g : Flight) (gs hs : List Flight) → Distinct (g ∷ gs) → AllByRecursion (λ f. find f.identity gs ≡ Some f) hs → AllByRecursion (λ f. find f.identity (g ∷ gs) ≡ Some f) hs
find_tails g gs [] d a = tt
find_tails g gs (h ∷ hs) d a = (find_tail g gs h.identity h d a.0, find_tails g gs hs d a.1)

pub all_found : (fs : List Flight) → Distinct fs → AllByRecursion (λ f. find f.identity fs ≡ Some f) fs
all_found [] d = tt
all_found (f ∷ fs) d = (find_head f fs, find_tails f fs fs d (all_found fs (distinct_tail f fs d)))

-- a message that names the identity has the flight
pub flight_named_fact : (p : Program) (m : Message) (i : Identity) (f : Flight) → names m i ≡ true → find i p.flights ≡ Some f → flight_named p m ≡ Some f
flight_named_fact p m i f n e = ap (λ o. find_named o p.flights) (is_identity_fact m.identity i n) ∙ e

pub at_flight : (test : Flight → Bool) (o : Option Flight) (f : Flight) → o ≡ Some f → of_flight test o ≡ false → test f ≡ false
at_flight test o f e h = ap (of_flight test) (sym e) ∙ h

pub at_seat : (test : Seat → Bool) (o : Option Seat) (x : Seat) → o ≡ Some x → of_seat test o ≡ false → test x ≡ false
at_seat test o x e h = ap (of_seat test) (sym e) ∙ h

-- a message with a seat is a move or an SC
pub seat_cases : (m : Message) (x : Seat) → Reads m → seat_of m ≡ Some x → ((m.kind ≡ Fm) × (move_of m ≡ Some x)) ⊎ ((m.kind ≡ Sc) × (create_of m ≡ Some x))
seat_cases m x r e = by m.kind refl
  where
    by : (k : MessageType) → m.kind ≡ k → ((m.kind ≡ Fm) × (move_of m ≡ Some x)) ⊎ ((m.kind ≡ Sc) × (create_of m ≡ Some x))
    by Fx q = let a = r.unseated q in let z : ◌≡◌ {A = ℕ} 0 1 = cc in absurd (omega arith)
    by Fm q = inl (q, ap (λ k. only_fm k (seat_of m)) q ∙ e)
    by Sc q = inr (q, ap (λ k. only_sc k (seat_of m)) q ∙ e)

-- a seat's slot is the message's
seat_from_fact : (d a : Option Minute) (o : Option Slot) (x : Seat) → seat_from d a o ≡ Some x → o ≡ Some x.slot
seat_from_fact None a o x e = let z : ◌≡◌ {A = ℕ} 0 1 = cc in absurd (omega arith)
seat_from_fact (Some d) None o x e = let z : ◌≡◌ {A = ℕ} 0 1 = cc in absurd (omega arith)
seat_from_fact (Some d) (Some a) None x e = let z : ◌≡◌ {A = ℕ} 0 1 = cc in absurd (omega arith)
seat_from_fact (Some d) (Some a) (Some y) x e =
    let same : record { ctd = d; cta = a; slot = y } ≡ x = cc in
    ap (λ (x : Seat). Some x.slot) same

pub seat_slot : (m : Message) (x : Seat) → seat_of m ≡ Some x → value m.slot ≡ Some x.slot
seat_slot m x e = seat_from_fact (value m.ctd) (value m.cta) (value m.slot) x e

-- a seat that a flight can take
pub record Fits (x : Seat) : Type 0 where
  pub departs : ltb x.ctd x.cta ≡ true
  pub arrives : in_slot (Some x.slot) x.cta ≡ true
  pub real : marks_pop_up x.slot ≡ false

-- the rules of a flight, one by one
record Parts (e : Meaning) (f : Flight) : Type 0 where
  fits : slot_fits_type f ≡ true
  hold : hold_fits f ≡ true
  departs : departs_first f ≡ true
  arrives : arrives_in_slot f ≡ true
  real : holds_real_slot f ≡ true
  served : arrival_served e f ≡ true

parts_of_fact : (e : Meaning) (f : Flight) → flight_stands e f ≡ true → Parts e f
parts_of_fact e f h =
    let a = and_parts _ (arrival_served e f) h in
    let b = and_parts _ (holds_real_slot f) a.0 in
    let c = and_parts _ (arrives_in_slot f) b.0 in
    let d = and_parts _ (departs_first f) c.0 in
    let g = and_parts (slot_fits_type f) (hold_fits f) d.0 in
    record { fits = g.0; hold = g.1; departs = d.1; arrives = c.1; real = b.1; served = a.1 }

parts_stand : (e : Meaning) (f : Flight) → Parts e f → flight_stands e f ≡ true
parts_stand e f p =
    and_from _ _ (and_from _ _ (and_from _ _ (and_from _ _ (and_from _ _ p.fits p.hold) p.departs) p.arrives) p.real) p.served

pub slot_fits : (e : Meaning) (f : Flight) → flight_stands e f ≡ true → slot_fits_type f ≡ true
slot_fits e f h = (parts_of_fact e f h).fits

agree_same : (a b : Bool) → agree a b ≡ true → a ≡ b
agree_same true b h = sym h
agree_same false true h = h
agree_same false false h = refl

asked : (o : Option ControlType) → is_some o ≡ true → is_pop_up_type o ≡ false → asks_slot o ≡ true
asked None h k = h
asked (Some t) h k = ap not k

not_asked : (o : Option ControlType) → is_some o ≡ false → asks_slot o ≡ false
not_asked None h = refl
not_asked (Some t) h = absurd (both_ways true h refl)

-- a controlled flight that is no pop-up has a slot, and one without control has none
pub slot_there : (f : Flight) → slot_fits_type f ≡ true → is_some f.control ≡ true → is_pop_up_type f.control ≡ false → is_some f.slot ≡ true
slot_there f h c q = agree_same (is_some f.slot) (asks_slot f.control) h ∙ asked f.control c q

pub slot_none : (f : Flight) → slot_fits_type f ≡ true → is_some f.control ≡ false → is_some f.slot ≡ false
slot_none f h c = agree_same (is_some f.slot) (asks_slot f.control) h ∙ not_asked f.control c

-- a hold needs a cancelled flight with a slot
hold_kept : (seat : Option Seat) (cancel : Option Bool) (erta : Option Minute) (f : Flight) → hold_fits f ≡ true →
    ((b : Bool) → cancel ≡ Some b → b ≡ true → is_some f.slot ≡ true) → hold_fits (amended_by seat cancel erta f) ≡ true
hold_kept None None erta f h k = h
hold_kept None (Some false) erta f h k = refl
hold_kept None (Some true) erta f h k = k true refl refl
hold_kept (Some x) None erta f h k =
    by_test f.hold
    (λ e. let g = (rw e at h) in let p = and_parts f.cancelled (is_some f.slot) g in rw e (and_from _ _ p.0 refl))
    (λ e. rw e refl)
hold_kept (Some x) (Some false) erta f h k = refl
hold_kept (Some x) (Some true) erta f h k = refl

pub amended_parts : (e : Meaning) (seat : Option Seat) (cancel : Option Bool) (erta : Option Minute) (f : Flight) → flight_stands e f ≡ true →
    ((x : Seat) → seat ≡ Some x → Fits x) → ((b : Bool) → cancel ≡ Some b → b ≡ true → is_some f.slot ≡ true) →
    flight_stands e (amended_by seat cancel erta f) ≡ true
amended_parts e None cancel erta f h fit k =
    let p = parts_of_fact e f h in
    parts_stand e (amended_by None cancel erta f) (record {
      fits = p.fits;
      hold = hold_kept None cancel erta f p.hold k;
      departs = p.departs;
      arrives = p.arrives;
      real = p.real;
      served = p.served;
    })
amended_parts e (Some x) cancel erta f h fit k =
    let p = parts_of_fact e f h in
    let q = fit x refl in
    parts_stand e (amended_by (Some x) cancel erta f) (record {
      fits = refl;
      hold = hold_kept (Some x) cancel erta f p.hold k;
      departs = q.departs;
      arrives = q.arrives;
      real = not_from_false (marks_pop_up x.slot) q.real;
      served = p.served;
    })

-- what the first message that names the flight gives is what some message that names it gives
first_from : {X : Type 0} (P : X → Type 0) (i : Identity) (gives : Message → Option X) (ms : List Message) →
    AllByRecursion (λ m. names m i ≡ true → (x : X) → gives m ≡ Some x → P x) ms → (x : X) → first_for i gives ms ≡ Some x → P x
first_from P i gives [] a x e = let z : ◌≡◌ {A = ℕ} 0 1 = cc in absurd (omega arith)
first_from {X} P i gives (m ∷ ms) a x e =
    by_test (names m i)
    (λ n. by (gives m) (a.0 n) (ap (λ b. or_else (cond b (gives m) None) (first_for i gives ms)) (sym n) ∙ e) (first_from P i gives ms a.1 x))
    (λ n. first_from P i gives ms a.1 x (ap (λ b. or_else (cond b (gives m) None) (first_for i gives ms)) (sym n) ∙ e))
  where
    by : (o : Option X) → ((y : X) → o ≡ Some y → P y) → or_else o (first_for i gives ms) ≡ Some x → (first_for i gives ms ≡ Some x → P x) → P x
    by None f h k = k h
    by (Some y) f h k = f x h

module _ {S : Type 0} (s : Setting S) (p : Program) (u : ℕ) where
  -- a move or an SC that passes stage one has a seat that fits
  seat_fits : (m : Message) (f : Flight) (x : Seat) → Alone s p u m → Reads m → flight_named p m ≡ Some f → seat_of m ≡ Some x → Fits x
  seat_fits m f x a r e h =
      let over = at_flight (λ f. of_seat (λ x. not (ete_fits f x)) (move_of m) || of_seat (λ x. not (ete_fits f x)) (create_of m)) (flight_named p m) f e a.ete_fits_fact in
      let both = or_parts (of_seat (λ x. not (ete_fits f x)) (move_of m)) (of_seat (λ x. not (ete_fits f x)) (create_of m)) over in
      let real = r.real x.slot (seat_slot m x h) in
      ⊎_elim
      (λ q. record {
        departs = (and_parts (ltb x.ctd x.cta) _ (not-false _ (at_seat (λ x. not (ete_fits f x)) (move_of m) x q.1 both.0))).0;
        arrives = not-false _ (at_seat (λ x. not (in_slot (Some x.slot) x.cta)) (move_of m) x q.1 a.in_slot_fact);
        real = real;
      })
      (λ q.
      let minute = eqb-true x.cta x.slot.minute (not-false _ (at_seat (λ x. not (eqb x.cta x.slot.minute)) (create_of m) x q.1 a.on_minute)) in
      record {
        departs = (and_parts (ltb x.ctd x.cta) _ (not-false _ (at_seat (λ x. not (ete_fits f x)) (create_of m) x q.1 both.1))).0;
        arrives = and_from _ _ (le-leb x.slot.minute x.cta (omega arith)) (le-leb x.cta (x.slot.minute + 20) (omega arith));
        real = real;
      })
      (seat_cases m x r h)

  -- the flight of an FX or FM is controlled, that of an SC is not, and that of a move or a hold is no pop-up
  pub has_control : (m : Message) (f : Flight) → Alone s p u m → flight_named p m ≡ Some f → wants_control m.kind ≡ true → is_some f.control ≡ true
  has_control m f a e w =
      not-false _ (at_flight (λ f. not (is_some f.control)) (flight_named p m) f e
      (ap (λ b. b && of_flight (λ f. not (is_some f.control)) (flight_named p m)) (sym w) ∙ a.under_control))

  pub no_control : (m : Message) (f : Flight) → Alone s p u m → flight_named p m ≡ Some f → wants_control m.kind ≡ false → is_some f.control ≡ false
  no_control m f a e w =
      at_flight (λ f. is_some f.control) (flight_named p m) f e
      (ap (λ b. not b && of_flight (λ f. is_some f.control) (flight_named p m)) (sym w) ∙ a.out_of_control)

  pub not_pop_up : (m : Message) (f : Flight) → Alone s p u m → flight_named p m ≡ Some f → (is_some (move_of m) || m.hold) ≡ true → is_pop_up_type f.control ≡ false
  not_pop_up m f a e w =
      at_flight (λ f. is_pop_up_type f.control) (flight_named p m) f e
      (ap (λ b. b && of_flight (λ f. is_pop_up_type f.control) (flight_named p m)) (sym w) ∙ a.no_pop_up)

  -- an FX that passes stage one and holds has a flight with a slot
  hold_fits_fact : (m : Message) (f : Flight) (b : Bool) → Alone s p u m → slot_fits_type f ≡ true → flight_named p m ≡ Some f → cancel_of m ≡ Some b → b ≡ true → is_some f.slot ≡ true
  hold_fits_fact m f b a h e c t = by m.kind refl
    where
      by : (k : MessageType) → m.kind ≡ k → is_some f.slot ≡ true
      by Fx q =
          let c' : Some m.hold ≡ Some b = sym (ap (λ k. cancel_from k m.hold) q) ∙ c in
          let same : m.hold ≡ b = cc in
          slot_there f h (has_control m f a e (ap wants_control q)) (not_pop_up m f a e (or_right (is_some (move_of m)) m.hold (same ∙ t)))
      by Fm q =
          let c' : None ≡ Some b = sym (ap (λ k. cancel_from k m.hold) q) ∙ c in
          let z : ◌≡◌ {A = ℕ} 0 1 = cc in absurd (omega arith)
      by Sc q =
          let c' : None ≡ Some b = sym (ap (λ k. cancel_from k m.hold) q) ∙ c in
          let z : ◌≡◌ {A = ℕ} 0 1 = cc in absurd (omega arith)

  all_fit : (i : Identity) (f : Flight) (ms : List Message) → find i p.flights ≡ Some f → AllByRecursion (λ m. Alone s p u m × Reads m) ms →
      AllByRecursion (λ m. names m i ≡ true → (x : Seat) → seat_of m ≡ Some x → Fits x) ms
  all_fit i f [] e a = tt
  all_fit i f (m ∷ ms) e a = ((λ n x h. seat_fits m f x a.0.0 a.0.1 (flight_named_fact p m i f n e) h), all_fit i f ms e a.1)

  all_hold : (i : Identity) (f : Flight) (ms : List Message) → slot_fits_type f ≡ true → find i p.flights ≡ Some f → AllByRecursion (λ m. Alone s p u m × Reads m) ms →
      AllByRecursion (λ m. names m i ≡ true → (b : Bool) → cancel_of m ≡ Some b → b ≡ true → is_some f.slot ≡ true) ms
  all_hold i f [] h e a = tt
  all_hold i f (m ∷ ms) h e a = ((λ n b c t. hold_fits_fact m f b a.0.0 h (flight_named_fact p m i f n e) c t), all_hold i f ms h e a.1)

  -- the flight as the messages leave it keeps its own rules
  pub amended_stands : (e : Meaning) (ms : List Message) (f : Flight) → AllByRecursion (λ m. Alone s p u m × Reads m) ms →
      find f.identity p.flights ≡ Some f → flight_stands e f ≡ true → flight_stands e (amended ms f) ≡ true
  amended_stands e ms f a found h =
      let i = f.identity in
      amended_parts e (first_for i seat_of ms) (first_for i cancel_of ms) (first_for i erta_of ms) f h
      (first_from Fits i seat_of ms (all_fit i f ms found a))
      (first_from (λ b. b ≡ true → is_some f.slot ≡ true) i cancel_of ms (all_hold i f ms (slot_fits e f h) found a))

  -- and so do all flights
  pub all_amended : (e : Meaning) (ms : List Message) (gs : List Flight) → AllByRecursion (λ m. Alone s p u m × Reads m) ms →
      AllByRecursion (λ f. find f.identity p.flights ≡ Some f) gs → AllByRecursion (λ f. flight_stands e f ≡ true) gs → AllByRecursion (λ f. flight_stands e f ≡ true) (map (amended ms) gs)
  all_amended e ms [] a found h = tt
  all_amended e ms (f ∷ fs) a found h = (amended_stands e ms f a found.0 h.0, all_amended e ms fs a found.1 h.1)
