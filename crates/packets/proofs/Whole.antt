-- An accepted packet does all that its messages ask for, and nothing else.
use Rattle.std.proofs.Common.{◌≡◌, ℕ, ◌≤◌, true, false, cond, ◌&&◌, List, [], ◌∷◌, ◌++◌, map, Some, None, Option, unwrap_or, sym, refl, ap, ◌∙◌, arith}
use Rattle.std.proofs.lemmas.Bool.{and_from}
use Rattle.std.proofs.ByRecursion.{All-weaker}
use Rattle.std.specs.List.{AllByRecursion}
use Rattle.calendar.specs.Identities.{Identity}
use Rattle.element.specs.Meanings.{or_else}
use Rattle.flights.specs.Counts.{some}
use Rattle.flights.specs.Flights.{Flight}
use Rattle.messages.specs.declared.kind.MessageType.{MessageType}
use Rattle.messages.specs.declared.kind.MessageType.TheVariants.{Fx, Fm, Sc}
use Rattle.model.specs.Model.{Setting, Program}
use Rattle.packets.specs.Messages.{Message, message_read, seat_of, names}
use Rattle.packets.specs.StageOne.{find, find_named}
use Rattle.packets.specs.StageTwo.{count, same_type, same_named}
use Rattle.packets.specs.Amended.{first_for, cancel_from, cancel_of, erta_of, slot_after, ctd_after, cta_after, control_after, cancelled_after, amended}
use Rattle.packets.specs.Verdict.{messages_of}
use Rattle.packets.specs.Laws.{AsAsked, EffectWhole, NoneGives}
use Rattle.packets.proofs.Deciding.{by_test, is_identity_fact}
use Rattle.packets.proofs.Table.{bump_adds, bump_true, some_false}
use Rattle.packets.proofs.Accepted.{Alone, Reads, all_read, Accepts, accepts, accepts_alone}
use Rattle.packets.proofs.Amending.{flight_named_fact}
use Rattle.packets.proofs.Shifts.{count_after, seated_by, typed, type_self, found_of}
use Rattle.packets.proofs.Seats.{first_none}
use Rattle.packets.proofs.Effect.{seat_kind}
use Rattle.packets.proofs.Others.{unnamed_kept}

-- the messages that give this to the flight are of one type
abbrev OneType : {X : Type 0} → MessageType → Identity → (Message → Option X) → Message → Type 0
OneType {X} k i gives m = names m i ≡ true → (x : X) → gives m ≡ Some x → m.kind ≡ k

-- what a message gives to the flight is what it gets
abbrev Gets : {X : Type 0} → Identity → (Message → Option X) → List Message → Message → Type 0
Gets {X} i gives ms m = names m i ≡ true → (x : X) → gives m ≡ Some x → first_for i gives ms ≡ Some x

first_here : {X : Type 0} (i : Identity) (gives : Message → Option X) (m : Message) (ms : List Message) → Gets i gives (m ∷ ms) m
first_here i gives m ms n x e =
    ap (λ b. or_else (cond b (gives m) None) (first_for i gives ms)) n ∙ ap (λ o. or_else o (first_for i gives ms)) e

-- the type of the messages that can seat a flight
abbrev seat_type : Option Flight → MessageType
seat_type None = Fm
seat_type (Some f) = seated_by f

module _ {S : Type 0} (s : Setting S) (p : Program) (u : ℕ) where
  module _ {X : Type 0} (k : MessageType) (i : Identity) (gives : Message → Option X) (all : List Message) where
    -- after a message of the type for the flight, no message gives it anything more
    later_none : (before ms : List Message) → 1 ≤ count (typed k i) before → Accepts s p u all before ms → AllByRecursion (OneType k i gives) ms → NoneGives i gives ms
    later_none before [] h a t = tt
    later_none before (m ∷ ms) h a t =
        let b = count_after (typed k i) before m in
        let c = bump_adds (typed k i m) (count (typed k i) before) in
        ((λ n. by n (gives m) refl), later_none (before ++ m ∷ []) ms (omega arith) a.1 t.1)
      where
        by : names m i ≡ true → (o : Option X) → gives m ≡ o → gives m ≡ None
        by n None q = q
        by n (Some x) q =
            let one = ap (λ t. some (count (λ n. same_type n.kind t && same_named m.identity n) before)) (sym (t.0 n x q)) ∙ a.0.together.first in
            let two : some (count (typed k i) before) ≡ false =
            ap (λ j. some (count (λ n. same_type n.kind k && same_named j n) before)) (sym (is_identity_fact m.identity i n)) ∙ one in
            let zero = some_false _ two in
            absurd (omega arith)

    -- one message more before them takes nothing away
    first_later : (before : List Message) (m : Message) (ms : List Message) → Accepts s p u all before (m ∷ ms) → AllByRecursion (OneType k i gives) (m ∷ ms) →
        (x : X) → first_for i gives ms ≡ Some x → first_for i gives (m ∷ ms) ≡ Some x
    first_later before m ms a t x e =
        by_test (names m i)
        (λ n. by n (gives m) refl)
        (λ n. ap (λ b. or_else (cond b (gives m) None) (first_for i gives ms)) n ∙ e)
      where
        by : names m i ≡ true → (o : Option X) → gives m ≡ o → first_for i gives (m ∷ ms) ≡ Some x
        by n None q =
            ap (λ b. or_else (cond b (gives m) None) (first_for i gives ms)) n ∙ ap (λ o. or_else o (first_for i gives ms)) q ∙ e
        by n (Some y) q =
            let type : typed k i m ≡ true = and_from _ _ (ap (λ j. same_type j k) (t.0 n y q) ∙ type_self k) n in
            let b = count_after (typed k i) before m in
            let c = bump_true (typed k i m) (count (typed k i) before) type in
            let none = first_none i gives ms (later_none (before ++ m ∷ []) ms (omega arith) a.1 t.1) in
            let z : ◌≡◌ {A = ℕ} 0 1 = cc in
            absurd (omega arith)

    all_get : (before ms : List Message) → Accepts s p u all before ms → AllByRecursion (OneType k i gives) ms → AllByRecursion (Gets i gives ms) ms
    all_get before [] a t = tt
    all_get before (m ∷ ms) a t = (
      first_here i gives m ms,
      All-weaker _ _ (λ w g n x e. first_later before m ms a t x (g n x e)) ms (all_get (before ++ m ∷ []) ms a.1 t.1),
    )

  -- the messages that seat a flight are of one type, and so are those that cancel it
  seat_type_fact : (i : Identity) (m : Message) → Alone s p u m → Reads m → OneType (seat_type (find i p.flights)) i seat_of m
  seat_type_fact i m a r n x e =
      let g = found_of m.identity p.flights a.known in
      let found : find i p.flights ≡ Some g.1 = ap (λ o. find_named o p.flights) (sym (is_identity_fact m.identity i n)) ∙ (ap (λ o. find_named o p.flights) g.2 ∙ g.3) in
      seat_kind s p u m g.1 x a r (flight_named_fact p m i g.1 n found) e ∙ ap seat_type (sym found)

  cancel_type : (i : Identity) (m : Message) → OneType Fx i cancel_of m
  cancel_type i m n x e = by m.kind e
    where
      by : (k : MessageType) → cancel_from k m.hold ≡ Some x → k ≡ Fx
      by Fx e = refl
      by Fm e = let z : ◌≡◌ {A = ℕ} 0 1 = cc in absurd (omega arith)
      by Sc e = let z : ◌≡◌ {A = ℕ} 0 1 = cc in absurd (omega arith)

  -- the messages of an accepted packet, one by one
  asked : (f : Flight) (all ms : List Message) → AllByRecursion (Gets f.identity seat_of all) ms → AllByRecursion (Gets f.identity cancel_of all) ms → AllByRecursion (Gets f.identity erta_of all) ms →
      AllByRecursion (λ m. names m f.identity ≡ true → AsAsked m (amended all f)) ms
  asked f all [] seat cancel erta = tt
  asked f all (m ∷ ms) seat cancel erta = (
    (λ n. record {
      seat = λ x e. let q = seat.0 n x e in record {
        slot = ap (λ o. slot_after o f.slot) q;
        ctd = ap (λ o. ctd_after o f.ctd) q;
        cta = ap (λ o. cta_after o f.cta) q;
        control = ap (λ o. control_after o f.control) q;
      };
      cancel = λ b e. let q = cancel.0 n b e in record {
        cancelled = ap (λ o. cancelled_after o f.cancelled) q;
        hold = ap (λ o. unwrap_or o f.hold) q;
      };
      erta = λ t e. ap (λ o. or_else o f.erta) (erta.0 n t e);
    }),
    asked f all ms seat.1 cancel.1 erta.1,
  )

pub effect_whole : {S : Type 0} (s : Setting S) → EffectWhole s
effect_whole s p u ls pass f =
    let i = f.identity in
    let os = map (message_read s.element p.days) ls in
    let ms = messages_of os in
    let a = accepts s p u os (all_read s.element p.days ls) pass in
    let each = accepts_alone s p u ms [] ms a in
    record {
      unnamed = unnamed_kept ms f;
      asked = asked s p u f ms ms
          (all_get s p u (seat_type (find i p.flights)) i seat_of ms [] ms a (All-weaker _ _ (λ m h. seat_type_fact s p u i m h.0 h.1) ms each))
          (all_get s p u Fx i cancel_of ms [] ms a (All-weaker _ _ (λ m h. cancel_type s p u i m) ms each))
          (all_get s p u Fm i erta_of ms [] ms a (All-weaker _ _ (λ m h n. h.1.timed) ms each));
      seat = λ h. let q = first_none i seat_of ms h in record {
        slot = ap (λ o. slot_after o f.slot) q;
        ctd = ap (λ o. ctd_after o f.ctd) q;
        cta = ap (λ o. cta_after o f.cta) q;
        control = ap (λ o. control_after o f.control) q;
      };
      cancel = λ h. let q = first_none i cancel_of ms h in record {
        cancelled = ap (λ o. cancelled_after o f.cancelled) q;
        hold = ap (λ o. unwrap_or o f.hold) q;
      };
      erta = λ h. ap (λ o. or_else o f.erta) (first_none i erta_of ms h);
      identity = refl;
      exempt = refl;
      departed = refl;
    }
