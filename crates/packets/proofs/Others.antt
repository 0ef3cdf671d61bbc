-- An accepted packet touches its user's flights only.
use Rattle.std.proofs.Common.{◌≡◌, ℕ, true, false, not, eqb, List, [], ◌∷◌, map, is_some, Some, None, Option, sym, refl, ap, ◌∙◌}
use Rattle.std.proofs.lemmas.Bool.{both_ways, not-false, cond-false, eqb-true}
use Rattle.std.specs.List.{AllZip, AllByRecursion}
use Rattle.calendar.specs.Identities.{Identity, carrier_of}
use Rattle.element.specs.Meanings.{or_else}
use Rattle.flights.specs.Flights.{Flight}
use Rattle.model.specs.Model.{Setting, Program}
use Rattle.packets.specs.Messages.{Message, seat_of, names}
use Rattle.packets.specs.StageOne.{find, find_named, flight_named, is_user, owns, of_flight, fault_alone}
use Rattle.packets.specs.StageTwo.{faults_together}
use Rattle.packets.specs.Amended.{first_for, cancel_of, erta_of, amended_by, amended}
use Rattle.packets.specs.Verdict.{messages_of, all_pass, line_numbers}
use Rattle.packets.specs.Laws.{SameTo, EffectOwn}
use Rattle.packets.proofs.Deciding.{by_test, is_identity_fact}
use Rattle.packets.proofs.Accepted.{Alone, pass_alone}
use Rattle.packets.proofs.Amending.{found_identity}
use Rattle.packets.proofs.Alike.{same_owner}

-- messages that do not name the flight give it nothing
pub unnamed_none : {X : Type 0} (i : Identity) (gives : Message → Option X) (ms : List Message) → AllByRecursion (λ m. names m i ≡ false) ms → first_for i gives ms ≡ None
unnamed_none i gives [] a = refl
unnamed_none i gives (m ∷ ms) a =
    ap (λ o. or_else o (first_for i gives ms)) (cond-false (names m i) (gives m) None a.0) ∙ unnamed_none i gives ms a.1

-- so it stays as it is
pub unnamed_kept : (ms : List Message) (f : Flight) → AllByRecursion (λ m. names m f.identity ≡ false) ms → amended ms f ≡ f
unnamed_kept ms f a =
    let i = f.identity in
    let seat = unnamed_none i seat_of ms a in
    let cancel = unnamed_none i cancel_of ms a in
    let erta = unnamed_none i erta_of ms a in
    λ k. amended_by (seat k) (cancel k) (erta k) f

-- a flight has one user at most
other_user : (o : Option ℕ) (v u : ℕ) → is_user o v ≡ true → eqb v u ≡ false → is_user o u ≡ false
other_user None v u q n = refl
other_user (Some w) v u q n = ap (λ x. eqb x u) (eqb-true w v q) ∙ n

module _ {S : Type 0} (s : Setting S) (p : Program) (u : ℕ) where
  -- the messages of a packet whose lines all pass, each alone
  pub all_alone : (os : List (Option Message)) → all_pass (line_numbers s p u os) ≡ true → AllByRecursion (Alone s p u) (messages_of os)
  all_alone os h =
      let one = map (fault_alone s p u) os in
      let two = faults_together s p u (messages_of os) [] (messages_of os) in
      by_test (all_pass one)
      (λ e. pass_alone s p u os e)
      (λ e. absurd (both_ways (all_pass one) e (ap all_pass (sym (cond-false (all_pass one) two one e)) ∙ h)))

  -- a message that passes stage one names no identity of another user
  not_named : (m : Message) (f : Flight) → Alone s p u m → owns s u f ≡ false → names m f.identity ≡ false
  not_named m f a q =
      by_test (names m f.identity)
      (λ n. by (flight_named p m) refl (is_identity_fact m.identity f.identity n))
      (λ n. n)
    where
      by : (o : Option Flight) → flight_named p m ≡ o → m.identity ≡ Some f.identity → names m f.identity ≡ false
      by None e n = absurd (both_ways true (ap (λ o. not (is_some o)) (sym e) ∙ a.known) refl)
      by (Some g) e n =
          let found : find f.identity p.flights ≡ Some g = ap (λ o. find_named o p.flights) (sym n) ∙ e in
          let own = not-false (owns s u g) (ap (of_flight (λ f. not (owns s u f))) (sym e) ∙ a.own) in
          absurd (both_ways (owns s u g) (same_owner s u g f (found_identity f.identity p.flights g found) ∙ q) own)

  pub none_named : (ms : List Message) (f : Flight) → AllByRecursion (Alone s p u) ms → owns s u f ≡ false → AllByRecursion (λ m. names m f.identity ≡ false) ms
  none_named [] f a q = tt
  none_named (m ∷ ms) f a q = (not_named m f a.0 q, none_named ms f a.1 q)

  -- to another user, the flights are the same after the packet
  pub other_same : (v : ℕ) (ms : List Message) (fs gs : List Flight) → AllByRecursion (Alone s p u) ms → eqb v u ≡ false → AllZip (SameTo s v) fs gs → AllZip (SameTo s v) (map (amended ms) fs) gs
  other_same v ms [] [] a n e = tt
  other_same v ms [] (g ∷ gs) a n e = absurd e
  other_same v ms (f ∷ fs) [] a n e = absurd e
  other_same v ms (f ∷ fs) (g ∷ gs) a n e =
      let kept = λ (q : owns s v f ≡ true). unnamed_kept ms f (none_named ms f a (other_user (s.carrier (carrier_of f.identity)) v u q n)) in
      (record { identity = e.0.identity; own = λ q. kept q ∙ e.0.own q }, other_same v ms fs gs a n e.1)

-- flights that are the same to a user stay the same under the same messages
pub amended_same : {S : Type 0} (s : Setting S) (u : ℕ) (ms : List Message) (fs gs : List Flight) → AllZip (SameTo s u) fs gs → AllZip (SameTo s u) (map (amended ms) fs) (map (amended ms) gs)
amended_same s u ms [] [] e = tt
amended_same s u ms [] (g ∷ gs) e = absurd e
amended_same s u ms (f ∷ fs) [] e = absurd e
amended_same s u ms (f ∷ fs) (g ∷ gs) e =
    (record { identity = e.0.identity; own = λ q. ap (amended ms) (e.0.own q) }, amended_same s u ms fs gs e.1)

pub same_self : {S : Type 0} (s : Setting S) (u : ℕ) (fs : List Flight) → AllZip (SameTo s u) fs fs
same_self s u [] = tt
same_self s u (f ∷ fs) = (record { identity = refl; own = λ q. refl }, same_self s u fs)

pub effect_own : {S : Type 0} (s : Setting S) → EffectOwn s
effect_own s p u os pass f = record {
  other = λ q. unnamed_kept (messages_of os) f (none_named s p u (messages_of os) f (all_alone s p u os pass) q);
  identity = refl;
}
