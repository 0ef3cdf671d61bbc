-- The standing rules last over an accepted packet.
use Rattle.std.proofs.Common.{◌≡◌, ℕ, zero, suc, ◌+◌, ◌≤◌, true, List, [], ◌∷◌, map, length, refl, ap, arith}
use Rattle.std.proofs.lemmas.Bool.{and_parts, and_from}
use Rattle.std.specs.List.{AllByRecursion}
use Rattle.calendar.specs.Identities.{Identity, same_identity}
use Rattle.element.specs.Meanings.{Meaning}
use Rattle.flights.specs.Counts.{bump}
use Rattle.flights.specs.Flights.{Flight, bearers, holders}
use Rattle.flights.specs.Standing.{slot_fits_type, flight_stands, table_stands}
use Rattle.model.specs.declared.condition.Condition.{Condition}
use Rattle.model.specs.declared.condition.Condition.TheVariants.{NoProgram, On, Off}
use Rattle.model.specs.Model.{Setting, Program, none_without}
use Rattle.packets.specs.Messages.{Message, message_read}
use Rattle.packets.specs.StageTwo.{count}
use Rattle.packets.specs.Amended.{amended}
use Rattle.packets.specs.Verdict.{messages_of}
use Rattle.packets.specs.Laws.{PacketStands}
use Rattle.packets.proofs.Table.{Rules, rules_of, rules_stand}
use Rattle.packets.proofs.Accepted.{all_read, Accepts, accepts, accepts_alone}
use Rattle.packets.proofs.Amending.{all_found, slot_fits, all_amended}
use Rattle.packets.proofs.Shifts.{makes}
use Rattle.packets.proofs.Effect.{effect, made_once, made_free}

-- messages change no identity, no number of flights, and add no flight where there is no program
bearers_amended : (i : Identity) (ms : List Message) (fs : List Flight) → bearers i (map (amended ms) fs) ≡ bearers i fs
bearers_amended i ms [] = refl
bearers_amended i ms (f ∷ fs) = ap (bump (same_identity f.identity i)) (bearers_amended i ms fs)

length_amended : (ms : List Message) (fs : List Flight) → length (map (amended ms) fs) ≡ length fs
length_amended ms [] = refl
length_amended ms (f ∷ fs) = ap suc (length_amended ms fs)

none_amended : (c : Condition) (ms : List Message) (fs : List Flight) → none_without c fs ≡ true → none_without c (map (amended ms) fs) ≡ true
none_amended NoProgram ms [] h = refl
none_amended NoProgram ms (f ∷ fs) h = h
none_amended On ms fs h = refl
none_amended Off ms fs h = refl

slots_fit : (e : Meaning) (fs : List Flight) → AllByRecursion (λ f. flight_stands e f ≡ true) fs → AllByRecursion (λ f. slot_fits_type f ≡ true) fs
slots_fit e [] a = tt
slots_fit e (f ∷ fs) a = (slot_fits e f a.0, slots_fit e fs a.1)

at_most_one : (h c : ℕ) → h ≤ 1 → c ≤ 1 → (1 ≤ c → h ≡ 0) → h + c ≤ 1
at_most_one h zero p q f = omega arith
at_most_one h (suc c) p q f = let a = f (omega arith) in omega arith

module _ {S : Type 0} (s : Setting S) (p : Program) (u : ℕ) where
  -- the rules of the table after an accepted packet
  pub rules_last : (e : Meaning) (ms : List Message) → Rules e p.flights → Accepts s p u ms [] ms → Rules e (map (amended ms) p.flights)
  rules_last e ms r a = record {
    stand = all_amended s p u e ms p.flights (accepts_alone s p u ms [] ms a) (all_found p.flights r.identities) r.stand;
    identities = λ i. let h = r.identities i in let same = bearers_amended i ms p.flights in omega arith;
    slots = λ x.
        let same = effect s p u ms r.identities (slots_fit e p.flights r.stand) a x in
        let few = at_most_one (holders x p.flights) (count (makes x) ms) (r.slots x) (made_once s p u x ms a) (made_free s p u ms x [] ms a) in
        omega arith;
    few = let h = r.few in let same = length_amended ms p.flights in omega arith;
  }

pub packet_stands : {S : Type 0} (s : Setting S) → PacketStands s
packet_stands s p u ls stands pass =
    let e = s.element in
    let os = map (message_read e p.days) ls in
    let parts = and_parts (table_stands e p.flights) (none_without p.condition p.flights) stands in
    let a = accepts s p u os (all_read e p.days ls) pass in
    and_from _ _
    (rules_stand e (map (amended (messages_of os)) p.flights) (rules_last s p u e (messages_of os) (rules_of e p.flights parts.0) a))
    (none_amended p.condition (messages_of os) p.flights parts.1)
