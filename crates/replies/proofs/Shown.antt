-- The name shown for a flight reads as the pair that it names.
use Rattle.std.proofs.Common.{◌≡◌, ◌<◌, Bool, true, false, cond, Some, None, codes, Option, sym, refl, ap, ◌∙◌, arith}
use Rattle.std.proofs.lemmas.Bool.{and_from, le-leb, true≢false}
use Rattle.std.specs.Option.{option_map}
use Rattle.calendar.specs.declared.days.Minute.{Minute as KeptMinute}
use Rattle.calendar.specs.Days.{Days, Minute, is_days, minute_of}
use Rattle.element.specs.declared.slot.Slot.{Slot as KeptSlot}
use Rattle.element.specs.Slots.{Slot, is_pair, pop_up_at}
use Rattle.element.specs.Meanings.{Meaning, Formed, SlotNamesApart, is_slot_name, name_read}
use Rattle.element.specs.Kept.{slot_of}
use Rattle.element.proofs.NameReading.{name_reads, reads_none}
use Rattle.flights.specs.declared.flight.ControlType.{ControlType}
use Rattle.flights.specs.declared.flight.Flight.{Flight as KeptFlight}
use Rattle.flights.specs.Flights.{is_pop_up}
use Rattle.flights.specs.Kept.{flight_of}
use Rattle.replies.specs.Names.{pop_up_pair, pair_of, pair_shown, name_of, NamesReadAgain}

-- where there is a pair, it is one of a minute of the days and a letter A to Z
abbrev pub PairIn : Option Slot → Type 0
PairIn None = Unit {0}
PairIn (Some p) = is_pair p ≡ true

pop_up_pair_fact : (m : Minute) → m < 10080 → is_pair (pop_up_at m) ≡ true
pop_up_pair_fact m h = and_from _ _ (le-leb m 10079 (omega arith)) refl

kept_slot : (s : KeptSlot) → is_pair (slot_of s) ≡ true
kept_slot s =
    and_from _ _ (le-leb s.minute.value 10079 (omega (arith, s.minute.week))) (and_from _ _ (le-leb 65 s.letter s.least) (le-leb s.letter 90 s.most))

popped : (b : Bool) (m : Minute) → m < 10080 → PairIn (cond b (Some (pop_up_at m)) None)
popped true m h = pop_up_pair_fact m h
popped false m h = tt

kept_from : (o : Option KeptSlot) (t : Option ControlType) (m : KeptMinute) → PairIn (pair_of (option_map slot_of o) t (minute_of m))
kept_from None None m = tt
kept_from None (Some t) m = popped (is_pop_up t) m.value m.week
kept_from (Some s) t m = kept_slot s

pub kept_pair : (f : KeptFlight) → PairIn (pair_shown (flight_of f))
kept_pair f = kept_from f.slot f.control f.cta

no_dash : (e : Meaning) (d : Days) (p : Slot) → Formed e → is_days d ≡ true → is_pair p ≡ true → e.slot_name d p ≡ codes "-" → ⊥
no_dash e d p formed days h q = true≢false (sym (formed.slot_names d p days h) ∙ ap is_slot_name q)

-- the name shown reads as its pair, and `-` as none
pub shown_reads : (e : Meaning) (d : Days) (o : Option Slot) → Formed e → SlotNamesApart e → is_days d ≡ true → PairIn o → name_read (e.slot_name d) (name_of e d o) ≡ o
shown_reads e d None formed apart days h = reads_none (e.slot_name d) (codes "-") (λ p hp q. no_dash e d p formed days hp q)
shown_reads e d (Some p) formed apart days h = name_reads (e.slot_name d) p (apart d days) h

pub names_read_again : NamesReadAgain
names_read_again = record {
  slot = λ e d f s apart days held h. ap (λ o. name_read (e.slot_name d) (name_of e d (pair_of o f.control f.cta))) held ∙ name_reads (e.slot_name d) s (apart d days) h;
  pop_up = λ e d f apart days none fa week. (
    ap (λ o. name_read (e.slot_name d) (name_of e d (pair_of o f.control f.cta))) none
        ∙ ap (λ o. name_read (e.slot_name d) (name_of e d (pop_up_pair o f.cta))) fa
        ∙ name_reads (e.slot_name d) (pop_up_at f.cta) (apart d days) (pop_up_pair_fact f.cta week),
    refl,
  );
}
