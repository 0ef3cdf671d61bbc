-- A loop that fills a table from flight lines.
use Rattle.std.proofs.Common.{◌≡◌, ℕ, suc, ◌+◌, Bool, true, false, cond, List, [], ◌∷◌, ◌++◌, length, Some, None, Option, sym, refl, ap, ◌∙◌, append_assoc, append-nil, arith, length-append}
use Rattle.std.proofs.lemmas.Bool.{true≢false}
use Rattle.std.proofs.lemmas.Option.{none-some}
use Rattle.text.specs.Lines.{Line}
use Rattle.calendar.specs.Days.{Days}
use Rattle.element.specs.Meanings.{Meaning}
use Rattle.flights.specs.Flights.{Flight}
use Rattle.flights.specs.Standing.{joins}
use Rattle.lists.specs.FlightLines.{flight_read}
use Rattle.lists.specs.Lists.{is_valid, where_valid, with_flight, first_fault, in_front, listed}

-- the flights so far and the lines to come, against the fault and the flights of the whole
pub record Going (e : Meaning) (d : Days) (before : List Flight) (ls : List Line) (fault : Option ℕ) (all : List Flight) : Type 0 where
  pub faults : first_fault e d (length before + 2) before ls ≡ fault
  pub flights : before ++ listed e d ls ≡ all

pub going_start : (e : Meaning) (d : Days) (before : List Flight) (ls : List Line) → before ≡ [] → Going e d before ls (first_fault e d 2 [] ls) (listed e d ls)
going_start e d before ls h = record { faults = rw h; flights = rw h }

-- where a line is valid, and where it is not
module _ (e : Meaning) (before : List Flight) where
  refused : (f : Flight) (b : Bool) → joins e before f ≡ b → cond b (Some f) None ≡ None → joins e before f ≡ false
  refused f true k h = absurd (none-some f (sym h))
  refused f false k h = k

  faulty_line : (o : Option Flight) → where_valid e before o ≡ None → is_valid e before o ≡ false
  faulty_line None h = refl
  faulty_line (Some f) h = refused f (joins e before f) refl h

  kept : (x f : Flight) (b : Bool) → joins e before x ≡ b → cond b (Some x) None ≡ Some f → (◌≡◌ {A = Option Flight} (Some x) (Some f)) × (joins e before x ≡ true)
  kept x f true k h = (h, k)
  kept x f false k h = absurd (none-some f h)

  -- a valid line says its flight
  pub valid_line : (o : Option Flight) (f : Flight) → where_valid e before o ≡ Some f → (o ≡ Some f) × (is_valid e before o ≡ true)
  valid_line None f h = absurd (none-some f h)
  valid_line (Some x) f h = kept x f (joins e before x) refl h

  pub valid_joins : (o : Option Flight) (f : Flight) → where_valid e before o ≡ Some f → joins e before f ≡ true
  valid_joins o f h = let v = valid_line o f h in sym (ap (is_valid e before) v.0) ∙ v.1

-- a line that is faulty
pub going_fault : (e : Meaning) (d : Days) (before : List Flight) (ls rest : List Line) (l : Line) (fault : Option ℕ) (all : List Flight) → Going e d before ls fault all → ls ≡ l ∷ rest → where_valid e before (flight_read e d l) ≡ None → Some (length before + 2) ≡ fault
going_fault e d before ls rest l fault all g h v =
    sym (ap (λ b. cond b (first_fault e d (suc (length before + 2)) (with_flight before (flight_read e d l)) rest) (Some (length before + 2))) (faulty_line e before (flight_read e d l) v))
    ∙ sym (ap (first_fault e d (length before + 2) before) h)
    ∙ g.faults

one_more : (before : List Flight) (f : Flight) → suc (length before + 2) ≡ length (before ++ f ∷ []) + 2
one_more before f = simp length-append (omega arith)

with_valid : (e : Meaning) (d : Days) (before : List Flight) (rest : List Line) (o : Option Flight) (fault : Option ℕ) (all : List Flight) → is_valid e before o ≡ true → cond (is_valid e before o) (first_fault e d (suc (length before + 2)) (with_flight before o) rest) (Some (length before + 2)) ≡ fault → before ++ in_front o (listed e d rest) ≡ all → Going e d (with_flight before o) rest fault all
with_valid e d before rest None fault all v p q = absurd (true≢false (sym v))
with_valid e d before rest (Some f) fault all v p q = record {
  faults =
      ap (λ n. first_fault e d n (before ++ f ∷ []) rest) (sym (one_more before f))
      ∙ (sym (ap (λ b. cond b (first_fault e d (suc (length before + 2)) (before ++ f ∷ []) rest) (Some (length before + 2))) v) ∙ p);
  flights = append_assoc before (f ∷ []) (listed e d rest) ∙ q;
}

-- a line that is valid
pub going_turn : (e : Meaning) (d : Days) (before after : List Flight) (ls rest : List Line) (l : Line) (f : Flight) (fault : Option ℕ) (all : List Flight) → Going e d before ls fault all → ls ≡ l ∷ rest → where_valid e before (flight_read e d l) ≡ Some f → after ≡ before ++ f ∷ [] → Going e d after rest fault all
going_turn e d before after ls rest l f fault all g h valid same =
    let v = valid_line e before (flight_read e d l) f valid in
    let w = with_valid e d before rest (flight_read e d l) fault all v.1
    (sym (ap (first_fault e d (length before + 2) before) h) ∙ g.faults)
    (sym (ap (λ (k : List Line). before ++ listed e d k) h) ∙ g.flights) in
    let now : after ≡ with_flight before (flight_read e d l) = same ∙ sym (ap (with_flight before) v.0) in
    record {
      faults = ap (λ (fs : List Flight). first_fault e d (length fs + 2) fs rest) now ∙ w.faults;
      flights = ap (λ (fs : List Flight). fs ++ listed e d rest) now ∙ w.flights;
    }

-- no line is left
pub going_end : (e : Meaning) (d : Days) (before : List Flight) (ls : List Line) (fault : Option ℕ) (all : List Flight) → Going e d before ls fault all → ls ≡ [] → (None ≡ fault) × (before ≡ all)
going_end e d before ls fault all g h = (
  sym (ap (first_fault e d (length before + 2) before) h) ∙ g.faults,
  sym (append-nil before) ∙ (sym (ap (λ (k : List Line). before ++ listed e d k) h) ∙ g.flights),
)
