-- The flights of a list without a fault keep the standing rules.
use Rattle.std.proofs.Common.{◌≡◌, ℕ, suc, Bool, true, false, cond, List, [], ◌∷◌, Some, None, Option, sym, refl, ap, ◌∙◌, arith}
use Rattle.std.proofs.lemmas.Bool.{and_from}
use Rattle.text.specs.Lines.{Line}
use Rattle.calendar.specs.Days.{Days}
use Rattle.element.specs.Meanings.{Meaning}
use Rattle.flights.specs.Flights.{Flight}
use Rattle.flights.specs.Standing.{joins, stands_after, table_stands}
use Rattle.lists.specs.FlightLines.{flight_read}
use Rattle.lists.specs.Lists.{is_valid, with_flight, first_fault, in_front, listed, good, reading_from, headed, heading_read, list_read}

-- a line without a fault
step : (e : Meaning) (d : Days) (n : ℕ) (before : List Flight) (rest : List Line) (o : Option Flight) (b : Bool) → is_valid e before o ≡ b → (first_fault e d (suc n) (with_flight before o) rest ≡ None → stands_after e (with_flight before o) (listed e d rest) ≡ true) → cond b (first_fault e d (suc n) (with_flight before o) rest) (Some n) ≡ None → stands_after e before (in_front o (listed e d rest)) ≡ true
step e d n before rest o false v ih h = let no : ◌≡◌ {A = ℕ} 0 1 = cc in absurd (omega arith)
step e d n before rest None true v ih h = let no : false ≡ true = v in absurd (let z : ◌≡◌ {A = ℕ} 0 1 = cc in omega arith)
step e d n before rest (Some f) true v ih h = and_from (joins e before f) _ v (ih h)

lines_stand : (e : Meaning) (d : Days) (n : ℕ) (before : List Flight) (ls : List Line) → first_fault e d n before ls ≡ None → stands_after e before (listed e d ls) ≡ true
lines_stand e d n before [] h = refl
lines_stand e d n before (l ∷ ls) h =
    step e d n before ls (flight_read e d l) (is_valid e before (flight_read e d l)) refl (lines_stand e d (suc n) (with_flight before (flight_read e d l)) ls) h

from_fault : (e : Meaning) (d d' : Days) (ls : List Line) (fs : List Flight) (o : Option ℕ) → first_fault e d 2 [] ls ≡ o → reading_from e d ls o ≡ good d' fs → table_stands e fs ≡ true
from_fault e d d' ls fs None p h = let same : listed e d ls ≡ fs = cc in ap (table_stands e) (sym same) ∙ lines_stand e d 2 [] ls p
from_fault e d d' ls fs (Some n) p h = let no : ◌≡◌ {A = ℕ} 0 1 = cc in absurd (omega arith)

from_heading : (e : Meaning) (d' : Days) (ls : List Line) (fs : List Flight) (o : Option Days) → headed e o ls ≡ good d' fs → table_stands e fs ≡ true
from_heading e d' ls fs None h = let no : ◌≡◌ {A = ℕ} 0 1 = cc in absurd (omega arith)
from_heading e d' ls fs (Some d) h = from_fault e d d' ls fs (first_fault e d 2 [] ls) refl h

-- what a good list lists keeps the standing rules
pub list_stands : (e : Meaning) (ls : List Line) (d : Days) (fs : List Flight) → list_read e ls ≡ good d fs → table_stands e fs ≡ true
list_stands e [] d fs h = let no : ◌≡◌ {A = ℕ} 0 1 = cc in absurd (omega arith)
list_stands e (l ∷ ls) d fs h = from_heading e d ls fs (heading_read e l) h
