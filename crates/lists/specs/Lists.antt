-- Issue lists: a heading, and a line for each flight.
use Rattle.std.specs.Prelude.{ℕ, suc, Bool, false, cond, ◌&&◌, List, [], ◌∷◌, ◌++◌, length, Some, None, codes, Option, ◌==◌}
use Rattle.std.specs.Str.{bytes_eq}
use Rattle.text.specs.Lines.{Line, fields}
use Rattle.calendar.specs.Days.{Days, days_read}
use Rattle.element.specs.Meanings.{Meaning}
use Rattle.flights.specs.Flights.{Flight}
use Rattle.flights.specs.Standing.{joins}
use Rattle.lists.specs.Columns.{column}
use Rattle.lists.specs.FlightLines.{flight_read}

-- the heading: ISSUE, the element's name, the base day and the length of its month in two digits each
abbrev pub heading_read : Meaning → Line → Option Days
heading_read e l =
    cond (l.readable && length (fields l.text) == 4 && bytes_eq (column l.text 0) (codes "ISSUE") && bytes_eq (column l.text 1) e.name)
    (days_read (column l.text 2) (column l.text 3))
    None

-- a flight line is valid when it says a flight and that flight keeps the rules beside those of the lines before it
abbrev pub is_valid : Meaning → List Flight → Option Flight → Bool
is_valid e before None = false
is_valid e before (Some f) = joins e before f

-- the flight of a line, where the line is valid
abbrev pub where_valid : Meaning → List Flight → Option Flight → Option Flight
where_valid e before o = cond (is_valid e before o) o None

abbrev pub with_flight : List Flight → Option Flight → List Flight
with_flight before None = before
with_flight before (Some f) = before ++ f ∷ []

-- the number of the first faulty of these lines, of which the first has the number n and those before list `before`
abbrev pub first_fault : Meaning → Days → ℕ → List Flight → List Line → Option ℕ
first_fault e d n before [] = None
first_fault e d n before (l ∷ ls) =
    cond (is_valid e before (flight_read e d l)) (first_fault e d (suc n) (with_flight before (flight_read e d l)) ls) (Some n)

abbrev pub in_front : Option Flight → List Flight → List Flight
in_front None fs = fs
in_front (Some f) fs = f ∷ fs

-- the flights that lines list, in their order; asked only of lines without a fault, each of which lists one
abbrev pub listed : Meaning → Days → List Line → List Flight
listed e d [] = []
listed e d (l ∷ ls) = in_front (flight_read e d l) (listed e d ls)

-- what a list says: the days and the flights, or which line is the first that is faulty
pub data Reading : Type 0 where
  good : Days → List Flight → Reading
  faulty : ℕ → Reading

abbrev pub reading_from : Meaning → Days → List Line → Option ℕ → Reading
reading_from e d ls None = good d (listed e d ls)
reading_from e d ls (Some n) = faulty n

abbrev pub headed : Meaning → Option Days → List Line → Reading
headed e None ls = faulty 1
headed e (Some d) ls = reading_from e d ls (first_fault e d 2 [] ls)

-- the lines of a list, the heading being line 1
abbrev pub list_read : Meaning → List Line → Reading
list_read e [] = faulty 1
list_read e (heading ∷ ls) = headed e (heading_read e heading) ls
