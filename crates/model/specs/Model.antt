-- One definition of what the processor does is made of these: a setting, which never changes; a program, which a call can
-- change; a call; and its answer.
use Rattle.std.specs.Prelude.{ℕ, Bool, true, false, ◌&&◌, List, [], ◌∷◌, length, None, Option}
use Rattle.text.specs.Lines.{Line, lines}
use Rattle.calendar.specs.Days.{Days}
use Rattle.element.specs.Meanings.{Meaning}
use Rattle.flights.specs.Flights.{Flight}
use Rattle.flights.specs.Standing.{table_stands}
use Rattle.model.specs.declared.condition.Condition.{Condition}
use Rattle.model.specs.declared.condition.Condition.TheVariants.{NoProgram, On, Off}

-- what never changes over a history, where S is the register's kind of sender: which user a sender is, which user a carrier
-- code belongs to, and the element but for its days
pub record Setting (S : Type 0) : Type 0 where
  pub user : S → Option ℕ
  pub carrier : List ℕ → Option ℕ
  pub element : Meaning

-- the setting of a register's two questions and an element's meaning
abbrev pub setting_of : {S : Type 0} → (S → Option ℕ) → (List ℕ → Option ℕ) → Meaning → Setting S
setting_of user carrier element = record { user = user; carrier = carrier; element = element }

-- what a call can change: the condition, the element's days, and the flights in the table's order
pub record Program : Type 0 where
  pub condition : Condition
  pub days : Days
  pub flights : List Flight

-- a program that is on
abbrev pub at_work : Days → List Flight → Program
at_work days flights = record { condition = On; days = days; flights = flights }

-- what a packet or a request is: its length in bytes, and its lines, each with its text and whether it is readable
pub record Input : Type 0 where
  pub size : ℕ
  pub lines : List Line

-- bytes as an input
abbrev pub input_of : List ℕ → Input
input_of bytes = record { size = length bytes; lines = lines bytes }

-- a call with all that it takes. An issue carries the bytes of its list, a departure the four texts that name a flight, a
-- packet and a report their sender, their input and the buffer for the reply
pub data Call (S : Type 0) : Type 0 where
  issue : List ℕ → Call S
  switch : Bool → Call S
  depart : List ℕ → List ℕ → List ℕ → List ℕ → Call S
  purge : Call S
  packet : S → Input → List ℕ → Call S
  report : S → Input → List ℕ → Call S

-- the pair that a call answers, 0 or the number of the error and the second number, and the whole buffer after the call; the
-- operator's calls have none
pub record Answer : Type 0 where
  pub number : ℕ
  pub second : ℕ
  pub buffer : Option (List ℕ)

-- the answer of a call without a buffer
abbrev pub answer : ℕ × ℕ → Answer
answer pair = record { number = pair.0; second = pair.1; buffer = None }

-- a call that is refused changes nothing
abbrev pub refused : Program → ℕ → ℕ → Program × Answer
refused p number second = (p, answer (number, second))

-- a call that does its work leaves this program
abbrev pub done : Program → Program × Answer
done p = (p, answer (0, 0))

-- without a program there are no flights
abbrev pub none_without : Condition → List Flight → Bool
none_without NoProgram [] = true
none_without NoProgram (f ∷ fs) = false
none_without On fs = true
none_without Off fs = true

-- what holds of a program after every call: its table keeps the standing rules, and without a program it is empty
abbrev pub program_stands : Meaning → Program → Bool
program_stands e p = table_stands e p.flights && none_without p.condition p.flights
