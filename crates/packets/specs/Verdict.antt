-- The numbers of a packet's message lines.
use Rattle.std.specs.Prelude.{ℕ, zero, suc, Bool, cond, List, [], ◌∷◌, map, Some, None, Option, nat_eq}
use Rattle.text.specs.Bytes.{each}
use Rattle.model.specs.Model.{Setting, Program}
use Rattle.flights.specs.Counts.{some}
use Rattle.flights.specs.Flights.{Flight}
use Rattle.packets.specs.Messages.{Message, names}
use Rattle.packets.specs.StageOne.{fault_alone}
use Rattle.packets.specs.StageTwo.{count, faults_together}

-- the messages of some lines, in their order
abbrev pub messages_of : List (Option Message) → List Message
messages_of [] = []
messages_of (None ∷ os) = messages_of os
messages_of (Some m ∷ os) = m ∷ messages_of os

abbrev pub all_pass : List ℕ → Bool
all_pass ns = each (λ n. nat_eq n 0) ns

-- the numbers of message lines, 0 for a line without a fault: those of stage one and, only if all pass there, of stage two
abbrev pub line_numbers : {S : Type 0} → Setting S → Program → ℕ → List (Option Message) → List ℕ
line_numbers s p u os =
    cond (all_pass (map (fault_alone s p u) os)) (faults_together s p u (messages_of os) [] (messages_of os)) (map (fault_alone s p u) os)

-- the number of the first faulty line, or 0
abbrev pub first_number : List ℕ → ℕ
first_number [] = 0
first_number (zero ∷ ns) = first_number ns
first_number (suc n ∷ ns) = suc n

-- whether a message names the flight
abbrev pub is_named : List Message → Flight → Bool
is_named ms f = some (count (λ m. names m f.identity) ms)
