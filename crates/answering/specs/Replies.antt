-- The replies to a packet and to a request.
use Rattle.std.specs.Prelude.{ℕ, zero, suc, Bool, List, [], ◌∷◌, ◌++◌, codes}
use Rattle.text.specs.Lines.{Line}
use Rattle.calendar.specs.Days.{Days}
use Rattle.element.specs.Meanings.{Meaning}
use Rattle.flights.specs.Counts.{bump, some}
use Rattle.flights.specs.Flights.{Flight}
use Rattle.packets.specs.Messages.{Message}
use Rattle.packets.specs.Verdict.{is_named}
use Rattle.plan.specs.Rows.{Row}
use Rattle.replies.specs.Openings.{accepted, list_opening}
use Rattle.replies.specs.Rejections.{rejected, fault}
use Rattle.replies.specs.Rows.{rows}

-- a faulty line and its number; nothing of a line without a fault
abbrev pub fault_of : Line → ℕ → List ℕ
fault_of l zero = []
fault_of l (suc n) = fault l.text (suc n)

abbrev pub is_fault : ℕ → Bool
is_fault n = some n

-- how many lines are faulty
abbrev pub faults : List ℕ → ℕ
faults [] = 0
faults (n ∷ ns) = bump (is_fault n) (faults ns)

-- every faulty line, in order, each followed by its own number
abbrev pub fault_lines : List Line → List ℕ → List ℕ
fault_lines [] ns = []
fault_lines (l ∷ ls) [] = []
fault_lines (l ∷ ls) (n ∷ ns) = fault_of l n ++ fault_lines ls ns

-- the line of a row
abbrev pub line_in : Row → Line
line_in r = r.line

-- a packet that is rejected as a whole, 601 to 605: its first line is echoed
unfoldable pub rejected_first : List ℕ → Line → ℕ → List ℕ
rejected_first id first number = rejected id 1 ++ fault first.text number

-- a packet that is rejected for its message lines
unfoldable pub rejected_lines : List ℕ → List Line → List ℕ → List ℕ
rejected_lines id ls ns = rejected id (faults ns) ++ fault_lines ls ns

-- a request that is refused: the line that says so, an empty line, the first line and its number
unfoldable pub refused_request : Line → ℕ → List ℕ
refused_request first number = codes "RQ REJECTED. 1 ERROR." ++ (10 ∷ 10 ∷ []) ++ fault first.text number

-- the answer to a request: a row for each flight that is chosen, in the table's order
unfoldable pub reported_list : Meaning → Days → (Flight → Bool) → List Flight → List ℕ
reported_list e d chosen fs = list_opening e ++ rows e d chosen fs

-- a packet that is accepted: a row for each flight that a line names, in the table's order
unfoldable pub accepted_list : Meaning → Days → List ℕ → List Message → List Flight → List ℕ
accepted_list e d id ms fs = accepted id ++ list_opening e ++ rows e d (is_named ms) fs
