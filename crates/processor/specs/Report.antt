-- A report: its refusals in their order, and what it lists.
use Rattle.std.specs.Prelude.{ℕ, Bool, true, false, cond, ◌&&◌, List, [], ◌∷◌, length, is_some, Some, None, codes, Option, ◌==◌, nat_lt}
use Rattle.std.specs.Str.{bytes_eq}
use Rattle.text.specs.Lines.{Line, fields}
use Rattle.element.specs.Meanings.{Meaning}
use Rattle.flights.specs.Flights.{Flight}
use Rattle.messages.specs.Headers.{column}
use Rattle.packets.specs.StageOne.{owns}
use Rattle.answering.specs.Replies.{refused_request, reported_list}
use Rattle.model.specs.Model.{Setting, Program, Input, Answer}
use Rattle.processor.specs.declared.calls.Operation.TheVariants.{Report}
use Rattle.processor.specs.Conditions.{refusal}
use Rattle.processor.specs.Packet.{Outcome, silent, rejects, accepts, answered}

-- a readable line of the words EDCT and SLIST and the element's name
abbrev pub is_request_line : Meaning → Line → Bool
is_request_line e l =
    l.readable && length (fields l.text) == 3 && bytes_eq (column l.text 0) (codes "EDCT") && bytes_eq (column l.text 1) (codes "SLIST") && bytes_eq (column l.text 2) e.name

-- a request is one such line
abbrev pub is_request : Meaning → List Line → Bool
is_request e [] = false
is_request e (l ∷ []) = is_request_line e l
is_request e (l ∷ m ∷ more) = false

-- the first line; without one it is empty
abbrev pub first_line : List Line → Line
first_line [] = record { text = []; readable = true }
first_line (l ∷ ls) = l

-- the flights that a report of the user lists: those of the user that are controlled, cancelled ones and pop-ups too
abbrev pub reports : {S : Type 0} → Setting S → ℕ → Flight → Bool
reports s u f = owns s u f && is_some f.control

abbrev pub refuses : List Line → ℕ → Outcome
refuses ls number = rejects number (refused_request (first_line ls) number)

-- 620: any other request. A report changes nothing
abbrev pub report_for : {S : Type 0} → Setting S → Program → List Line → ℕ → Outcome
report_for s p ls u =
    cond (is_request s.element ls) (accepts p (reported_list s.element p.days (reports s u) p.flights)) (refuses ls 620)

-- 604 without a program
abbrev pub report_in : {S : Type 0} → Setting S → Program → List Line → ℕ → Option ℕ → Outcome
report_in s p ls u (Some number) = refuses ls number
report_in s p ls u None = report_for s p ls u

-- 603: the sender has no user
abbrev pub report_to : {S : Type 0} → Setting S → Program → List Line → Option ℕ → Outcome
report_to s p ls None = refuses ls 603
report_to s p ls (Some u) = report_in s p ls u (refusal p.condition Report)

-- 650: the buffer has under 40,960 bytes; 651: the input has over 16,384
abbrev pub report_outcome : {S : Type 0} → Setting S → Program → S → Input → ℕ → Outcome
report_outcome s p sender input room =
    cond (nat_lt room 40960) (silent 650) (cond (nat_lt 16384 input.size) (silent 651) (report_to s p input.lines (s.user sender)))

abbrev pub reported : {S : Type 0} → Setting S → Program → S → Input → List ℕ → Program × Answer
reported s p sender input buffer = answered p buffer (report_outcome s p sender input (length buffer))
