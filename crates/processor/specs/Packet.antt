-- A packet: its refusals in their order, and what it does.
use Rattle.std.specs.Prelude.{ℕ, true, cond, List, [], ◌∷◌, map, length, Some, None, codes, Option, nat_lt}
use Rattle.text.specs.Lines.{Line}
use Rattle.messages.specs.Headers.{header_read, has_places}
use Rattle.packets.specs.Messages.{Message, message_read}
use Rattle.packets.specs.Amended.{amended}
use Rattle.packets.specs.Verdict.{messages_of, all_pass, line_numbers, first_number}
use Rattle.writing.specs.Overlay.{overlay}
use Rattle.answering.specs.Replies.{rejected_first, rejected_lines, accepted_list}
use Rattle.model.specs.Model.{Setting, Program, Input, Answer}
use Rattle.processor.specs.declared.calls.Operation.TheVariants.{Packet}
use Rattle.processor.specs.Conditions.{refusal}

-- what becomes of a packet or a request: a refusal that writes nothing, a rejection by its number and text, or the program after it and the
-- text of its reply
pub data Outcome : Type 0 where
  silent : ℕ → Outcome
  rejects : ℕ → List ℕ → Outcome
  accepts : Program → List ℕ → Outcome

-- for 601 to 605 the first line is echoed
abbrev pub rejects_first : List ℕ → Line → ℕ → Outcome
rejects_first id first number = rejects number (rejected_first id first number)

-- every flight amended by the messages that name it, all at once
abbrev pub amended_program : Program → List Message → Program
amended_program p ms = record { condition = p.condition; days = p.days; flights = map (amended ms) p.flights }

-- accepted exactly when no number applies to a line
abbrev pub judged : {S : Type 0} → Setting S → Program → List ℕ → List Line → List (Option Message) → List ℕ → Outcome
judged s p id ls os numbers =
    cond (all_pass numbers)
    (accepts (amended_program p (messages_of os)) (accepted_list s.element p.days id (messages_of os) (map (amended (messages_of os)) p.flights)))
    (rejects (first_number numbers) (rejected_lines id ls numbers))

-- 604 without a program, 605 while it is off
abbrev pub by_condition : {S : Type 0} → Setting S → Program → List ℕ → Line → List Line → ℕ → Option ℕ → Outcome
by_condition s p id first ls u (Some number) = rejects_first id first number
by_condition s p id first ls u None =
    judged s p id ls (map (message_read s.element p.days) ls) (line_numbers s p u (map (message_read s.element p.days) ls))

-- 603: the sender has no user
abbrev pub by_user : {S : Type 0} → Setting S → Program → List ℕ → Line → List Line → Option ℕ → Outcome
by_user s p id first ls None = rejects_first id first 603
by_user s p id first ls (Some u) = by_condition s p id first ls u (refusal p.condition Packet)

-- 602: not 1 to 64 message lines
abbrev pub by_lines : {S : Type 0} → Setting S → Program → S → List ℕ → Line → List Line → Outcome
by_lines s p sender id first ls = cond (has_places ls) (by_user s p id first ls (s.user sender)) (rejects_first id first 602)

-- 601: the first line is no header
abbrev pub by_header : {S : Type 0} → Setting S → Program → S → Line → List Line → Option (List ℕ) → Outcome
by_header s p sender first ls None = rejects_first (codes "-") first 601
by_header s p sender first ls (Some id) = by_lines s p sender id first ls

abbrev pub received : {S : Type 0} → Setting S → Program → S → List Line → Outcome
received s p sender [] = rejects_first (codes "-") (record { text = []; readable = true }) 601
received s p sender (first ∷ ls) = by_header s p sender first ls (header_read first)

-- 650: the buffer has under 40,960 bytes; 651: the input has over 16,384
abbrev pub outcome : {S : Type 0} → Setting S → Program → S → Input → ℕ → Outcome
outcome s p sender input room =
    cond (nat_lt room 40960) (silent 650) (cond (nat_lt 16384 input.size) (silent 651) (received s p sender input.lines))

-- the reply lies at the start of the buffer, and the rest of the buffer is as it was
abbrev pub answered : Program → List ℕ → Outcome → Program × Answer
answered p buffer (silent number) = (p, record { number = number; second = 0; buffer = Some buffer })
answered p buffer (rejects number text) = (p, record { number = number; second = length text; buffer = Some (overlay buffer 0 text) })
answered p buffer (accepts after text) = (after, record { number = 0; second = length text; buffer = Some (overlay buffer 0 text) })

abbrev pub sent : {S : Type 0} → Setting S → Program → S → Input → List ℕ → Program × Answer
sent s p sender input buffer = answered p buffer (outcome s p sender input (length buffer))
