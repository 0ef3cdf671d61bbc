-- What is promised of every packet, above the definition of what it does.
use Rattle.std.specs.Prelude.{◌≡◌, ℕ, Bool, true, ◌||◌, List, [], ◌∷◌, ◌++◌, map, length, Some, ◌==◌, ◌≢◌, nat_le}
use Rattle.std.specs.List.{AllZip, flat_map}
use Rattle.text.specs.Lines.{Line}
use Rattle.messages.specs.Headers.{header_read}
use Rattle.packets.specs.Messages.{Message, message_read}
use Rattle.packets.specs.Verdict.{messages_of, line_numbers}
use Rattle.packets.specs.Laws.{Differs, VerdictOwn, EffectOwn}
use Rattle.writing.specs.Overlay.{overlay}
use Rattle.replies.specs.Rejections.{rejected}
use Rattle.answering.specs.Listing.{Fault, faulty, fault_text}
use Rattle.model.specs.Model.{Setting, Program, Input}

-- refused means unchanged: whenever the number is not 0, the condition, the element's days and the flights are as they were
abbrev pub RefusedUnchanged : Program → ℕ → Program → Type 0
RefusedUnchanged p number after = (number ≢ 0) → after ≡ p

-- the lines after the first
abbrev pub message_lines : List Line → List Line
message_lines [] = []
message_lines (first ∷ ls) = ls

-- the messages of a packet
abbrev pub packet_messages : {S : Type 0} → Setting S → Program → List Line → List Message
packet_messages s p lines = messages_of (map (message_read s.element p.days) (message_lines lines))

-- what an accepted packet leaves: the condition and the days as they were, and flight by flight, in the table's order, what the
-- messages that name it make of it and nothing else
pub record Applied {S : Type 0} (s : Setting S) (p : Program) (lines : List Line) (after : Program) : Type 0 where
  pub condition : after.condition ≡ p.condition
  pub days : after.days ≡ p.days
  pub flights : AllZip (Differs (packet_messages s p lines)) p.flights after.flights

-- the numbers that a message line can get
abbrev pub is_line_number : ℕ → Bool
is_line_number n = n == 501 || nat_le 701 n

-- a rejection for message lines, by its number and its text: the number is that of the first faulty line; the text says how
-- many lines are faulty, and lists them once each, in order, each followed by its own number, and no other line
pub record ListsFaults {S : Type 0} (s : Setting S) (p : Program) (sender : S) (lines : List Line) (number : ℕ) (text : List ℕ) : Type 0 where
  pub id : List ℕ
  pub header : Line
  pub messages : List Line
  pub user : ℕ
  pub foremost : Fault
  pub more : List Fault
  pub split : lines ≡ header ∷ messages
  pub headed : header_read header ≡ Some id
  pub known : s.user sender ≡ Some user
  pub faults : faulty messages (line_numbers s p user (map (message_read s.element p.days) messages)) ≡ foremost ∷ more
  pub first : number ≡ foremost.number
  pub listing : text ≡ rejected id (length (foremost ∷ more)) ++ flat_map fault_text (foremost ∷ more)

-- the reply lies at the start of the buffer, and the second number is its length
pub record Replies (buffer : List ℕ) (second : ℕ) (buffer' text : List ℕ) : Type 0 where
  pub whole : buffer' ≡ overlay buffer 0 text
  pub size : second ≡ length text

-- the promises of every packet: refused means unchanged; accepted, it is applied whole and nothing else; rejected for its
-- lines, it lists the faulty ones. The last two are of all packets: the verdict depends only on the user's flights, the
-- identities in the table and which slots are held, and the effect touches the user's flights only
pub record Promised {S : Type 0} (s : Setting S) (p : Program) (sender : S) (input : Input) (buffer : List ℕ) (after : Program) (pair : ℕ × ℕ) (buffer' : List ℕ) : Type 0 where
  pub refused : RefusedUnchanged p pair.0 after
  pub whole : pair.0 ≡ 0 → Applied s p input.lines after
  pub listing : is_line_number pair.0 ≡ true → (text : List ℕ) × Replies buffer pair.1 buffer' text × ListsFaults s p sender input.lines pair.0 text
  pub verdict : VerdictOwn s
  pub effect : EffectOwn s
