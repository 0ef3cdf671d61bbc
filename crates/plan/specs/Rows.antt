-- The rows of a plan.
use Rattle.std.specs.Prelude.{◌≡◌, ℕ, Bool, zero, suc, cond, List, [], ◌∷◌, ◌++◌, map, take, Some, None, Option, Result}
use Rattle.std.specs.Option.{option_map}
use Rattle.text.specs.Lines.{Line}
use Rattle.text.specs.Short.{text_of}
use Rattle.model.specs.declared.refusal.Refusal.{Refusal}
use Rattle.model.specs.Model.{Setting, Program}
use Rattle.model.specs.Refusals.{number_or_zero, number_of as fault_number}
use Rattle.plan.specs.declared.row.Row.{Row as KeptRow}
use Rattle.plan.specs.declared.row.Plan.{Plan}
use Rattle.plan.specs.declared.row.Among.{Among}
use Rattle.calendar.specs.Days.{Days}
use Rattle.element.specs.Meanings.{Meaning}
use Rattle.calendar.specs.Identities.{Identity}
use Rattle.packets.specs.Messages.{Message, message_read, names}
use Rattle.packets.specs.StageOne.{first_of}
use Rattle.packets.specs.StageTwo.{stage_two}
use Rattle.packets.specs.Verdict.{messages_of}
use Rattle.substitutions.specs.Kept.{kept_message}
use Rattle.substitutions.specs.declared.message.Message.{Message as KeptMessage}

-- a line with the message that it is
pub record Row : Type 0 where
  pub line : Line
  pub message : Option Message

-- a row of the code without its number, and its number
abbrev pub row_of : KeptRow → Row
row_of r = record { line = record { text = text_of r.text; readable = r.readable }; message = option_map kept_message r.message }

abbrev pub number_of : KeptRow → ℕ
number_of r = number_or_zero r.fault

-- the rows of a plan, their numbers and their messages
abbrev pub rows_of : Plan → List Row
rows_of p = map row_of (take p.count p.rows)

abbrev pub numbers_of : Plan → List ℕ
numbers_of p = map number_of (take p.count p.rows)

abbrev pub message_in : Row → Option Message
message_in r = r.message

abbrev pub messages_in : List Row → List (Option Message)
messages_in rs = map message_in rs

-- a test of the code's messages that answers what `t` answers of them
abbrev pub Tests : (KeptMessage → Bool → Type 0) → (Message → Bool) → Type 0
Tests tests t = (m : KeptMessage) (b : Bool) → tests m b → b ≡ t (kept_message m)

-- the number of a line in stage two, beside all lines and those before it
abbrev pub fault_beside : {S : Type 0} → Setting S → Program → ℕ → List (Option Message) → List (Option Message) → Option Message → ℕ
fault_beside s p u all before None = 701
fault_beside s p u all before (Some m) = first_of (stage_two s p u (messages_of all) (messages_of before) m)

-- the numbers that lines get one by one, where `before` are those before them
abbrev pub each_beside : (List (Option Message) → Option Message → ℕ) → List (Option Message) → List (Option Message) → List ℕ
each_beside gives before [] = []
each_beside gives before (o ∷ os) = gives before o ∷ each_beside gives (before ++ o ∷ []) os

abbrev pub faults_beside : {S : Type 0} → Setting S → Program → ℕ → List (Option Message) → List (Option Message) → List (Option Message) → List ℕ
faults_beside s p u all before os = each_beside (fault_beside s p u all) before os

-- a check of the code, where these are all rows: the number that it finds is what `gives` says of a line beside those before it
abbrev pub Finds : List Row → (Among → Result (Unit {0}) Refusal → Type 0) → (List (Option Message) → Option Message → ℕ) → Type 0
Finds rows finds gives = (a : Among) (r : Result (Unit {0}) Refusal) → map row_of a.all.now ≡ rows → finds a r → fault_number r ≡ gives (messages_in (map row_of a.before.now)) (row_of a.row.now).message

-- the row of a line
abbrev pub row_read : Meaning → Days → Line → Row
row_read e d l = record { line = l; message = message_read e d l }

-- the message of the row at a place; none past the end
abbrev pub message_at : List Row → ℕ → Option Message
message_at [] i = None
message_at (r ∷ rs) zero = r.message
message_at (r ∷ rs) (suc i) = message_at rs i

-- what the message of a row gives to a flight, where there is one and it names the flight
abbrev pub given_for : {X : Type 0} → Identity → (Message → Option X) → Option Message → Option X
given_for i gives None = None
given_for i gives (Some m) = cond (names m i) (gives m) None
