-- What the condition of a program refuses.
use Rattle.std.specs.Prelude.{ℕ, cond, Some, None, Option, Ok, Err, Result, nat_lt}
use Rattle.model.specs.declared.condition.Condition.{Condition}
use Rattle.model.specs.declared.condition.Condition.TheVariants.{NoProgram, On, Off}
use Rattle.model.specs.declared.refusal.Refusal.{Refusal}
use Rattle.model.specs.Refusals.{number}
use Rattle.model.specs.Model.{Program, Answer, refused}
use Rattle.processor.specs.declared.calls.Operation.{Operation}
use Rattle.processor.specs.declared.calls.Operation.TheVariants.{Issue, Switch, Purge, Depart, Packet, Report}

-- an issue wants no program, the operator's other calls and a report want one, and a packet wants one that is on
abbrev pub refusal : Condition → Operation → Option ℕ
refusal NoProgram Issue = None
refusal NoProgram Switch = Some 604
refusal NoProgram Purge = Some 604
refusal NoProgram Depart = Some 604
refusal NoProgram Packet = Some 604
refusal NoProgram Report = Some 604
refusal On Issue = Some 805
refusal On Switch = None
refusal On Purge = None
refusal On Depart = None
refusal On Packet = None
refusal On Report = None
refusal Off Issue = Some 805
refusal Off Switch = None
refusal Off Purge = None
refusal Off Depart = None
refusal Off Packet = Some 605
refusal Off Report = None

-- refused by the number, where there is one, and else as given
abbrev pub unless : Option ℕ → Program → Program × Answer → Program × Answer
unless None p otherwise = otherwise
unless (Some number) p otherwise = refused p number 0

-- the number of a refusal of the code, where it refuses
abbrev pub refused_by : {X : Type 0} → Result X Refusal → Option ℕ
refused_by (Ok x) = None
refused_by (Err why) = Some (number why)

-- 650: the buffer has under 40,960 bytes; 651: the input has over 16,384
abbrev pub sizes_refused : ℕ → ℕ → Option ℕ
sizes_refused room size = cond (nat_lt room 40960) (Some 650) (cond (nat_lt 16384 size) (Some 651) None)
