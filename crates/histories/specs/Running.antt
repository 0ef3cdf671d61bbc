-- What running a history promises.
use Rattle.std.specs.Prelude.{◌≡◌, ℕ, List, [], ◌∷◌, map, vec_items}
use Rattle.std.specs.List.{AllZip}
use Rattle.calendar.specs.Days.{Days}
use Rattle.model.specs.declared.condition.Condition.TheVariants.{NoProgram}
use Rattle.model.specs.Model.{Setting, Program, Call, Answer}
use Rattle.processor.specs.Step.{step}
use Rattle.histories.specs.declared.turn.Call.{Call as KeptCall}
use Rattle.histories.specs.declared.turn.Call.TheVariants.{Issue, Switch, Depart, Purge, Packet, Report}
use Rattle.histories.specs.declared.turn.Turn.{Turn}
use Rattle.histories.specs.Runs.{after, answers, Event}
use Rattle.histories.specs.Ledgers.{ledger, given}
use Rattle.histories.specs.Laws.{SeesOnlyItsOwn, SeesOnlyItsOwnFrom, OneHolder, EachSlotHasOneHolder}
use Rattle.histories.specs.Turns.{call_with, call_of, buffer_with, answer_of}

-- the call of a turn without its buffer
abbrev pub made_by : {S : Type 0} → Turn S → KeptCall S
made_by t = t.call

-- what a call leaves of the buffer, b before it and b' after it: a packet or a report writes its reply there, and any other
-- call leaves it
abbrev pub Leaves : {S : Type 0} → KeptCall S → List ℕ → List ℕ → Type 0
Leaves (Issue list) b b' = b' ≡ b
Leaves (Switch on) b b' = b' ≡ b
Leaves (Depart flight) b b' = b' ≡ b
Leaves Purge b b' = b' ≡ b
Leaves (Packet sender input) b b' = Unit {0}
Leaves (Report sender input) b b' = Unit {0}

-- a call takes the program p to p' and is answered this pair, with the buffer b before it and b' after it
pub record Makes {S : Type 0} (s : Setting S) (p p' : Program) (c : KeptCall S) (pair : ℕ × ℕ) (b b' : List ℕ) : Type 0 where
  pub does : ◌≡◌ {A = Program × Answer} (p', record { number = pair.0; second = pair.1; buffer = buffer_with c b' }) (step s p (call_with c b))
  pub leaves : Leaves c b b'

-- a turn t becomes t', and the program p becomes p', by the turn's call
pub record Taken {S : Type 0} (s : Setting S) (p p' : Program) (t t' : Turn S) : Type 0 where
  pub does : ◌≡◌ {A = Program × Answer} (p', answer_of t') (step s p (call_of t))
  pub leaves : Leaves t.call (vec_items t.buffer) (vec_items t'.buffer)
  pub same : t'.call ≡ t.call

-- turns ts become ts', and the program p becomes p': the answers that stand in the turns are those of the model, the program
-- is the model's at the end, the turns' calls are as they were, and so is the buffer of a turn without a reply
pub record Ran {S : Type 0} (s : Setting S) (p p' : Program) (ts ts' : List (Turn S)) : Type 0 where
  pub said : map answer_of ts' ≡ answers s p (map call_of ts)
  pub ends : p' ≡ after s p (map call_of ts)
  pub same : map made_by ts' ≡ map made_by ts
  pub leaves : AllZip (λ t t'. Leaves t.call (vec_items t.buffer) (vec_items t'.buffer)) ts ts'

-- the calls of turns, each with the first number that stands in its turn after the run
abbrev pub numbered : {S : Type 0} → List (Turn S) → List (Turn S) → List (Event S)
numbered [] ts' = []
numbered (t ∷ ts) [] = []
numbered (t ∷ ts) (t' ∷ ts') = record { call = call_of t; number = t'.pair.0 } ∷ numbered ts ts'

-- the laws, of turns ts that were run from the program p and became ts', with the program p' after them: where there was no
-- program, the table that is there now and the ledger of the numbers that stand in the turns meet the second law; the first law
-- holds of this history, from no program on the days before the run, against every other; and both hold of all histories, the
-- first from any two programs that are alike
pub record Lawful {S : Type 0} (s : Setting S) (p p' : Program) (ts ts' : List (Turn S)) : Type 0 where
  pub holders : p.condition ≡ NoProgram → OneHolder s p' (ledger s.element (numbered ts ts')) (λ u. given s u (numbered ts ts'))
  pub sees : (u : ℕ) (k : List (Call S)) → SeesOnlyItsOwn s u p.days (map call_of ts) k
  pub every_holder : (d : Days) (h : List (Call S)) → EachSlotHasOneHolder s d h
  pub every_sight : (u : ℕ) (d : Days) (h k : List (Call S)) → SeesOnlyItsOwn s u d h k
  pub from_alike : SeesOnlyItsOwnFrom s
