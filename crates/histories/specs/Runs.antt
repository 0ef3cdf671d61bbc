-- A history is any list of the six calls, refused ones among them. These are the programs and the answers along it.
use Rattle.std.specs.Prelude.{ℕ, List, [], ◌∷◌}
use Rattle.calendar.specs.Days.{Days}
use Rattle.model.specs.declared.condition.Condition.TheVariants.{NoProgram}
use Rattle.model.specs.Model.{Setting, Program, Call, Answer}
use Rattle.processor.specs.Step.{step}

-- where a history starts: no program and an empty table. The days are those that the element was made with
abbrev pub fresh : Days → Program
fresh d = record { condition = NoProgram; days = d; flights = [] }

-- the program after a history
abbrev pub after : {S : Type 0} → Setting S → Program → List (Call S) → Program
after s p [] = p
after s p (c ∷ h) = after s (step s p c).0 h

-- the answers to its calls, in order
abbrev pub answers : {S : Type 0} → Setting S → Program → List (Call S) → List Answer
answers s p [] = []
answers s p (c ∷ h) = (step s p c).1 ∷ answers s (step s p c).0 h

-- a call, and the first number of its answer
pub record Event (S : Type 0) : Type 0 where
  pub call : Call S
  pub number : ℕ

-- its calls, each with the first number of its answer
abbrev pub events : {S : Type 0} → Setting S → Program → List (Call S) → List (Event S)
events s p [] = []
events s p (c ∷ h) = record { call = c; number = (step s p c).1.number } ∷ events s (step s p c).0 h
