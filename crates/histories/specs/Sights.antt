-- What a user sees of a history.
use Rattle.std.specs.Prelude.{ℕ, cond, List, [], ◌∷◌, Some, None, Option}
use Rattle.flights.specs.Flights.{Flight}
use Rattle.packets.specs.StageOne.{owns}
use Rattle.model.specs.Model.{Setting, Program, Call, Answer}
use Rattle.processor.specs.Step.{step}
use Rattle.histories.specs.Callers.{caller_of, answered_to, is_of, shares}

-- a user's records: the flights of its carriers, all that they keep, in the table's order
abbrev pub records_of : {S : Type 0} → Setting S → ℕ → List Flight → List Flight
records_of s u [] = []
records_of s u (f ∷ fs) = cond (owns s u f) (f ∷ records_of s u fs) (records_of s u fs)

-- what a user sees of a shared call: the answer, pair and whole buffer, where it is answered to the user, and its records after
-- the call
pub record Sight : Type 0 where
  pub answer : Option Answer
  pub records : List Flight

abbrev pub answer_for : {S : Type 0} → Setting S → ℕ → Call S → Answer → Option Answer
answer_for s u c a = cond (is_of (answered_to s c) u) (Some a) None

abbrev pub sight_of : {S : Type 0} → Setting S → ℕ → Call S → Program × Answer → Sight
sight_of s u c x = record { answer = answer_for s u c x.1; records = records_of s u x.0.flights }

-- what a user sees of a history: of each shared call in order
abbrev pub seen : {S : Type 0} → Setting S → ℕ → Program → List (Call S) → List Sight
seen s u p [] = []
seen s u p (c ∷ h) =
    cond (shares (caller_of s c) u)
    (sight_of s u c (step s p c) ∷ seen s u (step s p c).0 h)
    (seen s u (step s p c).0 h)
