-- The two laws over whole histories.
use Rattle.std.specs.Prelude.{◌≡◌, ℕ, true, false, List, []}
use Rattle.std.specs.List.{AllZip}
use Rattle.calendar.specs.Days.{Days}
use Rattle.element.specs.Slots.{Slot}
use Rattle.flights.specs.Counts.{some}
use Rattle.flights.specs.Flights.{holders}
use Rattle.packets.specs.Laws.{SameTo}
use Rattle.model.specs.declared.condition.Condition.TheVariants.{NoProgram}
use Rattle.model.specs.Model.{Setting, Program, Call, program_stands}
use Rattle.histories.specs.Runs.{fresh, after, events}
use Rattle.histories.specs.Callers.{shared}
use Rattle.histories.specs.Sights.{records_of, seen}
use Rattle.histories.specs.Slots.{is_in}
use Rattle.histories.specs.Forces.{Force, InForce}
use Rattle.histories.specs.Claims.{Unrivalled, UnrivalledFrom}
use Rattle.histories.specs.Ledgers.{ledger, given}

-- two programs that are alike for a user, but for which of some slots are held: the same condition and days, the same
-- identities in the same order, the same flights of the user, and each other slot held in both or in neither
pub record AlikeFor {S : Type 0} (s : Setting S) (u : ℕ) (but : List Slot) (p q : Program) : Type 0 where
  pub condition : p.condition ≡ q.condition
  pub days : p.days ≡ q.days
  pub flights : AllZip (SameTo s u) p.flights q.flights
  pub held : (x : Slot) → is_in x but ≡ false → some (holders x p.flights) ≡ some (holders x q.flights)

-- a user sees only its own: of two histories that agree on the operator's calls and on the user's, where in neither an SC line
-- of another user names a slot that an SC line of this user names under the same issue, it sees the same: the answers to its
-- calls, pair and whole buffer, and its records after each shared call. Both start from one register and one element, days
-- included
abbrev pub SeesOnlyItsOwn : {S : Type 0} → Setting S → ℕ → Days → List (Call S) → List (Call S) → Type 0
SeesOnlyItsOwn s u d h k =
    shared s u h ≡ shared s u k →
    Unrivalled s u (fresh d) h → Unrivalled s u (fresh d) k →
    seen s u (fresh d) h ≡ seen s u (fresh d) k

-- the same of two histories from any two programs that keep the standing rules and are alike for the user, but for slots that
-- others have named under the issue in force
abbrev pub SeesOnlyItsOwnFrom : {S : Type 0} → Setting S → Type 0
SeesOnlyItsOwnFrom {S} s =
    (u : ℕ) (f : Force) (named : List Slot) (p q : Program) (h k : List (Call S)) →
    program_stands s.element p ≡ true → program_stands s.element q ≡ true →
    InForce p.condition p.days f → AlikeFor s u named p q →
    shared s u h ≡ shared s u k →
    UnrivalledFrom s u f named p h → UnrivalledFrom s u f [] q k →
    seen s u p h ≡ seen s u q k

-- each slot in the ledger is held by exactly one flight, and no other slot is held; the slots that a user's flights hold are
-- exactly those that it was given; without a program no slot is in the ledger and none was given
pub record OneHolder {S : Type 0} (s : Setting S) (p : Program) (slots : List Slot) (gave : ℕ → List Slot) : Type 0 where
  pub held : (x : Slot) → is_in x slots ≡ true → holders x p.flights ≡ 1
  pub free : (x : Slot) → is_in x slots ≡ false → holders x p.flights ≡ 0
  pub users : (u : ℕ) (x : Slot) → some (holders x (records_of s u p.flights)) ≡ is_in x (gave u)
  pub ended : p.condition ≡ NoProgram → (x : Slot) → (is_in x slots ≡ false) × ((u : ℕ) → is_in x (gave u) ≡ false)

-- each slot in the ledger has one holder, after every history, and so after each call of one: what comes before a call and the
-- call itself are a history too
abbrev pub EachSlotHasOneHolder : {S : Type 0} → Setting S → Days → List (Call S) → Type 0
EachSlotHasOneHolder s d h =
    OneHolder s (after s (fresh d) h) (ledger s.element (events s (fresh d) h)) (λ u. given s u (events s (fresh d) h))
