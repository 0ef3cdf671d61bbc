-- The slots that SC lines name in a history, whether or not their packets are accepted.
use Rattle.std.specs.Prelude.{◌≡◌, ℕ, true, false, List, [], ◌∷◌, ◌++◌, map}
use Rattle.std.specs.List.{AllByRecursion}
use Rattle.element.specs.Slots.{Slot, same_slot}
use Rattle.model.specs.Model.{Setting, Program, Call, issue, switch, depart, purge, packet, report}
use Rattle.histories.specs.Runs.{Event, events}
use Rattle.histories.specs.Callers.{Caller, stranger, caller_of, is_of}
use Rattle.histories.specs.Forces.{Force, no_force, force_after, created_under}

-- an SC line names a slot: whose call it is in, and which issue is in force, by how many were accepted before
pub record Claim : Type 0 where
  pub by : Caller
  pub issue : ℕ
  pub slot : Slot

abbrev pub claim_as : Caller → ℕ → Slot → Claim
claim_as who n x = record { by = who; issue = n; slot = x }

-- the claims of a call: those of a packet's SC lines, and none while no issue is in force
abbrev pub claims_of : {S : Type 0} → Setting S → Force → Call S → List Claim
claims_of s f (issue list) = []
claims_of s f (switch on) = []
claims_of s f (depart id departure arrival date) = []
claims_of s f purge = []
claims_of s f (packet sender input buffer) =
    map (claim_as (caller_of s (packet sender input buffer)) f.issues) (created_under s.element f.days input.lines)
claims_of s f (report sender input buffer) = []

abbrev pub claims_from : {S : Type 0} → Setting S → Force → List (Event S) → List Claim
claims_from s f [] = []
claims_from s f (e ∷ es) = claims_of s f e.call ++ claims_from s (force_after s.element f e.call e.number) es

-- two claims, the first of the user and the second of another, do not name one slot under one issue
abbrev pub Apart : ℕ → Claim → Claim → Type 0
Apart u a b = is_of a.by u ≡ true → is_of b.by u ≡ false → a.issue ≡ b.issue → same_slot a.slot b.slot ≡ false

abbrev pub AllApart : ℕ → List Claim → Type 0
AllApart u cs = AllByRecursion (λ a. AllByRecursion (Apart u a) cs) cs

-- no SC line of another user names a slot that an SC line of the user names, under one issue: in a history from a program with
-- this issue in force, under which others have named these slots already
abbrev pub UnrivalledFrom : {S : Type 0} → Setting S → ℕ → Force → List Slot → Program → List (Call S) → Type 0
UnrivalledFrom s u f named p h = AllApart u (map (claim_as stranger f.issues) named ++ claims_from s f (events s p h))

-- and in a history from its start, when no issue is in force
abbrev pub Unrivalled : {S : Type 0} → Setting S → ℕ → Program → List (Call S) → Type 0
Unrivalled s u p h = UnrivalledFrom s u no_force [] p h
