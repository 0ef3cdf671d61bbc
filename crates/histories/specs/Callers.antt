-- Who makes a call, to whom it is answered, and which calls a user shares.
use Rattle.std.specs.Prelude.{ℕ, Bool, true, false, cond, List, [], ◌∷◌, Some, None, Option, ◌==◌}
use Rattle.model.specs.Model.{Setting, Call, issue, switch, depart, purge, packet, report}

-- the operator, a user, or a sender without a user
pub data Caller : Type 0 where
  operator : Caller
  user : ℕ → Caller
  stranger : Caller

abbrev pub caller_from : Option ℕ → Caller
caller_from None = stranger
caller_from (Some u) = user u

-- issue, switch, depart and purge are the operator's calls; a packet or a report is a call of its sender's user
abbrev pub caller_of : {S : Type 0} → Setting S → Call S → Caller
caller_of s (issue list) = operator
caller_of s (switch on) = operator
caller_of s (depart id departure arrival date) = operator
caller_of s purge = operator
caller_of s (packet sender input buffer) = caller_from (s.user sender)
caller_of s (report sender input buffer) = caller_from (s.user sender)

-- a call is answered to who makes it
abbrev pub answered_to : {S : Type 0} → Setting S → Call S → Caller
answered_to s c = caller_of s c

-- whether it is this user
abbrev pub is_of : Caller → ℕ → Bool
is_of operator u = false
is_of (user v) u = v == u
is_of stranger u = false

-- a user shares the operator's calls and its own; those of other users and of strangers it does not share
abbrev pub shares : Caller → ℕ → Bool
shares operator u = true
shares (user v) u = v == u
shares stranger u = false

-- the shared calls of a user: the history with the other users' calls struck out
abbrev pub shared : {S : Type 0} → Setting S → ℕ → List (Call S) → List (Call S)
shared s u [] = []
shared s u (c ∷ h) = cond (shares (caller_of s c) u) (c ∷ shared s u h) (shared s u h)
