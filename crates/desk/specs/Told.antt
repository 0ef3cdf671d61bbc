-- The calls that blocks make.
use Rattle.std.specs.Prelude.{◌≡◌, ℕ, List, [], ◌∷◌, Some, None, Option}
use Rattle.blocks.specs.Told.{Told, issue, switch, purge, depart, not_understood}
use Rattle.model.specs.Model.{Setting, Program, Call, issue as issue_call, switch as switch_call, depart as depart_call, purge as purge_call}
use Rattle.processor.specs.Step.{step, Does}

-- a block that is not understood makes none
abbrev pub call_told : {S : Type 0} → Told → Option (Call S)
call_told (issue list) = Some (issue_call list)
call_told (switch on) = Some (switch_call on)
call_told purge = Some purge_call
call_told (depart id departure arrival date) = Some (depart_call id departure arrival date)
call_told not_understood = None

-- the answer to a block: that of its call; without a call there is none, and nothing changes
abbrev pub Answers : {S : Type 0} → Setting S → Program → Option (Call S) → Program → Option (ℕ × ℕ) → Type 0
Answers s p None after pair = (after ≡ p) × (pair ≡ None)
Answers s p (Some call) after None = ⊥
Answers s p (Some call) after (Some pair) = Does s p call after pair

abbrev pub after_call : {S : Type 0} → Setting S → Program → Option (Call S) → Program
after_call s p None = p
after_call s p (Some call) = (step s p call).0

-- the program after all of some blocks, in their order
abbrev pub after_all : {S : Type 0} → Setting S → Program → List Told → Program
after_all s p [] = p
after_all s p (t ∷ ts) = after_all s (after_call s p (call_told t)) ts
