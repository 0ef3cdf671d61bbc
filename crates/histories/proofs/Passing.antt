-- A packet that is answered 0 has passed all checks, and its flights are amended.
use Rattle.std.proofs.Common.{◌≡◌, ℕ, Bool, true, false, cond, ltb, List, [], ◌∷◌, map, length, Some, None, Option, sym, refl, ◌∙◌, arith}
use Rattle.std.proofs.lemmas.Bool.{true≢false}
use Rattle.text.specs.Lines.{Line}
use Rattle.messages.specs.Headers.{header_read, has_places}
use Rattle.packets.specs.Messages.{message_read}
use Rattle.packets.specs.Verdict.{messages_of, all_pass, line_numbers}
use Rattle.model.specs.declared.condition.Condition.{Condition}
use Rattle.model.specs.declared.condition.Condition.TheVariants.{NoProgram, On, Off}
use Rattle.model.specs.Model.{Setting, Program, Input, packet}
use Rattle.processor.specs.declared.calls.Operation.TheVariants.{Packet}
use Rattle.processor.specs.Conditions.{refusal}
use Rattle.processor.specs.Packet.{Outcome, silent, rejects, accepts, amended_program, judged, by_condition, by_user, by_header, received, outcome, answered}
use Rattle.processor.specs.Step.{step}
use Rattle.processor.proofs.Saying.{none_passes}

-- what is known of a packet that is accepted
pub record Passed {S : Type 0} (s : Setting S) (p : Program) (sender : S) (lines : List Line) (after : Program) : Type 0 where
  pub header : Line
  pub messages : List Line
  pub user : ℕ
  pub split : lines ≡ header ∷ messages
  pub known : s.user sender ≡ Some user
  pub on : p.condition ≡ On
  pub pass : all_pass (line_numbers s p user (map (message_read s.element p.days) messages)) ≡ true
  pub amends : after ≡ amended_program p (messages_of (map (message_read s.element p.days) messages))

module _ {S : Type 0} (s : Setting S) (p : Program) (sender : S) (lines : List Line) where
  abbrev Through : Outcome → Type 0
  Through (silent n) = n ≡ 0 → ⊥
  Through (rejects n t) = n ≡ 0 → ⊥
  Through (accepts q t) = Passed s p sender lines q

  either_through : (b : Bool) (x y : Outcome) → (b ≡ true → Through x) → (b ≡ false → Through y) → Through (cond b x y)
  either_through true x y f g = f refl
  either_through false x y f g = g refl

  module _ (id : List ℕ) (first : Line) (ls : List Line) (split : lines ≡ first ∷ ls) where
    judged_through : (u : ℕ) → s.user sender ≡ Some u → p.condition ≡ On → Through (judged s p id ls (map (message_read s.element p.days) ls) (line_numbers s p u (map (message_read s.element p.days) ls)))
    judged_through u known on =
        let ns = line_numbers s p u (map (message_read s.element p.days) ls) in
        either_through (all_pass ns) _ _
        (λ pass. record { header = first; messages = ls; user = u; split = split; known = known; on = on; pass = pass; amends = refl })
        (λ fail z. true≢false (sym (none_passes ns z) ∙ fail))

    condition_through : (u : ℕ) (c : Condition) → s.user sender ≡ Some u → p.condition ≡ c → Through (by_condition s p id first ls u (refusal c Packet))
    condition_through u NoProgram known e = λ z. omega arith
    condition_through u On known e = judged_through u known e
    condition_through u Off known e = λ z. omega arith

    user_through : (o : Option ℕ) → s.user sender ≡ o → Through (by_user s p id first ls o)
    user_through None known = λ z. omega arith
    user_through (Some u) known = condition_through u p.condition known refl

  header_through : (first : Line) (ls : List Line) (o : Option (List ℕ)) → lines ≡ first ∷ ls → Through (by_header s p sender first ls o)
  header_through first ls None split = λ z. omega arith
  header_through first ls (Some id) split =
      either_through (has_places ls) _ _ (λ many. user_through id first ls split (s.user sender) refl) (λ few z. omega arith)

  received_through : (all : List Line) → lines ≡ all → Through (received s p sender all)
  received_through [] e = λ z. omega arith
  received_through (first ∷ ls) e = header_through first ls (header_read first) e

  pub outcome_through : (input : Input) (room : ℕ) → lines ≡ input.lines → Through (outcome s p sender input room)
  outcome_through input room same =
      either_through (ltb room 40960) _ _ (λ small z. omega arith)
      (λ wide. either_through (ltb 16384 input.size) _ _ (λ long z. omega arith) (λ short. received_through input.lines same))

  answered_through : (buffer : List ℕ) (o : Outcome) → Through o → (answered p buffer o).1.number ≡ 0 → Passed s p sender lines (answered p buffer o).0
  answered_through buffer (silent n) t z = absurd (t z)
  answered_through buffer (rejects n x) t z = absurd (t z)
  answered_through buffer (accepts q x) t z = t

pub packet_passed : {S : Type 0} (s : Setting S) (p : Program) (sender : S) (input : Input) (buffer : List ℕ) → (step s p (packet sender input buffer)).1.number ≡ 0 → Passed s p sender input.lines (step s p (packet sender input buffer)).0
packet_passed s p sender input buffer z =
    answered_through s p sender input.lines buffer (outcome s p sender input (length buffer)) (outcome_through s p sender input.lines input (length buffer) refl) z
