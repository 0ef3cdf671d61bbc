-- Each line of a packet gets one number.
use Rattle.std.proofs.Common.{◌≡◌, ℕ, suc, true, false, cond, eqb, List, [], ◌∷◌, ◌++◌, map, length, Some, None, Option, refl, ap, ◌∙◌, arith}
use Rattle.std.proofs.lemmas.Bool.{and_parts}
use Rattle.model.specs.Model.{Setting, Program}
use Rattle.packets.specs.Messages.{Message}
use Rattle.packets.specs.StageOne.{fault_alone}
use Rattle.packets.specs.StageTwo.{faults_together}
use Rattle.packets.specs.Verdict.{messages_of, all_pass, line_numbers}
use Rattle.packets.proofs.Deciding.{by_test}

length_mapped : {X Y : Type 0} (f : X → Y) (xs : List X) → length (map f xs) ≡ length xs
length_mapped f [] = refl
length_mapped f (x ∷ xs) = ap suc (length_mapped f xs)

module _ {S : Type 0} (s : Setting S) (p : Program) (u : ℕ) where
  together_length : (all before ms : List Message) → length (faults_together s p u all before ms) ≡ length ms
  together_length all before [] = refl
  together_length all before (m ∷ ms) = ap suc (together_length all (before ++ m ∷ []) ms)

  -- where all lines pass alone, each is a message
  messages_length : (os : List (Option Message)) → all_pass (map (fault_alone s p u) os) ≡ true → length (messages_of os) ≡ length os
  messages_length [] h = refl
  messages_length (None ∷ os) h = let no : false ≡ true = h in absurd (let z : ◌≡◌ {A = ℕ} 0 1 = cc in omega arith)
  messages_length (Some m ∷ os) h =
      ap suc (messages_length os (and_parts (eqb (fault_alone s p u (Some m)) 0) (all_pass (map (fault_alone s p u) os)) h).1)

  pub numbers_length : (os : List (Option Message)) → length (line_numbers s p u os) ≡ length os
  numbers_length os =
      let one = map (fault_alone s p u) os in
      let two = faults_together s p u (messages_of os) [] (messages_of os) in
      by_test (all_pass one)
      (λ q. ap (λ b. length (cond b two one)) q ∙ together_length (messages_of os) [] (messages_of os) ∙ messages_length os q)
      (λ q. ap (λ b. length (cond b two one)) q ∙ length_mapped (fault_alone s p u) os)
