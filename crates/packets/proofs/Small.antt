-- Every number of a line is below 1,000.
use Rattle.std.proofs.Common.{ℕ, ◌<◌, Bool, true, false, cond, List, [], ◌∷◌, ◌++◌, map, Some, None, Option, arith}
use Rattle.std.specs.List.{AllByRecursion}
use Rattle.model.specs.Model.{Setting, Program}
use Rattle.packets.specs.Messages.{Message}
use Rattle.packets.specs.StageOne.{first_of, stage_one, fault_alone}
use Rattle.packets.specs.StageTwo.{stage_two, faults_together}
use Rattle.packets.specs.Verdict.{messages_of, all_pass, line_numbers}

either : (b : Bool) (n m : ℕ) → n < 1000 → m < 1000 → cond b n m < 1000
either true n m h k = h
either false n m h k = k

first_small : (cs : List (ℕ × Bool)) → AllByRecursion (λ c. c.0 < 1000) cs → first_of cs < 1000
first_small [] h = omega arith
first_small (c ∷ cs) h = either c.1 c.0 (first_of cs) h.0 (first_small cs h.1)

module _ {S : Type 0} (s : Setting S) (p : Program) (u : ℕ) where
  alone_small : (o : Option Message) → fault_alone s p u o < 1000
  alone_small None = omega arith
  alone_small (Some m) =
      first_small (stage_one s p u m)
      (omega arith, (omega arith, (omega arith, (omega arith, (omega arith, (omega arith, (omega arith, (omega arith, (omega arith, (omega arith, (omega arith, (omega arith, (omega arith, tt)))))))))))))

  all_alone_small : (os : List (Option Message)) → AllByRecursion (λ n. n < 1000) (map (fault_alone s p u) os)
  all_alone_small [] = tt
  all_alone_small (o ∷ os) = (alone_small o, all_alone_small os)

  together_small : (all before ms : List Message) → AllByRecursion (λ n. n < 1000) (faults_together s p u all before ms)
  together_small all before [] = tt
  together_small all before (m ∷ ms) =
      (first_small (stage_two s p u all before m) (omega arith, (omega arith, (omega arith, (omega arith, tt)))), together_small all (before ++ m ∷ []) ms)

  pick : (b : Bool) (xs ys : List ℕ) → AllByRecursion (λ n. n < 1000) xs → AllByRecursion (λ n. n < 1000) ys → AllByRecursion (λ n. n < 1000) (cond b xs ys)
  pick true xs ys h k = h
  pick false xs ys h k = k

  pub numbers_small : (os : List (Option Message)) → AllByRecursion (λ n. n < 1000) (line_numbers s p u os)
  numbers_small os = pick (all_pass (map (fault_alone s p u) os)) _ _ (together_small (messages_of os) [] (messages_of os)) (all_alone_small os)
