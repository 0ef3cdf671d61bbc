-- The loops that give each row its number.
use Rattle.std.proofs.Common.{◌≡◌, ℕ, zero, suc, ◌+◌, ◌<◌, ◌≤◌, Bool, true, false, not, cond, eqb, List, [], ◌∷◌, ◌++◌, map, length, get_or, take, set, Some, None, Option, sym, refl, ap, ◌∙◌, append_assoc, append-nil, arith}
use Rattle.std.proofs.lemmas.List.{take_more, take_more_set, take_all, take-map, length-map}
use Rattle.std.proofs.lemmas.Bool.{and_parts}
use Rattle.model.specs.Model.{Setting, Program}
use Rattle.packets.specs.Messages.{Message}
use Rattle.packets.specs.StageOne.{fault_alone}
use Rattle.packets.specs.StageTwo.{faults_together}
use Rattle.packets.specs.Verdict.{messages_of, all_pass, line_numbers, first_number}
use Rattle.std.specs.Option.{is_some}
use Rattle.model.specs.declared.refusal.Refusal.{Refusal}
use Rattle.model.specs.Refusals.{number_or_zero}
use Rattle.plan.proofs.Numbers.{none_passes}
use Rattle.plan.specs.declared.row.Row.{Row as KeptRow}
use Rattle.plan.proofs.RowSteps.{message_there}
use Rattle.plan.specs.Rows.{Row, row_of, messages_in, message_at, each_beside, fault_beside, faults_beside}

-- the numbers so far are those wanted; one more is given
pub numbered_more : (ns ns' target : List ℕ) (i n : ℕ) → i < length ns → i < length target → take i ns ≡ take i target → ns' ≡ set ns i n → n ≡ get_or target i 0 → take (i + 1) ns' ≡ take (i + 1) target
numbered_more ns ns' target i n h k inv e v =
    ap (take (i + 1)) e
    ∙ take_more_set ns i n h
    ∙ ap (λ (l : List ℕ). l ++ n ∷ []) inv
    ∙ ap (λ (m : ℕ). take i target ++ m ∷ []) v
    ∙ sym (take_more target i 0 k)

pub numbered_all : (ns target : List ℕ) (i : ℕ) → length ns ≤ i → length target ≤ i → take i ns ≡ take i target → ns ≡ target
numbered_all ns target i h k inv = sym (take_all i ns h) ∙ (inv ∙ take_all i target k)

-- a check of each line by itself
pub each_alone : (f : Option Message → ℕ) (before os : List (Option Message)) → each_beside (λ b o. f o) before os ≡ map f os
each_alone f before [] = refl
each_alone f before (o ∷ os) = ap (λ (l : List ℕ). f o ∷ l) (each_alone f (before ++ o ∷ []) os)

-- what stands at a place of the numbers
module _ (gives : List (Option Message) → Option Message → ℕ) where
  at_from : (before : List (Option Message)) (rs : List Row) (i : ℕ) → i < length rs → gives (before ++ messages_in (take i rs)) (message_at rs i) ≡ get_or (each_beside gives before (messages_in rs)) i 0
  at_from before [] i h = absurd (omega arith)
  at_from before (r ∷ rs) zero h = ap (λ (b : List (Option Message)). gives b r.message) (append-nil before)
  at_from before (r ∷ rs) (suc i) h =
      ap (λ (b : List (Option Message)). gives b (message_at rs i)) (sym (append_assoc before (r.message ∷ []) (messages_in (take i rs))))
      ∙ at_from (before ++ r.message ∷ []) rs i (omega arith)

  pub each_at : (rs : List Row) (i : ℕ) → i < length rs → gives (messages_in (take i rs)) (message_at rs i) ≡ get_or (each_beside gives [] (messages_in rs)) i 0
  each_at rs i h = at_from [] rs i h

  length_from : (before : List (Option Message)) (rs : List Row) → length (each_beside gives before (messages_in rs)) ≡ length rs
  length_from before [] = refl
  length_from before (r ∷ rs) = ap suc (length_from (before ++ r.message ∷ []) rs)

  pub length_each : (rs : List Row) → length (each_beside gives [] (messages_in rs)) ≡ length rs
  length_each rs = length_from [] rs

-- the number that is found at a place of the code's rows
pub found_at : (gives : List (Option Message) → Option Message → ℕ) (all : List KeptRow) (rs : List Row) (i : ℕ) (x : KeptRow) → map row_of all ≡ rs → i < length all → x ≡ get_or all i x
    → gives (messages_in (map row_of (take i all))) (row_of x).message ≡ get_or (each_beside gives [] (messages_in rs)) i 0
found_at gives all rs i x e h is =
    ap (λ (before : List Row). gives (messages_in before) (row_of x).message) (sym (take-map row_of i all))
    ∙ ap (λ (o : Option Message). gives (messages_in (take i (map row_of all))) o) (message_there all i x h is)
    ∙ each_at gives (map row_of all) i (omega (arith, length-map all row_of, h))
    ∙ ap (λ (rs : List Row). get_or (each_beside gives [] (messages_in rs)) i 0) e

-- where all pass alone, each row is a message, and stage two is that of the messages
messages_snoc : (os : List (Option Message)) (m : Message) → messages_of (os ++ Some m ∷ []) ≡ messages_of os ++ m ∷ []
messages_snoc [] m = refl
messages_snoc (None ∷ os) m = messages_snoc os m
messages_snoc (Some n ∷ os) m = ap (λ (l : List Message). n ∷ l) (messages_snoc os m)

together_from : {S : Type 0} (s : Setting S) (p : Program) (u : ℕ) (all before os : List (Option Message)) → all_pass (map (fault_alone s p u) os) ≡ true → faults_beside s p u all before os ≡ faults_together s p u (messages_of all) (messages_of before) (messages_of os)
together_from s p u all before [] h = refl
together_from s p u all before (None ∷ os) h = let no : false ≡ true = h in absurd (let z : ◌≡◌ {A = ℕ} 0 1 = cc in omega arith)
together_from s p u all before (Some m ∷ os) h =
    let rest = (and_parts (eqb (fault_alone s p u (Some m)) 0) (all_pass (map (fault_alone s p u) os)) h).1 in
    ap (λ (l : List ℕ). fault_beside s p u all before (Some m) ∷ l)
    (together_from s p u all (before ++ Some m ∷ []) os rest ∙ ap (λ (b : List Message). faults_together s p u (messages_of all) b (messages_of os)) (messages_snoc before m))

module _ {S : Type 0} (s : Setting S) (p : Program) (u : ℕ) (os : List (Option Message)) (ns : List ℕ) (one : ns ≡ each_beside (λ before o. fault_alone s p u o) [] os) where
  alone : ns ≡ map (fault_alone s p u) os
  alone = one ∙ each_alone (fault_alone s p u) [] os

  chosen : (b : Bool) → b ≡ all_pass ns → cond b (faults_together s p u (messages_of os) [] (messages_of os)) (map (fault_alone s p u) os) ≡ line_numbers s p u os
  chosen b h = ap (λ t. cond t (faults_together s p u (messages_of os) [] (messages_of os)) (map (fault_alone s p u) os)) (h ∙ ap all_pass alone)

  -- the numbers of stage one, where they don't all pass, and else those of stage two
  judged_by : (b : Bool) (ns' : List ℕ) → not b ≡ all_pass ns → ns' ≡ cond b ns (each_beside (fault_beside s p u os) [] os) → ns' ≡ line_numbers s p u os
  judged_by true ns' h two = two ∙ alone ∙ chosen false h
  judged_by false ns' h two = two ∙ together_from s p u os [] os (sym (h ∙ ap all_pass alone)) ∙ chosen true h

  pub judged : (b : Bool) (ns' : List ℕ) (f : Option Refusal) → is_some f ≡ b → number_or_zero f ≡ first_number ns → ns' ≡ cond b ns (each_beside (fault_beside s p u os) [] os) → ns' ≡ line_numbers s p u os
  judged b ns' f is first two = judged_by b ns' (ap not (sym is) ∙ none_passes f ns first) two
