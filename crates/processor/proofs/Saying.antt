-- What is written is what the outcome says.
use Rattle.std.proofs.Common.{◌≡◌, ℕ, zero, suc, true, false, cond, eqb, List, [], ◌∷◌, map, length, Some, None, Option, sym, refl, ap, ◌∙◌, zero-add, arith}
use Rattle.std.proofs.lemmas.Bool.{and_left, ne_eqb, true≢false}
use Rattle.text.specs.Lines.{Line}
use Rattle.messages.specs.Headers.{has_places}
use Rattle.packets.specs.Messages.{Message, message_read}
use Rattle.packets.specs.Amended.{amended}
use Rattle.packets.specs.Verdict.{messages_of, all_pass, line_numbers, first_number}
use Rattle.plan.specs.Rows.{Row, row_read, messages_in}
use Rattle.writing.specs.Overlay.{overlay, Wrote}
use Rattle.answering.specs.Replies.{line_in, rejected_lines, accepted_list}
use Rattle.model.specs.declared.condition.Condition.{Condition}
use Rattle.model.specs.declared.condition.Condition.TheVariants.{NoProgram, On, Off}
use Rattle.model.specs.Model.{Setting, Program, Answer}
use Rattle.model.specs.declared.refusal.Refusal.{Refusal}
use Rattle.model.specs.Refusals.{number}
use Rattle.model.proofs.Refused.{refused}
use Rattle.processor.specs.declared.calls.Operation.TheVariants.{Packet}
use Rattle.processor.specs.Conditions.{refusal}
use Rattle.processor.specs.Packet.{rejects, accepts, rejects_first, amended_program, judged, by_condition, by_user, by_lines, answered}

written_as : (p : Program) (n e : ℕ) (buffer buffer' text : List ℕ) → Wrote buffer 0 text buffer' e → ◌≡◌ {A = Program × Answer} (p, record { number = n; second = e; buffer = Some buffer' }) (p, record { number = n; second = length text; buffer = Some (overlay buffer 0 text) })
written_as p n e buffer buffer' text w =
    let end : e ≡ length text = w.end ∙ zero-add (length text) in
    ap (λ (b : List ℕ). (p, record { number = n; second = e; buffer = Some b })) w.buffer
    ∙ ap (λ (k : ℕ). (p, record { number = n; second = k; buffer = Some (overlay buffer 0 text) })) end

pub lines_said : {S : Type 0} (s : Setting S) (p : Program) (id : List ℕ) (ls : List Line) (os : List (Option Message)) (ns : List ℕ) (n e : ℕ) (buffer buffer' : List ℕ) → all_pass ns ≡ false → n ≡ first_number ns → Wrote buffer 0 (rejected_lines id ls ns) buffer' e → ◌≡◌ {A = Program × Answer} (p, record { number = n; second = e; buffer = Some buffer' }) (answered p buffer (judged s p id ls os ns))
lines_said s p id ls os ns n e buffer buffer' fail first w =
    ap (λ (k : ℕ). (p, record { number = k; second = e; buffer = Some buffer' })) first
    ∙ written_as p (first_number ns) e buffer buffer' (rejected_lines id ls ns) w
    ∙ sym (ap (λ b. answered p buffer (cond b (accepts (amended_program p (messages_of os)) (accepted_list s.element p.days id (messages_of os) (map (amended (messages_of os)) p.flights))) (rejects (first_number ns) (rejected_lines id ls ns)))) fail)

pub acceptance_said : {S : Type 0} (s : Setting S) (p q : Program) (id : List ℕ) (ls : List Line) (os : List (Option Message)) (ns : List ℕ) (e : ℕ) (buffer buffer' : List ℕ) → all_pass ns ≡ true → q ≡ amended_program p (messages_of os) → Wrote buffer 0 (accepted_list s.element p.days id (messages_of os) (map (amended (messages_of os)) p.flights)) buffer' e → ◌≡◌ {A = Program × Answer} (q, record { number = 0; second = e; buffer = Some buffer' }) (answered p buffer (judged s p id ls os ns))
acceptance_said s p q id ls os ns e buffer buffer' pass after w =
    ap (λ (r : Program). (r, record { number = 0; second = e; buffer = Some buffer' })) after
    ∙ written_as (amended_program p (messages_of os)) 0 e buffer buffer' (accepted_list s.element p.days id (messages_of os) (map (amended (messages_of os)) p.flights)) w
    ∙ sym (ap (λ b. answered p buffer (cond b (accepts (amended_program p (messages_of os)) (accepted_list s.element p.days id (messages_of os) (map (amended (messages_of os)) p.flights))) (rejects (first_number ns) (rejected_lines id ls ns)))) pass)

-- the first number is 0 exactly where all pass
pub none_passes : (ns : List ℕ) → first_number ns ≡ 0 → all_pass ns ≡ true
none_passes [] h = refl
none_passes (zero ∷ ns) h = none_passes ns h
none_passes (suc n ∷ ns) h = let z : suc n ≡ 0 = h in absurd (omega arith)

some_fails : (ns : List ℕ) → (first_number ns ≡ 0 → ⊥) → all_pass ns ≡ false
some_fails [] h = absurd (h refl)
some_fails (zero ∷ ns) h = some_fails ns h
some_fails (suc n ∷ ns) h = and_left (eqb (suc n) 0) (all_pass ns) (ne_eqb (suc n) 0 (λ z. omega arith))

-- a refusal has a number, so where it is the first not all pass
pub fault_fails : (r : Refusal) (ns : List ℕ) → number r ≡ first_number ns → all_pass ns ≡ false
fault_fails r ns e = some_fails ns (λ z. true≢false (sym (ap (λ n. eqb n 0) (e ∙ z)) ∙ refused r))

-- a packet wants a program that is on
pub condition_on : (c : Condition) → refusal c Packet ≡ None → c ≡ On
condition_on NoProgram h = let z : ◌≡◌ {A = ℕ} 0 1 = cc in absurd (omega arith)
condition_on On h = refl
condition_on Off h = let z : ◌≡◌ {A = ℕ} 0 1 = cc in absurd (omega arith)

pub ready_outcome : {S : Type 0} (s : Setting S) (p : Program) (sender : S) (ls : List Line) (u : ℕ) (ns : List ℕ) → has_places ls ≡ true → s.user sender ≡ Some u → refusal p.condition Packet ≡ None → ns ≡ line_numbers s p u (map (message_read s.element p.days) ls) → (id : List ℕ) (first : Line) → by_lines s p sender id first ls ≡ judged s p id ls (map (message_read s.element p.days) ls) ns
ready_outcome s p sender ls u ns many user on numbers id first =
    ap (λ b. cond b (by_user s p id first ls (s.user sender)) (rejects_first id first 602)) many
    ∙ ap (by_user s p id first ls) user
    ∙ ap (by_condition s p id first ls u) on
    ∙ ap (judged s p id ls (map (message_read s.element p.days) ls)) (sym numbers)

-- the lines and the messages of the rows of lines
module _ {S : Type 0} (s : Setting S) (p : Program) where
  pub lines_back : (ls : List Line) → map line_in (map (row_read s.element p.days) ls) ≡ ls
  lines_back [] = refl
  lines_back (l ∷ ls) = ap (λ (k : List Line). l ∷ k) (lines_back ls)

  pub messages_back : (ls : List Line) → messages_in (map (row_read s.element p.days) ls) ≡ map (message_read s.element p.days) ls
  messages_back [] = refl
  messages_back (l ∷ ls) = ap (λ (k : List (Option Message)). message_read s.element p.days l ∷ k) (messages_back ls)

  pub judged_rows : (rs : List Row) (ls : List Line) (ns id : List ℕ) → rs ≡ map (row_read s.element p.days) ls → judged s p id (map line_in rs) (messages_in rs) ns ≡ judged s p id ls (map (message_read s.element p.days) ls) ns
  judged_rows rs ls ns id e =
      ap (λ (k : List Row). judged s p id (map line_in k) (messages_in k) ns) e
      ∙ ap (λ (k : List Line). judged s p id k (messages_in (map (row_read s.element p.days) ls)) ns) (lines_back ls)
      ∙ ap (λ (k : List (Option Message)). judged s p id ls k ns) (messages_back ls)
