-- A user sees only its own.
use Rattle.std.proofs.Common.{◌≡◌, ℕ, zero, suc, Bool, true, false, eqb, leb, List, [], ◌∷◌, ◌++◌, length, Some, None, Option, sym, refl, ap, ◌∙◌, subst, ap₂, arith}
use Rattle.std.proofs.lemmas.Bool.{both_ways, cond-true, cond-false, eqb-true, eq-eqb}
use Rattle.std.specs.List.{AllByRecursion}
use Rattle.text.specs.Lines.{lines}
use Rattle.calendar.specs.Days.{Days}
use Rattle.element.specs.Slots.{Slot}
use Rattle.flights.specs.Flights.{Flight}
use Rattle.lists.specs.Lists.{Reading, good, faulty, list_read}
use Rattle.packets.proofs.Deciding.{by_test}
use Rattle.packets.proofs.Others.{same_self}
use Rattle.model.specs.declared.condition.Condition.{Condition}
use Rattle.model.specs.declared.condition.Condition.TheVariants.{NoProgram, On, Off}
use Rattle.model.specs.Model.{Setting, Program, Call, Answer, issue, switch, depart, purge, packet, report, program_stands}
use Rattle.processor.specs.declared.calls.Operation.TheVariants.{Issue}
use Rattle.processor.specs.Conditions.{refusal, unless}
use Rattle.processor.specs.Operator.{loaded_from, loaded}
use Rattle.processor.specs.Step.{step}
use Rattle.processor.proofs.Refusing.{step_unchanged}
use Rattle.processor.proofs.Lasting.{step_stands, report_changes_nothing}
use Rattle.histories.specs.Runs.{fresh, events}
use Rattle.histories.specs.Callers.{caller_from, caller_of, is_of, shares, shared}
use Rattle.histories.specs.Sights.{Sight, answer_for, sight_of, seen}
use Rattle.histories.specs.Slots.{is_in}
use Rattle.histories.specs.Forces.{Force, no_force, force_after, InForce, created_under}
use Rattle.histories.specs.Laws.{AlikeFor, SeesOnlyItsOwn, SeesOnlyItsOwnFrom}
use Rattle.histories.proofs.Passing.{packet_passed}
use Rattle.histories.proofs.Ledger.{in_force_on, force_step}
use Rattle.histories.proofs.Showing.{records_same}
use Rattle.histories.proofs.Steps.{again, Near, Next, operator_next, report_next, packet_next}
use Rattle.histories.proofs.Others.{wider, passed_alike}
use Rattle.histories.proofs.Claiming.{named_after, Clear, ClearAll, all_clear}

-- a program is alike to itself
pub alike_self : {S : Type 0} (s : Setting S) (u : ℕ) (but : List Slot) (p : Program) → AlikeFor s u but p p
alike_self s u but p = record { condition = refl; days = refl; flights = same_self s u p.flights; held = λ x h. refl }

same_program : (p q : Program) → p.condition ≡ q.condition → p.days ≡ q.days → again p q.flights ≡ q
same_program p q e d = ap₂ (λ (c : Condition) (k : Days). record { condition = c; days = k; flights = q.flights }) e d

-- a sender whose calls the user shares is the user's
known_shared : (o : Option ℕ) (u : ℕ) → shares (caller_from o) u ≡ true → o ≡ Some u
known_shared None u h = let z : ◌≡◌ {A = ℕ} 0 1 = cc in absurd (omega arith)
known_shared (Some v) u h = ap (λ (k : ℕ). Some k) (eqb-true v u h)

known_own : (o : Option ℕ) (u : ℕ) → o ≡ Some u → is_of (caller_from o) u ≡ true
known_own o u e = ap (λ (k : Option ℕ). is_of (caller_from k) u) e ∙ eq-eqb u u refl

not_own : (o : Option ℕ) (u : ℕ) → shares (caller_from o) u ≡ false → is_of (caller_from o) u ≡ false
not_own None u h = refl
not_own (Some v) u h = h

other_user : (o : Option ℕ) (u v : ℕ) → shares (caller_from o) u ≡ false → o ≡ Some v → eqb u v ≡ false
other_user o u v h e =
    by_test (eqb u v)
    (λ t. absurd (both_ways (shares (caller_from o) u) h (ap (λ (k : Option ℕ). shares (caller_from k) u) e ∙ eq-eqb v u (sym (eqb-true u v t)))))
    (λ t. t)

-- an accepted issue leaves the same program, whatever was there before
loaded_same : (b : Bool) (said : Reading) (p q : Program) → (loaded_from b said p).1.number ≡ 0 → (loaded_from b said p).0 ≡ (loaded_from b said q).0
loaded_same false said p q z = absurd (omega arith)
loaded_same true (faulty n) p q z = absurd (omega arith)
loaded_same true (good d fs) p q z = refl

issued_same : {S : Type 0} (s : Setting S) (list : List ℕ) (c : Condition) (p q : Program) → (unless (refusal c Issue) p (loaded s p list)).1.number ≡ 0 →
    (unless (refusal c Issue) p (loaded s p list)).0 ≡ (unless (refusal c Issue) q (loaded s q list)).0
issued_same s list NoProgram p q z = loaded_same (leb (length list) 49152) (list_read s.element (lines list)) p q z
issued_same s list On p q z = absurd (omega arith)
issued_same s list Off p q z = absurd (omega arith)

module _ {S : Type 0} (s : Setting S) (u : ℕ) where
  -- after a shared call
  record Both (f : Force) (but : List Slot) (c : Call S) (p q : Program) : Type 0 where
    answers : (step s p c).1 ≡ (step s q c).1
    programs : AlikeFor s u (named_after s u f but c (step s p c).1.number) (step s p c).0 (step s q c).0

  issue_both : (f : Force) (but : List Slot) (list : List ℕ) (p : Program) (gs : List Flight) (n : ℕ) → (step s p (issue list)).1.number ≡ n → Next s u but (step s p (issue list)) (step s (again p gs) (issue list)) →
      AlikeFor s u (named_after s u f but (issue list) n) (step s p (issue list)).0 (step s (again p gs) (issue list)).0
  issue_both f but list p gs zero e h =
      subst (λ (r : Program). AlikeFor s u [] (step s p (issue list)).0 r) (issued_same s list p.condition p (again p gs) e) (alike_self s u [] (step s p (issue list)).0)
  issue_both f but list p gs (suc n) e h = h.programs

  module _ (f : Force) (but : List Slot) (p : Program) (gs : List Flight) (a : Near s u but p.flights gs) (p_stands : program_stands s.element p ≡ true) (q_stands : program_stands s.element (again p gs) ≡ true) (force : InForce p.condition p.days f) where
    both_near : (c : Call S) → shares (caller_of s c) u ≡ true → Clear s u f but c → Both f but c p (again p gs)
    both_near (issue list) h k =
        let n = operator_next s u but p gs a (issue list) refl in
        record { answers = n.answers; programs = issue_both f but list p gs (step s p (issue list)).1.number refl n }
    both_near (switch on) h k = let n = operator_next s u but p gs a (switch on) refl in record { answers = n.answers; programs = n.programs }
    both_near (depart id departure arrival date) h k =
        let n = operator_next s u but p gs a (depart id departure arrival date) refl in record { answers = n.answers; programs = n.programs }
    both_near purge h k = let n = operator_next s u but p gs a purge refl in record { answers = n.answers; programs = n.programs }
    both_near (packet sender input buffer) h k =
        let known = known_shared (s.user sender) u h in
        let mine = known_own (s.user sender) u known in
        let n = packet_next s u but p gs a p_stands q_stands sender input buffer known
        (λ on. subst (λ (d : Option Days). AllByRecursion (λ y. is_in y but ≡ false) (created_under s.element d input.lines)) (in_force_on p.condition p.days f on force) (k mine)) in
        record {
          answers = n.answers;
          programs = subst (λ (b : List Slot). AlikeFor s u b (step s p (packet sender input buffer)).0 (step s (again p gs) (packet sender input buffer)).0)
              (sym (cond-true (is_of (caller_of s (packet sender input buffer)) u) but (created_under s.element f.days input.lines ++ but) mine)) n.programs;
        }
    both_near (report sender input buffer) h k =
        let n = report_next s u but p gs a sender input buffer (known_shared (s.user sender) u h) in record { answers = n.answers; programs = n.programs }

  shared_step : (f : Force) (but : List Slot) (p q : Program) → AlikeFor s u but p q → program_stands s.element p ≡ true → program_stands s.element q ≡ true → InForce p.condition p.days f →
      (c : Call S) → shares (caller_of s c) u ≡ true → Clear s u f but c → Both f but c p q
  shared_step f but p q a p_stands q_stands force c h k =
      let same = same_program p q a.condition a.days in
      subst (λ (r : Program). Both f but c p r) same
      (both_near f but p q.flights (record { flights = a.flights; held = a.held }) p_stands (ap (program_stands s.element) same ∙ q_stands) force c h k)

  -- after a call of another
  other_step : (f : Force) (but : List Slot) (p q : Program) → AlikeFor s u but p q → program_stands s.element p ≡ true → InForce p.condition p.days f →
      (c : Call S) → shares (caller_of s c) u ≡ false → AlikeFor s u (named_after s u f but c (step s p c).1.number) (step s p c).0 q
  other_step f but p q a stands force (issue list) h = absurd (both_ways true h refl)
  other_step f but p q a stands force (switch on) h = absurd (both_ways true h refl)
  other_step f but p q a stands force (depart id departure arrival date) h = absurd (both_ways true h refl)
  other_step f but p q a stands force purge h = absurd (both_ways true h refl)
  other_step f but p q a stands force (packet sender input buffer) h =
      let made = created_under s.element f.days input.lines in
      subst (λ (b : List Slot). AlikeFor s u b (step s p (packet sender input buffer)).0 q)
      (sym (cond-false (is_of (caller_of s (packet sender input buffer)) u) but (made ++ but) (not_own (s.user sender) u h)))
      (by (step s p (packet sender input buffer)).1.number refl)
    where
      by : (n : ℕ) → (step s p (packet sender input buffer)).1.number ≡ n → AlikeFor s u (created_under s.element f.days input.lines ++ but) (step s p (packet sender input buffer)).0 q
      by zero e =
          let k = packet_passed s p sender input buffer e in
          let days = in_force_on p.condition p.days f k.on force in
          subst (λ (d : Option Days). AlikeFor s u (created_under s.element d input.lines ++ but) (step s p (packet sender input buffer)).0 q) (sym days)
          (passed_alike s u but p q a stands sender input (step s p (packet sender input buffer)).0 k (other_user (s.user sender) u k.user h k.known))
      by (suc n) e =
          subst (λ (r : Program). AlikeFor s u (created_under s.element f.days input.lines ++ but) r q) (sym (step_unchanged s p (packet sender input buffer) (λ z. omega arith)))
          (wider s u but p q a (created_under s.element f.days input.lines))
  other_step f but p q a stands force (report sender input buffer) h =
      subst (λ (r : Program). AlikeFor s u but r q) (sym (report_changes_nothing s p sender input buffer)) a

  -- what the user sees of a history is what it would see had nobody else called, from any two programs that are alike for it
  pub alone : (h : List (Call S)) (f : Force) (but : List Slot) (p q : Program) → AlikeFor s u but p q → program_stands s.element p ≡ true → program_stands s.element q ≡ true → InForce p.condition p.days f →
      ClearAll s u f but (events s p h) → seen s u p h ≡ seen s u q (shared s u h)
  alone [] f but p q a p_stands q_stands force k = refl
  alone (c ∷ h) f but p q a p_stands q_stands force k =
      let n = (step s p c).1.number in
      let p' = (step s p c).0 in
      let q' = (step s q c).0 in
      let more = λ (r : Program) (rs : program_stands s.element r ≡ true) (b : AlikeFor s u (named_after s u f but c n) p' r).
      alone h (force_after s.element f c n) (named_after s u f but c n) p' r b (step_stands s p c p_stands) rs (force_step s p f c p_stands force) k.1 in
      by_test (shares (caller_of s c) u)
      (λ t.
      let both = shared_step f but p q a p_stands q_stands force c t k.0 in
      let sight : sight_of s u c (step s p c) ≡ sight_of s u c (step s q c) =
      ap₂ (λ (x : Answer) (rs : List Flight). record { answer = answer_for s u c x; records = rs }) both.answers (records_same s u p'.flights q'.flights both.programs.flights) in
      cond-true (shares (caller_of s c) u) _ _ t
      ∙ ap₂ (λ (x : Sight) (xs : List Sight). x ∷ xs) sight (more q' (step_stands s q c q_stands) both.programs)
      ∙ sym (ap (seen s u q) (cond-true (shares (caller_of s c) u) (c ∷ shared s u h) (shared s u h) t) ∙ cond-true (shares (caller_of s c) u) _ _ t))
      (λ t.
      cond-false (shares (caller_of s c) u) _ _ t
      ∙ more q q_stands (other_step f but p q a p_stands force c t)
      ∙ sym (ap (seen s u q) (cond-false (shares (caller_of s c) u) (c ∷ shared s u h) (shared s u h) t)))

pub sees_from : {S : Type 0} (s : Setting S) → SeesOnlyItsOwnFrom s
sees_from s u f named p q h k p_stands q_stands force a same hs ks =
    let q_force = subst (λ (c : Condition). InForce c q.days f) a.condition (subst (λ (d : Days). InForce p.condition d f) a.days force) in
    alone s u h f named p q a p_stands q_stands force (all_clear s u (events s p h) f named hs)
    ∙ (ap (seen s u q) same ∙ sym (alone s u k f [] q q (alike_self s u [] q) q_stands q_stands q_force (all_clear s u (events s q k) f [] ks)))

pub sees_only_its_own : {S : Type 0} (s : Setting S) (u : ℕ) (d : Days) (h k : List (Call S)) → SeesOnlyItsOwn s u d h k
sees_only_its_own s u d h k same hs ks =
    sees_from s u no_force [] (fresh d) (fresh d) h k refl refl refl (alike_self s u [] (fresh d)) same hs ks
