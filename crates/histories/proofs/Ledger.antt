-- Each slot in the ledger has one holder, after every history.
use Rattle.std.proofs.Common.{◌≡◌, ℕ, zero, suc, ◌+◌, Bool, true, false, cond, eqb, leb, List, [], ◌∷◌, ◌++◌, map, length, Some, None, Option, sym, refl, ap, ◌∙◌, subst, arith}
use Rattle.std.proofs.lemmas.Bool.{both_ways, and_parts, and_from, cond-true, cond-false, eqb-true}
use Rattle.text.specs.Lines.{lines}
use Rattle.calendar.specs.Days.{Days}
use Rattle.calendar.specs.Identities.{Identity, same_identity, identity_read}
use Rattle.element.specs.Slots.{Slot}
use Rattle.flights.specs.Counts.{some}
use Rattle.flights.specs.Flights.{Flight, bearers, holders, departed_as}
use Rattle.flights.specs.Standing.{table_stands}
use Rattle.flights.proofs.Departing.{departed_stands}
use Rattle.lists.specs.Lists.{Reading, good, faulty, list_read}
use Rattle.lists.proofs.Standing.{list_stands}
use Rattle.model.specs.declared.condition.Condition.{Condition}
use Rattle.model.specs.declared.condition.Condition.TheVariants.{NoProgram, On, Off}
use Rattle.model.specs.Model.{Setting, Program, Call, Answer, Input, issue, switch, depart, purge, packet, report, refused, done, none_without, program_stands}
use Rattle.packets.specs.Messages.{message_read}
use Rattle.packets.specs.StageTwo.{count}
use Rattle.packets.specs.Amended.{amended}
use Rattle.packets.specs.Verdict.{messages_of}
use Rattle.packets.proofs.Deciding.{by_test}
use Rattle.packets.proofs.Table.{some_false, some_true, rules_of}
use Rattle.packets.proofs.Accepted.{all_read, accepts}
use Rattle.packets.proofs.Shifts.{makes}
use Rattle.packets.proofs.Effect.{effect}
use Rattle.packets.proofs.Lasting.{packet_stands}
use Rattle.packets.proofs.Others.{effect_own, all_alone}
use Rattle.processor.specs.declared.calls.Operation.TheVariants.{Issue, Switch, Purge, Depart}
use Rattle.processor.specs.Conditions.{refusal, unless}
use Rattle.processor.specs.Operator.{loaded_from, loaded, condition_for, marked_with}
use Rattle.processor.specs.Step.{step}
use Rattle.processor.proofs.Lasting.{none_map, report_changes_nothing}
use Rattle.processor.proofs.Refusing.{step_unchanged}
use Rattle.histories.specs.Runs.{fresh, after, events}
use Rattle.histories.specs.Callers.{caller_from, caller_of, is_of}
use Rattle.histories.specs.Sights.{records_of}
use Rattle.histories.specs.Slots.{times, slots_of, created}
use Rattle.histories.specs.Forces.{Force, no_force, begun, force_after, InForce, created_under, flights_read, flights_listed}
use Rattle.histories.specs.Ledgers.{entered, ledger_from, gets, given_from}
use Rattle.histories.specs.Laws.{OneHolder, EachSlotHasOneHolder}
use Rattle.histories.proofs.Passing.{Passed, packet_passed}
use Rattle.histories.proofs.Counting.{slots_fit, identity_kept, slot_kept, times_append, times_slots, times_created, own_grows, others_stay, held_stays, own_stays}

-- what holds along a history: the program keeps the rules, its issue is in force, and the ledger and what each user was given
-- count the slots that the flights hold
pub record Good {S : Type 0} (s : Setting S) (p : Program) (f : Force) (slots : List Slot) (gave : ℕ → List Slot) : Type 0 where
  pub stands : program_stands s.element p ≡ true
  pub force : InForce p.condition p.days f
  pub count : (x : Slot) → times x slots ≡ holders x p.flights
  pub own : (u : ℕ) (x : Slot) → times x (gave u) ≡ holders x (records_of s u p.flights)

-- without a program the table is empty
pub table_empty : (c : Condition) (fs : List Flight) → c ≡ NoProgram → none_without c fs ≡ true → fs ≡ []
table_empty NoProgram [] e h = refl
table_empty NoProgram (f ∷ fs) e h = absurd (both_ways false refl h)
table_empty On fs e h = let z : ◌≡◌ {A = ℕ} 0 1 = cc in absurd (omega arith)
table_empty Off fs e h = let z : ◌≡◌ {A = ℕ} 0 1 = cc in absurd (omega arith)

-- a program that is on or off has its days in force
pub in_force_on : (c : Condition) (d : Days) (f : Force) → c ≡ On → InForce c d f → f.days ≡ Some d
in_force_on c d f e h = subst (λ (c : Condition). InForce c d f) e h

in_force_off : (c : Condition) (d : Days) (f : Force) → c ≡ Off → InForce c d f → f.days ≡ Some d
in_force_off c d f e h = subst (λ (c : Condition). InForce c d f) e h

module _ {S : Type 0} (s : Setting S) (p : Program) (f : Force) (slots : List Slot) (gave : ℕ → List Slot) (g : Good s p f slots gave) where
  table : table_stands s.element p.flights ≡ true
  table = (and_parts (table_stands s.element p.flights) (none_without p.condition p.flights) g.stands).0

  none : none_without p.condition p.flights ≡ true
  none = (and_parts (table_stands s.element p.flights) (none_without p.condition p.flights) g.stands).1

  -- good after a call that leaves this program and answers this
  abbrev After : Call S → Program × Answer → Type 0
  After c x =
      Good s x.0 (force_after s.element f c x.1.number) (entered s.element f slots c x.1.number) (λ u. gets s u f (gave u) c x.1.number)

  -- an issue that is read brings the slots of its list, where there were none
  issue_read : (list : List ℕ) (d : Days) (fs : List Flight) → list_read s.element (lines list) ≡ good d fs → p.condition ≡ NoProgram → After (issue list) (done (record { condition = On; days = d; flights = fs }))
  issue_read list d fs r c =
      let empty = table_empty p.condition p.flights c none in
      record {
        stands = and_from (table_stands s.element fs) true (list_stands s.element (lines list) d fs r) refl;
        force = ap (λ r. (begun f r).days) r;
        count = λ x.
            let a = times_append x (slots_of (flights_listed s.element list)) slots in
            let b = g.count x in
            let z = ap (holders x) empty in
            let n = ap (λ r. times x (slots_of (flights_read r))) r in
            let m = times_slots x fs in
            omega arith;
        own = λ u x. ap (λ r. times x (slots_of (records_of s u (flights_read r)))) r ∙ times_slots x (records_of s u fs);
      }

  issue_loaded : (list : List ℕ) (b : Bool) (r : Reading) → list_read s.element (lines list) ≡ r → p.condition ≡ NoProgram → After (issue list) (loaded_from b r p)
  issue_loaded list false r e c = g
  issue_loaded list true (faulty n) e c = g
  issue_loaded list true (good d fs) e c = issue_read list d fs e c

  issue_good : (list : List ℕ) (c : Condition) → p.condition ≡ c → After (issue list) (unless (refusal c Issue) p (loaded s p list))
  issue_good list NoProgram e = issue_loaded list (leb (length list) 49152) (list_read s.element (lines list)) refl e
  issue_good list On e = g
  issue_good list Off e = g

  -- a switch changes the condition only
  switch_to : (on : Bool) → f.days ≡ Some p.days → After (switch on) (done (record { condition = condition_for on; days = p.days; flights = p.flights }))
  switch_to true e = record { stands = and_from _ _ table refl; force = e; count = g.count; own = g.own }
  switch_to false e = record { stands = and_from _ _ table refl; force = e; count = g.count; own = g.own }

  switch_good : (on : Bool) (c : Condition) → p.condition ≡ c →
      After (switch on) (unless (refusal c Switch) p (done (record { condition = condition_for on; days = p.days; flights = p.flights })))
  switch_good on NoProgram e = g
  switch_good on On e = switch_to on (in_force_on p.condition p.days f e g.force)
  switch_good on Off e = switch_to on (in_force_off p.condition p.days f e g.force)

  -- a purge leaves nothing
  purge_good : (c : Condition) → After purge (unless (refusal c Purge) p (done (record { condition = NoProgram; days = p.days; flights = [] })))
  purge_good NoProgram = g
  purge_good On = record { stands = refl; force = refl; count = λ x. refl; own = λ u x. refl }
  purge_good Off = record { stands = refl; force = refl; count = λ x. refl; own = λ u x. refl }

  -- a departure changes no slot
  depart_done : (i : Identity) → Good s (record { condition = p.condition; days = p.days; flights = map (departed_as i) p.flights }) f slots gave
  depart_done i =
      let same = λ (f : Flight). identity_kept (same_identity f.identity i) f in
      let slot = λ (f : Flight). slot_kept (same_identity f.identity i) f in
      record {
        stands = and_from _ _ (departed_stands i s.element p.flights ∙ table) (none_map p.condition (departed_as i) p.flights none);
        force = g.force;
        count = λ x. g.count x ∙ sym (held_stays s (departed_as i) same slot x p.flights);
        own = λ u x. g.own u x ∙ sym (own_stays s (departed_as i) same slot u x p.flights);
      }

  depart_if : (i : Identity) (b : Bool) →
      Good s (cond b (done (record { condition = p.condition; days = p.days; flights = map (departed_as i) p.flights })) (refused p 705 0)).0 f slots gave
  depart_if i true = depart_done i
  depart_if i false = g

  depart_marked : (o : Option Identity) → Good s (marked_with o p).0 f slots gave
  depart_marked None = g
  depart_marked (Some i) = depart_if i (some (bearers i p.flights))

  depart_good : (o : Option ℕ) (i : Option Identity) → Good s (unless o p (marked_with i p)).0 f slots gave
  depart_good None i = depart_marked i
  depart_good (Some n) i = g

  -- an accepted packet adds the slots of its SC lines, and they go to its sender's user
  module _ (sender : S) (input : Input) (buffer : List ℕ) (q : Program) (a : Passed s p sender input.lines q) where
    brought : (x : Slot) → times x (created_under s.element f.days input.lines) ≡ count (makes x) (messages_of (map (message_read s.element p.days) a.messages))
    brought x =
        ap (λ o. times x (created_under s.element o input.lines)) (in_force_on p.condition p.days f a.on g.force)
        ∙ ap (λ ls. times x (created s.element p.days ls)) a.split
        ∙ times_created s p a.user x (map (message_read s.element p.days) a.messages) (all_alone s p a.user (map (message_read s.element p.days) a.messages) a.pass)

    grown : (x : Slot) → holders x (map (amended (messages_of (map (message_read s.element p.days) a.messages))) p.flights) ≡ holders x p.flights + times x (created_under s.element f.days input.lines)
    grown x =
        let os = map (message_read s.element p.days) a.messages in
        let r = rules_of s.element p.flights table in
        let ok = accepts s p a.user os (all_read s.element p.days a.messages) a.pass in
        let e = effect s p a.user (messages_of os) r.identities (slots_fit s.element p.flights r.stand) ok x in
        let b = brought x in
        omega arith

    -- whether the packet is the user's
    whose : (u : ℕ) → is_of (caller_of s (packet sender input buffer)) u ≡ eqb a.user u
    whose u = ap (λ o. is_of (caller_from o) u) a.known

    own_packet : (u : ℕ) (x : Slot) → times x (gets s u f (gave u) (packet sender input buffer) zero) ≡ holders x (records_of s u (map (amended (messages_of (map (message_read s.element p.days) a.messages))) p.flights))
    own_packet u x =
        let os = map (message_read s.element p.days) a.messages in
        let kept = effect_own s p a.user os a.pass in
        let made = created_under s.element f.days input.lines in
        let mine = is_of (caller_of s (packet sender input buffer)) u in
        by_test (eqb a.user u)
        (λ t.
        let c = ap (times x) (cond-true mine (made ++ gave u) (gave u) (whose u ∙ t)) in
        let d = times_append x made (gave u) in
        let v = eqb-true a.user u t in
        let w = own_grows s (amended (messages_of os)) (λ f. refl) a.user (λ f. (kept f).other) x p.flights in
        let w' = subst (λ (k : ℕ). holders x (map (amended (messages_of os)) p.flights) + holders x (records_of s k p.flights) ≡ holders x p.flights + holders x (records_of s k (map (amended (messages_of os)) p.flights))) v w in
        let b = g.own u x in
        let h = grown x in
        omega arith)
        (λ t.
        ap (times x) (cond-false mine (made ++ gave u) (gave u) (whose u ∙ t))
        ∙ g.own u x
        ∙ sym (ap (holders x) (others_stay s (amended (messages_of os)) (λ f. refl) a.user u t (λ f. (kept f).other) p.flights)))

    packet_accepted : Good s q f (entered s.element f slots (packet sender input buffer) zero) (λ u. gets s u f (gave u) (packet sender input buffer) zero)
    packet_accepted =
        let os = map (message_read s.element p.days) a.messages in
        subst (λ (q : Program). Good s q f (entered s.element f slots (packet sender input buffer) zero) (λ u. gets s u f (gave u) (packet sender input buffer) zero)) (sym a.amends)
        (record {
          stands = packet_stands s p a.user a.messages g.stands a.pass;
          force = g.force;
          count = λ x.
              let b = times_append x (created_under s.element f.days input.lines) slots in
              let c = g.count x in
              let d = grown x in
              omega arith;
          own = own_packet;
        })

  packet_good : (sender : S) (input : Input) (buffer : List ℕ) (n : ℕ) → (step s p (packet sender input buffer)).1.number ≡ n →
      Good s (step s p (packet sender input buffer)).0 f (entered s.element f slots (packet sender input buffer) n) (λ u. gets s u f (gave u) (packet sender input buffer) n)
  packet_good sender input buffer zero e = packet_accepted sender input buffer (step s p (packet sender input buffer)).0 (packet_passed s p sender input buffer e)
  packet_good sender input buffer (suc n) e =
      subst (λ (q : Program). Good s q f slots gave) (sym (step_unchanged s p (packet sender input buffer) (λ z. omega arith))) g

  -- every call leaves it good
  pub step_good : (c : Call S) → After c (step s p c)
  step_good (issue list) = issue_good list p.condition refl
  step_good (switch on) = switch_good on p.condition refl
  step_good (depart id departure arrival date) = depart_good (refusal p.condition Depart) (identity_read id departure arrival date)
  step_good purge = purge_good p.condition
  step_good (packet sender input buffer) = packet_good sender input buffer (step s p (packet sender input buffer)).1.number refl
  step_good (report sender input buffer) = subst (λ (q : Program). Good s q f slots gave) (sym (report_changes_nothing s p sender input buffer)) g

  -- then each slot has one holder
  pub good_holder : OneHolder s p slots gave
  good_holder =
      let r = rules_of s.element p.flights table in
      record {
        held = λ x h. let a = some_true (times x slots) h in let b = g.count x in let c = r.slots x in omega arith;
        free = λ x h. let a = some_false (times x slots) h in let b = g.count x in omega arith;
        users = λ u x. ap some (sym (g.own u x));
        ended = λ c x.
            let empty = table_empty p.condition p.flights c none in (
              ap some (g.count x ∙ ap (holders x) empty),
              λ u. ap some (g.own u x ∙ ap (λ fs. holders x (records_of s u fs)) empty),
            );
      }

-- the issue in force stays that of the program
pub force_step : {S : Type 0} (s : Setting S) (p : Program) (f : Force) (c : Call S) → program_stands s.element p ≡ true → InForce p.condition p.days f →
    InForce (step s p c).0.condition (step s p c).0.days (force_after s.element f c (step s p c).1.number)
force_step s p f c stands force =
    (step_good s p f (slots_of p.flights) (λ u. slots_of (records_of s u p.flights))
    (record { stands = stands; force = force; count = λ x. times_slots x p.flights; own = λ u x. times_slots x (records_of s u p.flights) }) c).force

-- so it is along every history from a good program
pub run_holder : {S : Type 0} (s : Setting S) (h : List (Call S)) (p : Program) (f : Force) (slots : List Slot) (gave : ℕ → List Slot) → Good s p f slots gave →
    OneHolder s (after s p h) (ledger_from s.element f slots (events s p h)) (λ u. given_from s u f (gave u) (events s p h))
run_holder s [] p f slots gave g = good_holder s p f slots gave g
run_holder s (c ∷ h) p f slots gave g =
    let n = (step s p c).1.number in
    run_holder s h (step s p c).0 (force_after s.element f c n) (entered s.element f slots c n) (λ u. gets s u f (gave u) c n) (step_good s p f slots gave g c)

pub one_holder : {S : Type 0} (s : Setting S) (d : Days) (h : List (Call S)) → EachSlotHasOneHolder s d h
one_holder s d h =
    run_holder s h (fresh d) no_force [] (λ u. []) (record { stands = refl; force = refl; count = λ x. refl; own = λ u x. refl })
