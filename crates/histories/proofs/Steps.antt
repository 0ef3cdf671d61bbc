-- One call, from two programs that are alike for a user.
use Rattle.std.proofs.Common.{◌≡◌, ℕ, Bool, true, false, cond, ltb, leb, List, [], ◌∷◌, ◌++◌, map, length, Some, None, Option, sym, refl, ap, ◌∙◌, subst, ap₂, arith}
use Rattle.std.specs.List.{AllZip, AllByRecursion}
use Rattle.text.specs.Lines.{Line, lines}
use Rattle.calendar.specs.Identities.{Identity, identity_read, same_identity}
use Rattle.element.specs.Slots.{Slot}
use Rattle.flights.specs.Counts.{bump, some}
use Rattle.flights.specs.Flights.{Flight, bearers, holders, departed_as}
use Rattle.lists.specs.Lists.{Reading, good, faulty, list_read}
use Rattle.messages.specs.Headers.{header_read, has_places}
use Rattle.packets.specs.Messages.{message_read}
use Rattle.packets.specs.Amended.{amended}
use Rattle.packets.specs.StageTwo.{count}
use Rattle.packets.specs.Verdict.{messages_of, all_pass, line_numbers, is_named}
use Rattle.packets.specs.Laws.{SameTo}
use Rattle.packets.proofs.Alike.{same_owner, numbers_same}
use Rattle.packets.proofs.Others.{all_alone, amended_same, same_self}
use Rattle.packets.proofs.Shifts.{makes}
use Rattle.writing.specs.Overlay.{overlay}
use Rattle.replies.specs.Openings.{accepted, list_opening}
use Rattle.answering.specs.Replies.{accepted_list, reported_list}
use Rattle.model.specs.declared.condition.Condition.{Condition}
use Rattle.model.specs.declared.condition.Condition.TheVariants.{NoProgram, On, Off}
use Rattle.model.specs.Model.{Setting, Program, Call, Answer, Input, issue, switch, depart, purge, packet, report, refused, done, program_stands}
use Rattle.processor.specs.declared.calls.Operation.TheVariants.{Issue, Switch, Purge, Depart, Packet, Report}
use Rattle.processor.specs.Conditions.{refusal, unless}
use Rattle.processor.specs.Operator.{loaded_from, condition_for, marked_with}
use Rattle.processor.specs.Packet.{Outcome, silent, rejects, accepts, judged, by_condition, by_user, by_header, received, outcome, answered}
use Rattle.processor.specs.Report.{is_request, reports, report_for, report_in, report_to, report_outcome}
use Rattle.processor.specs.Step.{step}
use Rattle.histories.specs.Callers.{operator, caller_from, caller_of}
use Rattle.histories.specs.Slots.{is_in, slots_created, created}
use Rattle.histories.specs.Laws.{AlikeFor}
use Rattle.histories.proofs.Showing.{rows_same, reports_own, named_own}
use Rattle.histories.proofs.Counting.{identity_kept, slot_kept, held_stays}
use Rattle.histories.proofs.Making.{held_both, holders_after, some_more}

-- the program with other flights
abbrev pub again : Program → List Flight → Program
again p gs = record { condition = p.condition; days = p.days; flights = gs }

-- a packet or a report is no call of the operator's
not_operator : (o : Option ℕ) → caller_from o ≡ operator → ⊥
not_operator None e = let z : ◌≡◌ {A = ℕ} 0 1 = cc in omega arith
not_operator (Some v) e = let z : ◌≡◌ {A = ℕ} 0 1 = cc in omega arith

module _ {S : Type 0} (s : Setting S) (u : ℕ) where
  -- alike, where only the flights differ
  pub record Near (but : List Slot) (fs gs : List Flight) : Type 0 where
    pub flights : AllZip (SameTo s u) fs gs
    pub held : (x : Slot) → is_in x but ≡ false → some (holders x fs) ≡ some (holders x gs)

  -- two answers that are the same, and programs that are alike after them
  pub record Next (but : List Slot) (x y : Program × Answer) : Type 0 where
    pub answers : x.1 ≡ y.1
    pub programs : AlikeFor s u but x.0 y.0

  near_alike : (but : List Slot) (p : Program) (gs : List Flight) → Near but p.flights gs → AlikeFor s u but p (again p gs)
  near_alike but p gs a = record { condition = refl; days = refl; flights = a.flights; held = a.held }

  near_self : (but : List Slot) (fs : List Flight) → Near but fs fs
  near_self but fs = record { flights = same_self s u fs; held = λ x h. refl }

  -- the operator's calls
  module _ (but : List Slot) (p : Program) (gs : List Flight) (a : Near but p.flights gs) where
    abbrev q : Program
    q = again p gs

    done_next : (c : Condition) (fs' gs' : List Flight) → Near but fs' gs' → Next but (done (record { condition = c; days = p.days; flights = fs' })) (done (record { condition = c; days = p.days; flights = gs' }))
    done_next c fs' gs' b = record { answers = refl; programs = record { condition = refl; days = refl; flights = b.flights; held = b.held } }

    refused_next : (n k : ℕ) → Next but (refused p n k) (refused q n k)
    refused_next n k = record { answers = refl; programs = near_alike but p gs a }

    unless_next : (o : Option ℕ) (x y : Program × Answer) → Next but x y → Next but (unless o p x) (unless o q y)
    unless_next None x y n = n
    unless_next (Some k) x y n = refused_next k 0

    loaded_next : (b : Bool) (said : Reading) → Next but (loaded_from b said p) (loaded_from b said q)
    loaded_next false said = refused_next 651 0
    loaded_next true (faulty n) = refused_next 802 n
    loaded_next true (good d fs) = record { answers = refl; programs = record { condition = refl; days = refl; flights = same_self s u fs; held = λ x h. refl } }

    -- a departure marks flights by their identities, and changes no slot
    departed_same : (i : Identity) (fs gs : List Flight) → AllZip (SameTo s u) fs gs → AllZip (SameTo s u) (map (departed_as i) fs) (map (departed_as i) gs)
    departed_same i [] [] e = tt
    departed_same i [] (g ∷ gs) e = absurd e
    departed_same i (f ∷ fs) [] e = absurd e
    departed_same i (f ∷ fs) (g ∷ gs) e =
        let same = λ (f : Flight). identity_kept (same_identity f.identity i) f in (
          record {
            identity = same f ∙ (e.0.identity ∙ sym (same g));
            own = λ q. ap (departed_as i) (e.0.own (sym (same_owner s u (departed_as i f) f (same f)) ∙ q));
          },
          departed_same i fs gs e.1,
        )

    departed_near : (i : Identity) → Near but (map (departed_as i) p.flights) (map (departed_as i) gs)
    departed_near i =
        let same = λ (f : Flight). identity_kept (same_identity f.identity i) f in
        let slot = λ (f : Flight). slot_kept (same_identity f.identity i) f in
        record {
          flights = departed_same i p.flights gs a.flights;
          held = λ x h. ap some (held_stays s (departed_as i) same slot x p.flights) ∙ (a.held x h ∙ sym (ap some (held_stays s (departed_as i) same slot x gs)));
        }

    bearers_same : (i : Identity) (fs gs : List Flight) → AllZip (SameTo s u) fs gs → bearers i fs ≡ bearers i gs
    bearers_same i [] [] e = refl
    bearers_same i [] (g ∷ gs) e = absurd e
    bearers_same i (f ∷ fs) [] e = absurd e
    bearers_same i (f ∷ fs) (g ∷ gs) e =
        ap (λ (j : Identity). bump (same_identity j i) (bearers i fs)) e.0.identity ∙ ap (bump (same_identity g.identity i)) (bearers_same i fs gs e.1)

    marked_if : (i : Identity) (b : Bool) →
        Next but (cond b (done (record { condition = p.condition; days = p.days; flights = map (departed_as i) p.flights })) (refused p 705 0))
        (cond b (done (record { condition = p.condition; days = p.days; flights = map (departed_as i) gs })) (refused q 705 0))
    marked_if i true = done_next p.condition (map (departed_as i) p.flights) (map (departed_as i) gs) (departed_near i)
    marked_if i false = refused_next 705 0

    marked_next : (o : Option Identity) → Next but (marked_with o p) (marked_with o q)
    marked_next None = refused_next 705 0
    marked_next (Some i) =
        subst (λ (n : ℕ). Next but (marked_with (Some i) p) (cond (some n) (done (record { condition = p.condition; days = p.days; flights = map (departed_as i) gs })) (refused q 705 0)))
        (bearers_same i p.flights gs a.flights) (marked_if i (some (bearers i p.flights)))

    -- outcomes that say the same and leave programs that are alike
    abbrev Rel : Outcome → Outcome → Type 0
    Rel (silent m) (silent n) = m ≡ n
    Rel (silent m) (rejects n v) = ⊥
    Rel (silent m) (accepts r v) = ⊥
    Rel (rejects m t) (silent n) = ⊥
    Rel (rejects m t) (rejects n v) = (m ≡ n) × (t ≡ v)
    Rel (rejects m t) (accepts r v) = ⊥
    Rel (accepts o t) (silent n) = ⊥
    Rel (accepts o t) (rejects n v) = ⊥
    Rel (accepts o t) (accepts r v) = AlikeFor s u but o r × (t ≡ v)

    either_rel : (b : Bool) (x y x' y' : Outcome) → (b ≡ true → Rel x x') → (b ≡ false → Rel y y') → Rel (cond b x y) (cond b x' y')
    either_rel true x y x' y' f g = f refl
    either_rel false x y x' y' f g = g refl

    answered_next : (buffer : List ℕ) (o r : Outcome) → Rel o r → Next but (answered p buffer o) (answered q buffer r)
    answered_next buffer (silent m) (silent n) h = record { answers = ap (λ (k : ℕ). record { number = k; second = 0; buffer = Some buffer }) h; programs = near_alike but p gs a }
    answered_next buffer (silent m) (rejects n v) h = absurd h
    answered_next buffer (silent m) (accepts r v) h = absurd h
    answered_next buffer (rejects m t) (silent n) h = absurd h
    answered_next buffer (rejects m t) (rejects n v) h =
        record { answers = ap₂ (λ (k : ℕ) (w : List ℕ). record { number = k; second = length w; buffer = Some (overlay buffer 0 w) }) h.0 h.1; programs = near_alike but p gs a }
    answered_next buffer (rejects m t) (accepts r v) h = absurd h
    answered_next buffer (accepts o t) (silent n) h = absurd h
    answered_next buffer (accepts o t) (rejects n v) h = absurd h
    answered_next buffer (accepts o t) (accepts r v) h =
        record { answers = ap (λ (w : List ℕ). record { number = 0; second = length w; buffer = Some (overlay buffer 0 w) }) h.1; programs = h.0 }

    -- a report of the user
    report_for_fact : (ls : List Line) → Rel (report_for s p ls u) (report_for s q ls u)
    unfolding reported_list
    report_for_fact ls =
        either_rel (is_request s.element ls) _ _ _ _
        (λ h. (
          near_alike but p gs a,
          ap (λ (t : List ℕ). list_opening s.element ++ t) (rows_same s u s.element p.days (reports s u) (reports_own s u) p.flights gs a.flights),
        ))
        (λ h. (refl, refl))

    report_in_fact : (ls : List Line) (o : Option ℕ) → Rel (report_in s p ls u o) (report_in s q ls u o)
    report_in_fact ls (Some n) = (refl, refl)
    report_in_fact ls None = report_for_fact ls

    report_to_fact : (ls : List Line) (o : Option ℕ) → o ≡ Some u → Rel (report_to s p ls o) (report_to s q ls o)
    report_to_fact ls None e = (refl, refl)
    report_to_fact ls (Some v) e =
        let same : v ≡ u = cc e in
        subst (λ (w : ℕ). Rel (report_in s p ls w (refusal p.condition Report)) (report_in s q ls w (refusal p.condition Report))) (sym same) (report_in_fact ls (refusal p.condition Report))

    pub report_next : (sender : S) (input : Input) (buffer : List ℕ) → s.user sender ≡ Some u → Next but (step s p (report sender input buffer)) (step s q (report sender input buffer))
    report_next sender input buffer known =
        answered_next buffer (report_outcome s p sender input (length buffer)) (report_outcome s q sender input (length buffer))
        (either_rel (ltb (length buffer) 40960) _ _ _ _ (λ h. refl)
        (λ h. either_rel (ltb 16384 input.size) _ _ _ _ (λ h. refl) (λ h. report_to_fact input.lines (s.user sender) known)))

    -- a packet of the user, where its SC lines name none of the slots left out
    module _ (p_stands : program_stands s.element p ≡ true) (q_stands : program_stands s.element q ≡ true) where
      passed_near : (ls : List Line) → let os = map (message_read s.element p.days) ls in
          all_pass (line_numbers s p u os) ≡ true → all_pass (line_numbers s q u os) ≡ true → Near but (map (amended (messages_of os)) p.flights) (map (amended (messages_of os)) gs)
      passed_near ls pass q_pass =
          let ms = messages_of (map (message_read s.element p.days) ls) in
          record {
            flights = amended_same s u ms p.flights gs a.flights;
            held = λ x h.
                ap some (holders_after s p u ls p_stands pass x)
                ∙ (some_more (holders x p.flights) (holders x gs) (count (makes x) ms) (a.held x h) ∙ sym (ap some (holders_after s q u ls q_stands q_pass x)));
          }

      judged_rel : (id : List ℕ) (ls : List Line) → AllByRecursion (λ y. is_in y but ≡ false) (slots_created (map (message_read s.element p.days) ls)) →
          let os = map (message_read s.element p.days) ls in Rel (judged s p id ls os (line_numbers s p u os)) (judged s q id ls os (line_numbers s q u os))
      unfolding accepted_list
      judged_rel id ls clear =
          let os = map (message_read s.element p.days) ls in
          let ms = messages_of os in
          let ns = line_numbers s p u os in
          let same = numbers_same s u p q a.flights os (held_both p q but a.held os clear) in
          subst (λ (k : List ℕ). Rel (judged s p id ls os ns) (judged s q id ls os k)) same
          (either_rel (all_pass ns) _ _ _ _
          (λ pass.
          let near = passed_near ls pass (ap all_pass (sym same) ∙ pass) in (
            record { condition = refl; days = refl; flights = near.flights; held = near.held },
            ap (λ (t : List ℕ). accepted id ++ list_opening s.element ++ t)
                (rows_same s u s.element p.days (is_named ms) (named_own s u p ms (all_alone s p u os pass)) (map (amended ms) p.flights) (map (amended ms) gs) near.flights),
          ))
          (λ fail. (refl, refl)))

      condition_rel : (id : List ℕ) (first : Line) (ls : List Line) (c : Condition) → p.condition ≡ c → (c ≡ On → AllByRecursion (λ y. is_in y but ≡ false) (slots_created (map (message_read s.element p.days) ls))) →
          Rel (by_condition s p id first ls u (refusal c Packet)) (by_condition s q id first ls u (refusal c Packet))
      condition_rel id first ls NoProgram e clear = (refl, refl)
      condition_rel id first ls On e clear = judged_rel id ls (clear refl)
      condition_rel id first ls Off e clear = (refl, refl)

      user_rel : (id : List ℕ) (first : Line) (ls : List Line) (o : Option ℕ) → o ≡ Some u → (p.condition ≡ On → AllByRecursion (λ y. is_in y but ≡ false) (slots_created (map (message_read s.element p.days) ls))) →
          Rel (by_user s p id first ls o) (by_user s q id first ls o)
      user_rel id first ls None e clear = (refl, refl)
      user_rel id first ls (Some v) e clear =
          let same : v ≡ u = cc e in
          subst (λ (w : ℕ). Rel (by_user s p id first ls (Some w)) (by_user s q id first ls (Some w))) (sym same) (condition_rel id first ls p.condition refl clear)

      header_rel : (sender : S) (first : Line) (ls : List Line) (o : Option (List ℕ)) → s.user sender ≡ Some u → (p.condition ≡ On → AllByRecursion (λ y. is_in y but ≡ false) (slots_created (map (message_read s.element p.days) ls))) →
          Rel (by_header s p sender first ls o) (by_header s q sender first ls o)
      header_rel sender first ls None known clear = (refl, refl)
      header_rel sender first ls (Some id) known clear =
          either_rel (has_places ls) _ _ _ _ (λ h. user_rel id first ls (s.user sender) known clear) (λ h. (refl, refl))

      received_rel : (sender : S) (ls : List Line) → s.user sender ≡ Some u → (p.condition ≡ On → AllByRecursion (λ y. is_in y but ≡ false) (created s.element p.days ls)) →
          Rel (received s p sender ls) (received s q sender ls)
      received_rel sender [] known clear = (refl, refl)
      received_rel sender (first ∷ ls) known clear = header_rel sender first ls (header_read first) known clear

      pub packet_next : (sender : S) (input : Input) (buffer : List ℕ) → s.user sender ≡ Some u → (p.condition ≡ On → AllByRecursion (λ y. is_in y but ≡ false) (created s.element p.days input.lines)) →
          Next but (step s p (packet sender input buffer)) (step s q (packet sender input buffer))
      packet_next sender input buffer known clear =
          answered_next buffer (outcome s p sender input (length buffer)) (outcome s q sender input (length buffer))
          (either_rel (ltb (length buffer) 40960) _ _ _ _ (λ h. refl)
          (λ h. either_rel (ltb 16384 input.size) _ _ _ _ (λ h. refl) (λ h. received_rel sender input.lines known clear)))

  -- the operator's calls, from two programs whose flights differ
  pub operator_next : (but : List Slot) (p : Program) (gs : List Flight) → Near but p.flights gs → (c : Call S) → caller_of s c ≡ operator → Next but (step s p c) (step s (again p gs) c)
  operator_next but p gs a (issue list) e =
      unless_next but p gs a (refusal p.condition Issue) _ _ (loaded_next but p gs a (leb (length list) 49152) (list_read s.element (lines list)))
  operator_next but p gs a (switch on) e =
      unless_next but p gs a (refusal p.condition Switch) _ _ (done_next but p gs a (condition_for on) p.flights gs a)
  operator_next but p gs a (depart id departure arrival date) e =
      unless_next but p gs a (refusal p.condition Depart) _ _ (marked_next but p gs a (identity_read id departure arrival date))
  operator_next but p gs a purge e =
      unless_next but p gs a (refusal p.condition Purge) _ _ (done_next but p gs a NoProgram [] [] (near_self but []))
  operator_next but p gs a (packet sender input buffer) e = absurd (not_operator (s.user sender) e)
  operator_next but p gs a (report sender input buffer) e = absurd (not_operator (s.user sender) e)
