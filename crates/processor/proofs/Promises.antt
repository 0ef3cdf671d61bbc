-- Every packet keeps what is promised of it.
use Rattle.std.proofs.Common.{◌≡◌, ℕ, Bool, true, false, cond, ltb, List, [], ◌∷◌, ◌++◌, map, length, Some, None, Option, sym, refl, ap, ◌∙◌, subst, arith}
use Rattle.std.proofs.lemmas.Bool.{true≢false}
use Rattle.std.specs.List.{AllZip, flat_map}
use Rattle.text.specs.Lines.{Line}
use Rattle.flights.specs.Flights.{Flight}
use Rattle.std.proofs.lemmas.List.{length-map}
use Rattle.messages.specs.Headers.{header_read, has_places}
use Rattle.packets.specs.Messages.{Message, message_read}
use Rattle.packets.specs.Amended.{amended}
use Rattle.packets.specs.Verdict.{messages_of, all_pass, line_numbers}
use Rattle.packets.specs.Laws.{Differs}
use Rattle.packets.proofs.Alike.{verdict_own}
use Rattle.packets.proofs.Others.{effect_own}
use Rattle.packets.proofs.Whole.{effect_whole}
use Rattle.packets.proofs.Lengths.{numbers_length}
use Rattle.writing.specs.Overlay.{overlay}
use Rattle.replies.specs.Rejections.{rejected}
use Rattle.answering.specs.Listing.{Fault, fault_text}
use Rattle.answering.proofs.Listed.{listed, foremost}
use Rattle.model.specs.declared.condition.Condition.{Condition}
use Rattle.model.specs.declared.condition.Condition.TheVariants.{NoProgram, On, Off}
use Rattle.model.specs.Model.{Setting, Program, Input, Answer, packet}
use Rattle.processor.specs.declared.calls.Operation.TheVariants.{Packet}
use Rattle.processor.specs.Conditions.{refusal}
use Rattle.processor.specs.Packet.{Outcome, silent, rejects, accepts, rejects_first, judged, by_condition, by_user, by_header, received, outcome, answered}
use Rattle.processor.specs.Step.{Sends}
use Rattle.processor.specs.Laws.{packet_messages, Applied, is_line_number, ListsFaults, Promised}
use Rattle.processor.proofs.Saying.{none_passes}

each_amended : (ms : List Message) (fs : List Flight) → ((f : Flight) → Differs ms f (amended ms f)) → AllZip (Differs ms) fs (map (amended ms) fs)
each_amended ms [] h = tt
each_amended ms (f ∷ fs) h = (h f, each_amended ms fs h)

module _ {S : Type 0} (s : Setting S) (p : Program) (sender : S) (lines : List Line) where
  -- what is promised, by the outcome
  abbrev Kept : Outcome → Type 0
  Kept (silent n) = (n ≡ 0 → ⊥) × (is_line_number n ≡ false)
  Kept (rejects n t) = (n ≡ 0 → ⊥) × (is_line_number n ≡ true → ListsFaults s p sender lines n t)
  Kept (accepts q t) = Applied s p lines q

  either_kept : (b : Bool) (x y : Outcome) → (b ≡ true → Kept x) → (b ≡ false → Kept y) → Kept (cond b x y)
  either_kept true x y f g = f refl
  either_kept false x y f g = g refl

  -- a rejection for the first line has none of the lines' numbers
  first_kept : (id : List ℕ) (first : Line) (n : ℕ) → (n ≡ 0 → ⊥) → is_line_number n ≡ false → Kept (rejects_first id first n)
  first_kept id first n some other = (some, λ h. absurd (true≢false (sym h ∙ other)))

  module _ (id : List ℕ) (first : Line) (ls : List Line) (split : lines ≡ first ∷ ls) (headed : header_read first ≡ Some id) where
    judged_kept : (u : ℕ) → s.user sender ≡ Some u → Kept (judged s p id ls (map (message_read s.element p.days) ls) (line_numbers s p u (map (message_read s.element p.days) ls)))
    judged_kept u known =
        let os = map (message_read s.element p.days) ls in
        let ns = line_numbers s p u os in
        let size : length ns ≡ length ls = numbers_length s p u os ∙ length-map ls (message_read s.element p.days) in
        either_kept (all_pass ns) _ _
        (λ pass. record {
          condition = refl;
          days = refl;
          flights = subst (λ (k : List Line). AllZip (Differs (packet_messages s p k)) p.flights (map (amended (messages_of os)) p.flights)) (sym split)
              (each_amended (messages_of os) p.flights (effect_whole s p u ls pass));
        })
        (λ fail.
        let f = foremost ls ns size fail in (
          (λ z. true≢false (sym (none_passes ns z) ∙ fail)),
          (λ h. record {
            id = id;
            header = first;
            messages = ls;
            user = u;
            foremost = f.fault;
            more = f.more;
            split = split;
            headed = headed;
            known = known;
            faults = f.all;
            first = f.first;
            listing = listed id ls ns size ∙ ap (λ (fs : List Fault). rejected id (length fs) ++ flat_map fault_text fs) f.all;
          }),
        ))

    condition_kept : (u : ℕ) (c : Condition) → s.user sender ≡ Some u → Kept (by_condition s p id first ls u (refusal c Packet))
    condition_kept u NoProgram known = first_kept id first 604 (λ z. omega arith) refl
    condition_kept u On known = judged_kept u known
    condition_kept u Off known = first_kept id first 605 (λ z. omega arith) refl

    user_kept : (o : Option ℕ) → s.user sender ≡ o → Kept (by_user s p id first ls o)
    user_kept None known = first_kept id first 603 (λ z. omega arith) refl
    user_kept (Some u) known = condition_kept u p.condition known

  header_kept : (first : Line) (ls : List Line) (o : Option (List ℕ)) → lines ≡ first ∷ ls → header_read first ≡ o → Kept (by_header s p sender first ls o)
  header_kept first ls None split headed = first_kept _ first 601 (λ z. omega arith) refl
  header_kept first ls (Some id) split headed =
      either_kept (has_places ls) _ _
      (λ many. user_kept id first ls split headed (s.user sender) refl)
      (λ few. first_kept id first 602 (λ z. omega arith) refl)

  received_kept : (all : List Line) → lines ≡ all → Kept (received s p sender all)
  received_kept [] e = first_kept _ _ 601 (λ z. omega arith) refl
  received_kept (first ∷ ls) e = header_kept first ls (header_read first) e refl

  module _ (input : Input) (buffer : List ℕ) (same : lines ≡ input.lines) where
    outcome_kept : Kept (outcome s p sender input (length buffer))
    outcome_kept =
        either_kept (ltb (length buffer) 40960) _ _
        (λ small. ((λ z. omega arith), refl))
        (λ wide. either_kept (ltb 16384 input.size) _ _
        (λ long. ((λ z. omega arith), refl))
        (λ short. received_kept input.lines same))

-- what the outcome keeps is what the call keeps
from_outcome : {S : Type 0} (s : Setting S) (p : Program) (sender : S) (input : Input) (buffer : List ℕ) (after : Program) (pair : ℕ × ℕ) (buffer' : List ℕ) (o : Outcome) → Kept s p sender input.lines o →
    ◌≡◌ {A = Program × Answer} (after, record { number = pair.0; second = pair.1; buffer = Some buffer' }) (answered p buffer o) → Promised s p sender input buffer after pair buffer'
from_outcome s p sender input buffer after pair buffer' (silent n) k e =
    let number : pair.0 ≡ n = ap (λ (x : Program × Answer). x.1.number) e in
    record {
      refused = λ h. ap (λ (x : Program × Answer). x.0) e;
      whole = λ z. absurd (k.0 (sym number ∙ z));
      listing = λ h. absurd (true≢false (sym h ∙ (ap is_line_number number ∙ k.1)));
      verdict = verdict_own s;
      effect = effect_own s;
    }
from_outcome s p sender input buffer after pair buffer' (rejects n t) k e =
    let number : pair.0 ≡ n = ap (λ (x : Program × Answer). x.1.number) e in
    let kept : ◌≡◌ {A = Option (List ℕ)} (Some buffer') (Some (overlay buffer 0 t)) = ap (λ (x : Program × Answer). x.1.buffer) e in
    let bytes : buffer' ≡ overlay buffer 0 t = cc kept in
    record {
      refused = λ h. ap (λ (x : Program × Answer). x.0) e;
      whole = λ z. absurd (k.0 (sym number ∙ z));
      listing = λ h. (
        t,
        record { whole = bytes; size = ap (λ (x : Program × Answer). x.1.second) e },
        subst (λ (m : ℕ). ListsFaults s p sender input.lines m t) (sym number) (k.1 (ap is_line_number (sym number) ∙ h)),
      );
      verdict = verdict_own s;
      effect = effect_own s;
    }
from_outcome s p sender input buffer after pair buffer' (accepts q t) k e =
    let number : pair.0 ≡ 0 = ap (λ (x : Program × Answer). x.1.number) e in
    record {
      refused = λ h. absurd (h number);
      whole = λ z. subst (λ (r : Program). Applied s p input.lines r) (sym (ap (λ (x : Program × Answer). x.0) e)) k;
      listing = λ h. absurd (true≢false (sym h ∙ ap is_line_number number));
      verdict = verdict_own s;
      effect = effect_own s;
    }

pub promised : {S : Type 0} (s : Setting S) (p : Program) (sender : S) (input : Input) (buffer : List ℕ) (after : Program) (pair : ℕ × ℕ) (buffer' : List ℕ) →
    Sends s p (packet sender input buffer) after pair buffer' → Promised s p sender input buffer after pair buffer'
promised s p sender input buffer after pair buffer' sends =
    from_outcome s p sender input buffer after pair buffer' (outcome s p sender input (length buffer)) (outcome_kept s p sender input.lines input buffer refl) sends
