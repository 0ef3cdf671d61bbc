-- The standing rules last over every call.
use Rattle.std.proofs.Common.{◌≡◌, ℕ, Bool, true, false, cond, ltb, leb, List, [], ◌∷◌, map, length, Some, None, Option, refl, ap, ◌∙◌}
use Rattle.std.proofs.lemmas.Bool.{and_parts, and_from}
use Rattle.text.specs.Lines.{Line, lines}
use Rattle.calendar.specs.Identities.{Identity, identity_read}
use Rattle.element.specs.Meanings.{Meaning}
use Rattle.flights.specs.Counts.{some}
use Rattle.flights.specs.Flights.{Flight, bearers, departed_as}
use Rattle.flights.specs.Standing.{table_stands}
use Rattle.flights.proofs.Departing.{departed_stands}
use Rattle.lists.specs.Lists.{Reading, good, faulty, list_read}
use Rattle.lists.proofs.Standing.{list_stands}
use Rattle.model.specs.declared.condition.Condition.{Condition}
use Rattle.model.specs.declared.condition.Condition.TheVariants.{NoProgram, On, Off}
use Rattle.model.specs.Model.{Setting, Program, Call, Answer, Input, issue, switch, depart, purge, packet, report, refused, done, none_without, program_stands}
use Rattle.processor.specs.declared.calls.Operation.TheVariants.{Issue, Switch, Purge, Depart, Packet, Report}
use Rattle.processor.specs.Conditions.{refusal, unless}
use Rattle.processor.specs.Operator.{loaded_from, loaded, condition_for, marked_with, marked}
use Rattle.messages.specs.Headers.{header_read, has_places}
use Rattle.packets.specs.Messages.{message_read}
use Rattle.packets.specs.Verdict.{all_pass, line_numbers}
use Rattle.packets.proofs.Lasting.{packet_stands}
use Rattle.processor.specs.Packet.{Outcome, silent, rejects, accepts, by_condition, by_user, by_header, received, outcome, answered}
use Rattle.processor.specs.Report.{is_request, report_in, report_to, report_outcome}
use Rattle.processor.specs.Step.{step, Lasts}

-- an empty table stays empty where each flight is changed
pub none_map : (c : Condition) (g : Flight → Flight) (fs : List Flight) → none_without c fs ≡ true → none_without c (map g fs) ≡ true
none_map NoProgram g [] h = refl
none_map NoProgram g (f ∷ fs) h = h
none_map On g fs h = refl
none_map Off g fs h = refl

unless_stands : (e : Meaning) (o : Option ℕ) (p : Program) (x : Program × Answer) → program_stands e p ≡ true → program_stands e x.0 ≡ true → program_stands e (unless o p x).0 ≡ true
unless_stands e None p x h k = k
unless_stands e (Some n) p x h k = h

loaded_stands : (e : Meaning) (b : Bool) (ls : List Line) (said : Reading) (p : Program) → list_read e ls ≡ said → program_stands e p ≡ true → program_stands e (loaded_from b said p).0 ≡ true
loaded_stands e false ls said p r h = h
loaded_stands e true ls (faulty n) p r h = h
loaded_stands e true ls (good d fs) p r h = and_from (table_stands e fs) true (list_stands e ls d fs r) refl

condition_stands : (on : Bool) (fs : List Flight) → none_without (condition_for on) fs ≡ true
condition_stands true fs = refl
condition_stands false fs = refl

-- a program with a flight marked as departed
pub departed_program : (e : Meaning) (i : Identity) (p : Program) → program_stands e p ≡ true → program_stands e (record { condition = p.condition; days = p.days; flights = map (departed_as i) p.flights }) ≡ true
departed_program e i p h =
    let parts = and_parts (table_stands e p.flights) (none_without p.condition p.flights) h in
    and_from _ _ (departed_stands i e p.flights ∙ parts.0) (none_map p.condition (departed_as i) p.flights parts.1)

marked_if : (e : Meaning) (i : Identity) (b : Bool) (p : Program) → program_stands e p ≡ true → program_stands e (cond b (done (record { condition = p.condition; days = p.days; flights = map (departed_as i) p.flights })) (refused p 705 0)).0 ≡ true
marked_if e i false p h = h
marked_if e i true p h = departed_program e i p h

marked_stands : (e : Meaning) (o : Option Identity) (p : Program) → program_stands e p ≡ true → program_stands e (marked_with o p).0 ≡ true
marked_stands e None p h = h
marked_stands e (Some i) p h = marked_if e i (some (bearers i p.flights)) p h

-- what an outcome leaves keeps the rules
abbrev Fine : Meaning → Outcome → Type 0
Fine e (silent n) = Unit {0}
Fine e (rejects n t) = Unit {0}
Fine e (accepts q t) = program_stands e q ≡ true

either_fine : (e : Meaning) (b : Bool) (x y : Outcome) → (b ≡ true → Fine e x) → (b ≡ false → Fine e y) → Fine e (cond b x y)
either_fine e true x y f g = f refl
either_fine e false x y f g = g refl

module _ {S : Type 0} (s : Setting S) (p : Program) (h : program_stands s.element p ≡ true) where
  condition_fine : (id : List ℕ) (first : Line) (ls : List Line) (u : ℕ) (o : Option ℕ) → Fine s.element (by_condition s p id first ls u o)
  condition_fine id first ls u (Some n) = tt
  condition_fine id first ls u None =
      let os = map (message_read s.element p.days) ls in
      either_fine s.element (all_pass (line_numbers s p u os)) _ _ (λ pass. packet_stands s p u ls h pass) (λ fail. tt)

  user_fine : (id : List ℕ) (first : Line) (ls : List Line) (o : Option ℕ) → Fine s.element (by_user s p id first ls o)
  user_fine id first ls None = tt
  user_fine id first ls (Some u) = condition_fine id first ls u (refusal p.condition Packet)

  header_fine : (sender : S) (first : Line) (ls : List Line) (o : Option (List ℕ)) → Fine s.element (by_header s p sender first ls o)
  header_fine sender first ls None = tt
  header_fine sender first ls (Some id) =
      either_fine s.element (has_places ls) _ _ (λ many. user_fine id first ls (s.user sender)) (λ few. tt)

  received_fine : (sender : S) (ls : List Line) → Fine s.element (received s p sender ls)
  received_fine sender [] = tt
  received_fine sender (first ∷ ls) = header_fine sender first ls (header_read first)

  outcome_fine : (sender : S) (input : Input) (room : ℕ) → Fine s.element (outcome s p sender input room)
  outcome_fine sender input room =
      either_fine s.element (ltb room 40960) _ _ (λ small. tt)
      (λ wide. either_fine s.element (ltb 16384 input.size) _ _ (λ long. tt) (λ short. received_fine sender input.lines))

module _ {S : Type 0} (s : Setting S) (p : Program) where
  -- a report changes nothing
  abbrev Left : Outcome → Type 0
  Left (silent n) = Unit {0}
  Left (rejects n t) = Unit {0}
  Left (accepts q t) = q ≡ p

  either_left : (b : Bool) (x y : Outcome) → Left x → Left y → Left (cond b x y)
  either_left true x y f g = f
  either_left false x y f g = g

  report_in_fact : (ls : List Line) (u : ℕ) (o : Option ℕ) → Left (report_in s p ls u o)
  report_in_fact ls u (Some n) = tt
  report_in_fact ls u None = either_left (is_request s.element ls) _ _ refl tt

  report_to_fact : (ls : List Line) (o : Option ℕ) → Left (report_to s p ls o)
  report_to_fact ls None = tt
  report_to_fact ls (Some u) = report_in_fact ls u (refusal p.condition Report)

  report_left : (sender : S) (input : Input) (room : ℕ) → Left (report_outcome s p sender input room)
  report_left sender input room =
      either_left (ltb room 40960) _ _ tt (either_left (ltb 16384 input.size) _ _ tt (report_to_fact input.lines (s.user sender)))

  answered_left : (buffer : List ℕ) (o : Outcome) → Left o → (answered p buffer o).0 ≡ p
  answered_left buffer (silent n) f = refl
  answered_left buffer (rejects n t) f = refl
  answered_left buffer (accepts q t) f = f

  pub report_changes_nothing : (sender : S) (input : Input) (buffer : List ℕ) → (step s p (report sender input buffer)).0 ≡ p
  report_changes_nothing sender input buffer = answered_left buffer (report_outcome s p sender input (length buffer)) (report_left sender input (length buffer))

answered_stands : (e : Meaning) (p : Program) (buffer : List ℕ) (o : Outcome) → Fine e o → program_stands e p ≡ true → program_stands e (answered p buffer o).0 ≡ true
answered_stands e p buffer (silent n) f h = h
answered_stands e p buffer (rejects n t) f h = h
answered_stands e p buffer (accepts q t) f h = f

pub step_stands : {S : Type 0} (s : Setting S) (p : Program) (call : Call S) → Lasts s p (step s p call).0
step_stands s p (issue list) h =
    unless_stands s.element (refusal p.condition Issue) p (loaded s p list) h
    (loaded_stands s.element (leb (length list) 49152) (lines list) (list_read s.element (lines list)) p refl h)
step_stands s p (switch on) h =
    unless_stands s.element (refusal p.condition Switch) p (done (record { condition = condition_for on; days = p.days; flights = p.flights })) h
    (and_from _ _ (and_parts (table_stands s.element p.flights) _ h).0 (condition_stands on p.flights))
step_stands s p (depart id departure arrival date) h =
    unless_stands s.element (refusal p.condition Depart) p (marked p id departure arrival date) h
    (marked_stands s.element (identity_read id departure arrival date) p h)
step_stands s p purge h =
    unless_stands s.element (refusal p.condition Purge) p (done (record { condition = NoProgram; days = p.days; flights = [] })) h refl
step_stands s p (packet sender input buffer) h = answered_stands s.element p buffer (outcome s p sender input (length buffer)) (outcome_fine s p h sender input (length buffer)) h
step_stands s p (report sender input buffer) h = ap (program_stands s.element) (report_changes_nothing s p sender input buffer) ∙ h
