-- A call that is refused changes nothing.
use Rattle.std.proofs.Common.{ℕ, Bool, true, false, cond, leb, List, [], map, length, Some, None, Option, refl, ap, ◌∙◌}
use Rattle.text.specs.Lines.{lines}
use Rattle.calendar.specs.Identities.{Identity, identity_read}
use Rattle.flights.specs.Counts.{some}
use Rattle.flights.specs.Flights.{bearers, departed_as}
use Rattle.lists.specs.Lists.{Reading, good, faulty, list_read}
use Rattle.model.specs.declared.condition.Condition.TheVariants.{NoProgram}
use Rattle.model.specs.Model.{Setting, Program, Call, Answer, issue, switch, depart, purge, packet, report, refused, done}
use Rattle.processor.specs.declared.calls.Operation.TheVariants.{Issue, Switch, Purge, Depart}
use Rattle.processor.specs.Conditions.{refusal, unless}
use Rattle.processor.specs.Operator.{loaded_from, loaded, condition_for, marked_with, marked}
use Rattle.processor.specs.Packet.{Outcome, silent, rejects, accepts, outcome, answered}
use Rattle.processor.specs.Report.{report_outcome}
use Rattle.processor.specs.Step.{step, Does}
use Rattle.processor.specs.Laws.{RefusedUnchanged}

-- an answer and the program that it leaves
abbrev Unchanged : Program → Program × Answer → Type 0
Unchanged p x = RefusedUnchanged p x.1.number x.0

done_unchanged : (p q : Program) → Unchanged p (done q)
done_unchanged p q h = absurd (h refl)

unless_unchanged : (o : Option ℕ) (p : Program) (x : Program × Answer) → Unchanged p x → Unchanged p (unless o p x)
unless_unchanged None p x k = k
unless_unchanged (Some n) p x k = λ h. refl

loaded_unchanged : (b : Bool) (said : Reading) (p : Program) → Unchanged p (loaded_from b said p)
loaded_unchanged false said p = λ h. refl
loaded_unchanged true (faulty n) p = λ h. refl
loaded_unchanged true (good d fs) p = done_unchanged p _

marked_if : (b : Bool) (p q : Program) → Unchanged p (cond b (done q) (refused p 705 0))
marked_if true p q = done_unchanged p q
marked_if false p q = λ h. refl

marked_unchanged : (o : Option Identity) (p : Program) → Unchanged p (marked_with o p)
marked_unchanged None p = λ h. refl
marked_unchanged (Some i) p =
    marked_if (some (bearers i p.flights)) p (record { condition = p.condition; days = p.days; flights = map (departed_as i) p.flights })

answered_unchanged : (p : Program) (buffer : List ℕ) (o : Outcome) → Unchanged p (answered p buffer o)
answered_unchanged p buffer (silent n) = λ h. refl
answered_unchanged p buffer (rejects n t) = λ h. refl
answered_unchanged p buffer (accepts q t) = λ h. absurd (h refl)

pub step_unchanged : {S : Type 0} (s : Setting S) (p : Program) (call : Call S) → Unchanged p (step s p call)
step_unchanged s p (issue list) =
    unless_unchanged (refusal p.condition Issue) p (loaded s p list)
    (loaded_unchanged (leb (length list) 49152) (list_read s.element (lines list)) p)
step_unchanged s p (switch on) =
    unless_unchanged (refusal p.condition Switch) p (done (record { condition = condition_for on; days = p.days; flights = p.flights })) (done_unchanged p _)
step_unchanged s p (depart id departure arrival date) =
    unless_unchanged (refusal p.condition Depart) p (marked p id departure arrival date)
    (marked_unchanged (identity_read id departure arrival date) p)
step_unchanged s p purge =
    unless_unchanged (refusal p.condition Purge) p (done (record { condition = NoProgram; days = p.days; flights = [] })) (done_unchanged p _)
step_unchanged s p (packet sender input buffer) = answered_unchanged p buffer (outcome s p sender input (length buffer))
step_unchanged s p (report sender input buffer) = answered_unchanged p buffer (report_outcome s p sender input (length buffer))

-- so it is of a call that does what the definition says
pub unchanged_from : {S : Type 0} (s : Setting S) (p : Program) (call : Call S) (after : Program) (pair : ℕ × ℕ) → Does s p call after pair → RefusedUnchanged p pair.0 after
unchanged_from s p call after pair h ne =
    ap (λ (x : Program × Answer). x.0) h ∙ step_unchanged s p call (λ z. ne (ap (λ (x : Program × Answer). x.1.number) h ∙ z))
