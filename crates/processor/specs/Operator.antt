-- The operator's calls.
use Rattle.std.specs.Prelude.{ℕ, Bool, true, false, cond, List, [], map, length, Some, None, Option, nat_le}
use Rattle.text.specs.Lines.{lines}
use Rattle.calendar.specs.Identities.{Identity, identity_read}
use Rattle.flights.specs.Counts.{some}
use Rattle.flights.specs.Flights.{bearers, departed_as}
use Rattle.lists.specs.Lists.{Reading, good, faulty, list_read}
use Rattle.model.specs.declared.condition.Condition.{Condition}
use Rattle.model.specs.declared.condition.Condition.TheVariants.{NoProgram, On, Off}
use Rattle.model.specs.Model.{Setting, Program, Answer, refused, done}
use Rattle.processor.specs.declared.calls.Operation.TheVariants.{Issue, Switch, Purge, Depart}
use Rattle.processor.specs.Conditions.{refusal, unless}

-- 651 for a list over 49,152 bytes, 802 with the first faulty line; else the program is on, with the days and the flights of
-- the list
abbrev pub loaded_from : Bool → Reading → Program → Program × Answer
loaded_from false said p = refused p 651 0
loaded_from true (faulty line) p = refused p 802 line
loaded_from true (good d fs) p = done (record { condition = On; days = d; flights = fs })

abbrev pub loaded : {S : Type 0} → Setting S → Program → List ℕ → Program × Answer
loaded s p list = loaded_from (nat_le (length list) 49152) (list_read s.element (lines list)) p

-- 805 while a program is on or off
abbrev pub issued : {S : Type 0} → Setting S → Program → List ℕ → Program × Answer
issued s p list = unless (refusal p.condition Issue) p (loaded s p list)

abbrev pub condition_for : Bool → Condition
condition_for true = On
condition_for false = Off

-- 604 without a program; else it is on or off, as asked
abbrev pub switched : Program → Bool → Program × Answer
switched p on =
    unless (refusal p.condition Switch) p (done (record { condition = condition_for on; days = p.days; flights = p.flights }))

-- 604 without a program; else there is none, and no flight
abbrev pub purged : Program → Program × Answer
purged p = unless (refusal p.condition Purge) p (done (record { condition = NoProgram; days = p.days; flights = [] }))

-- 705 where the texts are no identity, or no flight has it; else that flight is marked as departed
abbrev pub marked_with : Option Identity → Program → Program × Answer
marked_with None p = refused p 705 0
marked_with (Some i) p =
    cond (some (bearers i p.flights))
    (done (record { condition = p.condition; days = p.days; flights = map (departed_as i) p.flights }))
    (refused p 705 0)

abbrev pub marked : Program → List ℕ → List ℕ → List ℕ → List ℕ → Program × Answer
marked p id departure arrival date = marked_with (identity_read id departure arrival date) p

-- 604 without a program
abbrev pub departed : Program → List ℕ → List ℕ → List ℕ → List ℕ → Program × Answer
departed p id departure arrival date = unless (refusal p.condition Depart) p (marked p id departure arrival date)
