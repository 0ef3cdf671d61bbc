-- What a processor serves and holds.
use Rattle.std.specs.Prelude.{◌≡◌}
use Rattle.calendar.specs.declared.identity.FlightTexts.{FlightTexts}
use Rattle.element.specs.declared.model.Element.{Ghosts as ElementGhosts}
use Rattle.register.specs.declared.meaning.Register.{Ghosts as RegisterGhosts}
use Rattle.model.specs.Model.{Setting, Program, Call, setting_of, depart}
use Rattle.processor.specs.declared.state.Processor.{Processor}
use Rattle.processor.specs.Kept.{program_of}

module _ {R E S : Type 0} {r : RegisterGhosts R S} {e : ElementGhosts E} where
  -- the answers of its register, and what its element means
  abbrev pub setting : Processor R E S r e → Setting S
  setting p = setting_of (r.owner p.register) (r.carrier p.register) (e.means p.element)

  -- its condition, the days of its element, and the flights in its table
  abbrev pub program : Processor R E S r e → Program
  program p = program_of p.condition (e.span p.element) p.table

  -- a call leaves its register as it was, and what its element means
  pub record Keeps (before after : Processor R E S r e) : Type 0 where
    pub register : after.register ≡ before.register
    pub element : e.means after.element ≡ e.means before.element

-- the departure of the flight that four texts name
abbrev pub departure_of : {S : Type 0} → FlightTexts → Call S
departure_of t = depart t.id.now t.departure.now t.arrival.now t.date.now
