-- What the lines of a packet are checked against.
use Rattle.element.specs.declared.model.Element.{Ghosts as ElementGhosts}
use Rattle.register.specs.declared.meaning.Register.{Ghosts as RegisterGhosts}
use Rattle.flights.specs.Kept.{flights_of}
use Rattle.model.specs.Model.{Setting, Program, setting_of, at_work}
use Rattle.checks.specs.declared.checker.Checker.{Checker}

module _ {R E S : Type 0} (r : RegisterGhosts R S) (e : ElementGhosts E) where
  -- the answers of its register, and what its element means
  abbrev pub setting : Checker R E S → Setting S
  setting c = setting_of (r.owner c.register.now) (r.carrier c.register.now) (e.means c.element.now)

  -- the days of its element, and the flights of its table, in a program at work
  abbrev pub program : Checker R E S → Program
  program c = at_work (e.span c.element.now) (flights_of c.table.now)
