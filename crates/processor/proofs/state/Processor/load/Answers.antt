use Rattle.std.proofs.Common.{refl, ap, ◌∙◌}
use Rattle.std.proofs.lemmas.Bool.{and_from}
use Rattle.text.specs.Lines.{lines}
use Rattle.calendar.specs.Days.{days_of}
use Rattle.element.specs.Meanings.{Meaning}
use Rattle.flights.specs.Kept.{flights_of}
use Rattle.flights.specs.Standing.{table_stands}
use Rattle.lists.proofs.Standing.{list_stands}
use Rattle.processor.proofs.state.Processor.load.Goals as goal

pub invariant_of-self : goal.invariant_of-self
invariant_of-self g c =
    let e = g.E.Element.means c.args.self.now.element in
    let flights = flights_of c.read_list.new.table in
    record { stands = and_from _ _ (ap (λ (k : Meaning). table_stands k flights) c.set_days.ensures.rest ∙ list_stands e (lines c.args.list.now) (days_of c.in-Ok.days) flights c.in-Ok.ensures) refl }
