use Rattle.std.proofs.Common.{List, ap, ◌∙◌}
use Rattle.calendar.specs.Identities.{identity_of}
use Rattle.flights.specs.Flights.{Flight}
use Rattle.model.specs.Model.{program_stands}
use Rattle.processor.specs.Held.{setting, program}
use Rattle.processor.proofs.Lasting.{departed_program}
use Rattle.processor.proofs.state.Processor.mark.Goals as goal

pub invariant_of-self : goal.invariant_of-self
invariant_of-self g c =
    let old = c.args.self.now in
    let s = setting old in
    let p = program old in
    record { stands = ap (λ (fs : List Flight). program_stands s.element (record { condition = p.condition; days = p.days; flights = fs })) c.depart.ensures ∙ departed_program s.element (identity_of c.in_ok-identity.identity) p old.stands }
