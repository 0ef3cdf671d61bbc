use Rattle.std.proofs.Common.{rules}
use Rattle.register.specs.Users.{number_of}
use Rattle.processor.specs.Held.{setting}
use Rattle.processor.specs.Report.{reports}
use Rattle.processor.proofs.state.Processor.list_for.Goals as goal

pub returns : goal.returns
returns g c =
    let listed = reports (setting c.args.self.now) (number_of c.args.user) in
    record { wrote = rw (c.naming-naming.ensures.element, c.naming-naming.ensures.days, c.flights-flights.ensures.value) at (c.put_report.ensures.wrote listed (λ f f' k. search rules)) }
