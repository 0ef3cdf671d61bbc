use Rattle.processor.proofs.state.Processor.accept.Goals as goal

pub returns : goal.returns
returns g c =
    record { wrote = rw (c.as_bytes.ensures.text, c.naming-naming.ensures.element, c.naming-naming.ensures.days, c.flights-flights.ensures.value) at c.put_acceptance.ensures.wrote }
