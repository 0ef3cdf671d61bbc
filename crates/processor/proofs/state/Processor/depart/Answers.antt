use Rattle.processor.specs.Held.{setting, program, departure_of}
use Rattle.processor.specs.Pairs.{pair_of}
use Rattle.processor.proofs.Refusing.{unchanged_from}
use Rattle.processor.proofs.state.Processor.depart.Goals as goal

pub returns-clause-unchanged : goal.returns-clause-unchanged
returns-clause-unchanged g c =
    let old = c.args.self.now in
    rw c.pair.ensures (unchanged_from (setting old) (program old) (departure_of c.args.flight) (program c.mark.new.self) (pair_of c.mark.result) c.mark.ensures.does)
