use Rattle.model.specs.Model.{issue}
use Rattle.processor.specs.Held.{setting, program}
use Rattle.processor.specs.Pairs.{pair_of}
use Rattle.processor.proofs.Refusing.{unchanged_from}
use Rattle.processor.proofs.state.Processor.issue.Goals as goal

pub returns-clause-unchanged : goal.returns-clause-unchanged
returns-clause-unchanged g c =
    let old = c.args.self.now in
    rw c.pair.ensures (unchanged_from (setting old) (program old) (issue c.args.list.now) (program c.load.new.self) (pair_of c.load.result) c.load.ensures.does)
