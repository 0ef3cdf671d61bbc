use Rattle.model.specs.Model.{input_of}
use Rattle.processor.specs.Held.{setting, program}
use Rattle.processor.specs.Pairs.{pair_of}
use Rattle.processor.proofs.Promises.{promised}
use Rattle.processor.proofs.state.Processor.packet.Goals as goal

pub returns-clause-promised : goal.returns-clause-promised
returns-clause-promised g c =
    let old = c.args.self.now in
    rw c.pair.ensures (promised (setting old) (program old) c.args.sender.now (input_of c.args.input.now) c.args.reply.now (program c.receive.new.self) (pair_of c.receive.result) c.receive.new.reply c.receive.ensures.sends)
