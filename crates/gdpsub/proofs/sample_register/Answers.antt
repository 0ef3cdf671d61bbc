use Rattle.std.proofs.Common.{rules}
use Rattle.register.specs.declared.keys.Client.{Client}
use Rattle.gdpsub.proofs.sample_register.Goals as goal

pub returns-clause-sender : goal.returns-clause-sender
returns-clause-sender c =
    let asked : Client = record { ip = 1; tag = 11 } in
    search (rules, c.add_carrier-2.ensures.senders.says asked, c.add_carrier.ensures.senders.says asked, c.add_sender.ensures.senders.says asked)
