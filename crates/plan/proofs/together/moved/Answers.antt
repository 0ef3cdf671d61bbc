use Rattle.std.proofs.Common.{rules, tests}
use Rattle.calendar.specs.Identities.{identity_of}
use Rattle.packets.specs.StageTwo.{moves}
use Rattle.plan.proofs.together.moved.Goals as goal

pub returns : goal.returns
returns c = c.any_message.ensures (moves (identity_of c.args.identity.now)) (λ m b k. search (rules, tests))
