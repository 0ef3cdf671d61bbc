use Rattle.std.proofs.Common.{◌&&◌, rules, tests}
use Rattle.packets.specs.Messages.{Message}
use Rattle.packets.specs.StageTwo.{same_type, same_named}
use Rattle.substitutions.specs.Kept.{kept_message}
use Rattle.plan.proofs.together.repeats.Goals as goal

pub returns : goal.returns
returns c = c.any_message.ensures (λ (n : Message). same_type n.kind c.args.message.now.kind && same_named (kept_message c.args.message.now).identity n) (λ m b k. search (rules, tests))
