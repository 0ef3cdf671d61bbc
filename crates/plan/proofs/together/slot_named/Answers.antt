use Rattle.std.proofs.Common.{rules, tests}
use Rattle.element.specs.Kept.{slot_of}
use Rattle.packets.specs.StageTwo.{names_slot}
use Rattle.plan.proofs.together.slot_named.Goals as goal

pub returns : goal.returns
returns c = c.any_message.ensures (names_slot (slot_of c.args.slot.now)) (λ m b k. search (rules, tests))
