use Rattle.std.proofs.Common.{rules}
use Rattle.element.specs.Kept.{slot_of}
use Rattle.lists.proofs.Given.{given_as}
use Rattle.lists.proofs.columns.read_slot.Goals as goal

pub returns : goal.returns
returns g c = given_as slot_of _ _ c.read_given.result _ c.read_given.ensures.absent c.read_given.ensures.given (λ r k. search rules)
